-- `trees::build::start` meets its contract.
use mathlib.Core.Path.{refl}
use Rattle.trees.specs.Plan.{start_of}
use Rattle.trees.proofs.Going.{start-most}
use Rattle.trees.proofs.build.start.Goals as goal

pub returns : goal.returns
unfolding start_of
returns c = let a = c.args in rw c.min.ensures (refl, start-most a.entries a.blocks a.i c.requires.0 c.requires.1)
