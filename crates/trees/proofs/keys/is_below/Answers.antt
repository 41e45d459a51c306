-- `trees::keys::is_below` meets its contract.
use native.Mathlib.Omega.{arith}
use Rattle.std.proofs.lemmas.Bool.Decides.{nat_tests}
use Rattle.trees.specs.Keys.{key_below}
use Rattle.trees.proofs.keys.is_below.Goals as goal

pub returns : goal.returns
unfolding key_below
returns c = grind (arith, nat_tests)
