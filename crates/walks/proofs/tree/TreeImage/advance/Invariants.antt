-- `walks::tree::TreeImage::advance` meets its contract. The invariant: the pairs are as they were, and no child is left on the levels below.
use mathlib.Core.Path.{◌≡◌}
use Rattle.walks.specs.Path.{NoneLeft}
use Rattle.walks.proofs.tree.TreeImage.advance.Given as goal

abbrev pub invariant-loop-level : goal.invariant-loop-level
invariant-loop-level l = (l.pairs ≡ l.initial.pairs) × NoneLeft l.self.g.blocksize l.self.image.now l.pairs l.low l.level
