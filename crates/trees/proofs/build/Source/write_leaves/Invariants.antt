-- `trees::build::Source::write_leaves` meets its contract. The invariant is `LeavesSo`; `round` has what one turn of the loop needs.
use Rattle.trees.proofs.LeafWriting.{LeavesSo}
use Rattle.trees.proofs.build.Source.write_leaves.Given as goal

abbrev pub invariant-loop-i : goal.invariant-loop-i
invariant-loop-i l = LeavesSo l.self.g l.self.kind l.self.list.now l.blocks l.initial.out l.out l.i l.from l.left
