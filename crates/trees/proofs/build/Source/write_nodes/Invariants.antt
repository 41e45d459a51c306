-- `trees::build::Source::write_nodes` meets its contract. The invariant is `NodesSo`; `round` has what one turn of the loop needs.
use Rattle.trees.proofs.NodesWriting.{NodesSo}
use Rattle.trees.proofs.build.Source.write_nodes.Given as goal

abbrev pub invariant-loop-i : goal.invariant-loop-i
invariant-loop-i l = NodesSo l.self.g l.self.kind l.self.list.now l.self.levels.now l.level l.below l.blocks l.initial.out l.out l.i l.child l.left
