-- `trees::build::Source::put_all_keys` meets its contract. The invariant is `KeysSo`; `round` has what one turn of the loop needs.
use Rattle.trees.proofs.NodeWriting.{KeysSo}
use Rattle.trees.proofs.build.Source.put_all_keys.Given as goal

abbrev pub invariant-loop-j : goal.invariant-loop-j
invariant-loop-j l = KeysSo l.self.kind l.self.list.now l.self.levels.now l.level l.child l.below l.initial.b l.at l.b l.from l.j
