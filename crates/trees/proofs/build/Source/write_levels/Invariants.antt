-- `trees::build::Source::write_levels` meets its contract. The invariant is `TreeSo`: the levels up to `level` are written; `round` has what one turn of the loop needs.
use Rattle.trees.proofs.TreeWriting.{TreeSo}
use Rattle.trees.proofs.build.Source.write_levels.Given as goal

abbrev pub invariant-loop-level : goal.invariant-loop-level
invariant-loop-level l = TreeSo l.self.g l.self.kind l.self.list.now l.self.levels.now l.numbers l.initial.out l.out l.level l.low l.base
