use lib.ListN.{length}
use Rattle.std.proofs.lemmas.Result.{err_from_is_err_and}
use Rattle.blocks.specs.Tree.{record_len}
use Rattle.walks.proofs.CallLaws.{untouched-linking}
use Rattle.walks.proofs.walk.walk_linked.Goals as goal

pub returns-in_err-ask_first : goal.returns-in_err-ask_first
returns-in_err-ask_first c =
    let a = c.args in
    let p = err_from_is_err_and c.from_residual.result c.from_residual.ensures.1 in
    rw (p.1, p.2)
    (untouched-linking a.g.blocksize (record_len a.kind) a.image.now a.levels _ c.in_err-ask_first.field-0.0
    a.stack.now a.scratch.now a.blocks.now a.records.now (c.in_err-ask_first.ensures (length a.records.now) _))
