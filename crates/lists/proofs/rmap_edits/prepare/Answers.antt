-- `lists::rmap_edits::prepare` meets its contract.
use Rattle.std.proofs.lemmas.Result.{err_from_is_err_and}
use Rattle.lists.proofs.Placing.{asked_is}
use Rattle.lists.proofs.rmap_edits.prepare.Goals as goal

pub returns-in_err-s : goal.returns-in_err-s
returns-in_err-s c =
    let a = c.args in
    let p = err_from_is_err_and c.from_residual.result c.from_residual.ensures.1 in
    rw (p.1, p.2) (asked_is a.e a.old.now a.x _ c.in_err-s.ensures)
