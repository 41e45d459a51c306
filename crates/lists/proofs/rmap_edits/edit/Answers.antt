-- `lists::rmap_edits::edit` meets its contract.
use Rattle.std.proofs.lemmas.Result.{err_from_is_err_and}
use Rattle.lists.proofs.Placing.{edit-refused, edit-short, edit-done}
use Rattle.lists.proofs.rmap_edits.edit.Goals as goal

pub returns-in_err-p : goal.returns-in_err-p
returns-in_err-p c =
    let a = c.args in
    let p = err_from_is_err_and c.from_residual.result c.from_residual.ensures.1 in
    rw (p.1, p.2) (edit-refused a.e a.old.now a.x a.new.now _ c.in_err-p.ensures)

pub returns-then-new-p : goal.returns-then-new-p
returns-then-new-p c =
    let a = c.args in
    edit-short a.e a.old.now a.x a.new.now c.in_ok-p.p c.in_ok-p.ensures c.if-new-p.true

pub write_splice-requires : goal.write_splice-requires
write_splice-requires c = record { splice_good = c.in_ok-p.ensures.1; size_in_bounds = c.if-new-p.false }

pub returns : goal.returns
returns c =
    let a = c.args in
    edit-done a.e a.old.now a.x a.new.now c.in_ok-p.p c.in_ok-p.ensures _ c.if-new-p.false c.write_splice.ensures
