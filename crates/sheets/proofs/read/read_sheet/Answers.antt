-- `sheets::read::read_sheet` meets its contract.
use native.Mathlib.Omega.{arith}
use mathlib.Core.Path.{sym}
use Rattle.std.proofs.lemmas.Result.{err_from_is_err_and}
use Rattle.sheets.specs.declared.SheetRefusal.TheVariants.{Room}
use Rattle.sheets.proofs.Asking.{passed, passed-long, read-refused, read-room, read_done}
use Rattle.sheets.proofs.Reading.{is-refused, is-done, passed-kept}
use Rattle.sheets.proofs.read.read_sheet.Goals as goal

pub returns-in_err-long : goal.returns-in_err-long
returns-in_err-long c =
    let p = err_from_is_err_and c.from_residual.result c.from_residual.ensures.1 in
    rw (p.1, p.2) (is-refused _ _ (read-refused _ _ _ _ (sym c.in_err-long.ensures)))

pub returns-then-changes-long : goal.returns-then-changes-long
returns-then-changes-long c =
    let e = sym c.in_ok-long.ensures in
    is-refused Room _ (read-room _ _ (passed _ _ e) (omega (arith, passed-long _ _ e, c.if-changes-long.true)))

pub copy_changes-requires : goal.copy_changes-requires
copy_changes-requires c =
    let e = sym c.in_ok-long.ensures in
    (passed-kept _ (passed _ _ e), omega (arith, passed-long _ _ e, c.if-changes-long.false))

pub returns : goal.returns
returns c =
    let e = sym c.in_ok-long.ensures in
    is-done _ _ _ (read_done _ _ (passed _ _ e) (omega (arith, passed-long _ _ e, c.if-changes-long.false))) (passed-long _ _ e) c.copy_changes.ensures
