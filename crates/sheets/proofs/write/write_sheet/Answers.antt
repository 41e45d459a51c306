-- `sheets::write::write_sheet` meets its contract.
use Prim.Native.Nat.{ℕ, ◌*◌}
use native.Mathlib.Omega.{arith}
use mathlib.Core.Bool.{true}
use mathlib.Core.Path.{◌≡◌, sym, ap, ◌∙◌}
use Rattle.sheets.specs.Change.{good_list}
use Rattle.sheets.specs.declared.SheetRefusal.TheVariants.{Room, Rule}
use Rattle.sheets.proofs.Reading.{is-refused, is-done}
use Rattle.sheets.proofs.Writing.{write-refused, write-short, write_done, list-short, sheet-long}
use Rattle.sheets.proofs.write.write_sheet.Goals as goal

pub returns-then-not-check_changes : goal.returns-then-not-check_changes
returns-then-not-check_changes c = is-refused Rule _ (write-refused _ _ (sym c.check_changes.ensures ∙ c.if-not-check_changes.true))

pub returns-then-sheet-long : goal.returns-then-sheet-long
returns-then-sheet-long c =
    let good : good_list c.args.list.now ≡ true = sym c.check_changes.ensures ∙ c.if-not-check_changes.false in
    is-refused Room _ (write-short _ _ (good) (omega (arith, c.blocks_for-long.ensures, c.if-sheet-long.true)))

pub put_blocks-requires : goal.put_blocks-requires
put_blocks-requires c =
    let good : good_list c.args.list.now ≡ true = sym c.check_changes.ensures ∙ c.if-not-check_changes.false in
    (list-short _ 0 (good), omega (arith, c.blocks_for-long.ensures, c.if-sheet-long.false))

pub returns : goal.returns
returns c =
    let good : good_list c.args.list.now ≡ true = sym c.check_changes.ensures ∙ c.if-not-check_changes.false in
    is-done _ _ _ (write_done _ _ (good) (omega (arith, c.blocks_for-long.ensures, c.if-sheet-long.false)))
    (ap (λ (x : ℕ). x * 512) c.blocks_for-long.ensures ∙ sym (sheet-long _)) c.put_blocks.ensures
