-- `sheets::block::is_ruled` meets its contract. A good header has at most 15 changes, so they lie in the block.
use Prim.Native.Nat.{ℕ, ◌≤◌}
use native.Mathlib.Omega.{arith}
use mathlib.Core.Bool.{Bool, true}
use mathlib.Core.List.{List}
use lib.ListN.{length}
use mathlib.Core.Path.{◌≡◌, sym, ◌∙◌}
use Rattle.codec.specs.Bytes.{bytes_at, be_of}
use Rattle.sheets.specs.Sheet.{good_header}
use Rattle.sheets.proofs.Deciding.{header-wrong, header-count, changes-wrong, block-ruled}
use Rattle.sheets.proofs.block.is_ruled.Goals as goal

pub returns-then-not-good_header : goal.returns-then-not-good_header
returns-then-not-good_header c = header-wrong _ c.told-b _ _ (sym c.good_header.ensures ∙ c.if-not-good_header.true)

-- a good header has few changes
few : (b : List ℕ) (i n : ℕ) (last : Bool) → length b ≡ 512 → good_header i last b ≡ true → n ≡ be_of (bytes_at b 8 2) → n ≤ 15
few b i n last l h e = omega (arith, header-count b l i last h)

pub slice_bounds-good_changes-end : goal.slice_bounds-good_changes-end
slice_bounds-good_changes-end c =
    let k = few _ _ _ _ c.told-b (sym c.good_header.ensures ∙ c.if-not-good_header.false) c.be16.ensures in
    omega (arith, k)

pub slice_bounds-is_zeros-count : goal.slice_bounds-is_zeros-count
slice_bounds-is_zeros-count c =
    let k = few _ _ _ _ c.told-b (sym c.good_header.ensures ∙ c.if-not-good_header.false) c.be16.ensures in
    omega (arith, k)

pub slice_bounds-is_zeros-start : goal.slice_bounds-is_zeros-start
slice_bounds-is_zeros-start c =
    let k = few _ _ _ _ c.told-b (sym c.good_header.ensures ∙ c.if-not-good_header.false) c.be16.ensures in
    omega (arith, k)

pub returns-then-good_changes : goal.returns-then-good_changes
returns-then-good_changes c =
    block-ruled _ c.told-b _ _ (sym c.good_header.ensures ∙ c.if-not-good_header.false) _ c.be16.ensures _ (sym c.good_changes.ensures ∙ c.if-good_changes.true)
    c.is_zeros.ensures

pub returns-else-good_changes : goal.returns-else-good_changes
returns-else-good_changes c =
    c.if-good_changes.false
    ∙ changes-wrong _ c.told-b _ _ (sym c.good_header.ensures ∙ c.if-not-good_header.false) _ c.be16.ensures (sym c.good_changes.ensures ∙ c.if-good_changes.false)
