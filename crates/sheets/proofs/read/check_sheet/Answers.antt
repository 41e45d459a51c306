-- `sheets::read::check_sheet` meets its contract. The invariant is `Scanned`: the blocks from i on decide 32, and with what was noted they decide 33.
use Prim.Native.Nat.{ℕ, ◌+◌, ◌*◌, ◌/◌, ◌%◌, ◌<◌}
use native.Mathlib.Omega.{arith}
use mathlib.Core.List.{List, []}
use mathlib.Core.Path.{◌≡◌, sym, ap, ◌∙◌, subst}
use lib.Dec.{leb, eqb}
use lib.ListN.{length, get_or}
use lib.Seq.{get_or-append_seam}
use borrow.Author.Tests.{eqb-true, eqb-false}
use Rattle.codec.specs.Bytes.{bytes_at}
use Rattle.sheets.specs.Sheet.{ruled}
use Rattle.codec.proofs.Chunks.{chunk-at}
use Rattle.sheets.proofs.Reading.{Scanned, scan-start, scan-bad, scan_good, scan-noted, scan-empty, scan-broken, scan-done, not-whole}
use Rattle.sheets.proofs.read.check_sheet.Goals as goal
use Rattle.sheets.proofs.read.check_sheet.Goals.{else-good, then-good, Else-not-is_empty, After-crc_ok}

pub returns-then-not-is_empty : goal.returns-then-not-is_empty
returns-then-not-is_empty c = not-whole _ (λ e. eqb-false _ 0 (sym c.is_empty.ensures ∙ c.if-not-is_empty.true) (c.as_chunks.ensures.back_len ∙ e))

-- whole blocks
whole-is : (c : Else-not-is_empty) → length c.args.sheet.now % 512 ≡ 0
whole-is c = sym c.as_chunks.ensures.back_len ∙ eqb-true _ 0 (sym c.is_empty.ensures ∙ c.if-not-is_empty.false)

-- the block read, and where
inside : (c : After-crc_ok) → c.loop-i.i < length c.args.sheet.now / 512
inside c = omega (arith, c.as_chunks.ensures.front_len)

block-is : (c : After-crc_ok) → get_or c.as_chunks.result.0.now c.loop-i.i [] ≡ bytes_at c.args.sheet.now (c.loop-i.i * 512) 512
block-is c = chunk-at 512 c.args.sheet.now c.as_chunks.ensures.front c.loop-i.i (inside c)

pub loop-i-init : goal.loop-i-init
loop-i-init c = let s = c.args.sheet.now in subst (λ (k : ℕ). Scanned s (leb k 65536) 0) (sym c.as_chunks.ensures.front_len) (scan-start s)

pub returns-then-not-crc_ok : goal.returns-then-not-crc_ok
returns-then-not-crc_ok c =
    let at = goal.at.returns-then-not-crc_ok c in
    scan-bad _ (whole-is at.Else-not-is_empty) _ _ c.loop-i.invariant (inside at.After-crc_ok) _ (block-is at.After-crc_ok) (sym c.crc_ok.ensures ∙ c.if-not-crc_ok.true)

pub loop-i-preserved : goal.loop-i-preserved
loop-i-preserved c =
    let at = goal.at.loop-i-preserved c in
    let i = c.loop-i.i in
    let e = sym c.crc_ok.ensures ∙ c.if-not-crc_ok.false in
    elim c.if-good.branch [
      | then-good w ↦
          scan_good _ (whole-is at.Else-not-is_empty) _ _ c.loop-i.invariant (inside at.After-crc_ok) _ (block-is at.After-crc_ok) e _ w.if-good.true
          (w.good-is ∙ w.is_ruled-good.ensures ∙ ap (λ (k : ℕ). ruled i (eqb (i + 1) k) (get_or c.as_chunks.result.0.now i [])) c.as_chunks.ensures.front_len)
      | else-good w ↦
          scan-noted _ (whole-is at.Else-not-is_empty) _ _ c.loop-i.invariant (inside at.After-crc_ok) _ (block-is at.After-crc_ok) e _ w.if-good.false w.good-is
    ]

pub returns-in_default : goal.returns-in_default
returns-in_default c =
    let at = goal.at.returns-in_default c in
    let n = c.as_chunks.ensures.front_len in
    scan-empty _ (whole-is at.Else-not-is_empty) _ _ c.loop-i.invariant (omega (arith, n)) (omega (arith, n, c.in_default.ensures.cases))

pub returns-then-not-good : goal.returns-then-not-good
returns-then-not-good c =
    let at = goal.at.returns-then-not-good c in
    scan-broken _ (whole-is at.Else-not-is_empty) _ _ c.loop-i.invariant (omega (arith, c.as_chunks.ensures.front_len)) c.if-not-good.true

pub returns : goal.returns
returns c =
    let at = goal.at.returns c in
    let s = c.in-Some.ensures.cases in
    let m : ℕ = length c.in-Some.full.now in
    let n = c.as_chunks.ensures.front_len in
    scan-done _ (whole-is at.Else-not-is_empty) _ _ c.loop-i.invariant (omega (arith, n)) (λ z. omega (arith, n, s.1)) c.if-not-good.false
    m c.be16.result c.in-Some.last.now (omega (arith, n, s.1))
    (sym (get_or-append_seam c.in-Some.full.now c.in-Some.last.now [] [])
    ∙ ap (λ (l : List (List ℕ)). get_or l m []) (sym s.0)
    ∙ chunk-at 512 c.args.sheet.now c.as_chunks.ensures.front m (omega (arith, n, s.1)))
    c.be16.ensures
