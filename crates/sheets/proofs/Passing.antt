-- Tests along the parts of a list, as a loop makes them: what the parts from one on decide, and what one part more decides.
-- Assumes nothing.
use Prim.Native.Nat.{ℕ, zero, suc, ◌+◌, ◌-◌, ◌*◌, ◌≤◌, ◌<◌}
use native.Mathlib.Nat.{zero-mul, sub-zero, add-sub_cancel_left}
use native.Mathlib.Numerals.{add-one}
use native.Mathlib.Omega.{arith}
use mathlib.Core.Path.{◌≡◌, refl, sym, ap, ap₂, ◌∙◌}
use mathlib.Core.Bool.{Bool, true, false, ◌&&◌}
use mathlib.Core.List.{List, [], ◌∷◌}
use Rattle.std.specs.List.{list_all}
use Rattle.std.specs.Simd.{first_chunks}
use lib.Dec.{eqb}
use lib.ListN.{take, drop}
use lib.Seq.{drop-drop}
use borrow.Author.Tests.{eq-eqb, ne_eqb}
use native.Mathlib.Decide.{ℕ_discrete}
use Rattle.codec.specs.Bytes.{bytes_at}
use Rattle.codec.proofs.Stores.{bytes_at-is}
use Rattle.sheets.specs.Change.{good_change, good_changes}
use Rattle.sheets.specs.Sheet.{is_zeros, crc_ok, ruled, all_crcs, all_ruled}

-- ---- a test that goes along parts of w bytes: g of the place of each, how many come after it, and its bytes

module _ (w : ℕ) (g : ℕ → ℕ → List ℕ → Bool) (all : ℕ → ℕ → List ℕ → Bool)
    (none : (i : ℕ) (l : List ℕ) → all i 0 l ≡ true)
    (more : (i n : ℕ) (l : List ℕ) → all i (suc n) l ≡ (g i n (take w l) && all (suc i) n (drop w l)))
    (n : ℕ) (l : List ℕ) where
  -- of the parts from the i-th on
  abbrev from : ℕ → Bool
  from i = all i (n - i) (drop (i * w) l)

  from_start : from 0 ≡ all 0 n l
  from_start = ap₂ (λ (k m : ℕ). all 0 k (drop m l)) (sub-zero n) (zero-mul w)

  from_more : (i : ℕ) → i < n → i * w + w ≡ (i + 1) * w → from i ≡ (g i (n - (i + 1)) (bytes_at l (i * w) w) && from (i + 1))
  from_more i h q =
      let e : n - i ≡ suc (n - (i + 1)) = omega arith in
      ap (λ (k : ℕ). all i k (drop (i * w) l)) e
      ∙ more i (n - (i + 1)) (drop (i * w) l)
      ∙ ap₂ (λ (x y : List ℕ). g i (n - (i + 1)) x && all (suc i) (n - (i + 1)) y) (sym (bytes_at-is l (i * w) w)) (drop-drop w (i * w) l ∙ ap (λ (k : ℕ). drop k l) q)
      ∙ ap (λ (k : ℕ). g i (n - (i + 1)) (bytes_at l (i * w) w) && all k (n - (i + 1)) (drop ((i + 1) * w) l)) (sym (add-one i))

  from-bad : (i : ℕ) → i < n → i * w + w ≡ (i + 1) * w → g i (n - (i + 1)) (bytes_at l (i * w) w) ≡ false → from i ≡ false
  from-bad i h q e = from_more i h q ∙ ap (λ (t : Bool). t && from (i + 1)) e

  from-pass : (i : ℕ) → i < n → i * w + w ≡ (i + 1) * w → g i (n - (i + 1)) (bytes_at l (i * w) w) ≡ true → from i ≡ from (i + 1)
  from-pass i h q e = from_more i h q ∙ ap (λ (t : Bool). t && from (i + 1)) e

  from_end : (i : ℕ) → n ≤ i → from i ≡ true
  from_end i h = let e : n - i ≡ 0 = omega arith in ap (λ (k : ℕ). all i k (drop (i * w) l)) e ∙ none i (drop (i * w) l)

-- ---- changes

pub good-all : (n : ℕ) (l : List ℕ) → list_all good_change (first_chunks 32 n l) ≡ good_changes n l
unfolding good_changes
good-all zero l = refl
good-all (suc n) l = ap (λ (t : Bool). good_change (take 32 l) && t) (good-all n (drop 32 l))

-- ---- CRCs

crcs-none : (i : ℕ) (s : List ℕ) → all_crcs 0 s ≡ true
unfolding all_crcs
crcs-none i s = refl

crcs-more : (i n : ℕ) (s : List ℕ) → all_crcs (suc n) s ≡ (crc_ok (take 512 s) && all_crcs n (drop 512 s))
unfolding all_crcs
crcs-more i n s = refl

module _ (n : ℕ) (s : List ℕ) where
  abbrev pub crcs_from : ℕ → Bool
  crcs_from i = all_crcs (n - i) (drop (i * 512) s)

  pub crcs_from-start : crcs_from 0 ≡ all_crcs n s
  crcs_from-start = from_start 512 (λ i k b. crc_ok b) (λ i k x. all_crcs k x) crcs-none crcs-more n s

  pub crcs_from-bad : (i : ℕ) → i < n → crc_ok (bytes_at s (i * 512) 512) ≡ false → crcs_from i ≡ false
  crcs_from-bad i h = from-bad 512 (λ i k b. crc_ok b) (λ i k x. all_crcs k x) crcs-none crcs-more n s i h (omega arith)

  pub crcs_from-pass : (i : ℕ) → i < n → crc_ok (bytes_at s (i * 512) 512) ≡ true → crcs_from i ≡ crcs_from (i + 1)
  crcs_from-pass i h = from-pass 512 (λ i k b. crc_ok b) (λ i k x. all_crcs k x) crcs-none crcs-more n s i h (omega arith)

  pub crcs_from-end : (i : ℕ) → n ≤ i → crcs_from i ≡ true
  crcs_from-end = from_end 512 (λ i k b. crc_ok b) (λ i k x. all_crcs k x) crcs-none crcs-more n s

-- ---- rules

ruled-none : (i : ℕ) (s : List ℕ) → all_ruled i 0 s ≡ true
unfolding all_ruled
ruled-none i s = refl

ruled-more : (i n : ℕ) (s : List ℕ) → all_ruled i (suc n) s ≡ (ruled i (eqb n 0) (take 512 s) && all_ruled (suc i) n (drop 512 s))
unfolding all_ruled
ruled-more i n s = refl

-- the last block of n
pub last-is : (n i : ℕ) → i < n → eqb (n - (i + 1)) 0 ≡ eqb (i + 1) n
last-is n i h =
    elim (ℕ_discrete (i + 1) n) [
      | yes e ↦ eq-eqb (n - (i + 1)) 0 (omega arith) ∙ sym (eq-eqb (i + 1) n e)
      | no q ↦ ne_eqb (n - (i + 1)) 0 (omega arith) ∙ sym (ne_eqb (i + 1) n q)
    ]

module _ (n : ℕ) (s : List ℕ) where
  abbrev pub ruled_from : ℕ → Bool
  ruled_from i = all_ruled i (n - i) (drop (i * 512) s)

  pub ruled_from-start : ruled_from 0 ≡ all_ruled 0 n s
  ruled_from-start = from_start 512 (λ i k b. ruled i (eqb k 0) b) all_ruled ruled-none ruled-more n s

  pub ruled_from-more : (i : ℕ) → i < n → ruled_from i ≡ (ruled i (eqb (i + 1) n) (bytes_at s (i * 512) 512) && ruled_from (i + 1))
  ruled_from-more i h =
      from_more 512 (λ i k b. ruled i (eqb k 0) b) all_ruled ruled-none ruled-more n s i h (omega arith)
      ∙ ap (λ (x : Bool). ruled i x (bytes_at s (i * 512) 512) && ruled_from (i + 1)) (last-is n i h)

  pub ruled_from-end : (i : ℕ) → n ≤ i → ruled_from i ≡ true
  ruled_from-end = from_end 512 (λ i k b. ruled i (eqb k 0) b) all_ruled ruled-none ruled-more n s

-- ---- zeros

pub zeros-all : (s : List ℕ) → is_zeros s ≡ list_all (λ b. eqb b 0) s
unfolding is_zeros
zeros-all [] = refl
zeros-all (b ∷ s) = ap (λ (t : Bool). eqb b 0 && t) (zeros-all s)

-- ---- a part as a loop lends it

pub part_is : (l : List ℕ) (at w : ℕ) → take (at + w - at) (drop at l) ≡ bytes_at l at w
part_is l at w = ap (λ (k : ℕ). take k (drop at l)) (add-sub_cancel_left at w) ∙ sym (bytes_at-is l at w)
