-- What the tests of a change, of a block and of a list of changes decide, at each of their exits.
-- Assumes nothing.
use Prim.Native.Nat.{ℕ, ◌+◌, ◌-◌, ◌*◌, ◌/◌, ◌≤◌, ◌<◌}
use native.Mathlib.Nat.{mul-div_cancel}
use native.Mathlib.Omega.{arith}
use mathlib.Core.Path.{◌≡◌, sym, ap, ap₂, ◌∙◌}
use mathlib.Core.Bool.{Bool, true, false}
use mathlib.Core.List.{List}
use lib.Dec.{leb, eqb}
use lib.ListN.{length, take, drop, get_or}
use Rattle.codec.proofs.Tests.{conj}
use Rattle.std.specs.Prelude.{Option, None}
use borrow.Author.Tests.{leb-true, le-leb, eq-eqb, ne_eqb, lt-ltb, le-ltb}
use Rattle.codec.specs.Bytes.{bytes_at, be_of, le_of}
use Rattle.codec.specs.Crc.{crc32c_of}
use Rattle.codec.proofs.Parts.{bytes_at-one, length-bytes_at}
use Rattle.codec.proofs.Stores.{bytes_at-is}
use Rattle.sheets.specs.declared.change.SheetChange.{SheetChange}
use Rattle.sheets.specs.Change.{good_changes, asked_by, change_at}
use Rattle.sheets.specs.Sheet.{is_zeros, count, part_in, crc_ok, good_count, good_header, ruled}
use Rattle.sheets.proofs.Passing.{part_is}

-- ---- a change

module _ (l : List ℕ) (i : ℕ) where
  pub no_change : length l / 32 ≤ i → None ≡ change_at l i
  unfolding change_at
  no_change h = rw (le-ltb i (length l / 32) h)

  pub one-change : (c : Option SheetChange) → i < length l / 32 → c ≡ asked_by (bytes_at l (i * 32) 32) → c ≡ change_at l i
  unfolding change_at
  one-change c h e = rw (lt-ltb i (length l / 32) h) e

-- ---- the number of changes of a block

module _ (n : ℕ) (g : 1 ≤ n) (h : n ≤ 15) where
  -- a block that is not the last one is full
  pub count-full : (last : Bool) → last ≡ false → eqb n 15 ≡ good_count n last
  unfolding good_count
  count-full last e = rw (le-leb 1 n g, le-leb n 15 h, e)

-- ---- a block

part-rest : (b : List ℕ) (at : ℕ) → length b ≡ 512 → take (length b - at) (drop at b) ≡ bytes_at b at (512 - at)
part-rest b at e = ap (λ (k : ℕ). take (k - at) (drop at b)) e ∙ sym (bytes_at-is b at (512 - at))

module _ (b : List ℕ) (long : length b ≡ 512) where
  -- the CRC is stored lowest byte first, and covers all behind it
  pub crc-is : (a c : ℕ) → a ≡ le_of (bytes_at b 0 4) → c ≡ crc32c_of (take (length b - 4) (drop 4 b)) → eqb a c ≡ crc_ok b
  unfolding crc_ok
  crc-is a c e f = ap₂ eqb e (f ∙ ap crc32c_of (part-rest b 4 long))

  -- a header of another place is none, nor is one whose number of changes is not good
  module _ (i : ℕ) (last : Bool) (p : ℕ) (place : p ≡ be_of (bytes_at b 4 4)) where
    pub place-wrong : (p ≡ i → ⊥) → false ≡ good_header i last b
    unfolding good_header
    place-wrong h = rw (← place, ne_eqb p i h)

    module _ (h : p ≡ i) (n : ℕ) (number : n ≡ be_of (bytes_at b 8 2)) where
      pub number-wrong : good_count n last ≡ false → false ≡ good_header i last b
      unfolding good_header
      number-wrong f = rw (← place, ← number, eq-eqb p i h, f)

  pub mark-at : be_of (bytes_at b 10 1) ≡ get_or b 10 0
  unfolding be_of
  mark-at = rw (bytes_at-one b 10 (omega arith)) (omega arith)

  -- the number of changes of a block with a good header
  pub header-count : (i : ℕ) (last : Bool) → good_header i last b ≡ true → count b ≤ 15
  unfolding good_header good_count
  header-count i last e = leb-most (search conj)
    where
      leb-most : leb (count b) 15 ≡ true → count b ≤ 15
      leb-most = leb-true (count b) 15

  module _ (i : ℕ) (last : Bool) where
    pub header-wrong : good_header i last b ≡ false → false ≡ ruled i last b
    unfolding ruled
    header-wrong f = rw f

    module _ (f : good_header i last b ≡ true) (n : ℕ) (number : n ≡ be_of (bytes_at b 8 2)) where
      few : n ≤ 15
      few = omega (arith, header-count i last f)

      changes-are : take (32 + n * 32 - 32) (drop 32 b) ≡ part_in b
      changes-are = part_is b 32 (n * 32) ∙ ap (λ (x : ℕ). bytes_at b 32 (x * 32)) number

      changes-many : length (take (32 + n * 32 - 32) (drop 32 b)) / 32 ≡ count b
      changes-many =
          ap (λ (x : List ℕ). length x / 32) (part_is b 32 (n * 32))
          ∙ ap (λ (x : ℕ). x / 32) (length-bytes_at b 32 (n * 32) (omega (arith, few)))
          ∙ mul-div_cancel n (omega arith)
          ∙ number

      pub changes-wrong : good_changes (length (take (32 + n * 32 - 32) (drop 32 b)) / 32) (take (32 + n * 32 - 32) (drop 32 b)) ≡ false → false ≡ ruled i last b
      unfolding ruled
      changes-wrong g = rw (f, sym (ap₂ good_changes changes-many changes-are) ∙ g)

      pub block-ruled : (t : Bool) → good_changes (length (take (32 + n * 32 - 32) (drop 32 b)) / 32) (take (32 + n * 32 - 32) (drop 32 b)) ≡ true
          → t ≡ is_zeros (take (512 - (32 + n * 32)) (drop (32 + n * 32) b)) → t ≡ ruled i last b
      unfolding ruled
      block-ruled t g e =
          let left : 512 - (32 + n * 32) ≡ 480 - n * 32 = omega (arith, few) in
          rw (f, sym (ap₂ good_changes changes-many changes-are) ∙ g)
          (e ∙ ap is_zeros (sym (bytes_at-is b (32 + n * 32) (512 - (32 + n * 32))) ∙ ap (bytes_at b (32 + n * 32)) left ∙ ap (λ (x : ℕ). bytes_at b (32 + x * 32) (480 - x * 32)) number))
