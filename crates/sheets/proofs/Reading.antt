-- A sheet read: one pass over its blocks, what that decides at each exit, and the changes copied block by block.
-- Assumes nothing.
use Prim.Native.Nat.{ℕ, suc, ◌+◌, ◌-◌, ◌*◌, ◌/◌, ◌%◌, ◌≤◌, ◌<◌}
use native.Mathlib.Nat.{zero-mul, sub-zero}
use native.Mathlib.Omega.{arith}
use mathlib.Core.Path.{◌≡◌, refl, sym, ap, ap₂, ◌∙◌, subst}
use mathlib.Core.Bool.{Bool, true, false, ◌&&◌}
use mathlib.Core.List.{List, [], ◌++◌}
use lib.Dec.{leb, eqb}
use lib.ListN.{length, take, drop, length-append}
use lib.Seq.{drop-drop}
use borrow.Author.Tests.{leb-true, le-leb, lt-leb, ne_eqb}
use Rattle.std.specs.Prelude.{Ok, Err}
use Rattle.codec.specs.Bytes.{bytes_at, with_bytes, be_of}
use Rattle.codec.specs.Output.{out_after}
use Rattle.codec.specs.Question.{none, Outcome, done, refused, map_outcome}
use Rattle.codec.specs.Accepted.{whole}
use Rattle.codec.proofs.ListBytes.{whole-facts, facts-whole}
use Rattle.codec.proofs.Parts.{length-bytes_at, length-with_bytes, with_bytes-add}
use Rattle.codec.proofs.Stores.{bytes_at-is, with_bytes-none}
use Rattle.codec.proofs.Tests.{conj, and_l, and_r, and-true, and-off}
use Rattle.sheets.specs.declared.SheetRefusal.{SheetRefusal}
use Rattle.sheets.specs.Sheet.{count, part_in, crc_ok, ruled, all_crcs, all_ruled, changes_in, block_count, crcs_hold, rules_hold, sheet_changes, check_outcome}
use Rattle.sheets.specs.Answer.{sheet_number, SheetIs}
use Rattle.sheets.specs.Inner.Passes.{Kept}
use Rattle.sheets.proofs.Asking.{asked-crc, asked-rule, asked-done, Passed}
use Rattle.sheets.proofs.Blocks.{ruled-facts}
use Rattle.sheets.proofs.Sheets.{count_of, changes-count}
use Rattle.sheets.proofs.Passing.{crcs_from, crcs_from-start, crcs_from-bad, crcs_from-pass, crcs_from-end, ruled_from, ruled_from-start, ruled_from-more, ruled_from-end, part_is}

-- ---- answers

pub is-refused : {o : Outcome (List ℕ)} (q : SheetRefusal) (out : List ℕ) → o ≡ refused (sheet_number q) none → SheetIs o (Err q) out out
is-refused q out e = record { said = sym (ap (map_outcome length) e); wrote = sym (ap (λ (x : Outcome (List ℕ)). out_after x out) e) }

pub is-done : {o : Outcome (List ℕ)} {bytes : List ℕ} (k : ℕ) (out out' : List ℕ) → o ≡ done bytes → k ≡ length bytes → out' ≡ with_bytes out 0 bytes → SheetIs o (Ok k) out out'
is-done k out out' e l w = record { said = ap done l ∙ sym (ap (map_outcome length) e); wrote = w ∙ sym (ap (λ (x : Outcome (List ℕ)). out_after x out) e) }

-- ---- the pass

module _ (s : List ℕ) where
  abbrev n : ℕ
  n = length s / 512

  -- the CRCs of the blocks before the i-th are right, and `good` says whether all rules held so far
  pub record Scanned (good : Bool) (i : ℕ) : Type 0 where
    pub within : i ≤ n
    pub crcs : all_crcs n s ≡ crcs_from n s i
    pub rules : (leb n 65536 && all_ruled 0 n s) ≡ (good && ruled_from n s i)

  pub scan-start : Scanned (leb n 65536) 0
  scan-start =
      record {
        within = omega arith;
        crcs = sym (crcs_from-start n s);
        rules = ap (λ (t : Bool). leb n 65536 && t) (sym (ruled_from-start n s));
      }

  pub not-whole : (length s % 512 ≡ 0 → ⊥) → refused 32 none ≡ check_outcome s
  unfolding whole
  not-whole h = sym (asked-crc s (ap (λ (t : Bool). t && all_crcs n s) (ne_eqb (length s % 512) 0 h)))

  module _ (w : length s % 512 ≡ 0) (good : Bool) (i : ℕ) (k : Scanned good i) where
    crcs-are : (t : Bool) → crcs_from n s i ≡ t → (whole 512 s && all_crcs n s) ≡ t
    crcs-are t e = ap (λ (x : Bool). x && all_crcs n s) (facts-whole 512 s w) ∙ k.crcs ∙ e

    -- block i, as it was read
    module _ (h : i < n) (b : List ℕ) (is : b ≡ bytes_at s (i * 512) 512) where
      pub scan-bad : crc_ok b ≡ false → refused 32 none ≡ check_outcome s
      scan-bad e = sym (asked-crc s (crcs-are false (crcs_from-bad n s i h (ap crc_ok (sym is) ∙ e))))

      module _ (e : crc_ok b ≡ true) where
        right : all_crcs n s ≡ crcs_from n s (i + 1)
        right = k.crcs ∙ crcs_from-pass n s i h (ap crc_ok (sym is) ∙ e)

        pub scan_good : (good' : Bool) → good ≡ true → good' ≡ ruled i (eqb (i + 1) n) b → Scanned good' (i + 1)
        scan_good good' g r =
            record {
              within = omega arith;
              crcs = right;
              rules =
                  k.rules
                  ∙ ap (λ (t : Bool). t && ruled_from n s i) g
                  ∙ ruled_from-more n s i h
                  ∙ ap (λ (t : Bool). t && ruled_from n s (i + 1)) (ap (ruled i (eqb (i + 1) n)) (sym is) ∙ sym r);
            }

        pub scan-noted : (good' : Bool) → good ≡ false → good' ≡ good → Scanned good' (i + 1)
        scan-noted good' g r =
            record {
              within = omega arith;
              crcs = right;
              rules = k.rules ∙ ap (λ (t : Bool). t && ruled_from n s i) g ∙ sym (ap (λ (t : Bool). t && ruled_from n s (i + 1)) (r ∙ g));
            }

    module _ (h : n ≤ i) where
      all-crcs : (whole 512 s && all_crcs n s) ≡ true
      all-crcs = crcs-are true (crcs_from-end n s i h)

      pub scan-empty : n ≡ 0 → refused 33 none ≡ check_outcome s
      scan-empty e = sym (asked-rule s all-crcs (ap (λ (t : Bool). t && (leb n 65536 && all_ruled 0 n s)) (lt-leb 1 n (omega arith))))

      pub scan-broken : good ≡ false → refused 33 none ≡ check_outcome s
      scan-broken g =
          sym (asked-rule s all-crcs (ap (λ (t : Bool). leb 1 n && t) (k.rules ∙ ap (λ (t : Bool). t && ruled_from n s i) g) ∙ and-off (leb 1 n)))

      module _ (z : n ≡ 0 → ⊥) (g : good ≡ true) where
        all-ruled : (leb n 65536 && all_ruled 0 n s) ≡ true
        all-ruled = k.rules ∙ ap (λ (t : Bool). t && ruled_from n s i) g ∙ ruled_from-end n s i h

        kept : Kept s
        kept = record { long = omega arith; some = omega arith; rules = and_r (leb n 65536) (all_ruled 0 n s) all-ruled }

        -- m full blocks, then one with r changes
        pub scan-done : (m r : ℕ) (b : List ℕ) → n ≡ m + 1 → b ≡ bytes_at s (m * 512) 512 → r ≡ be_of (bytes_at b 8 2)
            → done (m * 480 + r * 32) ≡ check_outcome s
        scan-done m r b q is e =
            let q' : n ≡ suc m = omega arith in
            let c = changes-count m 0 s (kept.long ∙ ap (λ (x : ℕ). x * 512) q') (subst (λ (x : ℕ). all_ruled 0 x s ≡ true) q' kept.rules) in
            let f : count_of m s ≡ r = ap count (sym (bytes_at-is s (m * 512) 512) ∙ sym is) ∙ sym e in
            let l : m * 480 + r * 32 ≡ length (sheet_changes s) = omega (arith, c.long) ∙ ap (λ (x : ℕ). length (changes_in x s)) (sym q') in
            ap done l ∙ sym (asked-done s all-crcs (and-true (leb 1 n) (leb n 65536 && all_ruled 0 n s) (le-leb 1 n (omega arith)) all-ruled))

-- ---- a sheet that passed

pub passed-kept : (s : List ℕ) → Passed s → Kept s
passed-kept s h =
    let a : crcs_hold s ≡ true = h.crcs in
    let b : rules_hold s ≡ true = h.rules in
    let w : whole 512 s ≡ true = search conj in
    let o : leb 1 (block_count s) ≡ true = search conj in
    let r : all_ruled 0 (block_count s) s ≡ true = search conj in
    record { long = omega (arith, whole-facts 512 s w); some = leb-true 1 (block_count s) o; rules = r }

-- ---- the changes copied

module _ (s : List ℕ) where
  -- the changes of the blocks from the i-th on
  abbrev changes_from : ℕ → List ℕ
  changes_from i = changes_in (length s / 512 - i) (drop (i * 512) s)

  abbrev block : ℕ → List ℕ
  block i = bytes_at s (i * 512) 512

  changes-start : changes_from 0 ≡ sheet_changes s
  changes-start = ap₂ (λ (k m : ℕ). changes_in k (drop m s)) (sub-zero (length s / 512)) (zero-mul 512)

  changes-more : (i : ℕ) → i < length s / 512 → changes_from i ≡ part_in (block i) ++ changes_from (i + 1)
  unfolding changes_in
  changes-more i h =
      let e : length s / 512 - i ≡ suc (length s / 512 - (i + 1)) = omega arith in
      let q : i * 512 + 512 ≡ (i + 1) * 512 = omega arith in
      ap (λ (k : ℕ). changes_in k (drop (i * 512) s)) e
      ∙ ap₂ (λ (x y : List ℕ). part_in x ++ changes_in (length s / 512 - (i + 1)) y) (sym (bytes_at-is s (i * 512) 512)) (drop-drop 512 (i * 512) s ∙ ap (λ (k : ℕ). drop k s) q)

  changes-end : (i : ℕ) → length s / 512 ≤ i → changes_from i ≡ []
  unfolding changes_in
  changes-end i h = let e : length s / 512 - i ≡ 0 = omega arith in ap (λ (k : ℕ). changes_in k (drop (i * 512) s)) e

  -- the changes of the blocks before the i-th are copied, up to byte `at`
  pub record Copied (before out : List ℕ) (i at : ℕ) : Type 0 where
    pub within : i ≤ length s / 512
    pub same : length out ≡ length before
    pub rules : ruled_from (length s / 512) s i ≡ true
    pub all : with_bytes before 0 (sheet_changes s) ≡ with_bytes out at (changes_from i)
    pub far : at + length (changes_from i) ≡ length (sheet_changes s)

  pub copy_start : (before : List ℕ) → Kept s → Copied before before 0 0
  copy_start before k =
      record {
        within = omega arith;
        same = refl;
        rules = ruled_from-start (length s / 512) s ∙ k.rules;
        all = ap (with_bytes before 0) (sym changes-start);
        far = omega (arith, ap length changes-start);
      }

  pub copy_done : (before out : List ℕ) (i at : ℕ) → Copied before out i at → length s / 512 ≤ i → out ≡ with_bytes before 0 (sheet_changes s)
  copy_done before out i at c h = sym (c.all ∙ ap (with_bytes out at) (changes-end i h) ∙ with_bytes-none out at)

  -- one block more, that says it has r changes
  module _
      (before out : List ℕ) (i at r : ℕ) (room : length (sheet_changes s) ≤ length before) (c : Copied before out i at) (h : i < length s / 512)
      (b : List ℕ) (is : b ≡ bytes_at s (i * 512) 512) (number : r ≡ be_of (bytes_at b 8 2))
    where
      long : length b ≡ 512
      long = ap length is ∙ length-bytes_at s (i * 512) 512 (omega arith)

      abbrev lent : List ℕ
      lent = take (32 + r * 32 - 32) (drop 32 b)

      counted : count (block i) ≡ r
      counted = ap count (sym is) ∙ sym number

      both : (ruled i (eqb (i + 1) (length s / 512)) (block i) && ruled_from (length s / 512) s (i + 1)) ≡ true
      both = sym (ruled_from-more (length s / 512) s i h) ∙ c.rules

      pub few : r ≤ 15
      few = omega (arith, counted, (ruled-facts i (eqb (i + 1) (length s / 512)) (block i) (and_l (ruled i (eqb (i + 1) (length s / 512)) (block i)) (ruled_from (length s / 512) s (i + 1)) both)).most)

      lent_is : lent ≡ part_in (block i)
      lent_is = part_is b 32 (r * 32) ∙ ap₂ (λ (x : List ℕ) (y : ℕ). bytes_at x 32 (y * 32)) is (sym counted)

      lent-long : length lent ≡ r * 32
      lent-long = ap length (part_is b 32 (r * 32)) ∙ length-bytes_at b 32 (r * 32) (omega (arith, few, long))

      next : changes_from i ≡ lent ++ changes_from (i + 1)
      next = changes-more i h ∙ ap (λ (x : List ℕ). x ++ changes_from (i + 1)) (sym lent_is)

      next-long : length (changes_from i) ≡ r * 32 + length (changes_from (i + 1))
      next-long = ap length next ∙ length-append lent (changes_from (i + 1)) ∙ ap (λ (x : ℕ). x + length (changes_from (i + 1))) lent-long

      pub fits : at + length lent ≤ length out
      fits = omega (arith, c.far, c.same, next-long, lent-long)

      pub copy_more : (out' : List ℕ) → out' ≡ with_bytes out at lent → Copied before out' (i + 1) (at + (32 + r * 32 - 32))
      copy_more out' e =
          let w : 32 + r * 32 - 32 ≡ r * 32 = omega arith in
          record {
            within = omega arith;
            same = ap length e ∙ length-with_bytes out at lent fits ∙ c.same;
            rules = and_r (ruled i (eqb (i + 1) (length s / 512)) (block i)) (ruled_from (length s / 512) s (i + 1)) both;
            all =
                c.all
                ∙ ap (with_bytes out at) next
                ∙ sym (with_bytes-add out at lent (changes_from (i + 1)) fits)
                ∙ ap₂ (λ (x : List ℕ) (y : ℕ). with_bytes x y (changes_from (i + 1))) (sym e) (ap (λ (x : ℕ). at + x) (lent-long ∙ sym w));
            far = omega (arith, c.far, next-long);
          }
