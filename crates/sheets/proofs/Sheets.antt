-- Sheets: an accepted one is the one that the writer writes for its changes; and how much room is enough.
-- Assumes nothing.
use Prim.Native.Nat.{ℕ, zero, suc, ◌+◌, ◌-◌, ◌*◌, ◌/◌, ◌≤◌}
use native.Mathlib.Nat.{mul-div_cancel, zero-mul, zero-add, suc-add}
use native.Mathlib.Omega.{arith}
use mathlib.Core.Path.{◌≡◌, refl, sym, ap, ap₂, ◌∙◌, subst}
use mathlib.Core.Bool.{Bool, true, false, cond, ◌||◌}
use mathlib.Core.List.{List, [], ◌∷◌, ◌++◌, append-nil}
use lib.Dec.{leb, eqb}
use lib.ListN.{length, take, drop, length-append, length-drop, take-append-drop}
use lib.Seq.{take_all, take_at, drop_at, drop-drop, length-take-le, take-append-le, drop-append-le}
use borrow.Author.Tests.{leb-true, eqb-true, ne_eqb, le-leb}
use Rattle.codec.specs.Bytes.{IsBytes}
use Rattle.codec.specs.Question.{Values, none, Outcome, done, refused}
use Rattle.codec.proofs.Meaning.{never}
use Rattle.codec.specs.Accepted.{whole}
use Rattle.codec.proofs.FieldLists.{IsBytes-take, IsBytes-drop}
use Rattle.codec.proofs.ListBytes.{whole-facts, facts-whole}
use Rattle.sheets.specs.Change.{good_change, good_changes, good_list}
use Rattle.sheets.specs.Sheet.{block_of, blocks_from, blocks_for, sheet_of, count, part_in, all_crcs, all_ruled, changes_in, block_count, crcs_hold, rules_hold, sheet_changes, read_outcome, write_outcome}
use Rattle.sheets.specs.Claims.{ReadWrites, OnlySheet, EnoughRoom}
use Rattle.codec.proofs.Tests.{split, conj, and-true}
use Rattle.sheets.specs.Layout.{block_len, max_blocks, part_len}
use Rattle.sheets.proofs.Asking.{Passed, read-crc, read-rule, read_done, read-passed, read-changes}
use Rattle.sheets.proofs.Blocks.{Ruled, ruled-facts, part-long, block-is}

pub length_none : (l : List ℕ) → length l ≡ 0 → l ≡ []
length_none [] e = refl
length_none (x ∷ l) e = absurd (omega arith)

pub not_last : (n : ℕ) → eqb (suc n) 0 ≡ false
not_last n = ne_eqb (suc n) 0 (omega arith)

-- a block that is not the last has 15 changes
full-count : (last : Bool) (k : ℕ) → last ≡ false → (last || eqb k 15) ≡ true → k ≡ 15
full-count true k e f = absurd (let z : true ≡ false = e in omega (arith, ap (λ (x : Bool). cond {A = ℕ} x 0 1) z))
full-count false k e f = eqb-true k 15 f

module _ (n i : ℕ) (s : List ℕ) (long : length s ≡ suc n * 512) (r : all_ruled i (suc n) s ≡ true) where
  first-long : length (take 512 s) ≡ 512
  first-long = length-take-le 512 s (omega arith)

  rest-long : length (drop 512 s) ≡ n * 512
  rest-long = length-drop 512 s ∙ omega arith

  first-ruled : Ruled i (eqb n 0) (take 512 s)
  unfolding all_ruled
  first-ruled = ruled-facts i (eqb n 0) (take 512 s) (search conj)

  rest-ruled : all_ruled (suc i) n (drop 512 s) ≡ true
  unfolding all_ruled
  rest-ruled = search conj

  part_is : length (part_in (take 512 s)) ≡ count (take 512 s) * 32
  part_is = part-long i (eqb n 0) (take 512 s) first-long first-ruled

  module _ (bytes : IsBytes s) (c : all_crcs (suc n) s ≡ true) where
    rest-crcs : all_crcs n (drop 512 s) ≡ true
    unfolding all_crcs
    rest-crcs = search conj

    first-is : take 512 s ≡ block_of i (eqb n 0) (part_in (take 512 s))
    unfolding all_crcs
    first-is = block-is i (eqb n 0) (take 512 s) first-long (IsBytes-take 512 s bytes) (search conj) first-ruled

-- good changes before good changes
good-append : (n m : ℕ) (p q : List ℕ) → length p ≡ n * 32 → good_changes n p ≡ true → good_changes m q ≡ true → good_changes (n + m) (p ++ q) ≡ true
unfolding good_changes
good-append zero m p q l g h = ap₂ good_changes (zero-add m) (ap (λ (x : List ℕ). x ++ q) (length_none p (omega arith))) ∙ h
good-append (suc n) m p q l g h =
    let a : good_change (take 32 p) ≡ true = search conj in
    let b : good_changes n (drop 32 p) ≡ true = search conj in
    let k : 32 ≤ length p = omega arith in
    ap (λ (x : ℕ). good_changes x (p ++ q)) (suc-add n m)
    ∙ and-true (good_change (take 32 (p ++ q))) (good_changes (n + m) (drop 32 (p ++ q)))
    (ap good_change (take-append-le 32 p q k) ∙ a)
    (ap (good_changes (n + m)) (drop-append-le 32 p q k) ∙ good-append n m (drop 32 p) q (length-drop 32 p ∙ omega arith) b h)

-- how many changes block n says it has
abbrev pub count_of : ℕ → List ℕ → ℕ
count_of n s = count (take 512 (drop (n * 512) s))

count-first : (s : List ℕ) → count_of 0 s ≡ count (take 512 s)
count-first s = ap (λ (k : ℕ). count (take 512 (drop k s))) (zero-mul 512)

count_next : (n : ℕ) (s : List ℕ) → count_of n (drop 512 s) ≡ count_of (suc n) s
count_next n s = ap (λ (x : List ℕ). count (take 512 x)) (drop-drop (n * 512) 512 s ∙ ap (λ (k : ℕ). drop k s) (let e : 512 + n * 512 ≡ suc n * 512 = omega arith in e))

-- the changes of n + 1 blocks are 15 in each but the last
pub record Counted (n : ℕ) (s : List ℕ) : Type 0 where
  pub some : 1 ≤ count_of n s
  pub most : count_of n s ≤ 15
  pub long : length (changes_in (suc n) s) ≡ (15 * n + count_of n s) * 32
  pub good : good_changes (15 * n + count_of n s) (changes_in (suc n) s) ≡ true

pub changes-count : (n i : ℕ) (s : List ℕ) → length s ≡ suc n * 512 → all_ruled i (suc n) s ≡ true → Counted n s
unfolding changes_in
changes-count zero i s l r =
    let f = first-ruled zero i s l r in
    let q : count_of 0 s ≡ count (take 512 s) = count-first s in
    let k : 15 * 0 + count_of 0 s ≡ count (take 512 s) = omega arith in
    record {
      some = omega (arith, f.some);
      most = omega (arith, f.most);
      long = length-append (part_in (take 512 s)) [] ∙ omega (arith, part_is zero i s l r);
      good = ap₂ good_changes k (append-nil (part_in (take 512 s))) ∙ f.good;
    }
changes-count (suc n) i s l r =
    let f = first-ruled (suc n) i s l r in
    let p : List ℕ = part_in (take 512 s) in
    let t : List ℕ = changes_in (suc n) (drop 512 s) in
    let rec = changes-count n (suc i) (drop 512 s) (rest-long (suc n) i s l r) (rest-ruled (suc n) i s l r) in
    let k : count (take 512 s) ≡ 15 = full-count (eqb (suc n) 0) (count (take 512 s)) (not_last n) f.full in
    let q : count_of n (drop 512 s) ≡ count_of (suc n) s = count_next n s in
    let j : 15 * suc n + count_of (suc n) s ≡ 15 + (15 * n + count_of n (drop 512 s)) = omega arith in
    record {
      some = omega (arith, rec.some);
      most = omega (arith, rec.most);
      long = length-append p t ∙ omega (arith, part_is (suc n) i s l r, rec.long);
      good =
          ap (λ (x : ℕ). good_changes x (p ++ t)) j
          ∙ good-append 15 (15 * n + count_of n (drop 512 s)) p t (omega (arith, part_is (suc n) i s l r)) (ap (λ (x : ℕ). good_changes x p) (sym k) ∙ f.good) rec.good;
    }

-- blocks that are good are those of their changes
blocks_are : (n i : ℕ) (s : List ℕ) → length s ≡ n * 512 → IsBytes s → all_crcs n s ≡ true → all_ruled i n s ≡ true → s ≡ blocks_from i n (changes_in n s)
unfolding blocks_from changes_in
blocks_are zero i s l h c r = length_none s (omega arith)
blocks_are (suc zero) i s l h c r =
    let p : List ℕ = part_in (take 512 s) in
    let m : count (take 512 s) ≤ 15 = (first-ruled zero i s l r).most in
    let t : take 480 (p ++ []) ≡ p = ap (take 480) (append-nil p) ∙ take_all 480 p (omega (arith, part_is zero i s l r)) in
    sym (take-append-drop 512 s)
    ∙ ap₂ ◌++◌ (first-is zero i s l r h c ∙ ap (block_of i true) (sym t)) (length_none (drop 512 s) (rest-long zero i s l r ∙ omega arith))
blocks_are (suc (suc n)) i s l h c r =
    let p : List ℕ = part_in (take 512 s) in
    let f : count (take 512 s) ≡ 15 = full-count (eqb (suc n) 0) (count (take 512 s)) (not_last n) (first-ruled (suc n) i s l r).full in
    let q : length p ≡ 480 = omega (arith, part_is (suc n) i s l r) in
    let rest : List ℕ = changes_in (suc n) (drop 512 s) in
    let rec = blocks_are (suc n) (suc i) (drop 512 s) (rest-long (suc n) i s l r) (IsBytes-drop 512 s h) (rest-crcs (suc n) i s l r h c) (rest-ruled (suc n) i s l r) in
    sym (take-append-drop 512 s)
    ∙ ap₂ ◌++◌ (first-is (suc n) i s l r h c ∙ ap (block_of i (eqb (suc n) 0)) (sym (take_at p rest 480 q)))
    (rec ∙ ap (blocks_from (suc i) (suc n)) (sym (drop_at p rest 480 q)))

-- as many blocks as the writer makes
pub blocks-for : (n k : ℕ) (l : List ℕ) → 1 ≤ k → k ≤ 15 → length l ≡ (15 * n + k) * 32 → blocks_for l ≡ suc n
blocks-for n k l h m e =
    let d : length l / 32 ≡ 15 * n + k = ap (λ (x : ℕ). x / 32) e ∙ mul-div_cancel (15 * n + k) (omega arith) in
    ap (λ (x : ℕ). (x + 14) / 15) d ∙ omega arith

-- what an accepted sheet has
pub record Accepted (s : List ℕ) (n : ℕ) : Type 0 where
  pub long : length s ≡ suc n * 512
  pub few : suc n ≤ 65536
  pub crcs : all_crcs (suc n) s ≡ true
  pub rules : all_ruled 0 (suc n) s ≡ true

accepted-is : (n m : ℕ) (s : List ℕ) → n ≡ suc m → length s ≡ n * 512 → n ≤ 65536 → all_crcs n s ≡ true → all_ruled 0 n s ≡ true → Accepted s m
accepted-is n m s e g h c r =
    record {
      long = g ∙ ap (λ (x : ℕ). x * 512) e;
      few = omega arith;
      crcs = subst (λ (x : ℕ). all_crcs x s ≡ true) e c;
      rules = subst (λ (x : ℕ). all_ruled 0 x s ≡ true) e r;
    }

passed-accepted : (s : List ℕ) → Passed s → (m : ℕ) × Accepted s m × (block_count s ≡ suc m)
passed-accepted s h =
    let n : ℕ = block_count s in
    let m : ℕ = n - 1 in
    let a : crcs_hold s ≡ true = h.crcs in
    let b : rules_hold s ≡ true = h.rules in
    let w : whole block_len s ≡ true = search conj in
    let c : all_crcs n s ≡ true = search conj in
    let o : leb 1 n ≡ true = search conj in
    let f : leb n max_blocks ≡ true = search conj in
    let r : all_ruled 0 n s ≡ true = search conj in
    let g : length s ≡ n * block_len = omega (arith, whole-facts block_len s w) in
    let q : n ≡ suc m = omega (arith, leb-true 1 n o) in
    (m, accepted-is n m s q g (leb-true n max_blocks f) c r, q)

pub read-means : (s l : List ℕ) (room : ℕ) → read_outcome s room ≡ done l → (m : ℕ) × Accepted s m × (changes_in (suc m) s ≡ l)
read-means s l room e =
    let k = passed-accepted s (read-passed s room l e) in
    (k.0, k.1, ap (λ (x : ℕ). changes_in x s) (sym k.2) ∙ read-changes s room l e)

-- so it is the sheet of its changes, and these are a good list
pub record Written (s l : List ℕ) : Type 0 where
  pub is : s ≡ sheet_of l
  pub good : good_list l ≡ true
  pub long : blocks_for l * 512 ≡ length s

pub read-is-written : (s l : List ℕ) (room : ℕ) → IsBytes s → read_outcome s room ≡ done l → Written s l
unfolding sheet_of
read-is-written s l room h e =
    let k = read-means s l room e in
    let n : ℕ = k.0 in
    let a = k.1 in
    let c = changes-count n 0 s a.long a.rules in
    let t : ℕ = 15 * n + count_of n s in
    let g : length l ≡ t * 32 = ap length (sym k.2) ∙ c.long in
    let d : length l / 32 ≡ t = ap (λ (x : ℕ). x / 32) g ∙ mul-div_cancel t (omega arith) in
    let q : blocks_for l ≡ suc n = blocks-for n (count_of n s) l c.some c.most g in
    record {
      is = blocks_are (suc n) 0 s a.long h a.crcs a.rules ∙ ap (blocks_from 0 (suc n)) k.2 ∙ ap (λ (x : ℕ). blocks_from 0 x l) (sym q);
      good =
          and-true (whole 32 l) _ (facts-whole 32 l (omega arith))
          (and-true (leb 1 (length l / 32)) _ (le-leb 1 (length l / 32) (omega (arith, c.some)))
          (and-true (leb (length l / 32) 983040) _ (le-leb (length l / 32) 983040 (omega (arith, c.most, a.few))) (ap₂ good_changes d (sym k.2) ∙ c.good)));
      long = ap (λ (x : ℕ). x * 512) q ∙ sym a.long;
    }

pub read-writes : ReadWrites
unfolding write_outcome
read-writes s l room room' h e k =
    let w = read-is-written s l room h e in
    let f : leb (blocks_for l * 512) room' ≡ true = le-leb (blocks_for l * 512) room' (omega (arith, w.long)) in
    rw (w.good, f) (ap done (sym w.is))

pub only-sheet : OnlySheet
only-sheet s t l room room' h k e f = (read-is-written s l room h e).is ∙ sym (read-is-written t l room' k f).is

-- ---- enough room

changes-most : (s : List ℕ) → Passed s → length (sheet_changes s) ≤ block_count s * part_len
changes-most s h =
    let k = passed-accepted s h in
    let c = changes-count k.0 0 s k.1.long k.1.rules in
    let e : length (sheet_changes s) ≡ length (changes_in (suc k.0) s) = ap (λ (x : ℕ). length (changes_in x s)) k.2 in
    omega (arith, c.long, c.most, k.2)

not-room : (n : ℕ) (v : Values) → ◌≡◌ {A = Outcome (List ℕ)} (refused n none) (refused 26 v) → n ≡ 26
not-room n v e = cc

pub enough-room : EnoughRoom
unfolding write_outcome
enough-room =
    record {
      reads =
          λ s room v h e. split (crcs_hold s)
          (λ c. split (rules_hold s)
          (λ r. let p : Passed s = record { crcs = c; rules = r } in never (sheet_changes s) 26 v (sym (read_done s room p (omega (arith, changes-most s p))) ∙ e))
          (λ r. omega (arith, not-room 33 v (sym (read-rule s room c r) ∙ e))))
          (λ c. omega (arith, not-room 32 v (sym (read-crc s room c) ∙ e)));
      writes =
          λ l room v h e. let f : leb (blocks_for l * block_len) room ≡ true = le-leb (blocks_for l * block_len) room h in
          split (good_list l)
          (λ g. never (sheet_of l) 26 v (sym (rw (g, f) refl) ∙ e))
          (λ g. omega (arith, not-room 33 v (sym (rw g refl) ∙ e)));
    }
