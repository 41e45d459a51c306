-- Sheets: what the writer writes reads back as the same changes.
-- Assumes nothing.
use Prim.Native.Nat.{ℕ, zero, suc, ◌+◌, ◌-◌, ◌*◌, ◌/◌, ◌^◌, ◌≤◌, ◌<◌}
use native.Mathlib.Nat.{mul-div_cancel, suc-add}
use native.Mathlib.Omega.{arith}
use mathlib.Core.Path.{◌≡◌, refl, sym, ap, ap₂, ◌∙◌, subst}
use mathlib.Core.Bool.{Bool, true, false, ◌||◌}
use mathlib.Core.List.{List, [], ◌∷◌, ◌++◌, append-nil}
use lib.Dec.{leb, eqb}
use lib.ListN.{length, take, drop, length-append, length-drop, take-append-drop}
use lib.Seq.{take_all, take_at, drop_at, length-take-le, take-take, take-add, drop-drop}
use borrow.Author.Tests.{leb-true, le-leb}
use Rattle.codec.specs.Bytes.{IsBytes}
use Rattle.codec.specs.Question.{done, ask}
use Rattle.codec.specs.Accepted.{whole}
use Rattle.codec.proofs.Meaning.{done-means}
use Rattle.codec.proofs.ListBytes.{whole-facts, facts-whole}
use Rattle.sheets.specs.Change.{good_change, good_changes, good_list}
use Rattle.sheets.specs.Sheet.{block_of, blocks_from, blocks_for, sheet_of, part_in, crc_ok, ruled, all_crcs, all_ruled, changes_in, block_count, sheet_changes, read_outcome, write_outcome}
use Rattle.sheets.specs.Claims.{WrittenReads}
use Rattle.codec.proofs.Tests.{conj, and-true}
use Rattle.sheets.specs.Layout.{block_len, max_blocks}
use Rattle.sheets.proofs.Asking.{Passed, read_done}
use Rattle.sheets.proofs.Blocks.{block-bytes, written-long, written-part, written-crc, written-ruled}
use Rattle.codec.proofs.FieldLists.{IsBytes-take, IsBytes-drop, IsBytes-append}
use Rattle.sheets.proofs.Sheets.{blocks-for}

-- ---- the first changes of a list, and those after them

drop-take : (m n : ℕ) (l : List ℕ) → m ≤ length l → drop m (take (m + n) l) ≡ take n (drop m l)
drop-take m n l h = ap (drop m) (take-add m n l) ∙ drop_at (take m l) (take n (drop m l)) m (length-take-le m l h)

good-first : (n : ℕ) (l : List ℕ) → n * 32 ≤ length l → good_changes n l ≡ true → good_changes n (take (n * 32) l) ≡ true
unfolding good_changes
good-first zero l h e = refl
good-first (suc n) l h e =
    let a : good_change (take 32 l) ≡ true = search conj in
    let b : good_changes n (drop 32 l) ≡ true = search conj in
    let q : suc n * 32 ≡ 32 + n * 32 = omega arith in
    let x : take 32 (take (suc n * 32) l) ≡ take 32 l = take-take 32 (suc n * 32) l (omega arith) in
    let y : drop 32 (take (suc n * 32) l) ≡ take (n * 32) (drop 32 l) = ap (λ (k : ℕ). drop 32 (take k l)) q ∙ drop-take 32 (n * 32) l (omega arith) in
    and-true (good_change (take 32 (take (suc n * 32) l))) (good_changes n (drop 32 (take (suc n * 32) l)))
    (ap good_change x ∙ a)
    (ap (good_changes n) y ∙ good-first n (drop 32 l) (omega (arith, length-drop 32 l)) b)

good-both : (n m : ℕ) (l : List ℕ) → good_changes (n + m) l ≡ true → (good_changes n l ≡ true) × (good_changes m (drop (n * 32) l) ≡ true)
unfolding good_changes
good-both zero m l e = let q : 0 + m ≡ m = omega arith in (refl, subst (λ (k : ℕ). good_changes k l ≡ true) q e)
good-both (suc n) m l e =
    let f : good_changes (suc (n + m)) l ≡ true = subst (λ (k : ℕ). good_changes k l ≡ true) (suc-add n m) e in
    let a : good_change (take 32 l) ≡ true = search conj in
    let b : good_changes (n + m) (drop 32 l) ≡ true = search conj in
    let r = good-both n m (drop 32 l) b in
    let q : 32 + n * 32 ≡ suc n * 32 = omega arith in
    (and-true (good_change (take 32 l)) (good_changes n (drop 32 l)) a r.0, ap (good_changes m) (sym (drop-drop (n * 32) 32 l ∙ ap (λ (k : ℕ). drop k l) q)) ∙ r.1)

-- ---- blocks

-- the blocks of 15 n + k changes, from place i on, read back
pub record Reads (n i : ℕ) (l s : List ℕ) : Type 0 where
  pub long : length s ≡ n * 512
  pub crcs : all_crcs n s ≡ true
  pub rules : all_ruled i n s ≡ true
  pub changes : changes_in n s ≡ l

-- one block before others
reads_more : (n i : ℕ) (p b l s : List ℕ) → length b ≡ 512 → crc_ok b ≡ true → ruled i (eqb n 0) b ≡ true → part_in b ≡ p → Reads n (suc i) l s → Reads (suc n) i (p ++ l) (b ++ s)
unfolding all_crcs all_ruled changes_in
reads_more n i p b l s g c r e t =
    let x : take 512 (b ++ s) ≡ b = take_at b s 512 g in
    let y : drop 512 (b ++ s) ≡ s = drop_at b s 512 g in
    record {
      long = length-append b s ∙ omega (arith, t.long);
      crcs = and-true (crc_ok (take 512 (b ++ s))) (all_crcs n (drop 512 (b ++ s))) (ap crc_ok x ∙ c) (ap (all_crcs n) y ∙ t.crcs);
      rules = and-true (ruled i (eqb n 0) (take 512 (b ++ s))) (all_ruled (suc i) n (drop 512 (b ++ s))) (ap (ruled i (eqb n 0)) x ∙ r) (ap (all_ruled (suc i) n) y ∙ t.rules);
      changes = ap₂ ◌++◌ (ap part_in x ∙ e) (ap (changes_in n) y ∙ t.changes);
    }

reads_none : (i : ℕ) → Reads 0 i [] []
unfolding all_crcs all_ruled changes_in
reads_none i = record { long = refl; crcs = refl; rules = refl; changes = refl }

or_right : (t : Bool) → (t || true) ≡ true
or_right true = refl
or_right false = refl

written : (n i k : ℕ) (l : List ℕ) → length l ≡ (15 * n + k) * 32 → 1 ≤ k → k ≤ 15 → good_changes (15 * n + k) l ≡ true → i + n < 2 ^ 32 → IsBytes l → Reads (suc n) i l (blocks_from i (suc n) l)
unfolding blocks_from
written zero i k l e o m g h b =
    let q : 15 * 0 + k ≡ k = omega arith in
    let a : length l ≡ k * 32 = omega arith in
    let f : good_changes k l ≡ true = subst (λ (x : ℕ). good_changes x l ≡ true) q g in
    let t : take 480 l ≡ l = take_all 480 l (omega arith) in
    let r : Reads 1 i (l ++ []) (block_of i true l ++ []) =
    reads_more 0 i l (block_of i true l) [] [] (written-long i true l k a o m refl f (omega arith) b) (written-crc i true l k a o m refl f (omega arith) b)
    (written-ruled i true l k a o m refl f (omega arith) b) (written-part i true l k a o m refl f (omega arith) b) (reads_none (suc i)) in
    subst (λ (x : List ℕ). Reads 1 i l (block_of i true x ++ [])) (sym t) (subst (λ (x : List ℕ). Reads 1 i x (block_of i true l ++ [])) (append-nil l) r)
written (suc n) i k l e o m g h b =
    let p : List ℕ = take 480 l in
    let a : length p ≡ 15 * 32 = length-take-le 480 l (omega arith) in
    let q : 15 * suc n + k ≡ 15 + (15 * n + k) = omega arith in
    let f = good-both 15 (15 * n + k) l (subst (λ (x : ℕ). good_changes x l ≡ true) q g) in
    let fp : good_changes 15 p ≡ true = good-first 15 l (omega arith) f.0 in
    let u : (eqb (suc n) 0 || eqb 15 15) ≡ true = or_right (eqb (suc n) 0) in
    let rec = written n (suc i) k (drop 480 l) (length-drop 480 l ∙ omega arith) o m f.1 (omega arith) (IsBytes-drop 480 l b) in
    let r = reads_more (suc n) i p (block_of i (eqb (suc n) 0) p) (drop 480 l) (blocks_from (suc i) (suc n) (drop 480 l))
    (written-long i (eqb (suc n) 0) p 15 a (omega arith) (omega arith) u fp (omega arith) (IsBytes-take 480 l b))
    (written-crc i (eqb (suc n) 0) p 15 a (omega arith) (omega arith) u fp (omega arith) (IsBytes-take 480 l b))
    (written-ruled i (eqb (suc n) 0) p 15 a (omega arith) (omega arith) u fp (omega arith) (IsBytes-take 480 l b))
    (written-part i (eqb (suc n) 0) p 15 a (omega arith) (omega arith) u fp (omega arith) (IsBytes-take 480 l b))
    rec in
    subst (λ (x : List ℕ). Reads (suc (suc n)) i x (block_of i (eqb (suc n) 0) p ++ blocks_from (suc i) (suc n) (drop 480 l))) (take-append-drop 480 l) r

-- the sheet of bytes is of bytes
blocks-bytes : (i n : ℕ) (l : List ℕ) → IsBytes l → IsBytes (blocks_from i n l)
unfolding blocks_from
blocks-bytes i zero l h = λ j. omega arith
blocks-bytes i (suc n) l h =
    IsBytes-append (block_of i (eqb n 0) (take 480 l)) (blocks_from (suc i) n (drop 480 l)) (block-bytes i (eqb n 0) (take 480 l) (IsBytes-take 480 l h))
    (blocks-bytes (suc i) n (drop 480 l) (IsBytes-drop 480 l h))

pub sheet-bytes : (l : List ℕ) → IsBytes l → IsBytes (sheet_of l)
unfolding sheet_of
sheet-bytes l h = blocks-bytes 0 (blocks_for l) l h

-- ---- the call

reads-passed : (n : ℕ) (l s : List ℕ) → Reads (suc n) 0 l s → suc n ≤ max_blocks → Passed s
reads-passed n l s r h =
    let q : block_count s ≡ suc n = ap (λ (x : ℕ). x / block_len) r.long ∙ mul-div_cancel (suc n) (omega arith) in
    let w : whole block_len s ≡ true = facts-whole block_len s (omega (arith, r.long)) in
    record { crcs = rw (q, w) r.crcs; rules = rw (q, le-leb 1 (suc n) (omega arith), le-leb (suc n) 65536 h) r.rules }

reads-done : (n : ℕ) (l s : List ℕ) (room : ℕ) → Reads (suc n) 0 l s → suc n ≤ max_blocks → length l ≤ room → read_outcome s room ≡ done l
reads-done n l s room r h k =
    let q : block_count s ≡ suc n = ap (λ (x : ℕ). x / block_len) r.long ∙ mul-div_cancel (suc n) (omega arith) in
    let e : sheet_changes s ≡ l = ap (λ (x : ℕ). changes_in x s) q ∙ r.changes in
    read_done s room (reads-passed n l s r h) (omega (arith, ap length e)) ∙ ap done e

pub written-reads : WrittenReads
unfolding write_outcome sheet_of
written-reads l s room room' h e k =
    let d = done-means (ask 33 (good_list l) ∷ ask 26 (leb (blocks_for l * 512) room) ∷ []) (sheet_of l) s e in
    let a : good_list l ≡ true = d.0.0 in
    let c : ℕ = length l / 32 in
    let w : whole 32 l ≡ true = search conj in
    let o : leb 1 c ≡ true = search conj in
    let m : leb c 983040 ≡ true = search conj in
    let f : good_changes c l ≡ true = search conj in
    let n : ℕ = (c - 1) / 15 in
    let j : ℕ = c - 15 * n in
    let o' : 1 ≤ c = leb-true 1 c o in
    let m' : c ≤ 983040 = leb-true c 983040 m in
    let q : c ≡ 15 * n + j = omega arith in
    let g : length l ≡ (15 * n + j) * 32 = omega (arith, whole-facts 32 l w) in
    let j1 : 1 ≤ j = omega arith in
    let j15 : j ≤ 15 = omega arith in
    let r : Reads (suc n) 0 l (blocks_from 0 (suc n) l) = written n 0 j l g j1 j15 (subst (λ (x : ℕ). good_changes x l ≡ true) q f) (omega arith) h in
    let t : s ≡ blocks_from 0 (suc n) l = sym d.1 ∙ ap (λ (x : ℕ). blocks_from 0 x l) (blocks-for n j l j1 j15 g) in
    ap (λ (x : List ℕ). read_outcome x room') t ∙ reads-done n l (blocks_from 0 (suc n) l) room' r (omega arith) k
