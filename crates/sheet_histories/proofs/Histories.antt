-- The changes of an accepted sheet are a history.
-- Assumes nothing.
use Prim.Native.Nat.{ℕ, zero, suc, ◌+◌, ◌*◌, ◌/◌, ◌≤◌}
use native.Mathlib.Nat.{zero-mul}
use native.Mathlib.Omega.{arith}
use mathlib.Core.Path.{◌≡◌, sym, ap, ◌∙◌, subst}
use mathlib.Core.Bool.{true}
use mathlib.Core.List.{List}
use lib.Dec.{ltb, leb, eqb}
use lib.ListN.{length, take, drop, length-drop}
use lib.Seq.{length-take-le, drop-drop}
use borrow.Author.Tests.{leb-true, eqb-false, eq-eqb, lt-ltb}
use Rattle.codec.specs.Bytes.{IsBytes, bytes_at}
use Rattle.codec.specs.Records.{RmapFits}
use Rattle.codec.proofs.FieldLists.{IsBytes-take, IsBytes-drop, IsBytes-append}
use Rattle.codec.proofs.Parts.{length-bytes_at}
use Rattle.codec.proofs.Stores.{bytes_at-is}
use Rattle.codec.proofs.Overwrites.{IsBytes-bytes_at}
use Rattle.codec.proofs.RecordKinds.{rmaps-lawful}
use Rattle.codec.proofs.Tests.{split, conj}
use Rattle.groups.proofs.History as theorem
use Rattle.sheets.specs.Change.{change_kind, change_record, good_change, good_changes, good_list, asked_by, change_at}
use Rattle.sheets.specs.Sheet.{count, part_in, changes_in}
use Rattle.sheets.proofs.Sheets.{read-means, read-is-written}
use Rattle.sheet_histories.specs.SheetHistory.{Asks, AllAsk, history_of, SheetHistory}

record-fits : (c : List ℕ) → length c ≡ 32 → IsBytes c → RmapFits (change_record c)
record-fits c l h = rmaps-lawful.storable-decode (bytes_at c 8 24) (length-bytes_at c 8 24 (omega arith)) (IsBytes-bytes_at c 8 24 h)

-- a good change asks for something
change-asks : (c : List ℕ) → length c ≡ 32 → IsBytes c → good_change c ≡ true → Asks (asked_by c)
unfolding good_change asked_by
change-asks c l h g =
    let f : RmapFits (change_record c) = record-fits c l h in
    let low : leb 1 (change_kind c) ≡ true = search conj in
    let high : leb (change_kind c) 3 ≡ true = search conj in
    split (eqb (change_kind c) 1)
    (λ e. rw e f)
    (λ e. split (eqb (change_kind c) 2)
    (λ d. rw (e, d) f)
    (λ d. rw (e, d, eq-eqb (change_kind c) 3 (last (change_kind c) (leb-true 1 (change_kind c) low) (leb-true (change_kind c) 3 high) (eqb-false (change_kind c) 1 e) (eqb-false (change_kind c) 2 d))) f))
  where
    last : (k : ℕ) → 1 ≤ k → k ≤ 3 → (k ≡ 1 → ⊥) → (k ≡ 2 → ⊥) → k ≡ 3
    last k a b p q = omega arith

-- change i + j of a list is change j of what stands behind i changes
all-ask : (l : List ℕ) (i n : ℕ) → i + n ≡ length l / 32 → IsBytes l → good_changes n (drop (i * 32) l) ≡ true → AllAsk l i n
unfolding good_changes change_at
all-ask l i zero e h g = tt
all-ask l i (suc n) e h g =
    let c : List ℕ = take 32 (drop (i * 32) l) in
    let a : good_change c ≡ true = search conj in
    let b : good_changes n (drop 32 (drop (i * 32) l)) ≡ true = search conj in
    let q : i * 32 + 32 ≡ suc i * 32 = omega arith in
    let t : ltb i (length l / 32) ≡ true = lt-ltb i (length l / 32) (omega arith) in
    let k : length c ≡ 32 = length-take-le 32 (drop (i * 32) l) (omega (arith, length-drop (i * 32) l)) in (
      rw (t, bytes_at-is) (change-asks c k (IsBytes-take 32 (drop (i * 32) l) (IsBytes-drop (i * 32) l h)) a),
      all-ask l (suc i) n (omega arith) h (ap (good_changes n) (sym (drop-drop 32 (i * 32) l ∙ ap (λ (x : ℕ). drop x l) q)) ∙ b),
    )

changes-bytes : (n : ℕ) (s : List ℕ) → IsBytes s → IsBytes (changes_in n s)
unfolding changes_in
changes-bytes zero s h = λ i. omega arith
changes-bytes (suc n) s h =
    IsBytes-append (part_in (take 512 s)) (changes_in n (drop 512 s)) (IsBytes-bytes_at (take 512 s) 32 (count (take 512 s) * 32) (IsBytes-take 512 s h))
    (changes-bytes n (drop 512 s) (IsBytes-drop 512 s h))

pub sheet-history : SheetHistory
sheet-history s l room h e =
    let k = read-means s l room e in
    let b : IsBytes l = subst IsBytes k.2 (changes-bytes (suc k.0) s h) in
    let w : good_list l ≡ true = (read-is-written s l room h e).good in
    let g : good_changes (length l / 32) l ≡ true = search conj in
    let z : good_changes (length l / 32) (drop (0 * 32) l) ≡ true = ap (λ (x : ℕ). good_changes (length l / 32) (drop x l)) (zero-mul 32) ∙ g in
    let asks = all-ask l 0 (length l / 32) (omega arith) b z in
    record { asks = asks; claim = λ rooms σ start. theorem.history σ (history_of rooms l asks) start }
