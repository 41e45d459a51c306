-- Laws of records written one part after another.
-- Assumes nothing.
use Prim.Native.Nat.{ℕ, ◌+◌, ◌-◌, ◌*◌, ◌/◌, ◌≤◌}
use native.Mathlib.Nat.{add-zero, add-mul, le-div_iff_mul-le}
use native.Mathlib.Omega.{arith}
use mathlib.Core.Path.{◌≡◌, refl, sym, ap, ap₂, ◌∙◌}
use mathlib.Core.List.{List, [], ◌∷◌, ◌++◌, append-nil}
use Rattle.std.specs.Prelude.{Option, Some, None}
use lib.ListN.{length, take, drop, length-append, length-take, length-drop, take-append-drop}
use lib.Seq.{take_at, drop_at, take_all}
use Rattle.codec.specs.Bytes.{IsBytes, bytes_at, with_bytes}
use Rattle.codec.specs.Records.{Kind, first_records, records_of, bytes_of, rmaps}
use Rattle.codec.specs.declared.rmap.Rmap.{Rmap}
use Rattle.codec.proofs.Parts.{with_bytes-add}
use Rattle.codec.proofs.FieldLists.{IsBytes-drop}
use Rattle.codec.proofs.RecordLists.{Lawful, length-first_records, length-records_of, first_records-add, length-bytes_of, bytes_of-append, bytes_of-first_records}
use Rattle.codec.proofs.RecordKinds.{rmaps-lawful}
use Rattle.lists.specs.declared.splice.Part.{Part}
use Rattle.lists.specs.declared.splice.Splice.{Splice}
use Rattle.lists.specs.Splice.{between, piece_of, part_of, parts_of, list_of, part_count, PartsGood, SpliceGood}
use Rattle.lists.specs.Inner.Splicing.{Wrote}

-- ---- bytes copied

pub with_bytes-nil : (l : List ℕ) (at : ℕ) → with_bytes l at [] ≡ l
unfolding with_bytes
with_bytes-nil l at = rw (append-nil (take at l), add-zero at) (take-append-drop at l)

-- ---- the bytes of neighbouring records

module _ {R : Type 0} (k : Kind R) (law : Lawful k) where
  between-records : (l : List ℕ) (a b : ℕ) → a ≤ b → b ≤ length l / k.size → take (b - a) (drop a (records_of k l)) ≡ first_records k (b - a) (drop (a * k.size) l)
  unfolding records_of
  between-records l a b h g =
      let n : ℕ = length l / k.size in
      let rest : List ℕ = drop (a * k.size) l in
      let e : n ≡ a + ((b - a) + (n - b)) = omega arith in
      ap (λ (m : ℕ). take (b - a) (drop a (first_records k m l))) e
      ∙ ap (λ (rs : List R). take (b - a) (drop a rs)) (first_records-add k a ((b - a) + (n - b)) l)
      ∙ ap (take (b - a)) (drop_at (first_records k a l) (first_records k ((b - a) + (n - b)) rest) a (length-first_records k a l))
      ∙ ap (take (b - a)) (first_records-add k (b - a) (n - b) rest)
      ∙ take_at (first_records k (b - a) rest) (first_records k (n - b) (drop ((b - a) * k.size) rest)) (b - a) (length-first_records k (b - a) rest)

  pub between-bytes : (l : List ℕ) (a b : ℕ) → a ≤ b → b ≤ length l / k.size → IsBytes l
      → bytes_at l (a * k.size) ((b - a) * k.size) ≡ bytes_of k (take (b - a) (drop a (records_of k l)))
  unfolding bytes_at
  between-bytes l a b h g bytes = rw (between-records l a b h g) (sym (bytes_of-first_records k law (b - a) (drop (a * k.size) l) fits (IsBytes-drop (a * k.size) l bytes)))
    where
      fits : (b - a) * k.size ≤ length (drop (a * k.size) l)
      fits =
          let s : ℕ = k.size in
          let whole : b * s ≤ length l = (le-div_iff_mul-le law.size-pos).0 g in
          let e : (a + (b - a)) * s ≡ a * s + (b - a) * s = add-mul a (b - a) s in
          let f : b * s ≡ (a + (b - a)) * s = ap (λ (n : ℕ). n * s) (omega arith) in
          rw length-drop (omega arith)

pub length-between : (l : List Rmap) (a b : ℕ) → a ≤ b → b ≤ length l → length (between l a b) ≡ b - a
length-between l a b h k = simp (length-take, length-drop) (omega arith)

-- ---- writes one after another

pub bytes-length : (rs : List Rmap) → length (bytes_of rmaps rs) ≡ length rs * 24
bytes-length rs = length-bytes_of rmaps rmaps-lawful rs

pub bytes-append : (rs ts : List Rmap) → length (bytes_of rmaps (rs ++ ts)) ≡ length (bytes_of rmaps rs) + length (bytes_of rmaps ts)
bytes-append rs ts = ap length (bytes_of-append rmaps rmaps-lawful rs ts) ∙ length-append (bytes_of rmaps rs) (bytes_of rmaps ts)

pub wrote_none : (o : List ℕ) (at : ℕ) → Wrote o o at [] at
unfolding bytes_of
wrote_none o at = record { next = sym (add-zero at); bytes = sym (with_bytes-nil o at) }

pub wrote_one : (o o₁ : List ℕ) (at : ℕ) (r : Rmap) → o₁ ≡ with_bytes o at (rmaps.encode r) → Wrote o o₁ at (r ∷ []) (at + 24)
unfolding bytes_of
wrote_one o o₁ at r e =
    record {
      next = rw (bytes-length (r ∷ [])) refl;
      bytes = rw (append-nil (rmaps.encode r)) e;
    }

pub wrote_then : (o o₁ o₂ : List ℕ) (at m n : ℕ) (xs ys : List Rmap) → at + length (bytes_of rmaps xs) ≤ length o → Wrote o o₁ at xs m → Wrote o₁ o₂ m ys n → Wrote o o₂ at (xs ++ ys) n
wrote_then o o₁ o₂ at m n xs ys h a b =
    record {
      next = rw (bytes-append xs ys) (omega (arith, a.next, b.next));
      bytes =
          b.bytes
          ∙ ap₂ (λ (l : List ℕ) (k : ℕ). with_bytes l k (bytes_of rmaps ys)) a.bytes a.next
          ∙ with_bytes-add o at (bytes_of rmaps xs) (bytes_of rmaps ys) h
          ∙ ap (with_bytes o at) (sym (bytes_of-append rmaps rmaps-lawful xs ys));
    }

-- records copied, the j bytes being all of it
pub wrote-between : (o o₁ old : List ℕ) (at a b j : ℕ) → a ≤ b → b ≤ length old / 24 → j ≡ b * 24 - a * 24 → o₁ ≡ with_bytes o at (take j (drop (a * 24) old)) → IsBytes old
    → Wrote o o₁ at (between (records_of rmaps old) a b) (at + j)
unfolding bytes_at
wrote-between o o₁ old at a b j h g e w bytes =
    let n : j ≡ (b - a) * 24 = omega arith in
    let l : List Rmap = records_of rmaps old in
    let long : length (between l a b) ≡ b - a = length-between l a b h (rw (length-records_of rmaps old) g) in
    let same : take j (drop (a * 24) old) ≡ bytes_of rmaps (between l a b) =
    ap (λ (k : ℕ). take k (drop (a * 24) old)) n ∙ between-bytes rmaps rmaps-lawful old a b h g bytes in
    record { next = rw (bytes-length (between l a b), long) (omega arith); bytes = w ∙ ap (with_bytes o at) same }

-- a record written, if there is one
module _ (piece : Option Rmap) where
  pub piece_bytes : (r : Rmap) → piece ≡ Some r → length (bytes_of rmaps (piece_of piece)) ≡ 24
  piece_bytes r h = rw h (bytes-length (r ∷ []))

  pub wrote-piece : (r : Rmap) (o o₁ : List ℕ) (at : ℕ) → piece ≡ Some r → o₁ ≡ with_bytes o at (rmaps.encode r) → Wrote o o₁ at (piece_of piece) (at + 24)
  wrote-piece r o o₁ at h e = rw h (wrote_one o o₁ at r e)

  pub wrote_nothing : (o : List ℕ) (at : ℕ) → piece ≡ None → Wrote o o at (piece_of piece) at
  wrote_nothing o at h = rw h (wrote_none o at)

-- ---- the size of a splice

pub length_part : (l : List Rmap) (p : Part) → p.from ≤ p.to → p.to ≤ length l → length (part_of l p) ≡ part_count p
length_part l p h k =
    length-append (piece_of p.rmap) (between l p.from p.to) ∙ ap (λ (n : ℕ). length (piece_of p.rmap) + n) (length-between l p.from p.to h k)

pub length-parts : (l : List Rmap) (front : ℕ) (first second : Part) (rest : ℕ) → PartsGood (length l) front first second rest
    → length (parts_of l front first second rest) ≡ front + part_count first + part_count second + (length l - rest)
unfolding parts_of
length-parts l front first second rest g =
    let a : length (take front l) ≡ front = simp length-take (omega (arith, g.front)) in
    let b = length_part l first g.first.0 g.first.1 in
    let c = length_part l second g.second.0 g.second.1 in
    let d = length-drop rest l in
    rw (length-append, length-append, length-append, a, b, c, d) refl

pub size-good : (l : List Rmap) (front : ℕ) (first second : Part) (rest size : ℕ) → PartsGood (length l) front first second rest
    → size ≡ (front + part_count first + part_count second + (length l - rest)) * 24
    → SpliceGood l (record { front = front; first = first; second = second; rest = rest; size = size })
size-good l front first second rest size g e =
    record { parts = g; size = e ∙ sym (bytes-length (parts_of l front first second rest) ∙ ap (λ (n : ℕ). n * 24) (length-parts l front first second rest g)) }

-- the bytes of the records from a up to b
pub between-size : (old : List ℕ) (a b : ℕ) → a ≤ b → b ≤ length old / 24 → length (bytes_of rmaps (between (records_of rmaps old) a b)) ≡ (b - a) * 24
between-size old a b h g =
    bytes-length (between (records_of rmaps old) a b) ∙ ap (λ (n : ℕ). n * 24) (length-between (records_of rmaps old) a b h (rw (length-records_of rmaps old) g))

-- a splice's parts lie in the old list, and their bytes are its size
pub record Sizes (old : List ℕ) (p : Splice) : Type 0 where
  pub front : p.front ≤ length old / 24
  pub first : (p.first.from ≤ p.first.to) × (p.first.to ≤ length old / 24)
  pub second : (p.second.from ≤ p.second.to) × (p.second.to ≤ length old / 24)
  pub rest : p.rest ≤ length old / 24
  pub size : p.size
      ≡ p.front * 24 + length (bytes_of rmaps (part_of (records_of rmaps old) p.first)) + length (bytes_of rmaps (part_of (records_of rmaps old) p.second)) + (length old / 24 - p.rest) * 24

pub sizes : (old : List ℕ) (p : Splice) → SpliceGood (records_of rmaps old) p → Sizes old p
unfolding parts_of
sizes old p g =
    let l : List Rmap = records_of rmaps old in
    let n : length l ≡ length old / 24 = length-records_of rmaps old in
    let q = g.parts in
    let a : length (bytes_of rmaps (take p.front l)) ≡ p.front * 24 = bytes-length (take p.front l) ∙ ap (λ (m : ℕ). m * 24) (simp length-take (omega (arith, q.front))) in
    let z : length (bytes_of rmaps (drop p.rest l)) ≡ (length l - p.rest) * 24 = bytes-length (drop p.rest l) ∙ ap (λ (m : ℕ). m * 24) (length-drop p.rest l) in
    let whole = g.size in
    let s₁ = bytes-append (take p.front l ++ part_of l p.first ++ part_of l p.second) (drop p.rest l) in
    let s₂ = bytes-append (take p.front l ++ part_of l p.first) (part_of l p.second) in
    let s₃ = bytes-append (take p.front l) (part_of l p.first) in
    record {
      front = omega (arith, q.front);
      first = (q.first.0, omega (arith, q.first.1));
      second = (q.second.0, omega (arith, q.second.1));
      rest = omega (arith, q.rest);
      size = omega arith;
    }

pub wrote-splice : (old : List ℕ) (p : Splice) (o o₁ o₂ o₃ o₄ : List ℕ) (a b c d : ℕ) → SpliceGood (records_of rmaps old) p → p.size ≤ length o
    → Wrote o o₁ 0 (between (records_of rmaps old) 0 p.front) a → Wrote o₁ o₂ a (part_of (records_of rmaps old) p.first) b
    → Wrote o₂ o₃ b (part_of (records_of rmaps old) p.second) c → Wrote o₃ o₄ c (between (records_of rmaps old) p.rest (length old / 24)) d
    → o₄ ≡ with_bytes o 0 (bytes_of rmaps (list_of (records_of rmaps old) p))
unfolding parts_of
wrote-splice old p o o₁ o₂ o₃ o₄ a b c d g h w₁ w₂ w₃ w₄ =
    let l : List Rmap = records_of rmaps old in
    let s = sizes old p g in
    let x₁ : List Rmap = between l 0 p.front in
    let x₂ : List Rmap = part_of l p.first in
    let x₃ : List Rmap = part_of l p.second in
    let x₄ : List Rmap = between l p.rest (length old / 24) in
    let n₁ = between-size old 0 p.front (omega arith) s.front in
    let e₀ : p.front - 0 ≡ p.front = omega arith in
    let e₁ : x₁ ≡ take p.front l = ap (λ (n : ℕ). take n l) e₀ in
    let e₄ : x₄ ≡ drop p.rest l = take_all (length old / 24 - p.rest) (drop p.rest l) (simp length-drop (omega (arith, length-records_of rmaps old))) in
    let v₂ : Wrote o o₂ 0 (x₁ ++ x₂) b = wrote_then o o₁ o₂ 0 a b x₁ x₂ (omega (arith, s.size)) w₁ w₂ in
    let v₃ : Wrote o o₃ 0 (x₁ ++ x₂ ++ x₃) c = wrote_then o o₂ o₃ 0 b c (x₁ ++ x₂) x₃ (rw (bytes-append x₁ x₂) (omega (arith, s.size))) v₂ w₃ in
    (wrote_then o o₃ o₄ 0 c d (x₁ ++ x₂ ++ x₃) x₄ (rw (bytes-append (x₁ ++ x₂) x₃, bytes-append x₁ x₂) (omega (arith, s.size))) v₃ w₄).bytes
    ∙ ap₂ (λ (y z : List Rmap). with_bytes o 0 (bytes_of rmaps (y ++ x₂ ++ x₃ ++ z))) e₁ e₄
