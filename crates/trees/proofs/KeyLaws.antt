-- Laws of the keys of a child: records in a part of a list, the greatest key record by record, and a record that is good.
-- Assumes nothing.
use Prim.Native.Nat.{ℕ, zero, suc, ◌+◌, ◌-◌, ◌*◌, ◌/◌, ◌%◌, ◌^◌, ◌≤◌, ◌<◌}
use native.Mathlib.Nat.{mul-div_cancel, zero-add, add-mul, mul-le-mul_right, div-mul-le_self, div-add-mod'}
use native.Mathlib.Numerals.{add-one}
use native.Mathlib.Omega.{arith}
use mathlib.Core.Path.{◌≡◌, refl, sym, ap, ap₂, ◌∙◌, subst}
use mathlib.Core.Bool.{Bool, true, false, ◌&&◌, ◌||◌}
use mathlib.Core.List.{List, [], ◌∷◌, ◌++◌}
use lib.Dec.{ltb, leb}
use lib.ListN.{length, get_or, take, drop, length-drop}
use lib.Seq.{take_at, drop_at, length-take-le}
use borrow.Author.Tests.{ltb-true, leb-true}
use Rattle.codec.specs.Bytes.{bytes_at, with_bytes}
use Rattle.codec.specs.Records.{Kind, first_records, records_of, rmaps}
use Rattle.codec.specs.Rmaps.{end, file_offset, exempt, good, follows, accepted, least}
use Rattle.codec.specs.Accepted.{in_order}
use Rattle.codec.specs.declared.rmap.Rmap.{Rmap}
use Rattle.codec.proofs.FieldLists.{length-field_bytes}
use Rattle.codec.proofs.Parts.{bytes_at-bytes_at, with_bytes-add}
use Rattle.codec.proofs.RecordLists.{length-first_records, first_records-add, first_records-ext, records_of-next, get_d-records_of, length-records_of}
use Rattle.trees.specs.declared.keys.RmapKey.{RmapKey}
use Rattle.trees.specs.Keys.{key_widths, key_bytes, low_key, high_key, key_below, greater, greatest, lowest, highest, rmap_keys, records_between, AllGood}

-- ---- a good record

both : (a b : Bool) → a && b ≡ true → (a ≡ true) × (b ≡ true)
both true b e = (refl, e)
both false b e = let z : ◌≡◌ {A = ℕ} 0 1 = cc in absurd (omega arith)

pub good-means : (r : Rmap) → good r ≡ true → (0 < r.blockcount) × (r.startblock + r.blockcount ≤ 2 ^ 31) × (exempt r ≡ false → r.offset % 2 ^ 54 + r.blockcount ≤ 2 ^ 54)
unfolding good
good-means r e =
    let a = both (ltb 0 r.blockcount) _ e in
    let b = both (leb (end r) (2 ^ 31)) _ a.1 in (
      ltb-true 0 r.blockcount a.0,
      leb-true (end r) (2 ^ 31) b.0,
      λ f. leb-true (file_offset r + r.blockcount) (2 ^ 54) (subst (λ (t : Bool). t || leb (file_offset r + r.blockcount) (2 ^ 54) ≡ true) f b.1),
    )

-- ---- high keys

module _ (r : Rmap) where
  pub high-exempt : exempt r ≡ true → record { start = r.startblock + (r.blockcount - 1); owner = r.owner; offset = r.offset } ≡ high_key r
  unfolding high_key
  high-exempt e = rw e

  pub high-plain : exempt r ≡ false → record { start = r.startblock + (r.blockcount - 1); owner = r.owner; offset = r.offset + (r.blockcount - 1) } ≡ high_key r
  unfolding high_key
  high-plain e = rw e

pub high_fits : (o n : ℕ) → o < 2 ^ 64 → o % 2 ^ 54 + n ≤ 2 ^ 54 → o + (n - 1) < 2 ^ 64
high_fits o n h e = omega (arith, div-add-mod' o (2 ^ 54))

module _ (j k : RmapKey) where
  pub greater-old : key_below k j ≡ true → j ≡ greater j k
  unfolding greater
  greater-old e = rw e

  pub greater-new : key_below k j ≡ false → k ≡ greater j k
  unfolding greater
  greater-new e = rw e

-- ---- an accepted list

-- every record of an accepted list is good
in-order-good : (q : Rmap) (rs : List Rmap) (d : Rmap) → in_order good follows q rs ≡ true → (i : ℕ) → i < length rs → good (get_or rs i d) ≡ true
unfolding in_order
in-order-good q [] d e i h = absurd (omega arith)
in-order-good q (r ∷ rs) d e zero h = (both (good r) _ e).0
in-order-good q (r ∷ rs) d e (suc i) h = in-order-good r rs d (both (follows q r) _ (both (good r) _ e).1).1 i (omega arith)

pub accepted-good : (l : List ℕ) → accepted (records_of rmaps l) ≡ true → AllGood l
accepted-good l e i h =
    ap good (sym (get_d-records_of rmaps l i least h)) ∙ in-order-good least (records_of rmaps l) least e i (omega (arith, length-records_of rmaps l))

-- ---- the records in a part of a list of bytes

module _ {R : Type 0} (k : Kind R) where
  -- the first n records are those of any list that begins with their bytes
  first-take : (n : ℕ) (l : List ℕ) → first_records k n (take (n * k.size) l) ≡ first_records k n l
  unfolding bytes_at
  first-take n l = first_records-ext k n (take (n * k.size) l) l (λ i h. let e : suc i ≤ n = h in bytes_at-bytes_at l 0 (n * k.size) (i * k.size) k.size (omega (arith, mul-le-mul_right k.size e)) ∙ ap (λ (x : ℕ). bytes_at l x k.size) (zero-add (i * k.size)))

  pub records-part : (l : List ℕ) (a b : ℕ) → 0 < k.size → a ≤ b → b ≤ length l / k.size
      → records_of k (bytes_at l (a * k.size) (b * k.size - a * k.size)) ≡ records_between k l a b
  unfolding records_of bytes_at
  records-part l a b some h e =
      let s : ℕ = k.size in
      let n : ℕ = b - a in
      let m : ℕ = length l / s - b in
      let bs : b * s ≤ length l = omega (arith, mul-le-mul_right s e, div-mul-le_self (length l) s) in
      let ns : b * s - a * s ≡ n * s = let d : b ≡ a + n = omega arith in omega (arith, ap (λ (x : ℕ). x * s) d, add-mul a n s) in
      let all : length l / s ≡ a + (n + m) = omega arith in
      let len : length (take (b * s - a * s) (drop (a * s) l)) ≡ n * s = length-take-le (b * s - a * s) (drop (a * s) l) (omega (arith, length-drop (a * s) l)) ∙ ns in
      let whole : drop a (first_records k (length l / s) l) ≡ first_records k (n + m) (drop (a * s) l) =
      ap (λ (x : ℕ). drop a (first_records k x l)) all
      ∙ ap (drop a) (first_records-add k a (n + m) l)
      ∙ drop_at (first_records k a l) (first_records k (n + m) (drop (a * s) l)) a (length-first_records k a l) in
      ap (λ (x : ℕ). first_records k x (take (b * s - a * s) (drop (a * s) l))) (ap (λ (x : ℕ). x / s) len ∙ mul-div_cancel n some)
      ∙ ap (λ (x : ℕ). first_records k n (take x (drop (a * s) l))) ns
      ∙ first-take n (drop (a * s) l)
      ∙ sym
      (ap (take n) (whole ∙ first_records-add k n m (drop (a * s) l))
      ∙ take_at (first_records k n (drop (a * s) l)) (first_records k m (drop (n * s) (drop (a * s) l))) n (length-first_records k n (drop (a * s) l)))

  pub between_next : (l : List ℕ) (a b : ℕ) → a < b → b ≤ length l / k.size
      → records_between k l a b ≡ k.decode (bytes_at l (a * k.size) k.size) ∷ records_between k l (a + 1) b
  between_next l a b h e =
      let less : b - a ≡ suc (b - (a + 1)) = omega arith in
      rw (less, records_of-next k l a (omega arith), add-one a)

-- ---- the greatest key, record by record

pub highest-first : (l : List ℕ) (a b : ℕ) (h : RmapKey) → a < b → b ≤ length l / 24
    → h ≡ high_key (rmaps.decode (bytes_at l (a * 24) 24))
    → highest (records_between rmaps l a b) ≡ greatest h (records_between rmaps l (a + 1) b)
highest-first l a b h lt le e =
    ap highest (between_next rmaps l a b lt le) ∙ ap (λ (x : RmapKey). greatest x (records_between rmaps l (a + 1) b)) (sym e)

pub greatest-next : (l : List ℕ) (a b : ℕ) (k h : RmapKey) → a < b → b ≤ length l / 24
    → h ≡ greater k (high_key (rmaps.decode (bytes_at l (a * 24) 24)))
    → greatest k (records_between rmaps l a b) ≡ greatest h (records_between rmaps l (a + 1) b)
unfolding greatest
greatest-next l a b k h lt le e =
    ap (greatest k) (between_next rmaps l a b lt le) ∙ ap (λ (x : RmapKey). greatest x (records_between rmaps l (a + 1) b)) (sym e)

pub greatest-end : (l : List ℕ) (a b : ℕ) (k : RmapKey) → b ≤ a → greatest k (records_between rmaps l a b) ≡ k
unfolding greatest
greatest-end l a b k h = let z : b - a ≡ 0 = omega arith in rw z

-- ---- keys written

pub key-length : (k : RmapKey) → length (key_bytes k) ≡ 20
key-length k = length-field_bytes key_widths (k.start ∷ k.owner ∷ k.offset ∷ [])

-- a low key, and a high key after it
pub keys-put : (l records : List ℕ) (at from to : ℕ) (low high : RmapKey) → at + 40 ≤ length l → from < to → to ≤ length records / 24
    → low ≡ low_key (rmaps.decode (bytes_at records (from * 24) 24)) → high ≡ highest (records_between rmaps records from to)
    → with_bytes (with_bytes l at (key_bytes low)) (at + 20) (key_bytes high) ≡ with_bytes l at (rmap_keys (records_between rmaps records from to))
unfolding rmap_keys
keys-put l records at from to low high h lt le e f =
    let n : length (key_bytes low) ≡ 20 = key-length low in
    ap (λ (x : ℕ). with_bytes (with_bytes l at (key_bytes low)) (at + x) (key_bytes high)) (sym n)
    ∙ with_bytes-add l at (key_bytes low) (key_bytes high) (omega arith)
    ∙ ap₂ (λ (x y : RmapKey). with_bytes l at (key_bytes x ++ key_bytes y)) (e ∙ sym (ap lowest (between_next rmaps records from to lt le))) f
