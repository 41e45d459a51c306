-- The keys that build writes are theirs, on the starts: the low key's is the first record's, the high key's the furthest block.
-- Assumes nothing.
use Rattle.std.proofs.Common.{◌≡◌, ℕ, ◌+◌, ◌-◌, ◌^◌, ◌<◌, ◌≤◌, true, false, eqb, ltb, List, [], ◌∷◌, ◌++◌, take, drop, sym, refl, ap, ◌∙◌, subst, append_assoc, append-nil, arith, take_at, drop_at}
use Rattle.codec.specs.Bytes.{be_of, be_bytes}
use Rattle.codec.specs.Records.{field_bytes}
use Rattle.codec.specs.Rmaps.{accepted, least}
use Rattle.codec.specs.declared.rmap.Rmap.{Rmap}
use Rattle.codec.proofs.Numbers.{length-be_bytes, be_of-be_bytes-lt}
use Rattle.trees.specs.Keys.{key_widths, key_bytes, high_key, key_below, lowest, highest, rmap_keys}
use Rattle.trees.specs.HighKeys.{NoneAbove}
use Rattle.trees.proofs.KeyLaws.{key-length}
use Rattle.trees.proofs.HighestKeys.{every-highest}
use Rattle.lists.proofs.Cases.{split, tests}
use Rattle.lists.proofs.RmapOrder.{Acc, after-facts}
use Rattle.lookup.specs.Claims.{furthest, Theirs}

-- ---- records with a count, that end within 2^31

abbrev pub Bounded : List Rmap → Type 0
Bounded [] = Unit {0}
Bounded (r ∷ rs) = (0 < r.blockcount) × (r.startblock + r.blockcount ≤ 2 ^ 31) × Bounded rs

acc-bounded : (a b c : ℕ) (rs : List Rmap) → Acc a b c rs → Bounded rs
acc-bounded a b c [] h = tt
acc-bounded a b c (r ∷ rs) h = (h.0.0, h.0.1, acc-bounded r.startblock r.owner r.offset rs h.2)

pub accepted-bounded : (rs : List Rmap) → accepted rs ≡ true → Bounded rs
accepted-bounded rs e = acc-bounded 0 0 0 rs (after-facts least rs e)

pub bounded-left : (xs ys : List Rmap) → Bounded (xs ++ ys) → Bounded xs
bounded-left [] ys h = tt
bounded-left (x ∷ xs) ys h = (h.0, h.1, bounded-left xs ys h.2)

pub bounded-right : (xs ys : List Rmap) → Bounded (xs ++ ys) → Bounded ys
bounded-right [] ys h = h
bounded-right (x ∷ xs) ys h = bounded-right xs ys h.2

pub bounded-both : (xs ys : List Rmap) → Bounded xs → Bounded ys → Bounded (xs ++ ys)
bounded-both [] ys h k = k
bounded-both (x ∷ xs) ys h k = (h.0, h.1, bounded-both xs ys h.2 k)

furthest-small : (rs : List Rmap) → Bounded rs → furthest rs < 2 ^ 31
unfolding furthest
furthest-small [] h = omega arith
furthest-small (r ∷ rs) h = omega (arith, h.0, h.1, furthest-small rs h.2)

-- ---- the highest key starts at the furthest block

not-before : (all : List Rmap) (r : Rmap) → key_below (highest all) (high_key r) ≡ false → r.startblock + (r.blockcount - 1) ≤ (highest all).start
unfolding key_below high_key
not-before all r e =
    split (eqb (highest all).start (r.startblock + (r.blockcount - 1)))
    (λ f. omega tests)
    (λ f. let h : ltb (highest all).start (r.startblock + (r.blockcount - 1)) ≡ false = rw f at e in omega tests)

none-beyond : (all rs : List Rmap) → NoneAbove (highest all) rs → furthest rs ≤ (highest all).start
unfolding furthest
none-beyond all [] h = omega arith
none-beyond all (r ∷ rs) h = omega (arith, not-before all r h.0, none-beyond all rs h.1)

reached : (before later : List Rmap) (top : Rmap) → top.startblock + top.blockcount - 1 ≤ furthest (before ++ (top ∷ later))
unfolding furthest
reached [] later top = omega arith
reached (r ∷ before) later top = omega (arith, reached before later top)

highest-start : (r : Rmap) (rs : List Rmap) → Bounded (r ∷ rs) → (highest (r ∷ rs)).start ≡ furthest (r ∷ rs)
unfolding high_key
highest-start r rs h =
    let k = every-highest r rs in
    let top : Rmap = k.top in
    let is : (highest (r ∷ rs)).start ≡ top.startblock + (top.blockcount - 1) = rw k.key refl in
    let some : 0 < top.blockcount = (bounded-right k.before (top ∷ k.later) (subst Bounded k.stands h)).0 in
    let most : top.startblock + top.blockcount - 1 ≤ furthest (r ∷ rs) = rw k.stands (reached k.before k.later top) in
    omega (arith, none-beyond (r ∷ rs) (r ∷ rs) k.none_above)

-- ---- the starts in the bytes of the keys

key-start : (start owner offset : ℕ) (more : List ℕ) → start < 2 ^ 32 → be_of (take 4 (field_bytes key_widths (start ∷ owner ∷ offset ∷ []) ++ more)) ≡ start
unfolding field_bytes
key-start start owner offset more h =
    ap (λ (l : List ℕ). be_of (take 4 l)) (append_assoc (be_bytes 4 start) _ more)
    ∙ ap be_of (take_at (be_bytes 4 start) _ 4 (length-be_bytes 4 start))
    ∙ be_of-be_bytes-lt 4 start h

pub keys-theirs : (rs : List Rmap) → Bounded rs → Theirs (be_of (take 4 (rmap_keys rs))) (be_of (take 4 (drop 20 (rmap_keys rs)))) rs
unfolding rmap_keys
keys-theirs [] h = tt
keys-theirs (r ∷ rs) h =
    let low = lowest (r ∷ rs) in
    let high = highest (r ∷ rs) in
    let furthest-is : high.start ≡ furthest (r ∷ rs) = highest-start r rs h in
    let after : drop 20 (key_bytes low ++ key_bytes high) ≡ key_bytes high ++ [] = drop_at (key_bytes low) (key_bytes high) 20 (key-length low) ∙ sym (append-nil (key_bytes high)) in (
      key-start r.startblock r.owner r.offset (key_bytes high) (omega (arith, h.0, h.1)),
      ap (λ (l : List ℕ). be_of (take 4 l)) after ∙ key-start high.start high.owner high.offset [] (omega (arith, furthest-small (r ∷ rs) h)) ∙ furthest-is,
    )
