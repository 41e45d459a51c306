-- Laws of the answers that records add to.
-- Assumes nothing.
use Rattle.std.proofs.Common.{◌≡◌, ℕ, zero, suc, ◌+◌, ◌-◌, ◌*◌, ◌/◌, ◌<◌, ◌≤◌, ◌&&◌, ltb, leb, List, [], ◌∷◌, ◌++◌, length, get_or, drop, replicate, sym, refl, ap, ◌∙◌, subst, ap₂, add-one, arith, drop_of_length-le}
use lib.ListN.{length-replicate}
use Rattle.codec.specs.Bytes.{bytes_at, with_bytes}
use Rattle.codec.specs.Records.{records_of, rmaps}
use Rattle.codec.specs.declared.rmap.Rmap.{Rmap}
use Rattle.codec.proofs.Stores.{with_bytes-is}
use Rattle.codec.proofs.RecordLists.{records_of-next, length-records_of}
use Rattle.lists.specs.Extent.{within}
use Rattle.lists.specs.Holders.{holders}
use Rattle.lists.proofs.Cases.{split}
use Rattle.lists.proofs.Holders.{holders-append}
use Rattle.lookup.specs.Lookup.{tallies}
use Rattle.lookup.specs.Inner.Tally.{tallied, Room}

-- ---- answers that records add to

pub holders-most : (rs : List Rmap) (a : ℕ) → holders rs a ≤ length rs
unfolding holders within
holders-most [] a = omega arith
holders-most (r ∷ rs) a = let h = holders-most rs a in split (leb r.startblock a && ltb a (r.startblock + r.blockcount)) (λ e. rw e (omega arith)) (λ e. rw e (omega arith))

pub tallied-length : (rs : List Rmap) (asked l : List ℕ) → length (tallied rs asked l) ≡ length l
unfolding tallied
tallied-length rs [] l = refl
tallied-length rs (a ∷ more) [] = refl
tallied-length rs (a ∷ more) (n ∷ l) = ap suc (tallied-length rs more l)

pub tallied-at : (rs : List Rmap) (asked l : List ℕ) (j : ℕ) → j < length l → j < length asked → get_or (tallied rs asked l) j 0 ≡ get_or l j 0 + holders rs (get_or asked j 0)
unfolding tallied
tallied-at rs [] l j h k = absurd (omega arith)
tallied-at rs (a ∷ more) [] j h k = absurd (omega arith)
tallied-at rs (a ∷ more) (n ∷ l) zero h k = refl
tallied-at rs (a ∷ more) (n ∷ l) (suc j) h k = tallied-at rs more l j (omega arith) (omega arith)

pub tallied-past : (rs : List Rmap) (asked l : List ℕ) (j : ℕ) → length asked ≤ j → get_or (tallied rs asked l) j 0 ≡ get_or l j 0
unfolding tallied
tallied-past rs [] l j h = refl
tallied-past rs (a ∷ more) [] j h = refl
tallied-past rs (a ∷ more) (n ∷ l) zero h = absurd (omega arith)
tallied-past rs (a ∷ more) (n ∷ l) (suc j) h = tallied-past rs more l j (omega arith)

pub tallied-most : (rs : List Rmap) (asked l : List ℕ) (j : ℕ) → get_or (tallied rs asked l) j 0 ≤ get_or l j 0 + length rs
unfolding tallied
tallied-most rs [] l j = omega arith
tallied-most rs (a ∷ more) [] j = omega arith
tallied-most rs (a ∷ more) (n ∷ l) zero = omega (arith, holders-most rs a)
tallied-most rs (a ∷ more) (n ∷ l) (suc j) = tallied-most rs more l j

pub tallied-none : (asked l : List ℕ) → tallied [] asked l ≡ l
unfolding tallied holders
tallied-none [] l = refl
tallied-none (a ∷ more) [] = refl
tallied-none (a ∷ more) (n ∷ l) = let e : n + 0 ≡ n = omega arith in ap₂ (λ (x : ℕ) (y : List ℕ). x ∷ y) e (tallied-none more l)

-- some records, then more of them
pub tallied-more : (rs ss : List Rmap) (asked l : List ℕ) → tallied ss asked (tallied rs asked l) ≡ tallied (rs ++ ss) asked l
unfolding tallied
tallied-more rs ss [] l = refl
tallied-more rs ss (a ∷ more) [] = refl
tallied-more rs ss (a ∷ more) (n ∷ l) =
    let e : n + holders rs a + holders ss a ≡ n + holders (rs ++ ss) a = omega (arith, holders-append rs ss a) in
    ap₂ (λ (x : ℕ) (y : List ℕ). x ∷ y) e (tallied-more rs ss more l)

-- added to zeros
tallied-zeros : (rs : List Rmap) (asked more : List ℕ) → tallied rs asked (replicate (length asked) 0 ++ more) ≡ tallies rs asked ++ more
unfolding tallied tallies
tallied-zeros rs [] more = refl
tallied-zeros rs (a ∷ asked) more = let e : 0 + holders rs a ≡ holders rs a = omega arith in ap₂ (λ (x : ℕ) (y : List ℕ). x ∷ y) e (tallied-zeros rs asked more)

tallies-length : (rs : List Rmap) (asked : List ℕ) → length (tallies rs asked) ≡ length asked
unfolding tallies
tallies-length rs [] = refl
tallies-length rs (a ∷ asked) = ap suc (tallies-length rs asked)

pub tallied-start : (rs : List Rmap) (asked l : List ℕ) → tallied rs asked (with_bytes l 0 (replicate (length asked) 0)) ≡ with_bytes l 0 (tallies rs asked)
tallied-start rs asked l =
    let e : length (replicate {A = ℕ} (length asked) 0) ≡ length (tallies rs asked) = length-replicate {A = ℕ} (length asked) 0 ∙ sym (tallies-length rs asked) in
    ap (tallied rs asked) (with_bytes-is l 0 (replicate (length asked) 0))
    ∙ tallied-zeros rs asked (drop (0 + length (replicate {A = ℕ} (length asked) 0)) l)
    ∙ ap (λ (n : ℕ). tallies rs asked ++ drop (0 + n) l) e
    ∙ sym (with_bytes-is l 0 (tallies rs asked))

-- room for one fewer after one record
pub room-less : (n : ℕ) (rs : List Rmap) (asked l : List ℕ) → Room (length rs + n) asked l → Room n asked (tallied rs asked l)
room-less n rs asked l h i b = omega (arith, h i b, tallied-most rs asked l i)

-- one record
pub one-is : (r : Rmap) (a : ℕ) → holders (r ∷ []) a ≡ within r.startblock r.blockcount 1 a
unfolding holders
one-is r a = omega arith

-- ---- the records of a leaf, one after another

pub leaf-next : (b asked l m : List ℕ) (i : ℕ) (r : Rmap) → i < length b / 24 → r ≡ rmaps.decode (bytes_at b (i * 24) 24) → m ≡ tallied (r ∷ []) asked l
    → tallied (drop (i + 1) (records_of rmaps b)) asked m ≡ tallied (drop i (records_of rmaps b)) asked l
leaf-next b asked l m i r h e f =
    let rest : List Rmap = drop (suc i) (records_of rmaps b) in
    ap (λ (n : ℕ). tallied (drop n (records_of rmaps b)) asked m) (add-one i)
    ∙ ap (tallied rest asked) f
    ∙ tallied-more (r ∷ []) rest asked l
    ∙ ap (λ (x : List Rmap). tallied x asked l) (ap (λ (x : Rmap). x ∷ rest) e ∙ sym (records_of-next rmaps b i h))

pub leaf-end : (b asked l : List ℕ) (i : ℕ) → length b / 24 ≤ i → tallied (drop i (records_of rmaps b)) asked l ≡ l
leaf-end b asked l i h =
    ap (λ (x : List Rmap). tallied x asked l) (drop_of_length-le (records_of rmaps b) {i = i} (omega (arith, length-records_of rmaps b, h))) ∙ tallied-none asked l

pub leaf_room : (n i : ℕ) (r : Rmap) (asked l m : List ℕ) → i < n → m ≡ tallied (r ∷ []) asked l → Room (n - i) asked l → Room (n - (i + 1)) asked m
leaf_room n i r asked l m h e k = subst (Room (n - (i + 1)) asked) (sym e) (room-less (n - (i + 1)) (r ∷ []) asked l (λ j b. omega (arith, k j b)))

pub room-one : (n : ℕ) (asked l : List ℕ) → 0 < n → Room n asked l → Room 1 asked l
room-one n asked l h k i b = omega (arith, k i b)
