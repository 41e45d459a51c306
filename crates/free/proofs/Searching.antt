-- Laws of the search of a start in an accepted list by block, and of an extent at the place found.
-- Assumes nothing.
use Prim.Native.Nat.{ℕ, zero, suc, ◌-◌, ◌+◌, ◌/◌, ◌≤◌, ◌<◌}
use native.Mathlib.Nat.{suc-add}
use native.Mathlib.Omega.{arith}
use native.Mathlib.Numerals.{add-one}
use mathlib.Core.Path.{◌≡◌, refl, sym, ap, ap₂, ◌∙◌}
use mathlib.Core.Bool.{Bool, true, false, ◌&&◌}
use mathlib.Core.List.{List, [], ◌∷◌}
use lib.Dec.{ltb, eqb}
use lib.ListN.{length, get_or, take, drop, drop_of_length-le, length-take, length-drop}
use lib.Seq.{drop-cons}
use Rattle.std.specs.List.Sorted.{IsPartitionedBy, IsPartitionPoint}
use Rattle.std.specs.Simd.{first_chunks}
use Rattle.std.proofs.lemmas.List.{get_or-map, get_or-take, get_or-drop, drop-take, length-map}
use Rattle.std.proofs.lemmas.Bool.Decides.{nat_tests}
use borrow.Author.Tests.{lt-ltb, le-ltb}
use Rattle.codec.specs.Bytes.{bytes_at, be_of}
use Rattle.codec.specs.Records.{fields_of, first_records, records_of, free_extents}
use Rattle.codec.specs.declared.free_extent.FreeExtent.{FreeExtent}
use Rattle.free.specs.declared.order.Order.TheVariants.{ByBlock}
use Rattle.free.specs.Free.{least, accepted}
use Rattle.free.specs.Same.{alike, occurs}
use Rattle.free.specs.Inner.Searches.{extents_in, start_of, StartBefore, RangeIs, PlaceIs, is_at, is_in, all_in}
use Rattle.free.proofs.Cases.{split, tests, conj, clash, and-true}
use Rattle.free.proofs.Ordered.{starts-ascend}
use Rattle.free.proofs.Occurring.{occurs-none, occurs-some}

-- ---- starts

module _ (l : List FreeExtent) (start : ℕ) where
  module _ (a : accepted ByBlock l ≡ true) (i : ℕ) (inside : i < length l) where
    -- where one starts before, so do all up to it; where one does not, none from it on does
    pub up_to : (r : ℕ) → r ≡ i + 1 → start_of l i < start → StartBefore l start r
    up_to r e h =
        record {
          within = omega arith;
          below = λ j k. split (ltb j i) (λ f. omega (arith, starts-ascend l a j i (omega tests) inside)) (λ f. let q : j ≡ i = omega tests in rw q h);
        }

    from_on : start ≤ start_of l i → (j : ℕ) → i ≤ j → j < length l → start ≤ start_of l j
    from_on h j k b = split (ltb i j) (λ f. omega (arith, starts-ascend l a i j (omega tests) b)) (λ f. let q : j ≡ i = omega tests in rw q h)

    pub down_to : (low : ℕ) → StartBefore l start low → low ≤ i → start ≤ start_of l i → RangeIs l start low i
    down_to low p k h = record { below = p; wide = k; within = omega arith; from = from_on h }

-- ---- extents in chunks of a list

take_front : (n m : ℕ) (c : List ℕ) → take n (take (n + m) c) ≡ take n c
take_front zero m c = refl
take_front (suc n) m [] = rw suc-add refl
take_front (suc n) m (x ∷ c) = rw suc-add (ap (λ (l : List ℕ). x ∷ l) (take_front n m c))

extent : ℕ → ℕ → FreeExtent
extent s n = record { startblock = s; blockcount = n }

-- a chunk as a call reads it
chunk-read : (c : List ℕ) → free_extents.decode (bytes_at c 0 8) ≡ free_extents.decode c
unfolding bytes_at fields_of extent
chunk-read c =
    ap₂ (λ (x y : List ℕ). extent (be_of x) (be_of y)) (take_front 4 4 c) (ap (take 4) (drop-take 4 4 c) ∙ take_front 4 0 (drop 4 c))

chunks-first : (n : ℕ) (b : List ℕ) → extents_in (first_chunks 8 n b) ≡ first_records free_extents n b
unfolding first_records
chunks-first zero b = refl
chunks-first (suc n) b = ap (λ (l : List FreeExtent). free_extents.decode (take 8 b) ∷ l) (chunks-first n (drop 8 b))

-- the chunks of a list hold its extents
pub chunks-hold : {cs : List (List ℕ)} (b : List ℕ) → cs ≡ first_chunks 8 (length b / 8) b → extents_in cs ≡ records_of free_extents b
unfolding records_of
chunks-hold b e = ap extents_in e ∙ chunks-first (length b / 8) b

-- the extent of a chunk
pub chunk-is : (cs : List (List ℕ)) (i : ℕ) (d : List ℕ) → i < length cs → free_extents.decode (bytes_at (get_or cs i d) 0 8) ≡ get_or (extents_in cs) i least
chunk-is cs i d h = chunk-read (get_or cs i d) ∙ sym (get_or-map free_extents.decode cs i d least h)

module _ (cs : List (List ℕ)) (start : ℕ) where
  -- does a chunk's extent start before a block?
  abbrev pub starts_before : List ℕ → Bool
  starts_before c = ltb (free_extents.decode (bytes_at c 0 8)).startblock start

  module _ (low high : ℕ) (h : high ≤ length cs) where
    part-long : length (take (high - low) (drop low cs)) ≡ high - low
    part-long = simp (length-take, length-drop) (omega arith)

    -- a chunk of a part
    part-start : (i : ℕ) (d : List ℕ) → i < high - low
        → (free_extents.decode (bytes_at (get_or (take (high - low) (drop low cs)) i d) 0 8)).startblock ≡ start_of (extents_in cs) (low + i)
    part-start i d k = rw (get_or-take, get_or-drop) (ap (λ (e : FreeExtent). e.startblock) (chunk-is cs (low + i) d (omega arith)))

    part-at : (i : ℕ) → low ≤ i → i < high → (free_extents.decode (bytes_at (get_or (take (high - low) (drop low cs)) (i - low) []) 0 8)).startblock ≡ start_of (extents_in cs) i
    part-at i a b = part-start (i - low) [] (omega arith) ∙ ap (start_of (extents_in cs)) (let q : low + (i - low) ≡ i = omega arith in q)

    -- those that do come first
    pub parted : accepted ByBlock (extents_in cs) ≡ true → IsPartitionedBy starts_before (take (high - low) (drop low cs))
    parted a i j d k b t =
        let b' : j < high - low = rw part-long at b in
        let f : ltb (free_extents.decode (bytes_at (get_or (take (high - low) (drop low cs)) j d) 0 8)).startblock start ≡ true = t in
        split (ltb i j)
        (λ g. lt-ltb _ start (omega (tests, part-start i d (omega arith), part-start j d b', starts-ascend (extents_in cs) a (low + i) (low + j) (omega tests) (omega (arith, length-map cs free_extents.decode)))))
        (λ g. let q : i ≡ j = omega tests in rw q t)

    pub place-is : (r : ℕ) → RangeIs (extents_in cs) start low high → r ≤ length (take (high - low) (drop low cs))
        → IsPartitionPoint (λ c. starts_before c ≡ true) (λ c. starts_before c ≡ false) (take (high - low) (drop low cs)) r
        → PlaceIs (extents_in cs) start (low + r)
    place-is r p m q =
        let m' : r ≤ high - low = rw part-long at m in
        record {
          below =
              record {
                within = omega (arith, p.wide, p.within);
                below =
                    λ i k. split (ltb i low)
                    (λ f. p.below.below i (omega tests))
                    (λ f. let t : ltb (free_extents.decode (bytes_at (get_or (take (high - low) (drop low cs)) (i - low) []) 0 8)).startblock start ≡ true = q.0 (i - low) [] (omega arith) (omega tests) in
                    omega (tests, part-at i (omega tests) (omega (tests, p.wide))));
              };
          from =
              λ i j k. split (ltb i high)
              (λ f. let t : ltb (free_extents.decode (bytes_at (get_or (take (high - low) (drop low cs)) (i - low) []) 0 8)).startblock start ≡ false = q.1 (i - low) [] (omega arith) (rw part-long (omega tests)) in
              omega (tests, part-at i (omega arith) (omega tests)))
              (λ f. p.from i (omega tests) k);
        }

-- ---- an extent at the place of its start

at_place : (l : List FreeExtent) (e : FreeExtent) → accepted ByBlock l ≡ true → (r : ℕ) → PlaceIs l e.startblock r → is_at e l r ≡ is_in e l
at_place l e a r p =
    split (is_at e l r)
    (λ t. let inside : ltb r (length l) ≡ true = search conj in
    let same : alike e (get_or l r least) ≡ true = search conj in
    t ∙ sym (lt-ltb 0 (occurs e l) (occurs-some e l r (omega tests) same)))
    (λ f. f ∙ sym (le-ltb 0 (occurs e l) (omega (arith, occurs-none e l (elsewhere f)))))
  where
    -- an extent that is alike starts where e does: it is the first that does not start before
    elsewhere : is_at e l r ≡ false → (i : ℕ) → i < length l → alike e (get_or l i least) ≡ false
    elsewhere f i h =
        split (alike e (get_or l i least))
        (λ t. let s : eqb e.startblock (start_of l i) ≡ true = search conj in
        split (ltb i r)
        (λ g. absurd (omega (tests, p.below.below i (omega tests))))
        (λ g. split (ltb r i)
        (λ k. absurd (omega (tests, p.from r (omega arith) (omega tests), starts-ascend l a r i (omega tests) h)))
        (λ k. let q : i ≡ r = omega tests in absurd (clash (is_at e l r) (and-true _ _ (lt-ltb r (length l) (omega arith)) (rw q at t)) f))))
        (λ t. t)

eqb-swap : (a b : ℕ) → eqb a b ≡ eqb b a
eqb-swap a b = grind (arith, nat_tests)

-- the extent that a call read as the i-th
pub here : (l : List FreeExtent) (e x : FreeExtent) (i : ℕ) → i < length l → x ≡ get_or l i least
    → (eqb x.startblock e.startblock && eqb x.blockcount e.blockcount) ≡ is_at e l i
here l e x i h q = ap₂ ◌&&◌ (eqb-swap x.startblock e.startblock) (eqb-swap x.blockcount e.blockcount) ∙ rw (lt-ltb i (length l) h, q) refl

-- ---- each extent of a list in another

module _ (l m : List FreeExtent) (i : ℕ) where
  module _ (x : FreeExtent) (inside : i < length l) (read : x ≡ get_or l i least) where
    all-step : all_in (drop i l) m ≡ (is_in x m && all_in (drop (i + 1) l) m)
    unfolding all_in
    all-step = rw (read, add-one, drop-cons l i least inside)

    module _ (a : accepted ByBlock m ≡ true) (r : ℕ) (p : PlaceIs m x.startblock r) where
      pub all-not : is_at x m r ≡ false → all_in (drop i l) m ≡ false
      all-not h = all-step ∙ rw (← at_place m x a r p, h) refl

      pub all-next : is_at x m r ≡ true → all_in (drop i l) m ≡ all_in (drop (i + 1) l) m
      all-next h = all-step ∙ rw (← at_place m x a r p, h) refl

  pub all_end : length l ≤ i → all_in (drop i l) m ≡ true
  unfolding all_in
  all_end h = rw (drop_of_length-le l {i = i} h)
