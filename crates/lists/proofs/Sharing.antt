-- `insert` and `insert_shared` by the indices of the records that they join and of the place.
-- Assumes nothing.
use Prim.Native.Nat.{ℕ, zero, suc, ◌+◌, ◌-◌, ◌≤◌, ◌<◌}
use native.Mathlib.Omega.{arith}
use mathlib.Core.Path.{◌≡◌, refl, sym, ap, ◌∙◌}
use mathlib.Core.Bool.{true, false, cond, ◌&&◌}
use mathlib.Core.List.{List, ◌∷◌, ◌++◌}
use mathlib.Core.Option.{Option}
use lib.Dec.{ltb}
use lib.ListN.{length, get_or, take, drop, length-drop}
use lib.Seq.{drop-drop}
use Rattle.codec.specs.Rmaps.{end, before, follows, least}
use Rattle.codec.specs.declared.rmap.Rmap.{Rmap}
use Rattle.std.specs.Prelude.{Some, is_some, unwrap_or}
use Rattle.lists.specs.RmapEdits.{index_where, first, replace, nothing, place, continues, joined, attach, insert, behind, ahead, share_before, share_after, insert_shared}
use Rattle.lists.specs.Splice.{between}
use Rattle.lists.specs.Inner.Searches.{seat}
use Rattle.lists.specs.Inner.Splicing.{join_at, previous}
use Rattle.lists.proofs.Cases.{split, tests}
use Rattle.lists.proofs.Found.{continues-end, replace-none}
use Rattle.lists.proofs.Index.{index-le, index-passes, index_same, index-drop, first_some, first-none, take_out, first_out, take-two}
use Rattle.lists.proofs.RmapOrder.{by_start, by_offset, Accepted, each, ascending, le-start, le-not-before}
use Rattle.lists.proofs.Inserting.{after, insert-at, insert-front}
use Rattle.lists.proofs.Seats.{seat-at, place_out}
use Rattle.lists.proofs.Joining.{low_join, high_join, low_of, high_of, join-out, join-hit, attach-high, attach-low, continues-joined}

-- ---- insert

pub insert-is : (x : Rmap) (l : List Rmap) (at : ℕ) → at ≡ after x l
    → insert x l
    ≡ take (cond (is_some (low_join l (previous at (length l)) (high_of l at x))) (previous at (length l)) at) l
    ++ (low_of l (previous at (length l)) (high_of l at x) ∷ drop (cond (is_some (high_join l at x)) (suc at) at) l)
unfolding previous
insert-is x l zero e =
    insert-front x l (sym e) ∙ attach-high x l 0 (omega arith) ∙ rw (← join-out true l (length l) (high_of l 0 x) (omega arith)) refl
insert-is x l (suc k) e =
    let le : suc k ≤ length l = omega (arith, index-le (λ r. ltb x.startblock r.startblock) l) in
    insert-at x l k (sym e)
    ∙ ap (λ (m : List Rmap). take k l ++ attach (get_or l k least) m) (attach-high x l (suc k) le)
    ∙ attach-low l k (high_of l (suc k) x) (drop (cond (is_some (high_join l (suc k) x)) (suc (suc k)) (suc k)) l) (omega arith)

-- ---- insert_shared

-- the first record that x continues, and the first that continues x
abbrev pub low_index : Rmap → List Rmap → ℕ
low_index x l = index_where (λ r. continues r x) l

abbrev pub high_index : Rmap → List Rmap → ℕ
high_index y l = index_where (λ r. continues y r) l

-- the first found, joined to x, is the join by index
pub low-found : (l : List Rmap) (x : Rmap) → low_index x l < length l → Some (joined (get_or l (low_index x l) least) x) ≡ low_join l (low_index x l) x
low-found l x h = join-hit true l (low_index x l) x (get_or l (low_index x l) least) h refl (index-passes (λ r. continues r x) l h)

pub high-found : (l : List Rmap) (y : Rmap) → high_index y l < length l → Some (joined y (get_or l (high_index y l) least)) ≡ high_join l (high_index y l) y
high-found l y h = join-hit false l (high_index y l) y (get_or l (high_index y l) least) h refl (index-passes (λ r. continues y r) l h)

ahead-is : (l : List Rmap) (y : Rmap) → ahead (first (continues y) l) y ≡ high_of l (high_index y l) y
unfolding ahead
ahead-is l y =
    split (ltb (high_index y l) (length l))
    (λ e. let h : high_index y l < length l = omega tests in rw (first_some (continues y) l h, ← high-found l y h) refl)
    (λ e. let h : length l ≤ high_index y l = omega tests in rw (first-none (continues y) l h, ← join-out false l (high_index y l) y h) refl)

behind-is : (l : List Rmap) (x : Rmap) → behind (first (λ r. continues r x) l) x ≡ low_of l (low_index x l) x
unfolding behind
behind-is l x =
    split (ltb (low_index x l) (length l))
    (λ e. let h : low_index x l < length l = omega tests in rw (first_some (λ r. continues r x) l h, ← low-found l x h) refl)
    (λ e. let h : length l ≤ low_index x l = omega tests in rw (first-none (λ r. continues r x) l h, ← join-out true l (low_index x l) x h) refl)

-- the join before a record keeps the key
high-key : (l : List Rmap) (i : ℕ) (y : Rmap)
    → ((high_of l i y).startblock ≡ y.startblock) × ((high_of l i y).owner ≡ y.owner) × ((high_of l i y).offset ≡ y.offset)
unfolding join_at
high-key l i y = split (ltb i (length l) && continues y (get_or l i least)) (λ e. rw e (refl, refl, refl)) (λ e. rw e (refl, refl, refl))

-- what continues y does not stand before what starts with it
past : (y z r : Rmap) → z.startblock ≡ y.startblock → 0 < y.blockcount → continues y r ≡ true → before r z ≡ false
past y z r k n e = le-not-before z r (by_start (omega (arith, continues-end y r e)))

-- the records behind a place, two left out
from-two : (l : List Rmap) (p i j : ℕ) → p ≤ i → i < j
    → take (i - p) (drop p l) ++ take (j - p - suc (i - p)) (drop (suc (i - p)) (drop p l)) ++ drop (suc (j - p)) (drop p l) ≡ between l p i ++ between l (i + 1) j ++ drop (j + 1) l
from-two l p i j h k =
    let a : p + suc (i - p) ≡ i + 1 = omega arith in
    let b : j - p - suc (i - p) ≡ j - (i + 1) = omega arith in
    let c : p + suc (j - p) ≡ j + 1 = omega arith in
    rw (drop-drop (suc (i - p)) p l, drop-drop (suc (j - p)) p l, a, b, c) refl

from_one : (l : List Rmap) (p j : ℕ) → p ≤ j → take (j - p) (drop p l) ++ drop (suc (j - p)) (drop p l) ≡ between l p j ++ drop (j + 1) l
from_one l p j h =
    let c : p + suc (j - p) ≡ j + 1 = omega arith in
    rw (drop-drop (suc (j - p)) p l, c) refl

-- a record of the list is joined in front
module _ (x : Rmap) (l : List Rmap) (acc : Accepted l) (i : ℕ) (ei : i ≡ low_index x l) (hi : i < length l) where
  abbrev y : Rmap
  y = joined (get_or l i least) x

  abbrev j : ℕ
  j = high_index y l

  abbrev z : Rmap
  z = high_of l j y

  pos : 0 < y.blockcount
  pos = omega (arith, (each least l i acc hi).0.0)

  -- what continues x continues y
  pub high_same : high_index x l ≡ j
  high_same =
      let c : continues (get_or l i least) x ≡ true = rw ei (index-passes (λ r. continues r x) l (rw ei at hi)) in
      index_same (λ r. continues x r) (λ r. continues y r) l (λ r. sym (continues-joined (get_or l i least) x r c))

  -- nothing up to i starts at the end of y
  pub low-before-high : i < j
  low-before-high =
      split (ltb i j)
      (λ e. omega tests)
      (λ e.
      let le : j ≤ i = omega tests in
      let in_list : j < length l = omega arith in
      let meets : end y ≡ (get_or l j least).startblock = continues-end y (get_or l j least) (index-passes (λ r. continues y r) l in_list) in
      split (ltb j i)
      (λ f. let up : (get_or l j least).startblock ≤ (get_or l i least).startblock = le-start (ascending 0 0 0 least l j i acc (omega tests) hi) in absurd (omega (arith, pos)))
      (λ f. let same : j ≡ i = omega tests in
      let up : (get_or l j least).startblock ≡ (get_or l i least).startblock = ap (λ (n : ℕ). (get_or l n least).startblock) same in
      absurd (omega (arith, pos))))

  pub seat-before-low : seat z l ≤ i
  seat-before-low =
      let k = high-key l j y in
      seat-at z l i hi (le-not-before z (get_or l i least) (by_offset k.0 k.1 (rw k.2 (omega arith))))

  pub share-joined : insert_shared x l ≡ take (seat z l) l ++ (z ∷ (between l (seat z l) i ++ between l (i + 1) j ++ drop (j + 1) l))
  share-joined =
      let p : ℕ = seat z l in
      let m : List Rmap = replace (λ r. continues r x) nothing l in
      let low : share_before x l ≡ y = behind-is l x ∙ ap (λ o. unwrap_or o x) (sym (low-found l x (rw ei at hi))) ∙ rw (← ei) refl in
      let lt : low_index x l < j = rw (← ei) low-before-high in
      let high : ahead (first (continues y) m) y ≡ z = ap (λ (o : Option Rmap). ahead o y) (first_out (continues y) (λ r. continues r x) l lt) ∙ ahead-is l y in
      let fits : p ≤ low_index x l = rw (← ei) seat-before-low in
      let dq : low_index x (drop p l) ≡ i - p = index-drop (λ r. continues r x) l p fits ∙ rw (← ei) refl in
      let dp : high_index y (drop p l) ≡ j - p = index-drop (continues y) l p (omega (arith, seat-before-low, low-before-high)) in
      let two : replace (continues y) nothing (replace (λ r. continues r x) nothing (drop p l)) ≡ between l p i ++ between l (i + 1) j ++ drop (j + 1) l =
      take-two (continues y) (λ r. continues r x) (drop p l) (omega (arith, seat-before-low, low-before-high, dq, dp))
      ∙ rw (dq, dp) (from-two l p i j seat-before-low low-before-high) in
      ap (λ (w : Rmap). share_after w m) low
      ∙ ap (λ (w : Rmap). place w (replace (continues y) nothing m)) high
      ∙ place_out z (continues y) (λ r. continues r x) 0 0 0 l acc (λ r e. past y z r (high-key l j y).0 pos e) fits
      ∙ ap (λ (m : List Rmap). take p l ++ (z ∷ m)) two

-- no record of the list is joined in front
module _ (x : Rmap) (l : List Rmap) (acc : Accepted l) (gx : 0 < x.blockcount) (hi : length l ≤ low_index x l) where
  abbrev j₀ : ℕ
  j₀ = high_index x l

  abbrev z₀ : Rmap
  z₀ = high_of l j₀ x

  pub seat-before-high : seat z₀ l ≤ j₀
  seat-before-high =
      split (ltb j₀ (length l))
      (λ e. let lt : j₀ < length l = omega tests in
      seat-at z₀ l j₀ lt (past x z₀ (get_or l j₀ least) (high-key l j₀ x).0 gx (index-passes (continues x) l lt)))
      (λ e. omega (tests, index-le (follows z₀) l))

  pub share-alone : insert_shared x l ≡ take (seat z₀ l) l ++ (z₀ ∷ (between l (seat z₀ l) j₀ ++ drop (j₀ + 1) l))
  share-alone =
      let p : ℕ = seat z₀ l in
      let m : List Rmap = replace (λ r. continues r x) nothing l in
      let le : p ≤ length l = index-le (follows z₀) l in
      let low : share_before x l ≡ x = behind-is l x ∙ ap (λ o. unwrap_or o x) (sym (join-out true l (low_index x l) x hi)) in
      let same : m ≡ l = replace-none (λ r. continues r x) nothing l (first-none (λ r. continues r x) l hi) in
      let dq : low_index x (drop p l) ≡ low_index x l - p = index-drop (λ r. continues r x) l p (omega arith) in
      let dp : high_index x (drop p l) ≡ j₀ - p = index-drop (continues x) l p seat-before-high in
      let one : replace (continues x) nothing (replace (λ r. continues r x) nothing (drop p l)) ≡ between l p j₀ ++ drop (j₀ + 1) l =
      ap (replace (continues x) nothing)
      (replace-none (λ r. continues r x) nothing (drop p l) (first-none (λ r. continues r x) (drop p l) (omega (arith, dq, length-drop p l))))
      ∙ take_out (continues x) (drop p l)
      ∙ rw dp (from_one l p j₀ seat-before-high) in
      ap (λ (w : Rmap). share_after w m) low
      ∙ ap (λ (w : Rmap). place w (replace (continues x) nothing m)) (ap (λ (l : List Rmap). ahead (first (continues x) l) x) same ∙ ahead-is l x)
      ∙ place_out z₀ (continues x) (λ r. continues r x) 0 0 0 l acc (λ r e. past x z₀ r (high-key l j₀ x).0 gx e) (omega arith)
      ∙ ap (λ (m : List Rmap). take p l ++ (z₀ ∷ m)) one
