-- Where a record goes in a list in order, by index.
-- Assumes nothing.
use Prim.Native.Nat.{ℕ, suc, ◌≤◌, ◌<◌}
use native.Mathlib.Omega.{arith}
use mathlib.Core.Path.{◌≡◌, refl, ap}
use mathlib.Core.Bool.{Bool, true, false, not}
use mathlib.Core.List.{List, [], ◌∷◌, ◌++◌}
use lib.Dec.{ltb}
use lib.ListN.{length, get_or, take, drop}
use Rattle.codec.specs.Rmaps.{before, follows, least}
use Rattle.codec.specs.declared.rmap.Rmap.{Rmap}
use Rattle.lists.specs.RmapEdits.{index_where, replace, nothing, place}
use Rattle.lists.specs.Inner.Searches.{seat}
use Rattle.lists.proofs.Cases.{split, tests, not-false}
use Rattle.lists.proofs.Index.{index-first, index-passes}
use Rattle.lists.proofs.RmapOrder.{le_trans, Accepted, ascending, After, Acc, acc-replace, acc-nothing, not-before-le, le-not-before}

-- a record at a lower index stands before what a later one stands before
pub below : (z : Rmap) (l : List Rmap) (i j : ℕ) → Accepted l → i ≤ j → j < length l → before (get_or l i least) z ≡ false → before (get_or l j least) z ≡ false
below z l i j acc h k e =
    split (ltb i j)
    (λ f. le-not-before z (get_or l j least) (le_trans (not-before-le z (get_or l i least) e) (ascending 0 0 0 least l i j acc (omega tests) k)))
    (λ f. let s : i ≡ j = omega tests in rw (← s) e)

-- the two steps of a search by halves
pub seat-past : (z : Rmap) (l : List Rmap) (i : ℕ) → Accepted l → i < length l → before (get_or l i least) z ≡ true → i < seat z l
unfolding follows
seat-past z l i acc h e =
    split (ltb i (seat z l))
    (λ f. omega tests)
    (λ f. let le : seat z l ≤ i = omega tests in
    let t : before (get_or l (seat z l) least) z ≡ false = not-false (before (get_or l (seat z l) least) z) (index-passes (follows z) l (omega arith)) in
    let u : before (get_or l i least) z ≡ false = below z l (seat z l) i acc le h t in
    let y : ◌≡◌ {A = ℕ} 0 1 = cc in absurd (omega arith))

pub seat-at : (z : Rmap) (l : List Rmap) (i : ℕ) → i < length l → before (get_or l i least) z ≡ false → seat z l ≤ i
unfolding follows
seat-at z l i h e = index-first (follows z) l i h (ap not e)

-- a record goes before what does not stand before it
place-front : (z : Rmap) (l : List Rmap) → After z l → place z l ≡ z ∷ l
unfolding place
place-front z [] h = refl
place-front z (r ∷ l) h = rw (le-not-before z r h.1) refl

-- the place by index
pub place_at : (z : Rmap) (l : List Rmap) → place z l ≡ take (seat z l) l ++ (z ∷ drop (seat z l) l)
unfolding place index_where follows
place_at z [] = refl
place_at z (r ∷ l) = split (before r z) (λ e. rw e (ap (λ (m : List Rmap). r ∷ m) (place_at z l))) (λ e. rw e refl)

-- a record passes those that stand before it
pub place-past : (z : Rmap) (a b : List Rmap) → ((i : ℕ) → i < length a → before (get_or a i least) z ≡ true) → place z (a ++ b) ≡ a ++ place z b
unfolding place
place-past z [] b h = refl
place-past z (r ∷ a) b h = rw (h 0 (omega arith)) (ap (λ (m : List Rmap). r ∷ m) (place-past z a b (λ i q. h (suc i) (omega arith))))

-- the records taken out do not stand before z: the place of z is that in the whole list
pub place_out : (z : Rmap) (p q : Rmap → Bool) (a b c : ℕ) (l : List Rmap) → Acc a b c l → ((r : Rmap) → p r ≡ true → before r z ≡ false) → seat z l ≤ index_where q l
    → place z (replace p nothing (replace q nothing l)) ≡ take (seat z l) l ++ (z ∷ replace p nothing (replace q nothing (drop (seat z l) l)))
unfolding place replace index_where follows
place_out z p q a b c [] h k s = refl
place_out z p q a b c (r ∷ l) h k s =
    split (before r z)
    (λ e. split (q r)
    (λ f. let t : suc (seat z l) ≤ 0 = rw (e, f) at s in absurd (omega arith))
    (λ f. let t : suc (seat z l) ≤ suc (index_where q l) = rw (e, f) at s in
    split (p r)
    (λ g. let y : ◌≡◌ {A = ℕ} 0 1 = cc (k r g) in absurd (omega arith))
    (λ g. rw (f, g, e) (ap (λ (m : List Rmap). r ∷ m) (place_out z p q _ _ _ l h.2 k (omega arith))))))
    (λ e. rw e (place-front z (replace p nothing (replace q nothing (r ∷ l)))
    (acc-replace z p nothing (acc-nothing p) (replace q nothing (r ∷ l)) (acc-replace z q nothing (acc-nothing q) (r ∷ l) (h.0, not-before-le z r e, h.2)))))
