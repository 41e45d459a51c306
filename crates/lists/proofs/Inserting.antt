-- `insert` by the index of the first record that starts after the extent.
-- Assumes nothing.
use Prim.Native.Nat.{ℕ, suc}
use native.Mathlib.Omega.{arith}
use mathlib.Core.Path.{◌≡◌, refl, ap}
use mathlib.Core.Bool.{true, false}
use mathlib.Core.List.{List, [], ◌∷◌, ◌++◌}
use lib.Dec.{ltb, leb}
use lib.ListN.{get_or, take, drop}
use borrow.Author.Tests.{lt-ltb, le-ltb}
use Rattle.codec.specs.Rmaps.{least}
use Rattle.codec.specs.declared.rmap.Rmap.{Rmap}
use Rattle.lists.specs.RmapEdits.{index_where, attach, insert_after, insert}
use Rattle.lists.proofs.Cases.{split, tests}

abbrev pub after : Rmap → List Rmap → ℕ
after x l = index_where (λ r. ltb x.startblock r.startblock) l

later : (x r : Rmap) → leb r.startblock x.startblock ≡ false → ltb x.startblock r.startblock ≡ true
later x r e = lt-ltb x.startblock r.startblock (omega tests)

sooner : (x r : Rmap) → leb r.startblock x.startblock ≡ true → ltb x.startblock r.startblock ≡ false
sooner x r e = le-ltb x.startblock r.startblock (omega tests)

insert_after-at : (x r : Rmap) (l : List Rmap) → insert_after x r l ≡ take (after x l) (r ∷ l) ++ attach (get_or (r ∷ l) (after x l) least) (attach x (drop (after x l) l))
unfolding insert_after index_where
insert_after-at x r [] = refl
insert_after-at x r (s ∷ l) =
    split (leb s.startblock x.startblock)
    (λ e. rw (e, sooner x s e) (ap (λ (m : List Rmap). r ∷ m) (insert_after-at x s l)))
    (λ e. rw (e, later x s e) refl)

pub insert-at : (x : Rmap) (l : List Rmap) (k : ℕ) → after x l ≡ suc k → insert x l ≡ take k l ++ attach (get_or l k least) (attach x (drop (suc k) l))
unfolding insert index_where
insert-at x [] k h = absurd (omega arith)
insert-at x (r ∷ l) k h =
    split (leb r.startblock x.startblock)
    (λ e. let t : suc (after x l) ≡ suc k = rw (sooner x r e) at h in
    let u : after x l ≡ k = omega arith in
    rw (e, ← u) (insert_after-at x r l))
    (λ e. let t : 0 ≡ suc k = rw (later x r e) at h in absurd (omega arith))

pub insert-front : (x : Rmap) (l : List Rmap) → after x l ≡ 0 → insert x l ≡ attach x l
unfolding insert index_where
insert-front x [] h = refl
insert-front x (r ∷ l) h =
    split (leb r.startblock x.startblock)
    (λ e. let k : suc (after x l) ≡ 0 = rw (sooner x r e) at h in absurd (omega arith))
    (λ e. rw e refl)
