-- What is found first in a list, and the record that a removal cuts.
-- Assumes nothing.
use Prim.Native.Nat.{ℕ, ◌≤◌, ◌<◌}
use mathlib.Core.Bool.{Bool, true, false, ◌&&◌}
use mathlib.Core.Path.{◌≡◌, refl, ap, ◌∙◌}
use mathlib.Core.List.{List, [], ◌∷◌}
use mathlib.Core.Option.{Option, none, some}
use native.Mathlib.Omega.{arith}
use lib.Dec.{ltb, leb, eqb}
use Rattle.codec.specs.Rmaps.{end, flags}
use Rattle.codec.specs.declared.rmap.Rmap.{Rmap}
use Rattle.lists.specs.RmapEdits.{first, is_some, any, replace, overlaps, contains, contained, lines_up, chosen, continues}
use Rattle.lists.specs.Held.{no_overlap}
use Rattle.lists.proofs.Cases.{split, tests, conj, and_l}

-- what is found first passes the test
pub first_passes : (p : Rmap → Bool) (l : List Rmap) (w : Rmap) → first p l ≡ some w → p w ≡ true
unfolding first
first_passes p [] w e = cc
first_passes p (r ∷ l) w e = split (p r) (λ f. let q : r ≡ w = cc in rw (← q) f) (λ f. first_passes p l w (rw f at e))

-- tests that agree find the same
pub first-same : (p q : Rmap → Bool) (l : List Rmap) → ((r : Rmap) → p r ≡ q r) → first p l ≡ first q l
unfolding first
first-same p q [] h = refl
first-same p q (r ∷ l) h = rw (h r, first-same p q l h) refl

pub is-some : (o : Option Rmap) → is_some o ≡ true → (w : Rmap) × (o ≡ some w)
unfolding is_some
is-some none e = let z : ◌≡◌ {A = ℕ} 0 1 = cc in absurd (omega arith)
is-some (some w) e = (w, refl)

-- where nothing passes the test nothing is replaced
pub replace-none : (p : Rmap → Bool) (f : Rmap → List Rmap) (l : List Rmap) → first p l ≡ none → replace p f l ≡ l
unfolding first replace
replace-none p f [] e = refl
replace-none p f (r ∷ l) e = split (p r) (λ g. cc) (λ g. rw g (ap (λ (m : List Rmap). r ∷ m) (replace-none p f l (rw g at e))))

-- ---- what overlaps

pub overlaps-ends : (x r : Rmap) → overlaps x r ≡ true → (r.startblock < end x) × (x.startblock < end r)
unfolding overlaps
overlaps-ends x r e =
    let h : ltb r.startblock (end x) ≡ true = search conj in
    let k : ltb x.startblock (end r) ≡ true = search conj in
    (omega tests, omega tests)

-- where no record of a list overlaps x, neither the first does nor one behind it
pub no-overlap-parts : (x r : Rmap) (l : List Rmap) → no_overlap x (r ∷ l) ≡ true → (overlaps x r ≡ false) × (no_overlap x l ≡ true)
unfolding first is_some
no-overlap-parts x r l e =
    split (overlaps x r)
    (λ f. let h : false ≡ true = rw f at e in let z : ◌≡◌ {A = ℕ} 0 1 = cc in absurd (omega arith))
    (λ f. (f, rw f at e))

-- ---- the record cut

-- the place of x in a record that contains it
pub contains-ends : (x w : Rmap) → contains x w ≡ true → (w.startblock ≤ x.startblock) × (end x ≤ end w)
unfolding contains
contains-ends x w e =
    let h : leb w.startblock x.startblock ≡ true = search conj in
    let k : leb (end x) (end w) ≡ true = search conj in
    (omega tests, omega tests)

pub contains-owner : (x w : Rmap) → contains x w ≡ true → (w.owner ≡ x.owner) × (flags w ≡ flags x)
unfolding contains
contains-owner x w e =
    let h : eqb w.owner x.owner ≡ true = search conj in
    let k : eqb (flags w) (flags x) ≡ true = search conj in
    (omega tests, omega tests)

pub chosen-contains : (x : Rmap) (l : List Rmap) (w : Rmap) → chosen x l w ≡ true → contains x w ≡ true
unfolding chosen
chosen-contains x l w e =
    split (any (λ s. contains x s && lines_up x s) l) (λ f. and_l (contains x w) (lines_up x w) (rw f at e)) (λ f. rw f at e)

-- where a record contains x (24) one is chosen
pub chosen-some : (x : Rmap) (l : List Rmap) → contained x l ≡ true → (w : Rmap) × (first (chosen x l) l ≡ some w)
unfolding chosen
chosen-some x l e =
    split (any (λ s. contains x s && lines_up x s) l)
    (λ f. let k = is-some (first (λ s. contains x s && lines_up x s) l) f in
    (k.0, first-same (chosen x l) (λ s. contains x s && lines_up x s) l (λ r. rw f refl) ∙ k.1))
    (λ f. let k = is-some (first (contains x) l) e in (k.0, first-same (chosen x l) (contains x) l (λ r. rw f refl) ∙ k.1))

-- ---- joins

pub continues-end : (r s : Rmap) → continues r s ≡ true → end r ≡ s.startblock
unfolding continues
continues-end r s e = let h : eqb (end r) s.startblock ≡ true = search conj in omega tests
