-- Questions asked in two parts: a refusal of the first is one of the whole, and where the first part holds the second decides. And 22 of the counts,
-- which the reverse map's 22 answers. And what a refusal by the last question says.
-- Assumes nothing.
use Prim.Native.Nat.{ℕ, ◌^◌}
use mathlib.Core.Bool.{Bool, true, false, not, ◌&&◌}
use mathlib.Core.Path.{◌≡◌, refl}
use mathlib.Core.List.{List, [], ◌∷◌, ◌++◌}
use native.Mathlib.Omega.{arith}
use lib.Dec.{eqb}
use borrow.Author.Tests.{lt-ltb, le-leb, eqb-false}
use Rattle.codec.specs.Question.{Values, Outcome, done, refused, Question, answer}
use Rattle.codec.specs.Rmaps.{good, end}
use Rattle.codec.specs.declared.rmap.Rmap.{Rmap}
use Rattle.lists.specs.Extent.{good_extent}
use Rattle.codec.proofs.Meaning.{AllHold}
use Rattle.lists.proofs.Cases.{split, conj, and-true, not-false}
use Rattle.lists.proofs.RmapOrder.{good-facts}

pub answer-refused : {A B : Type 0} (qs ps : List Question) (a : A) (o : Outcome B) (n : ℕ) (v : Values) → answer qs (done a) ≡ refused n v
    → answer (qs ++ ps) o ≡ refused n v
answer-refused [] ps a o n v e = cc
answer-refused (q ∷ qs) ps a o n v e =
    split q.holds (λ h. rw h (answer-refused qs ps a o n v (rw h at e))) (λ h. let f : refused q.number q.values ≡ refused n v = rw h at e in rw h cc)

pub answer-done : {A B : Type 0} (qs ps : List Question) (a r : A) (o : Outcome B) → answer qs (done a) ≡ done r → answer (qs ++ ps) o ≡ answer ps o
answer-done [] ps a r o e = refl
answer-done (q ∷ qs) ps a r o e =
    split q.holds (λ h. rw h (answer-done qs ps a r o (rw h at e))) (λ h. let f : refused q.number q.values ≡ done r = rw h at e in cc)

-- a good extent is good by start and count
pub extent-good : (x : Rmap) → good x ≡ true → good_extent x.startblock x.blockcount ≡ true
unfolding good_extent
extent-good x e = let h = good-facts x e in and-true _ _ (lt-ltb 0 x.blockcount h.0) (le-leb (end x) (2 ^ 31) h.1)

-- ---- the question asked last

-- has none of the questions the number n?
unfoldable pub others : ℕ → List Question → Bool
others n [] = true
others n (q ∷ qs) = not (eqb q.number n) && others n qs

-- the question asked last, with a number of its own, is the answer only where all before it hold and it fails
pub last-asked : {A : Type 0} (n : ℕ) (v : Values) (qs : List Question) (q : Question) (x : A) → others n qs ≡ true → answer (qs ++ (q ∷ [])) (done x) ≡ refused n v
    → AllHold qs × (q.holds ≡ false)
unfolding others
last-asked n v [] q x o e =
    split q.holds (λ p. let f : done x ≡ refused n v = rw p at e in let z : ◌≡◌ {A = ℕ} 0 1 = cc in absurd (omega arith)) (λ p. (tt, p))
last-asked n v (p ∷ qs) q x o e =
    let other : not (eqb p.number n) ≡ true = search conj in
    let rest : others n qs ≡ true = search conj in
    split p.holds
    (λ h. let k = last-asked n v qs q x rest (rw h at e) in ((h, k.0), k.1))
    (λ h. let f : refused p.number p.values ≡ refused n v = rw h at e in absurd (eqb-false p.number n (not-false (eqb p.number n) other) cc))
