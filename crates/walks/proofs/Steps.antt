-- Walks of subtrees: what a walk meets under some visits, whatever is due after them.
-- Assumes nothing: over any way to look at a block.
use Prim.Native.Nat.{ℕ, zero, suc, ◌+◌, ◌<◌}
use native.Mathlib.Nat.{zero-add, add_assoc, suc-add}
use native.Mathlib.Omega.{arith}
use mathlib.Core.Path.{◌≡◌, refl, sym, ap, ap₂, ◌∙◌}
use mathlib.Core.Bool.{Bool, true, false, cond}
use mathlib.Core.List.{List, [], ◌∷◌, ◌++◌, append_assoc}
use lib.ListN.{length, length-append}
use lib.Dec.{eqb}
use borrow.Author.Tests.{eq-eqb, ne_eqb}
use Rattle.walks.specs.Walk.{Visit, visit_of, Look, good, Trace, finished, met, run, visits, records, ending, at_level, by_level}

-- a block that was read, with its records' bytes
pub record Step : Type 0 where
  pub visit : Visit
  pub bytes : List ℕ

abbrev pub step_of : ℕ → ℕ → List ℕ → Step
step_of block level bytes = record { visit = visit_of block level; bytes = bytes }

unfoldable pub meet : List Step → Trace → Trace
meet [] t = t
meet (s ∷ ss) t = met s.visit s.bytes (meet ss t)

unfoldable pub visits_in : List Step → List Visit
visits_in [] = []
visits_in (s ∷ ss) = s.visit ∷ visits_in ss

unfoldable pub records_in : List Step → List ℕ
records_in [] = []
records_in (s ∷ ss) = s.bytes ++ records_in ss

pub meet-append : (xs ys : List Step) (t : Trace) → meet (xs ++ ys) t ≡ meet xs (meet ys t)
unfolding meet
meet-append [] ys t = refl
meet-append (x ∷ xs) ys t = ap (met x.visit x.bytes) (meet-append xs ys t)

pub records-append : (xs ys : List Step) → records_in (xs ++ ys) ≡ records_in xs ++ records_in ys
unfolding records_in
records-append [] ys = refl
records-append (x ∷ xs) ys = ap (λ (l : List ℕ). x.bytes ++ l) (records-append xs ys) ∙ sym (append_assoc x.bytes (records_in xs) (records_in ys))

-- what a trace of steps gives
pub meet-records : (ss : List Step) → records (meet ss finished) ≡ records_in ss
unfolding meet records records_in
meet-records [] = refl
meet-records (s ∷ ss) = ap (λ (l : List ℕ). s.bytes ++ l) (meet-records ss)

pub meet-visits : (ss : List Step) → visits (meet ss finished) ≡ visits_in ss
unfolding meet visits visits_in
meet-visits [] = refl
meet-visits (s ∷ ss) = ap (λ (l : List Visit). s.visit ∷ l) (meet-visits ss)

pub meet-ending : (ss : List Step) → ending (meet ss finished) ≡ finished
unfolding meet ending
meet-ending [] = refl
meet-ending (s ∷ ss) = meet-ending ss

pub visits-length : (ss : List Step) → length (visits_in ss) ≡ length ss
unfolding visits_in
visits-length [] = refl
visits-length (s ∷ ss) = ap suc (visits-length ss)

-- the blocks of one level among steps
abbrev pub level_in : ℕ → List Step → List ℕ
level_in j ss = at_level j (visits_in ss)

level-cons : (t : Bool) (x : ℕ) (l a b : List ℕ) → l ≡ a ++ b → cond t (x ∷ l) l ≡ cond t (x ∷ a) a ++ b
level-cons true x l a b e = ap (λ (t : List ℕ). x ∷ t) e
level-cons false x l a b e = e

pub level-append : (j : ℕ) (xs ys : List Step) → level_in j (xs ++ ys) ≡ level_in j xs ++ level_in j ys
unfolding at_level visits_in
level-append j [] ys = refl
level-append j (x ∷ xs) ys = level-cons (eqb x.visit.level j) x.visit.block (level_in j (xs ++ ys)) (level_in j xs) (level_in j ys) (level-append j xs ys)

pub level-this : (j n : ℕ) (b : List ℕ) (ss : List Step) → level_in j (step_of n j b ∷ ss) ≡ n ∷ level_in j ss
unfolding at_level visits_in
level-this j n b ss = rw (eq-eqb j j refl)

pub level-other : (j l n : ℕ) (b : List ℕ) (ss : List Step) → (l ≡ j → ⊥) → level_in j (step_of n l b ∷ ss) ≡ level_in j ss
unfolding at_level visits_in
level-other j l n b ss h = rw (ne_eqb l j h)

pub by-level-same : (n : ℕ) (vs ws : List Visit) → ((j : ℕ) → j < n → at_level j vs ≡ at_level j ws) → by_level n vs ≡ by_level n ws
unfolding by_level
by-level-same zero vs ws h = refl
by-level-same (suc n) vs ws h = ap₂ (λ (x y : List ℕ). x ++ y) (by-level-same n vs ws (λ j k. h j (omega arith))) (h n (omega arith))

module _ (look : Visit → Look) where
  -- the walk of some visits meets these steps and goes on with what is due after them
  abbrev pub Walked : List Visit → List Step → Type 0
  Walked vs ss = (m : ℕ) (due : List Visit) → run look (length ss + m) (vs ++ due) ≡ meet ss (run look m due)

  pub walked_none : Walked [] []
  unfolding meet
  walked_none m due = rw zero-add

  pub walked-append : (vs ws : List Visit) (xs ys : List Step) → Walked vs xs → Walked ws ys → Walked (vs ++ ws) (xs ++ ys)
  walked-append vs ws xs ys f g m due =
      ap₂ (run look) (ap (λ (n : ℕ). n + m) (length-append xs ys) ∙ add_assoc (length xs) (length ys) m) (append_assoc vs ws due)
      ∙ f (length ys + m) (ws ++ due)
      ∙ ap (meet xs) (g m due)
      ∙ sym (meet-append xs ys (run look m due))

  -- a block, then what is under it
  pub walked_block : (v : Visit) (below : List Visit) (bytes : List ℕ) (ss : List Step) → look v ≡ good below bytes → Walked below ss → Walked (v ∷ []) (record { visit = v; bytes = bytes } ∷ ss)
  unfolding run meet
  walked_block v below bytes ss e f m due = rw (suc-add, e) (ap (met v bytes) (f m due))
