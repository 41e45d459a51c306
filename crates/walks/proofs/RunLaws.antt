-- Laws of every walk, over any way to look at a block: more visits, and the levels of the visits.
-- Assumes nothing.
use Prim.Native.Nat.{ℕ, zero, suc, ◌+◌, ◌-◌, ◌≤◌, ◌<◌}
use native.Mathlib.Omega.{arith}
use mathlib.Core.Path.{◌≡◌, refl, ap, ◌∙◌}
use mathlib.Core.List.{List, [], ◌∷◌, ◌++◌}
use mathlib.Core.Bool.{Bool, true, false, cond, ◌&&◌}
use lib.ListN.{length}
use lib.Dec.{ltb, leb}
use borrow.Author.Tests.{ltb-true}
use Rattle.codec.specs.Question.{none}
use Rattle.walks.specs.Walk.{Visit, visit_of, Look, bad, good, Trace, finished, spent, failed, met, after, run, fit, visits, by_level}
use Rattle.walks.proofs.StackLaws.{Stacked, Below, stacked-push}
use Rattle.walks.proofs.LevelLaws.{Within, by-level-all}

pub run_none : (look : Visit → Look) (n : ℕ) → run look n [] ≡ finished
unfolding run
run_none look zero = refl
run_none look (suc n) = refl

-- ---- more visits

-- the walk did not run out of visits
abbrev pub Unspent : Trace → Type 0
Unspent finished = Unit {0}
Unspent spent = ⊥
Unspent (failed n x) = Unit {0}
Unspent (met v b t) = Unspent t

module _ (look : Visit → Look) where
  after_more : (n m : ℕ) (v : Visit) (due : List Visit) (l : Look) → Unspent (after v (λ below. run look n (below ++ due)) l)
      → ((below : List Visit) → Unspent (run look n (below ++ due)) → run look (n + m) (below ++ due) ≡ run look n (below ++ due))
      → after v (λ below. run look (n + m) (below ++ due)) l ≡ after v (λ below. run look n (below ++ due)) l
  after_more n m v due (bad k x) u h = refl
  after_more n m v due (good below b) u h = ap (met v b) (h below u)

  -- a larger limit changes no walk that ended within the smaller one
  pub run_more : (n m : ℕ) (due : List Visit) → Unspent (run look n due) → run look (n + m) due ≡ run look n due
  unfolding run
  run_more zero m [] u = run_none look (0 + m)
  run_more zero m (v ∷ due) u = absurd u
  run_more (suc n) m [] u = run_none look (suc n + m)
  run_more (suc n) m (v ∷ due) u =
      let e : suc n + m ≡ suc (n + m) = omega arith in
      ap (λ (k : ℕ). run look k (v ∷ due)) e ∙ after_more n m v due (look v) u (λ below w. run_more n m (below ++ due) w)

-- fewer visits read a beginning of what more visits read
abbrev pub Begins : List Visit → List Visit → Type 0
Begins [] ys = Unit {0}
Begins (x ∷ xs) [] = ⊥
Begins (x ∷ xs) (y ∷ ys) = (x ≡ y) × Begins xs ys

module _ (look : Visit → Look) where
  after-begins : (n m : ℕ) (v : Visit) (due : List Visit) (l : Look)
      → ((below : List Visit) → Begins (visits (run look n (below ++ due))) (visits (run look (n + m) (below ++ due))))
      → Begins (visits (after v (λ below. run look n (below ++ due)) l)) (visits (after v (λ below. run look (n + m) (below ++ due)) l))
  unfolding visits
  after-begins n m v due (bad k x) h = tt
  after-begins n m v due (good below b) h = (refl, h below)

  pub run-begins : (n m : ℕ) (due : List Visit) → Begins (visits (run look n due)) (visits (run look (n + m) due))
  unfolding run visits
  run-begins zero m [] = tt
  run-begins zero m (v ∷ due) = tt
  run-begins (suc n) m [] = tt
  run-begins (suc n) m (v ∷ due) =
      let e : suc n + m ≡ suc (n + m) = omega arith in
      rw e (after-begins n m v due (look v) (λ below. run-begins n m (below ++ due)))

-- ---- the levels of the visits

-- a look finds at most so many blocks, each one level below
abbrev pub Falls : ℕ → (Visit → Look) → Type 0
Falls most look = (v : Visit) (below : List Visit) (bytes : List ℕ) → look v ≡ good below bytes → (length below ≤ most) × Below v.level below

module _ (look : Visit → Look) (levels most : ℕ) (falls : Falls most look) where
  after-within : (n : ℕ) (v : Visit) (due : List Visit) (l : Look) → look v ≡ l → Stacked levels most (v ∷ due)
      → ((below : List Visit) → Stacked levels most (below ++ due) → Within levels (visits (run look n (below ++ due))))
      → Within levels (visits (after v (λ below. run look n (below ++ due)) l))
  unfolding visits
  after-within n v due (bad k x) e s h = tt
  after-within n v due (good below b) e s h =
      let f = falls v below b e in
      (s.0, h below (stacked-push levels most v due below s f.0 f.1))

  pub run-within : (n : ℕ) (due : List Visit) → Stacked levels most due → Within levels (visits (run look n due))
  unfolding run visits
  run-within zero [] s = tt
  run-within zero (v ∷ due) s = tt
  run-within (suc n) [] s = tt
  run-within (suc n) (v ∷ due) s = after-within n v due (look v) refl s (λ below w. run-within n (below ++ due) w)

cut-within : (levels : ℕ) (v : Visit) (b : List ℕ) (t : Trace) (x : Bool) → v.level < levels → Within levels (visits t) → Within levels (visits (cond x (met v b t) (failed 15 none)))
unfolding visits
cut-within levels v b t true h w = (h, w)
cut-within levels v b t false h w = tt

-- cutting a walk keeps its visits among the levels
pub fit-within : (levels p r : ℕ) (t : Trace) → Within levels (visits t) → Within levels (visits (fit p r t))
unfolding visits fit
fit-within levels p r finished w = tt
fit-within levels p r spent w = tt
fit-within levels p r (failed n x) w = tt
fit-within levels p r (met v b t) w = cut-within levels v b (fit (p - 1) (r - length b) t) (ltb 0 p && leb (length b) r) w.0 (fit-within levels (p - 1) (r - length b) t w.1)

-- the block list by level holds every visit
pub visits-all : (look : Visit → Look) (levels most n p r root : ℕ) → Falls most look → 0 < levels
    → (let t = fit p r (run look n (visit_of root (levels - 1) ∷ [])) in length (by_level levels (visits t)) ≡ length (visits t))
visits-all look levels most n p r root falls h =
    by-level-all levels (visits (fit p r (run look n (visit_of root (levels - 1) ∷ []))))
    (fit-within levels p r (run look n (visit_of root (levels - 1) ∷ []))
    (run-within look levels most falls n (visit_of root (levels - 1) ∷ []) (omega arith, omega arith, tt)))

-- a walk that is cut to so many places visits no more
cut-length : (p : ℕ) (f g : Bool) (v : Visit) (b : List ℕ) (t : Trace) → ltb 0 p ≡ f → length (visits t) ≤ p - 1 → length (visits (cond (f && g) (met v b t) (failed 15 none))) ≤ p
unfolding visits
cut-length p true true v b t e h = omega (arith, ltb-true 0 p e)
cut-length p true false v b t e h = omega arith
cut-length p false g v b t e h = omega arith

pub fit_length : (p r : ℕ) (t : Trace) → length (visits (fit p r t)) ≤ p
unfolding visits fit
fit_length p r finished = omega arith
fit_length p r spent = omega arith
fit_length p r (failed n x) = omega arith
fit_length p r (met v b t) = cut-length p (ltb 0 p) (leb (length b) r) v b (fit (p - 1) (r - length b) t) refl (fit_length (p - 1) (r - length b) t)
