-- One walk follows another: it reads the same blocks, up to a refusal of some kind.
-- Assumes nothing.
use Prim.Native.Nat.{ℕ, zero, suc, ◌-◌}
use mathlib.Core.Path.{◌≡◌, refl, ap, ◌∙◌}
use mathlib.Core.Bool.{Bool, true, false, cond, ◌&&◌}
use mathlib.Core.Logic.{◌⊎◌, ⊎_elim, inl, inr}
use mathlib.Core.List.{List, [], ◌∷◌, ◌++◌}
use lib.Dec.{leb, ltb}
use lib.ListN.{length}
use Rattle.codec.specs.Question.{Values, none}
use Rattle.walks.specs.Walk.{Visit, Look, good, bad, Trace, finished, spent, failed, met, after, run, fit, ending}

module _ (Out : ℕ → Values → Type 0) where
  -- a look, and a walk's end, that is such a refusal
  abbrev pub OutLook : Look → Type 0
  OutLook (bad k x) = Out k x
  OutLook (good below bytes) = ⊥

  abbrev pub OutEnd : Trace → Type 0
  OutEnd finished = ⊥
  OutEnd spent = ⊥
  OutEnd (failed k x) = Out k x
  OutEnd (met v b t) = ⊥

  -- u follows the trace
  abbrev pub Follows : Trace → Trace → Type 0
  Follows finished u = u ≡ finished
  Follows spent u = u ≡ spent
  Follows (failed k x) u = (u ≡ failed k x) ⊎ Out k x
  Follows (met v b t) u = (w : Trace) × ((u ≡ met v b w) × Follows t w)

  -- a walk goes by its looks alone
  pub run-follows : (look look' : Visit → Look) → ((v : Visit) → (look' v ≡ look v) ⊎ OutLook (look v))
      → (n : ℕ) (due : List Visit) → Follows (run look n due) (run look' n due)
  unfolding run
  run-follows look look' same zero [] = refl
  run-follows look look' same zero (v ∷ due) = refl
  run-follows look look' same (suc n) [] = refl
  run-follows look look' same (suc n) (v ∷ due) = go (look v) (same v) (run-follows look look' same n)
    where
      go : (l : Look) → (look' v ≡ l) ⊎ OutLook l → ((ws : List Visit) → Follows (run look n ws) (run look' n ws))
          → Follows (after v (λ below. run look n (below ++ due)) l) (after v (λ below. run look' n (below ++ due)) (look' v))
      go (bad k x) (inl e) later = inl (ap (after v (λ below. run look' n (below ++ due))) e)
      go (bad k x) (inr o) later = inr o
      go (good below bytes) (inl e) later = (run look' n (below ++ due), (ap (after v (λ ws. run look' n (ws ++ due))) e, later (below ++ due)))
      go (good below bytes) (inr o) later = absurd o

  pub fit-follows : (p r : ℕ) (t u : Trace) → Follows t u → Follows (fit p r t) (fit p r u)
  unfolding fit
  fit-follows p r finished u f = ap (fit p r) f
  fit-follows p r spent u f = ap (fit p r) f
  fit-follows p r (failed k x) u (inl e) = inl (ap (fit p r) e)
  fit-follows p r (failed k x) u (inr o) = inr o
  fit-follows p r (met v b t) u f =
      go (ltb 0 p && leb (length b) r) (ap (fit p r) f.1.0) (fit-follows (p - 1) (r - length b) t f.0 f.1.1)
    where
      go : (c : Bool) → fit p r u ≡ cond c (met v b (fit (p - 1) (r - length b) f.0)) (failed 15 none)
          → Follows (fit (p - 1) (r - length b) t) (fit (p - 1) (r - length b) f.0)
          → Follows (cond c (met v b (fit (p - 1) (r - length b) t)) (failed 15 none)) (fit p r u)
      go true e later = (fit (p - 1) (r - length b) f.0, (e, later))
      go false e later = inl e

  -- so it is the same, or it ended by such a refusal
  pub follows_same : (t u : Trace) → Follows t u → (u ≡ t) ⊎ OutEnd (ending t)
  unfolding ending
  follows_same finished u f = inl f
  follows_same spent u f = inl f
  follows_same (failed k x) u f = f
  follows_same (met v b t) u f = ⊎_elim (λ e. inl (f.1.0 ∙ ap (met v b) e)) (λ o. inr o) (follows_same t f.0 f.1.1)

-- where the looks are the same the walks are
pub run-same : (look look' : Visit → Look) → ((v : Visit) → look' v ≡ look v) → (n : ℕ) (due : List Visit) → run look' n due ≡ run look n due
run-same look look' same n due =
    ⊎_elim (λ e. e) (λ o. absurd (go (ending (run look n due)) o))
    (follows_same (λ k x. ⊥) (run look n due) (run look' n due) (run-follows (λ k x. ⊥) look look' (λ v. inl (same v)) n due))
  where
    go : (t : Trace) → OutEnd (λ k x. ⊥) t → ⊥
    go finished o = o
    go spent o = o
    go (failed k x) o = o
    go (met v b t) o = o
