-- What the calls of a walk, of the link check and of a lookup say, from the answer that they hand on.
-- Assumes nothing.
use Prim.Native.Nat.{ℕ}
use mathlib.Core.Path.{◌≡◌, ap, ap₂, ◌∙◌}
use mathlib.Core.List.{List}
use Rattle.codec.specs.Question.{Outcome}
use Rattle.interface.specs.Interface.{number_of}
use Rattle.tree_calls.specs.WalkFigures.{visit_figures, TellsVisits}

pub reports : {A : Type 0} {f : A → List ℕ} {o o' : Outcome A} {p p' n r : ℕ} {figures said : List ℕ}
    → TellsVisits f o p n figures → o ≡ o' → p ≡ p' → (r ≡ n) × (said ≡ figures) → TellsVisits f o' p' r said
reports {A} {f} h e q s = record { number = s.0 ∙ h.number ∙ ap number_of e; figures = s.1 ∙ h.figures ∙ ap₂ (visit_figures f) e q }
