-- What a call says, from the answer that it hands on.
-- Assumes nothing.
use Prim.Native.Nat.{ℕ}
use mathlib.Core.Path.{◌≡◌, refl, sym, ap, ◌∙◌}
use mathlib.Core.List.{List}
use Rattle.std.specs.Prelude.{Result, Ok, Err, MatchResult}
use Rattle.codec.specs.Question.{Values, Outcome, done, refused}
use Rattle.codec.specs.Told.{values_of, Tells}
use Rattle.codec.specs.declared.refusal.Told.{Told}
use Rattle.interface.specs.Interface.{number_of, value_figures, figures_of, Says}

pub says : {A : Type 0} (f : A → List ℕ) {o o' : Outcome A} {n r : ℕ} {figures said : List ℕ} → Says f o n figures → o ≡ o' → (r ≡ n) × (said ≡ figures)
    → Says f o' r said
says f h e s = record { number = s.0 ∙ h.number ∙ ap number_of e; figures = s.1 ∙ h.figures ∙ ap (figures_of f) e }

-- ---- a refusal, as it is told

-- r and said are the number and the figures of what t tells
abbrev pub ToldSo : Told → ℕ → ℕ → List ℕ → Type 0
ToldSo t third r said = (r ≡ t.number) × (said ≡ value_figures (values_of t.values) third)

pub refusal-says : {A : Type 0} (f : A → List ℕ) (t : Told) {n r : ℕ} {v : Values} {said : List ℕ} → Tells t n v → ToldSo t 0 r said
    → Says f (refused n v) r said
refusal-says f t h s = record { number = s.0 ∙ h.0; figures = s.1 ∙ ap (λ (w : Values). value_figures w 0) h.1 }

-- ---- a result, as `answer_of` has it

-- what the answer of a result tells: its refusals by their number and their values, and of x Done x
abbrev pub Answered : {T E : Type 0} → (E → ℕ) → (E → Values) → (T → Type 0) → Result T E → ℕ → List ℕ → Type 0
Answered number values Done result n figures =
    MatchResult result (λ x. (n ≡ 0) × Done x)
    (λ e. (told : Told) × Tells told (number e) (values e) × (n ≡ told.number) × (figures ≡ value_figures (values_of told.values) 0))

-- the answer of a result that comes to o, handed on
module _ {T E A : Type 0} (f : A → List ℕ) (outcome : Result T E → Outcome A) (value : T → A) (number : E → ℕ) (values : E → Values) (Done : T → Type 0) where
  pub result-says-by : (result : Result T E) {n r : ℕ} {figures said : List ℕ} {o : Outcome A} → Answered number values Done result n figures
      → ((x : T) → outcome (Ok x) ≡ done (value x)) → ((e : E) → outcome (Err e) ≡ refused (number e) (values e))
      → ((x : T) → result ≡ Ok x → Done x → figures ≡ f (value x)) → outcome result ≡ o → (r ≡ n) × (said ≡ figures)
      → Says f o r said
  result-says-by (Ok x) h ok err figures is s = says f (record { number = h.0; figures = figures x refl h.1 }) (sym (ok x) ∙ is) s
  result-says-by (Err e) h ok err figures is s = says f (refusal-says f h.0 h.1 (h.2, h.3)) (sym (err e) ∙ is) s

-- the same, where the result is the outcome's
pub result-says : {T E : Type 0} (f : T → List ℕ) (outcome : Result T E → Outcome T) (number : E → ℕ) (values : E → Values) (Done : T → Type 0)
    (result : Result T E) {n r : ℕ} {figures said : List ℕ} {o : Outcome T} → Answered number values Done result n figures
    → ((x : T) → outcome (Ok x) ≡ done x) → ((e : E) → outcome (Err e) ≡ refused (number e) (values e))
    → ((x : T) → Done x → figures ≡ f x) → outcome result ≡ o → (r ≡ n) × (said ≡ figures)
    → Says f o r said
result-says f outcome number values Done result h ok err figures is s =
    result-says-by f outcome (λ x. x) number values Done result h ok err (λ x q k. figures x k) is s
