-- What a plan, a walk, the link check and the textbook walk say, from what they come to.
-- Assumes nothing.
use Prim.Native.Nat.{ℕ}
use mathlib.Core.Path.{◌≡◌, refl, sym, ap, ap₂, ◌∙◌}
use mathlib.Core.List.{List, [], ◌∷◌}
use lib.ListN.{length, take}
use Rattle.codec.specs.Question.{Outcome}
use Rattle.blocks.specs.declared.geometry.Geometry.{Geometry}
use Rattle.blocks.specs.declared.kind.TreeKind.{TreeKind}
use Rattle.blocks.specs.Tree.{record_len}
use Rattle.trees.specs.declared.plan.PlanRefusal.{PlanRefusal}
use Rattle.trees.specs.declared.plan.Planned.{Planned}
use Rattle.walks.specs.declared.walk.Walked.{Walked}
use Rattle.walks.specs.declared.walk.Linking.{Linking}
use Rattle.walks.specs.declared.refusal.StoppedWalk.{StoppedWalk}
use Rattle.std.specs.Prelude.{Result, Ok, Err}
use Rattle.trees.specs.Plan.{sum}
use Rattle.trees.specs.PlanAnswer.{PlanIs, plan_number, plan_values, plan_outcome, answer_outcome, levels_in, places_of}
use Rattle.walks.specs.Walk.{Trace}
use Rattle.walks.specs.WalkCall.{Report, walk_of, lent}
use Rattle.walks.specs.WalkAnswer.{WalkIs, walked_report}
use Rattle.walks.specs.Links.{walked_of, says_yes, LinkingIs}
use Rattle.book.specs.Textbook.{lists, textbook_of, TextbookIs}
use Rattle.tree_calls.specs.TreeCalls.{plan_figures, places_after, PlanSays}
use Rattle.interface.proofs.Saying.{Answered, result-says-by}
use Rattle.tree_calls.specs.WalkFigures.{Reports, Walks, WalkSays, yes_figure, LinkingSays, TextbookSays}
use Rattle.tree_calls.proofs.Reporting.{reports}

-- the figures of a plan, from its blocks
pub plan-figures : {o : Outcome (List ℕ)} (p : Planned) → PlanIs o (Ok p) → p.levels ∷ p.total ∷ 0 ∷ 0 ∷ [] ≡ plan_figures (take p.levels p.blocks)
plan-figures p is =
    ap₂ (λ (a b : ℕ). a ∷ b ∷ 0 ∷ 0 ∷ [])
    (is.levels ∙ ap (λ (x : Outcome (List ℕ)). length (levels_in x)) (sym is.outcome))
    (is.all ∙ ap (λ (x : Outcome (List ℕ)). sum (levels_in x)) (sym is.outcome))

-- the places of an accepted plan, and those that a refused one leaves
pub places-stored : {o : Outcome (List ℕ)} (p : Planned) (levels : List ℕ) → PlanIs o (Ok p) → p.blocks ≡ places_after o levels
places-stored p levels is =
    is.places ∙ ap (λ (x : Outcome (List ℕ)). places_of (levels_in x)) (sym is.outcome) ∙ ap (λ (x : Outcome (List ℕ)). places_after x levels) is.outcome

pub places-kept : {o : Outcome (List ℕ)} (e : PlanRefusal) (levels : List ℕ) → PlanIs o (Err e) → levels ≡ places_after o levels
places-kept e levels is = ap (λ (x : Outcome (List ℕ)). places_after x levels) is.outcome

pub places-left : {o : Outcome (List ℕ)} (r : Result Planned PlanRefusal) (levels levels' : List ℕ)
    → ((p : Planned) → r ≡ Ok p → levels' ≡ p.blocks) → ((e : PlanRefusal) → r ≡ Err e → levels' ≡ levels)
    → PlanIs o r → levels' ≡ places_after o levels
places-left (Ok p) levels levels' stored kept is = stored p refl ∙ places-stored p levels is
places-left (Err e) levels levels' stored kept is = kept e refl ∙ places-kept e levels is

-- the call of a plan, on the geometry and kind that the numbers stand for
pub plan-said : {g g' : Geometry} {k k' : TreeKind} (n : ℕ) (p : Result Planned PlanRefusal) (levels levels' : List ℕ) {a r : ℕ} {figures said : List ℕ}
    → g ≡ g' → k ≡ k' → PlanIs (plan_outcome g k n) p
    → Answered plan_number plan_values (λ q. figures ≡ q.levels ∷ q.total ∷ 0 ∷ 0 ∷ []) p a figures → (r ≡ a) × (said ≡ figures)
    → levels' ≡ places_after (plan_outcome g k n) levels
    → PlanSays (plan_outcome g' k' n) r said levels levels'
plan-said n p levels levels' {a} {r} {figures} e f is h s q =
    rw (← e, ← f)
    (record {
      answer =
          result-says-by plan_figures answer_outcome (λ x. take x.levels x.blocks) plan_number plan_values (λ x. figures ≡ x.levels ∷ x.total ∷ 0 ∷ 0 ∷ []) p h
          (λ x. refl) (λ x. refl) (λ x eq k. k ∙ plan-figures x (rw eq at is)) is.outcome s;
      places = q;
    })

-- a walk says what it comes to, and leaves it
walk-says : {fourth w levels : ℕ} {o : Outcome Trace} {walked : Result Walked StoppedWalk} {a r : ℕ} {figures said stack stack' scratch scratch' blocks blocks' out out' : List ℕ}
    → WalkIs w levels o walked stack stack' scratch scratch' blocks blocks' out out' → Reports fourth (walked_report walked) a figures → (r ≡ a) × (said ≡ figures)
    → Walks fourth w levels o r said stack stack' scratch scratch' blocks blocks' out out'
walk-says is h s =
    record {
      answer = reports h (ap (λ (p : Report). p.outcome) is.answer) (ap (λ (p : Report). p.passed) is.answer) s;
      leaves = record { stack_is = is.stack_is; scratch_is = is.scratch_is; blocks_are = is.blocks_are; records_are = is.records_are };
    }

-- the call of a walk, of the link check, and of the textbook walk
module _ {g g' : Geometry} {k k' : TreeKind} (image : List ℕ) (root levels : ℕ) {a r : ℕ} {figures said stack stack' scratch scratch' blocks blocks' out out' : List ℕ}
    (e : g ≡ g') (f : k ≡ k') where
  pub walk-said : {w : Result Walked StoppedWalk}
      → WalkIs (record_len k) levels (walk_of g k image root levels (lent stack scratch blocks out)) w stack stack' scratch scratch' blocks blocks' out out'
      → Reports 0 (walked_report w) a figures → (r ≡ a) × (said ≡ figures)
      → WalkSays (record_len k') levels (walk_of g' k' image root levels (lent stack scratch blocks out)) r said stack stack' scratch scratch' blocks blocks' out out'
  walk-said is h s = rw (← e, ← f) (walk-says is h s)

  pub linking-said : {w : Result Linking StoppedWalk}
      → LinkingIs g.blocksize (record_len k) image levels (walk_of g k image root levels (lent stack scratch blocks out)) w stack stack' scratch scratch' blocks blocks' out out'
      → Reports (yes_figure (says_yes w)) (walked_report (walked_of w)) a figures → (r ≡ a) × (said ≡ figures)
      → LinkingSays g'.blocksize image (record_len k') levels (walk_of g' k' image root levels (lent stack scratch blocks out)) r said stack stack' scratch scratch' blocks blocks' out out'
  linking-said is h s = rw (← e, ← f, ← is.says) (walk-says is.walks h s)

pub textbook-said : {g g' : Geometry} {k k' : TreeKind} (image : List ℕ) (root levels : ℕ) {a r : ℕ} {figures said scratch scratch' blocks blocks' out out' : List ℕ} → g ≡ g' → k ≡ k' → {w : Result Walked StoppedWalk}
    → TextbookIs (record_len k) levels (textbook_of g k image root levels (lists scratch blocks out)) w scratch scratch' blocks blocks' out out'
    → Reports 0 (walked_report w) a figures → (r ≡ a) × (said ≡ figures)
    → TextbookSays (record_len k') levels (textbook_of g' k' image root levels (lists scratch blocks out)) r said scratch scratch' blocks blocks' out out'
textbook-said image root levels e f is h s = rw (← e, ← f) (walk-says is h s)
