-- `trees::plan::plan` meets its contract.
use native.Mathlib.Omega.{arith}
use mathlib.Core.Path.{◌≡◌, refl, sym, ◌∙◌}
use mathlib.Core.Bool.{true, false}
use Rattle.blocks.specs.Geometry.{geometry_ok}
use Rattle.trees.specs.Plan.{sum}
use Rattle.trees.proofs.PlanLaws.{plan-or}
use Rattle.trees.proofs.plan.plan.Goals as goal

pub returns-then-not-is_ok : goal.returns-then-not-is_ok
unfolding sum
returns-then-not-is_ok c =
    let e : geometry_ok c.args.g ≡ false = sym c.is_ok.ensures ∙ c.if-not-is_ok.true in
    rw e (record { outcome = refl; levels = refl; few = omega arith; places = refl; all = refl })

pub returns : goal.returns
returns c =
    let ok : geometry_ok c.args.g ≡ true = sym c.is_ok.ensures ∙ c.if-not-is_ok.false in
    rw (ok, c.ok_or.ensures.value) (plan-or _ c.plan_levels.result c.plan_levels.ensures)
