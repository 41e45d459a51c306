-- `trees::build::build_planned` meets its contract.
use mathlib.Core.Path.{sym, ◌∙◌}
use lib.Seq.{length-take-le}
use Rattle.std.proofs.lemmas.Result.{err_from_is_err_and}
use Rattle.trees.proofs.BuildLaws.{levels-in, plan-laid, plan-all, has-16, refused-16}
use Rattle.trees.proofs.build.build_planned.Goals as goal

pub returns-in_err-plan : goal.returns-in_err-plan
returns-in_err-plan c =
    let a = c.args in
    let p = err_from_is_err_and c.from_residual.result c.from_residual.ensures.1 in
    rw (p.1, p.2) (refused-16 a.g a.kind a.list.now a.numbers.now a.out.now c.requires _ c.record_len.ensures _ _ c.plan_levels.ensures (sym c.ok_or.ensures.value ∙ c.in_err-plan.was))

pub slice_bounds-source-end : goal.slice_bounds-source-end
slice_bounds-source-end c =
    let a = c.args in
    sym (length-take-le _ _ (levels-in a.g a.kind a.list.now a.numbers.now a.out.now c.requires _ c.record_len.ensures c.in_ok-plan.plan (rw (c.ok_or.ensures.ok_part, c.in_ok-plan.was) at c.plan_levels.ensures)))

pub invariant_of-source : goal.invariant_of-source
invariant_of-source c =
    let a = c.args in
    record { given = c.requires; laid = plan-laid a.g a.kind a.list.now a.numbers.now a.out.now c.requires _ c.record_len.ensures c.in_ok-plan.plan (rw (c.ok_or.ensures.ok_part, c.in_ok-plan.was) at c.plan_levels.ensures) }

pub build_levels-requires : goal.build_levels-requires
build_levels-requires c =
    let a = c.args in
    plan-all a.g a.kind a.list.now a.numbers.now a.out.now c.requires _ c.record_len.ensures c.in_ok-plan.plan (rw (c.ok_or.ensures.ok_part, c.in_ok-plan.was) at c.plan_levels.ensures)

pub returns : goal.returns
returns c =
    let a = c.args in
    has-16 a.g a.kind a.list.now a.numbers.now a.out.now c.requires _ c.record_len.ensures c.in_ok-plan.plan (rw (c.ok_or.ensures.ok_part, c.in_ok-plan.was) at c.plan_levels.ensures) _ _ c.build_levels.ensures
