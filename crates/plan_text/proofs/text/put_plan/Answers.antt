-- `plan_text::text::put_plan` meets its contract.
use Prim.Native.Nat.{ℕ}
use mathlib.Core.Path.{◌≡◌, ap, sym, ◌∙◌}
use mathlib.Core.List.{List}
use native.Mathlib.Omega.{arith}
use lib.ListN.{length, take}
use Rattle.codec.specs.Bytes.{with_bytes}
use Rattle.trees.specs.Plan.{sum}
use Rattle.plan_text.specs.Text.{blocks_word, number_line}
use Rattle.plan_text.proofs.TextLaws.{text-plan, text-total, length-plan, plan-done}
use Rattle.plan_text.proofs.text.put_plan.Goals as goal

pub returns-in-Ok-clause-value : goal.returns-in-Ok-clause-value
returns-in-Ok-clause-value c =
    let p = c.in-Ok.planned in
    let levels : List ℕ = take p.levels p.blocks in
    let same : length (number_line blocks_word p.total) ≡ length (number_line blocks_word (sum levels)) =
    ap (λ (x : ℕ). length (number_line blocks_word x)) (text-total _ p c.in-Ok.ensures) in
    let q = c.put_line-in-Ok.ensures.value in
    let w = c.put_levels-at.ensures.value in
    (omega (arith, q.0, w.0, same, length-plan levels) ∙ ap length (sym (text-plan _ p c.in-Ok.ensures)), omega (arith, q.1, w.1))

pub returns-in-Ok-clause-out_after : goal.returns-in-Ok-clause-out_after
returns-in-Ok-clause-out_after c =
    let a = c.args in
    let p = c.in-Ok.planned in
    let levels : List ℕ = take p.levels p.blocks in
    let w = c.put_levels-at.ensures in
    plan-done a.out.now levels _ _ _ _ (omega (arith, w.value.0, w.value.1, c.requires)) w.out_after w.value.0 (text-total _ p c.in-Ok.ensures) c.put_line-in-Ok.ensures.out_after
    ∙ ap (with_bytes a.out.now 0) (sym (text-plan _ p c.in-Ok.ensures))
