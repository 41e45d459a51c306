-- `plan_text::text::put_levels` meets its contract. The invariant: the lines of the levels passed stand at the front.
use Prim.Native.Nat.{ℕ}
use mathlib.Core.Path.{◌≡◌, refl, ap, ◌∙◌}
use mathlib.Core.List.{List}
use native.Mathlib.Omega.{arith}
use lib.ListN.{length, take}
use lib.Seq.{take-length}
use Rattle.codec.specs.Bytes.{with_bytes}
use Rattle.plan_text.specs.Text.{level_lines}
use Rattle.plan_text.proofs.TextLaws.{length_more, levels-step, levels-none}
use Rattle.plan_text.proofs.text.put_levels.Goals as goal

pub loop-i-init : goal.loop-i-init
unfolding level_lines
loop-i-init c = (refl, refl, omega arith, levels-none c.args.out.now c.args.blocks.now)

pub loop-i-preserved : goal.loop-i-preserved
loop-i-preserved c =
    let a = c.args in
    let l = c.loop-i in
    let p = c.put_level-at in
    let inside = c.loop-i-test.true in
    let n = length_more a.out.now a.blocks.now l.i inside in (
      p.auto.out ∙ l.invariant.0,
      omega (arith, p.ensures.value.0, n),
      omega (arith, p.ensures.value.1),
      levels-step a.out.now a.blocks.now l.i inside (omega arith) _ _ _ l.invariant.3 l.invariant.1 p.ensures.out_after,
    )

pub returns : goal.returns
returns c =
    let a = c.args in
    let l = c.loop-i in
    let e : l.i ≡ length a.blocks.now = omega arith in
    let all : take l.i a.blocks.now ≡ a.blocks.now = ap (λ (j : ℕ). take j a.blocks.now) e ∙ take-length a.blocks.now in
    record { value = (l.invariant.1 ∙ ap (λ (x : List ℕ). length (level_lines 0 x)) all, omega arith); out_after = l.invariant.3 ∙ ap (λ (x : List ℕ). with_bytes a.out.now 0 (level_lines 0 x)) all }
