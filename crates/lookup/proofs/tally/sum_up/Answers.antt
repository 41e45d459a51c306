-- `lookup::tally::sum_up` meets its contract. The invariant: the sum of the first differences, and these summed in their places.
use Rattle.std.proofs.Common.{◌≡◌, ℕ, ◌+◌, ◌%◌, ◌^◌, length, get_or, refl, ap, ◌∙◌, arith}
use Rattle.lookup.specs.Inner.Tally.{summed}
use Rattle.lookup.proofs.SumLaws.{summed-all, total, sum_first, sum-total, sum-next}
use Rattle.lookup.proofs.tally.sum_up.Goals as goal

pub loop-place-init : goal.loop-place-init
unfolding total
loop-place-init c = (refl, sum_first c.args.answers.now)

pub loop-place-preserved : goal.loop-place-preserved
loop-place-preserved c =
    let l = c.loop-place in
    let e = ap (λ (x : ℕ). (x + get_or l.answers l.place-index 0) % 2 ^ 64) l.invariant.0 in
    (sum-total c.args.answers.now l.answers l.place-index _ c.loop-place-test.true l.invariant.1 e, sum-next c.args.answers.now l.answers l.place-index _ c.loop-place-test.true l.invariant.1 e)

pub returns : goal.returns
returns c =
    let l = c.loop-place in
    let e : l.place-index ≡ length c.args.answers.now = omega arith in
    l.invariant.1 ∙ ap (λ (x : ℕ). summed x c.args.answers.now) e ∙ summed-all c.args.answers.now
