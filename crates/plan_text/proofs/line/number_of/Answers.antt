-- `plan_text::line::number_of` meets its contract. The invariant: what is read so far has as many digits as bytes passed, and the rest decides as the whole.
use mathlib.Core.Path.{◌≡◌, sym, ◌∙◌}
use Prim.Native.Nat.{◌<◌}
use native.Mathlib.Omega.{arith}
use lib.ListN.{length}
use Rattle.std.proofs.lemmas.Bool.Decides.{nat_tests}
use Rattle.plan_text.proofs.LineLaws.{refused-number, accepted-number, number_short, number-long, number_digits, digit-not, digit-next, digits-end, digits_more, digits-small, value-next, value-end}
use Rattle.plan_text.proofs.line.number_of.Goals as goal
use Rattle.plan_text.proofs.line.number_of.Goals.{then-is_empty-via-then-is_empty, then-is_empty-via-else-is_empty+then-s-gt18}

pub returns-then-is_empty : goal.returns-then-is_empty
returns-then-is_empty c =
    elim c.then-is_empty.branch [
      | then-is_empty-via-then-is_empty w ↦ let none : length c.args.s.now ≡ 0 = grind (arith, nat_tests, w.if-is_empty.ensures) in refused-number _ (number_short _ none)
      | then-is_empty-via-else-is_empty+then-s-gt18 w ↦ refused-number _ (number-long _ (omega arith))
    ]

pub returns-then-not-is_ascii_digit : goal.returns-then-not-is_ascii_digit
returns-then-not-is_ascii_digit c =
    let l = c.loop-b in
    let s = c.args.s.now in
    let some : 0 < length s = omega (arith, c.loop-b-test.true) in
    refused-number s (digit-not s l.b-index c.loop-b-test.true (sym c.is_ascii_digit.ensures.value ∙ c.if-not-is_ascii_digit.true) ∙ l.invariant.2 ∙ number_digits s some (omega (arith, c.if-s-gt18.false)))

pub overflow_mul-v : goal.overflow_mul-v
overflow_mul-v c = let l = c.loop-b in omega (arith, digits-small l.b-index l.v (omega (arith, c.loop-b-test.true, c.if-s-gt18.false)) l.invariant.0)

pub overflow_add-v : goal.overflow_add-v
overflow_add-v c =
    let l = c.loop-b in
    omega (arith, digits-small l.b-index l.v (omega (arith, c.loop-b-test.true, c.if-s-gt18.false)) l.invariant.0, c.if-not-is_ascii_digit.ensures.bound)

pub loop-b-preserved : goal.loop-b-preserved
loop-b-preserved c =
    let l = c.loop-b in
    let s = c.args.s.now in
    let inside = c.loop-b-test.true in
    let digit = c.if-not-is_ascii_digit.ensures in
    (digits_more l.b-index l.v _ l.invariant.0 (omega (arith, digit.bound)), sym (value-next s l.b-index inside l.v) ∙ l.invariant.1, sym (digit-next s l.b-index inside (sym digit.value)) ∙ l.invariant.2)

pub returns : goal.returns
returns c =
    let l = c.loop-b in
    let s = c.args.s.now in
    let some : 0 < length s = grind (arith, nat_tests, c.if-is_empty.ensures) in
    accepted-number s l.v (sym (digits-end s l.b-index c.loop-b-test.false) ∙ l.invariant.2 ∙ number_digits s some (omega (arith, c.if-s-gt18.false))) (sym (value-end s l.b-index l.v c.loop-b-test.false) ∙ l.invariant.1)
