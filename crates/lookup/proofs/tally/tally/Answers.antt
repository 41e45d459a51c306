-- `lookup::tally::tally` meets its contract.
use Rattle.std.proofs.Common.{◌≡◌, ℕ, ◌+◌, ◌%◌, ◌^◌, ◌<◌, get_or, set, refl, sym, ◌∙◌, arith, rules, length-set}
use Rattle.lookup.proofs.SumLaws.{tally-not, under-inside, tally-to-end, tally-between}
use Rattle.lookup.proofs.tally.tally.Goals as goal

pub returns-then-not-is_below : goal.returns-then-not-is_below
returns-then-not-is_below c =
    let a = c.args in
    tally-not a.r a.asked.numbers.now a.answers.now a.asked.ascend c.requires.0 c.first_near-from.result c.first_near-from.ensures
    (sym c.is_below.ensures ∙ c.if-not-is_below.true)

pub offset_bounds-answers-from : goal.offset_bounds-answers-from
offset_bounds-answers-from c =
    let a = c.args in
    let inside = under-inside a.r a.asked.numbers.now a.answers.now a.asked.ascend c.requires.0 _ (sym c.is_below.ensures ∙ c.if-not-is_below.false) in
    omega (arith, inside, c.requires.0)

pub bounds-answers-from : goal.bounds-answers-from
bounds-answers-from c =
    let a = c.args in
    let inside = under-inside a.r a.asked.numbers.now a.answers.now a.asked.ascend c.requires.0 _ (sym c.is_below.ensures ∙ c.if-not-is_below.false) in
    omega (arith, inside, c.requires.0)

pub offset_bounds-answers-from-2 : goal.offset_bounds-answers-from-2
offset_bounds-answers-from-2 c =
    let a = c.args in
    let inside = under-inside a.r a.asked.numbers.now a.answers.now a.asked.ascend c.requires.0 _ (sym c.is_below.ensures ∙ c.if-not-is_below.false) in
    omega (arith, inside, c.requires.0)

pub bounds-answers-from-2 : goal.bounds-answers-from-2
bounds-answers-from-2 c =
    let a = c.args in
    let inside = under-inside a.r a.asked.numbers.now a.answers.now a.asked.ascend c.requires.0 _ (sym c.is_below.ensures ∙ c.if-not-is_below.false) in
    omega (arith, inside, c.requires.0)

pub overflow_add-from : goal.overflow_add-from
overflow_add-from c =
    let a = c.args in
    let inside = under-inside a.r a.asked.numbers.now a.answers.now a.asked.ascend c.requires.0 _ (sym c.is_below.ensures ∙ c.if-not-is_below.false) in
    omega (arith, inside)

pub bounds-answers-to-then-to-asked : goal.bounds-answers-to-then-to-asked
bounds-answers-to-then-to-asked c = simp length-set (omega (arith, c.if-to-asked.true, c.requires.0))

-- one less, and one more again
less-more : (x : ℕ) → x < 2 ^ 64 → ((x + 18446744073709551615) % 2 ^ 64 + 1) % 2 ^ 64 ≡ x
less-more x h = omega arith

pub returns-then-to-asked : goal.returns-then-to-asked
returns-then-to-asked c =
    let under = sym c.is_below.ensures ∙ c.if-not-is_below.false in
    let a = c.args in
    let from = c.first_near-from.result in
    let raised = set a.answers.now from ((get_or a.answers.now from 0 + 1) % 2 ^ 64) in
    let small : get_or raised c.first_near-to.result 0 < 2 ^ 64 = search rules in
    tally-between a.r a.asked.numbers.now a.answers.now a.asked.ascend c.requires.0 c.requires.1 from _ c.first_near-from.ensures under
    refl c.first_near-to.result _ c.first_near-to.ensures c.if-to-asked.true (less-more _ small)

pub returns-else-to-asked : goal.returns-else-to-asked
returns-else-to-asked c =
    let under = sym c.is_below.ensures ∙ c.if-not-is_below.false in
    let a = c.args in
    tally-to-end a.r a.asked.numbers.now a.answers.now a.asked.ascend c.requires.0 c.requires.1 c.first_near-from.result _ c.first_near-from.ensures under
    refl c.first_near-to.result c.first_near-to.ensures c.if-to-asked.false
