-- `lookup::numbers::Asked::with_places` meets its contract.
use Rattle.std.proofs.Common.{Bool, ◌&&◌, leb, ltb, length, refl, ap, ◌∙◌, ap₂, rules, le-leb}
use Rattle.std.proofs.lemmas.List.Sorted.{answers_always}
use borrow.Author.Tests.{lt-leb}
use Rattle.lists.proofs.Cases.{and-off}
use Rattle.lookup.specs.Lookup.{ascending}
use Rattle.lookup.proofs.Ascending.{sorted-ascends, unsorted-not}
use Rattle.lookup.proofs.numbers.Asked.with_places.Goals as goal

pub returns-then-places-numbers : goal.returns-then-places-numbers
returns-then-places-numbers c =
    let up = ascending c.args.numbers.now in
    ap (λ (b : Bool). up && b) (lt-leb _ _ c.if-places-numbers.true) ∙ and-off up

pub invariant_of-result : goal.invariant_of-result
invariant_of-result c = record { ascend = sorted-ascends _ (c.if-is_sorted_by.ensures.cases (λ x y. ltb x y) (answers_always _ _ _ (λ f a r q k. search rules))) }

pub returns-then-is_sorted_by : goal.returns-then-is_sorted_by
returns-then-is_sorted_by c =
    let up = sorted-ascends _ (c.if-is_sorted_by.ensures.cases (λ x y. ltb x y) (answers_always _ _ _ (λ f a r q k. search rules))) in
    (ap₂ ◌&&◌ up (le-leb _ _ c.if-places-numbers.false), refl)

pub returns-else-is_sorted_by : goal.returns-else-is_sorted_by
returns-else-is_sorted_by c =
    let a = c.args in
    let w = c.if-is_sorted_by.ensures.cases (λ x y. ltb x y) (answers_always _ _ _ (λ f a r q k. search rules)) in
    ap (λ (b : Bool). b && leb (length a.numbers.now) a.places) (unsorted-not a.numbers.now w.0 w.1 (w.2 0))
