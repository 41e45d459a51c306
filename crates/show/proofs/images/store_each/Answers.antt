use Rattle.std.proofs.Common.{arith, sym, ◌∙◌, ap, ap₂, ℕ, List, ◌<◌, ◌+◌, length, get_or, drop}
use Rattle.show.specs.Images.{stored, stored_each}
use Rattle.show.proofs.Storing.{each-none, each-short, each-next}
use Rattle.show.proofs.images.store_each.Goals as goal

pub returns-in_default : goal.returns-in_default
returns-in_default c =
    let l = c.loop-number in
    sym (each-short l.rest.now c.args.size l.image _ c.in_default.ensures.cases) ∙ l.invariant

pub loop-number-preserved : goal.loop-number-preserved
loop-number-preserved c =
    let l = c.loop-number in
    let a = c.args in
    let more : l.number-index < length a.numbers.now = omega arith in
    let cut = c.in-Some.ensures.cases in
    ap₂ (λ (rest image : List ℕ). stored_each rest a.size (drop (l.number-index + 1) a.numbers.now) image) cut.2
    (c.store.ensures ∙ ap (λ (block : List ℕ). stored block (get_or a.numbers.now l.number-index 0) l.image) cut.1)
    ∙ sym (each-next l.rest.now a.size l.image a.numbers.now l.number-index more cut.0)
    ∙ l.invariant

pub returns : goal.returns
returns c =
    let l = c.loop-number in
    sym (each-none l.rest.now c.args.size l.image c.args.numbers.now l.number-index (omega arith)) ∙ l.invariant
