-- `reasons::scan::find_other` meets its contract.
use Rattle.std.proofs.Common.{◌∙◌, ℕ, sym, subst}
use Rattle.codec.specs.Records.{records_of, rmaps}
use Rattle.reasons.specs.Inner.Finding.{Finds}
use Rattle.reasons.proofs.Finding.{other_length, other-order, other-extent, other-missing, other-found}
use Rattle.reasons.proofs.scan.find_other.Goals as goal

pub returns-then-map-ne0 : goal.returns-then-map-ne0
returns-then-map-ne0 c =
    let a = c.args in
    other_length a.map.now a.x a.block c.if-map-ne0.true

pub returns-in_default : goal.returns-in_default
returns-in_default c =
    let a = c.args in
    other-order a.map.now a.x a.block c.if-map-ne0.false c.in_default.ensures

pub returns-then-not-good : goal.returns-then-not-good
returns-then-not-good c =
    let a = c.args in
    other-extent a.map.now a.x a.block c.if-map-ne0.false c.in-Some.ensures.0 (sym c.good.ensures ∙ c.if-not-good.true)

pub returns-then-n-cut : goal.returns-then-n-cut
returns-then-n-cut c =
    let a = c.args in
    let f = subst (λ (k : ℕ). Finds a.x k (records_of rmaps a.map.now) c.in-Some.s) c.probe.ensures c.in-Some.ensures.1 in
    other-missing a.map.now a.x a.block c.if-map-ne0.false c.in-Some.ensures.0 (sym c.good.ensures ∙ c.if-not-good.false)
    c.in-Some.s f _ c.cut_of-cut.ensures c.if-n-cut.true

pub returns : goal.returns
returns c =
    let a = c.args in
    let f = subst (λ (k : ℕ). Finds a.x k (records_of rmaps a.map.now) c.in-Some.s) c.probe.ensures c.in-Some.ensures.1 in
    other-found a.map.now a.x a.block c.if-map-ne0.false c.in-Some.ensures.0 (sym c.good.ensures ∙ c.if-not-good.false)
    c.in-Some.s f _ c.cut_of-cut.ensures c.if-n-cut.false _ c.other_than.ensures
