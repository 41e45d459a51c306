-- `reasons::explain::explain_staged` meets its contract.
use Rattle.std.proofs.Common.{◌∙◌, sym}
use Rattle.reasons.proofs.Deciding.{staged-none, staged-outside, staged-here}
use Rattle.reasons.proofs.explain.explain_staged.Goals as goal

pub returns-in-None : goal.returns-in-None
returns-in-None c = let a = c.args in staged-none a.counts.now a.x a.block c.in-None.ensures

pub returns-in-Some : goal.returns-in-Some
returns-in-Some c = let a = c.args in staged-outside a.counts.now a.x a.block _ c.in-Some.ensures (sym c.over.ensures ∙ c.if-not-over.true)

pub returns-in-Some-2 : goal.returns-in-Some-2
returns-in-Some-2 c = let a = c.args in staged-here a.counts.now a.x a.block _ c.in-Some.ensures (sym c.over.ensures ∙ c.if-not-over.false)
