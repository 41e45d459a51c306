-- `reasons::explain::explain_clear` meets its contract.
use Rattle.std.proofs.Common.{◌∙◌, sym, refl, ap}
use Rattle.codec.specs.Question.{done}
use Rattle.reasons.proofs.explain.explain_clear.Goals as goal

pub returns-then-not-over : goal.returns-then-not-over
returns-then-not-over c = rw (sym c.over.ensures ∙ c.if-not-over.true) refl

pub returns : goal.returns
returns c = rw (sym c.over.ensures ∙ c.if-not-over.false) (ap done c.holder.ensures)
