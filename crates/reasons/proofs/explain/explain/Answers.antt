-- `reasons::explain::explain` meets its contract.
use Rattle.std.proofs.Common.{◌∙◌, sym, ap}
use Rattle.reasons.specs.Answer.{explained_outcome}
use Rattle.reasons.proofs.Deciding.{said-named, explains-said, explains-refused}
use Rattle.reasons.proofs.explain.explain.Goals as goal

pub record_at-requires : goal.record_at-requires
record_at-requires c =
    let a = c.args in
    said-named a.map.now a.counts.now a.x a.block _ (ap explained_outcome (sym c.in-Ok.is) ∙ c.decide-answer.ensures)

pub returns-in-Ok : goal.returns-in-Ok
returns-in-Ok c =
    let a = c.args in
    explains-said a.map.now a.counts.now a.x a.block _ _ c.in-Ok.is c.decide-answer.ensures _ c.record_at.ensures _ c.number.ensures

pub returns-in-Err : goal.returns-in-Err
returns-in-Err c =
    let a = c.args in
    explains-refused a.map.now a.counts.now a.x a.block _ _ c.in-Err.is c.decide-answer.ensures _ c.number.ensures
