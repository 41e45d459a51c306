-- `reasons::explain::decide` meets its contract.
use Rattle.std.proofs.Common.{◌∙◌}
use Rattle.std.proofs.lemmas.Result.{err_from_is_err_and}
use Rattle.reasons.proofs.Deciding.{map-refused, refused-other, counts-refused, counts-done}
use Rattle.reasons.proofs.explain.decide.Goals as goal

pub returns-in_err-other : goal.returns-in_err-other
returns-in_err-other c =
    let p = err_from_is_err_and c.from_residual.result c.from_residual.ensures.1 in
    let a = c.args in
    rw (p.1, p.2) (map-refused a.map.now a.counts.now a.x a.block _ c.in_err-other.ensures)

pub returns-in-Staging : goal.returns-in-Staging
returns-in-Staging c =
    let a = c.args in
    c.explain_staged.ensures ∙ (rw c.in-Staging.is at (counts-refused a.map.now a.counts.now a.x a.block _ c.in_ok-other.ensures c.in-Err.refusal c.in-Err.ensures))

pub returns-in_default : goal.returns-in_default
returns-in_default c =
    let a = c.args in
    refused-other a.counts.now a.x a.block c.in-Err.refusal c.in_default.not-Staging
    ∙ counts-refused a.map.now a.counts.now a.x a.block _ c.in_ok-other.ensures c.in-Err.refusal c.in-Err.ensures

pub returns-in-Ok : goal.returns-in-Ok
returns-in-Ok c =
    let a = c.args in
    c.explain_clear.ensures ∙ counts-done a.map.now a.counts.now a.x a.block _ c.in_ok-other.ensures _ c.in-Ok.ensures
