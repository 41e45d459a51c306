-- `list_calls::explaining::kf_explain` meets its contract.
use Prim.Native.Nat.{◌/◌, ◌^◌}
use native.Mathlib.Omega.{arith}
use mathlib.Core.Path.{refl, sym, ap, ◌∙◌}
use lib.ListN.{length}
use Rattle.interface.proofs.Saying.{result-says}
use Rattle.reasons.specs.Answer.{explain_number, explain_values, explained_outcome}
use Rattle.reasons.proofs.Deciding.{said-named, named_more}
use Rattle.list_calls.specs.ExplainFigures.{explain_figures}
use Rattle.list_calls.proofs.explaining.kf_explain.Goals as goal

pub answer_of-requires : goal.answer_of-requires
answer_of-requires c =
    let a = c.args in
    let m = a.map.now in
    let n = a.counts.now in
    λ w is. named_more w (length m / 24) (length n / 12) (2 ^ 64 / 24) (2 ^ 64 / 12) (omega (arith, c.well_formed.0.0)) (omega (arith, c.well_formed.1.0))
    (said-named m n _ a.block w (ap explained_outcome (sym is) ∙ c.decide.ensures))

pub returns : goal.returns
returns c =
    rw (← c.extent-x.ensures)
    (result-says explain_figures explained_outcome explain_number explain_values _ c.decide.result c.answer_of.ensures (λ w. refl) (λ r. refl) (λ w k. k) c.decide.ensures
    (c.say.ensures.number, c.say.ensures.figures))
