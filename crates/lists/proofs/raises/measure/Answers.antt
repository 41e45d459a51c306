-- `lists::raises::measure` meets its contract.
use mathlib.Core.Path.{ap, ◌∙◌}
use Rattle.std.proofs.lemmas.Result.{err_from_is_err_and}
use Rattle.codec.specs.Question.{map_outcome}
use Rattle.lists.specs.declared.Lengths.{Lengths}
use Rattle.lists.proofs.Measuring.{measured-raise}
use Rattle.lists.proofs.raises.measure.Goals as goal

pub returns-in_err-lengths : goal.returns-in_err-lengths
returns-in_err-lengths c = let x = c.args in
    let p = err_from_is_err_and c.from_residual.result c.from_residual.ensures.1 in
    rw (p.1, p.2) (ap (map_outcome (λ (n : Lengths). n.counts)) c.in_err-lengths.ensures ∙ measured-raise x.counts.now x.startblock x.blockcount)

pub returns : goal.returns
returns c = let x = c.args in ap (map_outcome (λ (n : Lengths). n.counts)) c.in_ok-lengths.ensures ∙ measured-raise x.counts.now x.startblock x.blockcount
