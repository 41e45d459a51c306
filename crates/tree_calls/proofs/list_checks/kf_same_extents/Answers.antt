-- `tree_calls::list_checks::kf_same_extents` meets its contract.
use mathlib.Core.Path.{refl}
use Rattle.codec.specs.ListRefusal.{list_number, list_values}
use Rattle.free.specs.Same.{same_said}
use Rattle.interface.proofs.Saying.{result-says}
use Rattle.tree_calls.specs.SameFigures.{same_figures}
use Rattle.tree_calls.proofs.list_checks.kf_same_extents.Goals as goal

pub returns : goal.returns
returns c =
    let same = c.same_extents in
    result-says same_figures same_said list_number list_values _ same.result c.answer_of.ensures (λ so. refl) (λ r. refl) (λ so k. k) same.ensures
    (c.say.ensures.number, c.say.ensures.figures)
