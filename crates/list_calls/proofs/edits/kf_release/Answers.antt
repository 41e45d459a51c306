-- `list_calls::edits::kf_release` meets its contract.
use mathlib.Core.Path.{refl}
use Rattle.lists.specs.Answer.{edit_number, edit_values, released_outcome}
use Rattle.interface.proofs.Saying.{result-says}
use Rattle.list_calls.specs.ListCalls.{release_figures}
use Rattle.list_calls.proofs.edits.kf_release.Goals as goal

pub returns : goal.returns
returns c =
    let released = c.release-released in
    record {
      answer =
          result-says release_figures released_outcome edit_number edit_values _ released.result c.answer_of.ensures (λ n. refl) (λ r. refl) (λ n k. k) released.ensures.said
          (c.say.ensures.number, c.say.ensures.figures);
      counts = released.ensures.counts;
      extents = released.ensures.extents;
    }
