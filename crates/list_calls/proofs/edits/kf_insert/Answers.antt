-- `list_calls::edits::kf_insert` meets its contract.
use mathlib.Core.Path.{refl}
use Rattle.lists.specs.Answer.{edit_number, edit_values, edited_outcome}
use Rattle.interface.proofs.Saying.{result-says}
use Rattle.list_calls.specs.ListCalls.{length_figures}
use Rattle.list_calls.proofs.edits.kf_insert.Goals as goal

pub returns : goal.returns
returns c =
    let edited = c.insert in
    rw (← c.extent-x.ensures)
    (record {
      answer =
          result-says length_figures edited_outcome edit_number edit_values _ edited.result c.answer_of.ensures (λ n. refl) (λ r. refl) (λ n k. k) edited.ensures.said
          (c.say.ensures.number, c.say.ensures.figures);
      wrote = edited.ensures.wrote;
    })
