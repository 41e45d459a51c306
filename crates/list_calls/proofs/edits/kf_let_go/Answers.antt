-- `list_calls::edits::kf_let_go` meets its contract.
use mathlib.Core.Path.{refl}
use Rattle.lists.specs.Answer.{edit_number, edit_values}
use Rattle.groups.specs.Answer.{group_edited_outcome}
use Rattle.interface.proofs.Saying.{result-says}
use Rattle.list_calls.specs.ListCalls.{group_figures}
use Rattle.list_calls.proofs.edits.kf_let_go.Goals as goal

pub returns : goal.returns
returns c =
    let edited = c.let_go-edited in
    rw (← c.extent-x.ensures)
    (record {
      answer =
          result-says group_figures group_edited_outcome edit_number edit_values _ edited.result c.answer_of.ensures (λ n. refl) (λ r. refl) (λ n k. k) edited.ensures.said
          (c.say.ensures.number, c.say.ensures.figures);
      map_is = edited.ensures.map_is;
      counts_are = edited.ensures.counts_are;
      free_are = edited.ensures.free_are;
    })
