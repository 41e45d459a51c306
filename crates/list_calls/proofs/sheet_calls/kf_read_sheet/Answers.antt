-- `list_calls::sheet_calls::kf_read_sheet` meets its contract.
use mathlib.Core.Path.{refl}
use Rattle.sheets.specs.Answer.{sheet_number, sheet_values, sheet_outcome}
use Rattle.interface.proofs.Saying.{result-says}
use Rattle.list_calls.specs.ListCalls.{length_figures}
use Rattle.list_calls.proofs.sheet_calls.kf_read_sheet.Goals as goal

pub returns : goal.returns
returns c =
    let sheet = c.read_sheet in
    record {
      answer =
          result-says length_figures sheet_outcome sheet_number sheet_values _ sheet.result c.answer_of.ensures (λ n. refl) (λ r. refl) (λ n k. k) sheet.ensures.said
          (c.say.ensures.number, c.say.ensures.figures);
      wrote = sheet.ensures.wrote;
    }
