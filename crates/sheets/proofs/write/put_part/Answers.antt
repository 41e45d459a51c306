-- `sheets::write::put_part` meets its contract.
use Rattle.sheets.proofs.Writing.{changes-put}
use Rattle.sheets.proofs.write.put_part.Goals as goal

pub returns : goal.returns
returns c = changes-put _ c.requires.0 _ c.requires.1 _ c.copy.ensures _ (c.fill.ensures.after (λ y h. h))
