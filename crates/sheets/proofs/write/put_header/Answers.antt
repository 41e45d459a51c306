-- `sheets::write::put_header` meets its contract.
use Rattle.sheets.proofs.Writing.{header-put}
use Rattle.sheets.proofs.write.put_header.Goals as goal

pub returns : goal.returns
returns c = header-put _ c.requires _ _ c.args.last _ _ _ c.put_be32.ensures c.put_be16.ensures _ c.mark.ensures (c.fill.ensures.after (λ y h. h))
