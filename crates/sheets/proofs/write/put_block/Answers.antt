-- `sheets::write::put_block` meets its contract.
use Rattle.sheets.proofs.Writing.{block-put}
use Rattle.sheets.proofs.write.put_block.Goals as goal

pub returns : goal.returns
returns c = block-put _ c.requires.0 _ c.requires.1 _ _ _ c.put_header.ensures _ c.put_part.ensures _ _ c.crc32c-crc.ensures c.put_le32.ensures
