-- `codec::crc::crc_word` meets its contract: the shares of the four bytes make what the bytes make singly.
use borrow.Author.Rules.{rules}
use mathlib.Core.Path.{sym, ap, ◌∙◌}
use Rattle.std.proofs.lemmas.Nat.{le_bytes_4}
use Rattle.codec.specs.declared.crc.TheConstants.{TABLES}
use Rattle.codec.specs.Crc.{crc_bytes}
use Rattle.codec.proofs.CrcTables.{IsTables-TABLES}
use Rattle.codec.proofs.NumberBytes.{low_first-4}
use Rattle.codec.proofs.Words.{word-shares, word-step}
use Rattle.codec.proofs.crc.crc_word.Goals as goal

pub returns : goal.returns
returns c =
    let a = c.args in
    let w = c.from_le_bytes.result in
    word-shares TABLES a.crc w c.ranges.crc.fits c.from_le_bytes.type_inv
    ∙ word-step TABLES IsTables-TABLES a.crc w c.ranges.crc.fits c.from_le_bytes.type_inv
    ∙ ap (crc_bytes a.crc) (sym (low_first-4 w) ∙ le_bytes_4 a.word.now w (search rules) (search rules) c.from_le_bytes.ensures)
