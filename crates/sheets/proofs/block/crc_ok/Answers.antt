-- `sheets::block::crc_ok` meets its contract.
use mathlib.Core.Path.{sym, ap, ap₂, ◌∙◌}
use lib.Dec.{eqb}
use Rattle.codec.specs.Crc.{crc32c_of}
use Rattle.codec.proofs.Stores.{bytes_at-is}
use Rattle.sheets.specs.Sheet.{crc_ok}
use Rattle.sheets.proofs.block.crc_ok.Goals as goal

pub returns : goal.returns
unfolding crc_ok
returns c = ap₂ eqb c.le32.ensures (c.crc32c.ensures ∙ ap crc32c_of (sym (bytes_at-is c.args.b.now 4 508)))
