-- `codec::crc::crc_byte` meets its contract: its step from the table is the division's.
use mathlib.Core.Path.{sym, ap, ◌∙◌}
use Prim.Native.Nat.{ℕ, ◌/◌, ◌%◌}
use native.Mathlib.Nat.{zero-add}
use lib.Bits.{bit_xor}
use lib.ListN.{get_or}
use Rattle.codec.specs.declared.crc.TheConstants.{TABLES}
use Rattle.codec.specs.Words.{step_byte}
use Rattle.codec.proofs.CrcTables.{IsTables-TABLES}
use Rattle.codec.proofs.Words.{byte_step}
use Rattle.codec.proofs.crc.crc_byte.Goals as goal

pub returns : goal.returns
unfolding step_byte
returns c =
    let a = c.args in
    ap (λ (k : ℕ). bit_xor (get_or TABLES k 0) (a.crc / 256)) (sym (zero-add (bit_xor (a.crc % 256) a.b)))
    ∙ byte_step TABLES IsTables-TABLES a.crc a.b c.ranges.b.fits
