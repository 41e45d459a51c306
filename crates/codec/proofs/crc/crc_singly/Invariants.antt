-- `codec::crc::crc_singly` meets its contract. The invariant: the register and the bytes to come make what the whole makes.
use mathlib.Core.Path.{◌≡◌}
use lib.ListN.{drop}
use Rattle.codec.specs.Crc.{crc_bytes}
use Rattle.codec.proofs.crc.crc_singly.Given as goal

abbrev pub invariant-loop-b : goal.invariant-loop-b
invariant-loop-b l = crc_bytes l.r (drop l.b-index l.s) ≡ crc_bytes l.crc l.s
