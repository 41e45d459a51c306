-- `codec::crc::crc_bytes` meets its contract. The invariant: the register and the bytes to come make what the whole makes.
use Prim.Native.Nat.{◌*◌}
use mathlib.Core.Path.{◌≡◌}
use lib.ListN.{drop}
use Rattle.codec.specs.Crc.{crc_bytes}
use Rattle.codec.proofs.crc.crc_bytes.Given as goal

abbrev pub invariant-loop-word : goal.invariant-loop-word
invariant-loop-word l = crc_bytes l.r (drop (l.word-index * 4) l.s) ≡ crc_bytes l.crc l.s
