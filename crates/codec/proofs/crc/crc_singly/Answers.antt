-- `codec::crc::crc_singly` meets its contract. The invariant: the register and the bytes to come make what the whole makes.
use Prim.Native.Nat.{ℕ, ◌+◌, ◌≤◌, ◌<◌}
use mathlib.Core.Path.{◌≡◌, sym, ◌∙◌}
use mathlib.Core.List.{List}
use native.Mathlib.Omega.{arith}
use native.Mathlib.Numerals.{add-one}
use lib.ListN.{length, drop, get_or, drop_of_length-le}
use lib.Seq.{drop-cons}
use Rattle.codec.specs.Crc.{crc_byte, crc_bytes}
use Rattle.codec.proofs.crc.crc_singly.Goals as goal

-- a turn: the next byte goes into the register
turn : (s : List ℕ) (r r' i : ℕ) → i < length s → r' ≡ crc_byte r (get_or s i 0) → crc_bytes r' (drop (i + 1) s) ≡ crc_bytes r (drop i s)
unfolding crc_bytes
turn s r r' i h e = rw (e, add-one, drop-cons s i 0)

-- the end: no byte to come
done : (s : List ℕ) (r i : ℕ) → length s ≤ i → crc_bytes r (drop i s) ≡ r
unfolding crc_bytes
done s r i h = rw (drop_of_length-le s)

pub loop-b-preserved : goal.loop-b-preserved
loop-b-preserved c = let l = c.loop-b in turn _ l.r _ l.b-index (omega arith) c.crc_byte-r.ensures ∙ l.invariant

pub returns : goal.returns
returns c = let l = c.loop-b in sym (done _ l.r l.b-index (omega arith)) ∙ l.invariant
