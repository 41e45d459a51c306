-- A test of one reverse-map record, as the code asks it.
-- Assumes nothing.
use Prim.Native.Nat.{ℕ, ◌/◌, ◌%◌}
use native.Mathlib.Nat.{div-div-eq-div-mul}
use mathlib.Core.Path.{◌≡◌, ap}
use mathlib.Core.Bool.{◌||◌}
use lib.Dec.{eqb}
use Rattle.codec.specs.declared.rmap.Rmap.{Rmap}
use Rattle.codec.specs.Rmaps.{off_limit, off_bmbt_block, reserved, mapping, exempt}

-- bit 62 is read from the offset, with no step over the flags
pub exempt_is : (r : Rmap) → exempt r ≡ (reserved r.owner || eqb (r.offset / off_bmbt_block % 2) 1)
unfolding exempt mapping
exempt_is r = ap (λ (n : ℕ). reserved r.owner || eqb (n % 2) 1) (div-div-eq-div-mul r.offset off_limit (off_bmbt_block / off_limit))
