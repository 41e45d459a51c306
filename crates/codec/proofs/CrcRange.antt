-- The division keeps to 32 digits, and so does the check.
-- Assumes nothing.
use Prim.Native.Nat.{ℕ, zero, suc, ◌/◌, ◌%◌, ◌^◌, ◌<◌}
use mathlib.Core.List.{List, [], ◌∷◌}
use native.Mathlib.Omega.{arith}
use lib.Bits.{bit_xor, xor_lt}
use Rattle.codec.specs.Bytes.{IsBytes}
use Rattle.codec.specs.Crc.{polynomial, reduced, divide_bit, divide_bits, crc_byte, crc_bytes, crc32c_of}

reduced-lt : (s h : ℕ) → h < 2 ^ 31 → reduced s h < 2 ^ 32
reduced-lt zero h b = omega arith
reduced-lt (suc s) h b = xor_lt 32 h polynomial (omega arith) (omega arith)

pub divide_bit-lt : (s : ℕ) → s < 2 ^ 32 → divide_bit s < 2 ^ 32
unfolding divide_bit
divide_bit-lt s h = reduced-lt (s % 2) (s / 2) (omega arith)

divide_bits-lt : (k s : ℕ) → s < 2 ^ 32 → divide_bits k s < 2 ^ 32
unfolding divide_bits
divide_bits-lt zero s h = h
divide_bits-lt (suc k) s h = divide_bits-lt k (divide_bit s) (divide_bit-lt s h)

pub crc_byte-lt : (r b : ℕ) → r < 2 ^ 32 → b < 256 → crc_byte r b < 2 ^ 32
unfolding crc_byte
crc_byte-lt r b hr hb = divide_bits-lt 8 (bit_xor r b) (xor_lt 32 r b hr (omega arith))

pub crc_bytes-lt : (l : List ℕ) (r : ℕ) → IsBytes l → r < 2 ^ 32 → crc_bytes r l < 2 ^ 32
unfolding crc_bytes
crc_bytes-lt [] r hl hr = hr
crc_bytes-lt (b ∷ l) r hl hr = crc_bytes-lt l (crc_byte r b) (λ i. hl (suc i)) (crc_byte-lt r b hr (hl 0))

pub crc32c_of-lt : (l : List ℕ) → IsBytes l → crc32c_of l < 2 ^ 32
unfolding crc32c_of
crc32c_of-lt l h = xor_lt 32 (crc_bytes 0xFFFF_FFFF l) 0xFFFF_FFFF (crc_bytes-lt l 0xFFFF_FFFF h (omega arith)) (omega arith)
