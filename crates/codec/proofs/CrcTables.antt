-- The tables of `codec::crc` keep the rule: a test at each of their 1,024 entries, which antt computes once.
-- Assumes nothing.
use mathlib.Core.Path.{◌≡◌, refl, ap₂, ◌∙◌}
use mathlib.Core.Bool.{Bool}
use mathlib.Core.List.{List, ◌∷◌}
use Prim.Native.Nat.{ℕ, ◌+◌, ◌*◌, ◌/◌, ◌%◌, ◌<◌}
use native.Mathlib.Omega.{arith}
use lib.Dec.{T, eqb, eqb→eq}
use lib.ListN.{length, get_or, replicate}
use Rattle.codec.specs.declared.crc.TheConstants.{TABLES}
use Rattle.codec.specs.Crc.{divide_bit, divide_bits, crc_byte, crc_bytes}
use Rattle.codec.specs.Words.{IsTables}
use Rattle.codec.proofs.Table.{every, at}

-- the entry at k is in table k / 256, at k % 256
ruled : ℕ → ℕ
ruled k = crc_bytes 0 (k % 256 ∷ replicate (k / 256) 0)

right : ℕ → ℕ → Bool
right k x = eqb x (ruled k)

place : (z n : ℕ) → n < 256 → ruled (z * 256 + n) ≡ crc_bytes 0 (n ∷ replicate z 0)
unfolding ruled
place z n h =
    let high : (z * 256 + n) / 256 ≡ z = omega arith in
    let low : (z * 256 + n) % 256 ≡ n = omega arith in
    ap₂ (λ (a b : ℕ). crc_bytes 0 (a ∷ replicate b 0)) low high

IsTables-right : (t : List ℕ) → T (every right 0 t) → length t ≡ 1024 → IsTables t
unfolding right
IsTables-right t h long z n hz hn =
    eqb→eq (get_or t (z * 256 + n) 0) (ruled (z * 256 + n)) (at right t h (z * 256 + n) (omega arith)) ∙ place z n hn

pub IsTables-TABLES : IsTables TABLES
unfolding right ruled crc_bytes crc_byte divide_bits divide_bit
IsTables-TABLES = IsTables-right TABLES tt refl
