-- Two numbers written one after the other over 16 bytes are those bytes.
-- Assumes nothing.
use mathlib.Core.Path.{◌≡◌, sym, ap, ◌∙◌}
use mathlib.Core.List.{List, ◌++◌, append-nil}
use Prim.Native.Nat.{ℕ, ◌+◌}
use native.Mathlib.Omega.{arith}
use lib.ListN.{length, length-append, drop_of_length-le}
use Rattle.codec.specs.Bytes.{with_bytes, be_bytes}
use Rattle.codec.proofs.Parts.{with_bytes-add}
use Rattle.codec.proofs.Numbers.{length-be_bytes}

-- a write over all of a list leaves nothing of it
with_bytes-all : (l bs : List ℕ) → length bs ≡ length l → with_bytes l 0 bs ≡ bs
unfolding with_bytes
with_bytes-all l bs e = rw (drop_of_length-le l {i = 0 + length bs} (omega (arith, e))) (append-nil bs)

pub two-halves : (l : List ℕ) (x y : ℕ) → length l ≡ 16 → with_bytes (with_bytes l 0 (be_bytes 8 x)) 8 (be_bytes 8 y) ≡ be_bytes 8 x ++ be_bytes 8 y
two-halves l x y e =
    let n : length (be_bytes 8 x) ≡ 8 = length-be_bytes 8 x in
    let n₀ : 0 + length (be_bytes 8 x) ≡ 8 = omega arith in
    let m : length (be_bytes 8 y) ≡ 8 = length-be_bytes 8 y in
    ap (λ (k : ℕ). with_bytes (with_bytes l 0 (be_bytes 8 x)) k (be_bytes 8 y)) (sym n₀)
    ∙ with_bytes-add l 0 (be_bytes 8 x) (be_bytes 8 y) (omega arith)
    ∙ with_bytes-all l (be_bytes 8 x ++ be_bytes 8 y) (omega (arith, length-append (be_bytes 8 x) (be_bytes 8 y)))
