-- A list with zeros after it: its length, its bytes, and a list that is long enough already.
-- Assumes nothing.
use Prim.Native.Nat.{ℕ, ◌-◌, ◌≤◌}
use native.Mathlib.Omega.{arith}
use mathlib.Core.Path.{◌≡◌, ap, ◌∙◌}
use mathlib.Core.List.{List, ◌++◌, append-nil}
use lib.ListN.{length, replicate, length-append, length-replicate}
use Rattle.codec.specs.Bytes.{IsBytes}
use Rattle.codec.proofs.FieldLists.{IsBytes-append}
use Rattle.codec.proofs.Overwrites.{IsBytes-zeros}
use Rattle.trees.specs.Build.{padded}

pub padded-length : (n : ℕ) (l : List ℕ) → length l ≤ n → length (padded n l) ≡ n
padded-length n l h = omega (arith, length-append l (replicate (n - length l) 0), length-replicate {A = ℕ} (n - length l) 0)

pub padded-bytes : (n : ℕ) (l : List ℕ) → IsBytes l → IsBytes (padded n l)
padded-bytes n l h = IsBytes-append l (replicate (n - length l) 0) h (IsBytes-zeros (n - length l))

pub padded-full : (n : ℕ) (l : List ℕ) → n ≤ length l → padded n l ≡ l
padded-full n l h = let z : n - length l ≡ 0 = omega arith in ap (λ (x : ℕ). l ++ replicate x 0) z ∙ append-nil l
