-- Case analysis on tests.
-- Assumes nothing.
use mathlib.Core.Bool.{Bool, true, false}
use mathlib.Core.Path.{◌≡◌}
use Prim.Native.Nat.{ℕ}
use native.Mathlib.Omega.{arith}
pub use Rattle.codec.proofs.Tests.{split, tests, conj, and_l, and_r, and-true}

-- no test has both values
pub clash : (t : Bool) → t ≡ true → t ≡ false → ⊥
clash t e f = let z : ◌≡◌ {A = ℕ} 0 1 = cc in omega arith
