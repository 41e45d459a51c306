-- Case analysis on tests.
-- Assumes nothing.
use mathlib.Core.Path.{◌≡◌, refl}
use mathlib.Core.Bool.{Bool, true, false, ◌&&◌}
use native.Mathlib.Omega.{arith}
use borrow.Author.Tests.{ltb-true, ltb-false, leb-true, leb-false, eqb-true}

-- by the two values of a test; the equation is at hand in each branch
pub split {ℓ} : {P : Type ℓ} (t : Bool) → (t ≡ true → P) → (t ≡ false → P) → P
split true f g = f refl
split false f g = g refl

pub ruleset tests = (arith, ltb-true, ltb-false, leb-true, leb-false, eqb-true)

-- the parts of a conjunction that holds: `search conj` finds the part wanted
pub and_l : (a b : Bool) → (a && b) ≡ true → a ≡ true
and_l true b e = refl
and_l false b e = e

pub and_r : (a b : Bool) → (a && b) ≡ true → b ≡ true
and_r true b e = e
and_r false b e = cc

pub ruleset conj = (and_l, and_r)

pub and-true : (a b : Bool) → a ≡ true → b ≡ true → (a && b) ≡ true
and-true true b e f = f
and-true false b e f = e

pub and-on : (a : Bool) → (a && true) ≡ a
and-on true = refl
and-on false = refl

pub and-off : (a : Bool) → (a && false) ≡ false
and-off true = refl
and-off false = refl
