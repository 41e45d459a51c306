-- The questions of a take of held blocks, out of those of its two halves: what the splice of the reverse map answers, what the measure of the
-- counts answers, and whether all blocks are held. Each letter is a question's truth: a, b the reverse map's list, c, d the counts', g the extent,
-- u no clash, k no staging, h all held, o owners that fit.
-- Assumes nothing.
use Prim.Native.Nat.{ℕ, ◌≤◌, ◌<◌}
use mathlib.Core.Bool.{Bool, true, false}
use mathlib.Core.Path.{◌≡◌, refl}
use mathlib.Core.List.{[], ◌∷◌}
use native.Mathlib.Omega.{arith}
use Rattle.codec.specs.Question.{none, Outcome, done, refused, ask, answer, map_outcome}

abbrev pub spliced : {A : Type 0} (a b g u : Bool) → A → Outcome A
spliced a b g u x = answer (ask 19 a ∷ ask 20 b ∷ ask 22 g ∷ ask 23 u ∷ []) (done x)

abbrev pub measured : {A : Type 0} (c d g k o : Bool) → A → Outcome A
measured c d g k o x = answer (ask 19 c ∷ ask 21 d ∷ ask 22 g ∷ ask 25 k ∷ ask 28 o ∷ []) (done x)

abbrev pub both : {A : Type 0} (a b c d g u k h o : Bool) → A → Outcome A
both a b c d g u k h o x =
    answer (ask 19 a ∷ ask 20 b ∷ ask 19 c ∷ ask 21 d ∷ ask 22 g ∷ ask 23 u ∷ ask 25 k ∷ ask 27 h ∷ ask 28 o ∷ []) (done x)

never : {A P : Type 0} (x : A) (n : ℕ) → refused n none ≡ done x → P
never x n e = let z : ◌≡◌ {A = ℕ} 0 1 = cc in absurd (omega arith)

module _ {A B C : Type 0} (size : A → ℕ) (x : A) (w : B) (y : C) where
  -- the splice is refused by its list
  pub list-refuses : (a b c d g u k h o : Bool) (n : ℕ) → n < 22 → refused n none ≡ spliced a b g u w → both a b c d g u k h o y ≡ refused n none
  list-refuses false b c d g u k h o n i e = let q : n ≡ 19 = cc in rw q refl
  list-refuses true false c d g u k h o n i e = let q : n ≡ 20 = cc in rw q refl
  list-refuses true true c d false u k h o n i e = let q : n ≡ 22 = cc in absurd (omega arith)
  list-refuses true true c d true false k h o n i e = let q : n ≡ 23 = cc in absurd (omega arith)
  list-refuses true true c d true true k h o n i e = never w n e

  -- it is refused otherwise: 19 and 21 of the counts come first
  pub extent-refuses : (a b c d g u k h o : Bool) (n : ℕ) → 22 ≤ n → refused n none ≡ spliced a b g u w
      → both a b c d g u k h o y ≡ answer (ask 19 c ∷ ask 21 d ∷ []) (refused n none)
  extent-refuses false b c d g u k h o n i e = let q : n ≡ 19 = cc in absurd (omega arith)
  extent-refuses true false c d g u k h o n i e = let q : n ≡ 20 = cc in absurd (omega arith)
  extent-refuses true true false d g u k h o n i e = refl
  extent-refuses true true true false g u k h o n i e = refl
  extent-refuses true true true true false u k h o n i e = let q : n ≡ 22 = cc in rw q refl
  extent-refuses true true true true true false k h o n i e = let q : n ≡ 23 = cc in rw q refl
  extent-refuses true true true true true true k h o n i e = never w n e

  -- the splice is not refused, and the raise is, by 28: 27 comes first
  pub owners-refuse : (c d k h o : Bool) → refused 28 none ≡ map_outcome size (measured c d true k o x)
      → both true true c d true true k h o y ≡ answer (ask 27 h ∷ []) (refused 28 none)
  owners-refuse false d k h o e = let q : ◌≡◌ {A = ℕ} 28 19 = cc in absurd (omega arith)
  owners-refuse true false k h o e = let q : ◌≡◌ {A = ℕ} 28 21 = cc in absurd (omega arith)
  owners-refuse true true false h o e = let q : ◌≡◌ {A = ℕ} 28 25 = cc in absurd (omega arith)
  owners-refuse true true true true false e = refl
  owners-refuse true true true false false e = refl
  owners-refuse true true true h true e = never (size x) 28 e

  -- the raise is refused by an earlier question
  pub counts-refuse : (c d k h o : Bool) (n : ℕ) → (n ≡ 28 → ⊥) → refused n none ≡ map_outcome size (measured c d true k o x)
      → both true true c d true true k h o y ≡ refused n none
  counts-refuse false d k h o n i e = let q : n ≡ 19 = cc in rw q refl
  counts-refuse true false k h o n i e = let q : n ≡ 21 = cc in rw q refl
  counts-refuse true true false h o n i e = let q : n ≡ 25 = cc in rw q refl
  counts-refuse true true true h false n i e = let q : n ≡ 28 = cc in absurd (i q)
  counts-refuse true true true h true n i e = never (size x) n e
