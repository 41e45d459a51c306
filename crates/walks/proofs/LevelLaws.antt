-- Laws of the blocks by level, and of the visits in the level scratch.
-- Assumes nothing.
use Prim.Native.Nat.{ℕ, zero, suc, ◌+◌, ◌/◌, ◌%◌, ◌^◌, ◌≤◌, ◌<◌}
use native.Mathlib.Numerals.{add-one}
use native.Mathlib.Omega.{arith}
use mathlib.Core.Path.{◌≡◌, refl, sym, ap, ap₂, ◌∙◌}
use mathlib.Core.List.{List, [], ◌∷◌, ◌++◌}
use mathlib.Core.Bool.{Bool, true, false, cond}
use lib.ListN.{length, take, drop, get_or, length-append, take-append-drop}
use lib.Seq.{take-suc, take-take}
use lib.Dec.{ltb, eqb}
use borrow.Author.Tests.{eq-eqb, ne_eqb, lt-ltb, le-ltb, ltb-true, ltb-false, eqb-true, eqb-false}
use Rattle.walks.specs.Walk.{Visit, visit_of, at_level, by_level}
use Rattle.walks.specs.OneVisit.{place_of, visit_at, seen_of}
use Rattle.walks.specs.Inner.WalkState.{level_in}

-- ---- the visits in the level scratch

pub visit-place : (v : Visit) → v.block < 2 ^ 32 → visit_at (place_of v) ≡ v
visit-place v h =
    let b : place_of v % 2 ^ 32 ≡ v.block = omega arith in
    let l : place_of v / 2 ^ 32 ≡ v.level = omega arith in
    ap₂ visit_of b l

pub seen-append : (a b : List ℕ) → seen_of (a ++ b) ≡ seen_of a ++ seen_of b
unfolding seen_of
seen-append [] b = refl
seen-append (x ∷ a) b = ap (λ (t : List Visit). visit_at x ∷ t) (seen-append a b)

-- ---- the blocks of a level

level-cons : (t : Bool) (x : ℕ) (l a b : List ℕ) → l ≡ a ++ b → cond t (x ∷ l) l ≡ cond t (x ∷ a) a ++ b
level-cons true x l a b e = ap (λ (t : List ℕ). x ∷ t) e
level-cons false x l a b e = e

pub level-append : (level : ℕ) (a b : List Visit) → at_level level (a ++ b) ≡ at_level level a ++ at_level level b
unfolding at_level
level-append level [] b = refl
level-append level (v ∷ a) b = level-cons (eqb v.level level) v.block (at_level level (a ++ b)) (at_level level a) (at_level level b) (level-append level a b)

pub levels-append : (level : ℕ) (a b : List ℕ) → level_in level (a ++ b) ≡ level_in level a ++ level_in level b
levels-append level a b = ap (at_level level) (seen-append a b) ∙ level-append level (seen_of a) (seen_of b)

pub levels-more : (level : ℕ) (s : List ℕ) (i : ℕ) → i < length s → level_in level (take (i + 1) s) ≡ level_in level (take i s) ++ level_in level (get_or s i 0 ∷ [])
levels-more level s i h = ap (λ (k : ℕ). level_in level (take k s)) (add-one i) ∙ ap (level_in level) (take-suc s i 0 h) ∙ levels-append level (take i s) (get_or s i 0 ∷ [])

pub levels-within : (level : ℕ) (s : List ℕ) (m : ℕ) → length (level_in level (take m s)) ≤ length (level_in level s)
levels-within level s m =
    let e = ap (level_in level) (sym (take-append-drop m s)) ∙ levels-append level (take m s) (drop m s) in
    omega (arith, ap length e ∙ length-append (level_in level (take m s)) (level_in level (drop m s)))

pub levels-mono : (level : ℕ) (s : List ℕ) (m n : ℕ) → m ≤ n → length (level_in level (take m s)) ≤ length (level_in level (take n s))
levels-mono level s m n h = let k = levels-within level (take n s) m in rw (take-take m n s h) at k

module _ (level place : ℕ) where
  pub level-this : place / 2 ^ 32 ≡ level → level_in level (place ∷ []) ≡ place % 2 ^ 32 ∷ []
  unfolding at_level seen_of
  level-this e = rw (eq-eqb (place / 2 ^ 32) level e)

  pub level-other : (place / 2 ^ 32 ≡ level → ⊥) → level_in level (place ∷ []) ≡ []
  unfolding at_level seen_of
  level-other e = rw (ne_eqb (place / 2 ^ 32) level e)

-- every visit is of one level at most
level-count : (l n x : ℕ) (a : List ℕ) (b u : Bool) → ltb l n ≡ b → eqb l n ≡ u → length (cond u (x ∷ a) a) + cond b 1 0 ≡ length a + cond (ltb l (suc n)) 1 0
level-count l n x a true true p q = absurd (omega (arith, ltb-true l n p, eqb-true l n q))
level-count l n x a true false p q = rw (lt-ltb l (suc n) (omega (arith, ltb-true l n p)))
level-count l n x a false true p q = rw (lt-ltb l (suc n) (omega (arith, eqb-true l n q))) (omega arith)
level-count l n x a false false p q = rw (le-ltb l (suc n) (omega (arith, ltb-false l n p, eqb-false l n q)))

one_more : (n : ℕ) (v : Visit) (vs : List Visit) → length (by_level n (v ∷ vs)) ≡ length (by_level n vs) + cond (ltb v.level n) 1 0
unfolding by_level at_level
one_more zero v vs = rw (le-ltb v.level 0 (omega arith))
one_more (suc n) v vs =
    let this = cond (eqb v.level n) (v.block ∷ at_level n vs) (at_level n vs) in
    omega (
      arith,
      length-append (by_level n (v ∷ vs)) this,
      length-append (by_level n vs) (at_level n vs),
      one_more n v vs,
      level-count v.level n v.block (at_level n vs) (ltb v.level n) (eqb v.level n) refl refl,
    )

none-by-level : (n : ℕ) → length (by_level n []) ≡ 0
unfolding by_level at_level
none-by-level zero = refl
none-by-level (suc n) = omega (arith, length-append (by_level n []) [], none-by-level n)

bit-small : (b : Bool) → cond {A = ℕ} b 1 0 ≤ 1
bit-small true = omega arith
bit-small false = omega arith

pub by-level-length : (n : ℕ) (vs : List Visit) → length (by_level n vs) ≤ length vs
by-level-length n [] = omega (arith, none-by-level n)
by-level-length n (v ∷ vs) = omega (arith, one_more n v vs, by-level-length n vs, bit-small (ltb v.level n))

-- visits of the tree's levels are all among its blocks by level
abbrev pub Within : ℕ → List Visit → Type 0
Within n [] = Unit {0}
Within n (v ∷ vs) = (v.level < n) × Within n vs

pub by-level-all : (n : ℕ) (vs : List Visit) → Within n vs → length (by_level n vs) ≡ length vs
by-level-all n [] w = none-by-level n
by-level-all n (v ∷ vs) w = one_more n v vs ∙ rw (lt-ltb v.level n w.0) (omega (arith, by-level-all n vs w.1))

pub by-level-more : (n : ℕ) (vs : List Visit) → by_level (n + 1) vs ≡ by_level n vs ++ at_level n vs
unfolding by_level
by-level-more n vs = rw (add-one n)

pub seen-length : (ps : List ℕ) → length (seen_of ps) ≡ length ps
unfolding seen_of
seen-length [] = refl
seen-length (p ∷ ps) = ap suc (seen-length ps)
