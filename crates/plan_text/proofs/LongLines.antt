-- An input of 48 bytes or more asks for nothing: the longest line that does has 8 bytes of name, two numbers of 18 digits, two spaces and a
-- newline. So a program may read no further than that.
-- Assumes nothing.
use Prim.Native.Nat.{ℕ, suc, ◌+◌, ◌-◌, ◌≤◌, ◌<◌}
use native.Mathlib.Omega.{arith}
use mathlib.Core.Path.{◌≡◌, refl, ap, sym, ◌∙◌}
use mathlib.Core.Bool.{Bool, true, false, cond, ◌&&◌, and-false}
use mathlib.Core.List.{List, [], ◌∷◌, ◌++◌}
use Rattle.std.specs.Prelude.{Option, None, Some}
use lib.Dec.{eqb, leb}
use lib.ListN.{length, take, replicate, length-drop}
use lib.Seq.{length-take-le, take_all}
use borrow.Author.Tests.{leb-true, leb-false, ltb-true}
use Rattle.blocks.specs.declared.kind.TreeKind.{TreeKind}
use Rattle.blocks.specs.declared.kind.TreeKind.TheVariants.{Refcount}
use Rattle.plan_text.specs.Line.{chomp, space_at, has_space, word, rest, rmap_name, refcount_name, kind_of, all_digits, is_number, value_from, request_of, line_of, request, LongAsksNothing}
use Rattle.plan_text.specs.Text.{reply, answer_text, CutIsExact}
use Rattle.plan_text.proofs.LineLaws.{same-long, name-none, number-long, request-name}

-- a name has 8 bytes at most
long-name : (name : List ℕ) → 8 < length name → None ≡ kind_of name
long-name name h =
    name-none name (same-long name rmap_name (λ e. let f : length name ≡ 4 = e in omega arith)) (same-long name refcount_name (λ e. let f : length name ≡ 8 = e in omega arith))

-- the three parts have 44 at most
module _ (name size records : List ℕ) where
  no_size : (o : Option TreeKind) → false ≡ is_number size → request_of o size records ≡ None
  unfolding request_of
  no_size None h = refl
  no_size (Some k) h = rw (← h) refl

  no-records : (o : Option TreeKind) → false ≡ is_number records → request_of o size records ≡ None
  unfolding request_of
  no-records None h = refl
  no-records (Some k) h = rw (← h, and-false (is_number size)) refl

  long-parts : 44 < length name + (length size + length records) → request_of (kind_of name) size records ≡ None
  long-parts h = go (leb 9 (length name)) (leb 19 (length size)) refl refl
    where
      go : (t u : Bool) → leb 9 (length name) ≡ t → leb 19 (length size) ≡ u → request_of (kind_of name) size records ≡ None
      go true u e f = sym (request-name name size records (long-name name (omega (arith, leb-true 9 (length name) e))))
      go false true e f = no_size (kind_of name) (number-long size (omega (arith, leb-true 19 (length size) f)))
      go false false e f =
          no-records (kind_of name) (number-long records (omega (arith, leb-false 9 (length name) e, leb-false 19 (length size) f)))

-- a line has 46 at most
long-line : (l : List ℕ) → 46 < length l → line_of l ≡ None
unfolding line_of
long-line l h = go (has_space l) (has_space (rest l)) refl refl
  where
    go : (t u : Bool) → has_space l ≡ t → has_space (rest l) ≡ u → cond (t && u) (request_of (kind_of (word l)) (word (rest l)) (rest (rest l))) None ≡ None
    go true true e f =
        let i : space_at l < length l = ltb-true (space_at l) (length l) e in
        let j : space_at (rest l) < length (rest l) = ltb-true (space_at (rest l)) (length (rest l)) f in
        let a : length (word l) ≡ space_at l = length-take-le (space_at l) l (omega arith) in
        let b : length (word (rest l)) ≡ space_at (rest l) = length-take-le (space_at (rest l)) (rest l) (omega arith) in
        let c : length (rest l) ≡ length l - (space_at l + 1) = length-drop (space_at l + 1) l in
        let d : length (rest (rest l)) ≡ length (rest l) - (space_at (rest l) + 1) = length-drop (space_at (rest l) + 1) (rest l) in
        long-parts (word l) (word (rest l)) (rest (rest l)) (omega arith)
    go true false e f = refl
    go false u e f = refl

-- the newline is one more
chomp-length : (l : List ℕ) → length l ≤ suc (length (chomp l))
unfolding chomp
chomp-length [] = omega arith
chomp-length (b ∷ []) = go (eqb b 10)
  where
    go : (t : Bool) → 1 ≤ suc (length (cond t [] (b ∷ [])))
    go true = omega arith
    go false = omega arith
chomp-length (b ∷ c ∷ l) = omega (arith, chomp-length (c ∷ l))

pub long-input : LongAsksNothing
long-input l h = long-line (chomp l) (omega (arith, chomp-length l))

-- so 48 bytes of an input or more tell what the whole of it asks for, and what is printed
cut-input : (n : ℕ) (l : List ℕ) → 48 ≤ n → request (take n l) ≡ request l
cut-input n l h = go (leb (length l) n) refl
  where
    go : (t : Bool) → leb (length l) n ≡ t → request (take n l) ≡ request l
    go true e = ap request (take_all n l (leb-true (length l) n e))
    go false e =
        let k : n < length l = leb-false (length l) n e in
        let m : length (take n l) ≡ n = length-take-le n l (omega arith) in
        long-input (take n l) (omega arith) ∙ sym (long-input l (omega arith))

pub cut-is-exact : CutIsExact
cut-is-exact n l h = ap reply (cut-input n l h)

-- ---- the longest line, and one digit more

abbrev zeros : ℕ → List ℕ
zeros n = replicate n 48

-- `refcount 000000000000004096 000000000000000337` and a newline
abbrev longest : List ℕ
longest = refcount_name ++ ((32 ∷ zeros 14) ++ ((52 ∷ 48 ∷ 57 ∷ 54 ∷ 32 ∷ zeros 15) ++ (51 ∷ 51 ∷ 55 ∷ 10 ∷ [])))

pub longest-asks : (length longest ≡ 47) × (request longest ≡ Some (record { kind = Refcount; blocksize = 4096; records = 337 }))
unfolding chomp space_at kind_of all_digits is_number value_from request_of line_of
longest-asks = (refl, refl)

-- with one zero more in front of 337 it has 48 bytes
abbrev too_long : List ℕ
too_long = refcount_name ++ ((32 ∷ zeros 14) ++ ((52 ∷ 48 ∷ 57 ∷ 54 ∷ 32 ∷ zeros 16) ++ (51 ∷ 51 ∷ 55 ∷ 10 ∷ [])))

pub too-long-asks-nothing : (length too_long ≡ 48) × (request too_long ≡ None)
too-long-asks-nothing = (refl, long-input too_long (omega arith))

-- the cut of the program `plan`
pub cut-at-64 : (input : List ℕ) → answer_text (take 64 input) ≡ answer_text input
cut-at-64 input = cut-is-exact 64 input (omega arith)
