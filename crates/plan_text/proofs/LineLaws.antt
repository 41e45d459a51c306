-- Laws of the line's parts: the first space, words that differ in length, numbers, and the newline at the end.
-- Assumes nothing.
use Prim.Native.Nat.{ℕ, zero, suc, ◌+◌, ◌-◌, ◌*◌, ◌^◌, ◌≤◌, ◌<◌}
use native.Mathlib.Nat.{le_of_eq, pow-suc, pow-le-pow_right}
use native.Mathlib.Numerals.{add-one}
use native.Mathlib.Omega.{arith}
use mathlib.Core.Path.{◌≡◌, refl, ap, sym, ◌∙◌}
use mathlib.Core.Bool.{Bool, true, false, cond, ◌&&◌}
use mathlib.Core.List.{List, [], ◌∷◌}
use Rattle.std.specs.Prelude.{Option, None, Some, position, ◌==◌, not}
use Rattle.std.specs.List.{position_or_len}
use lib.Dec.{eqb, ltb}
use lib.Pointwise.{pointwise}
use lib.ListN.{length, get_or, take, drop, drop_of_length-le, length-drop}
use lib.Seq.{drop-cons, take_all}
use borrow.Author.Tests.{ne_eqb, eq-eqb, eqb-true, le-leb, lt-leb}
use Rattle.blocks.specs.Check.{same}
use Rattle.blocks.specs.declared.kind.TreeKind.{TreeKind}
use Rattle.blocks.specs.declared.kind.TreeKind.TheVariants.{Rmap, Refcount}
use Rattle.plan_text.specs.declared.line.Request.{Request}
use Rattle.plan_text.specs.Line.{chomp, space_at, is_digit, all_digits, is_number, value_from, value, has_space, rmap_name, refcount_name, kind_of, request_of, line_of, word, rest}

-- ---- the first space

-- as the library finds it
space-place : (s : List ℕ) → position_or_len (λ b. b == 32) s ≡ space_at s
unfolding space_at
space-place [] = refl
space-place (b ∷ s) = go (eqb b 32) (space-place s)
  where
    go : (t : Bool) → position_or_len (λ b. b == 32) s ≡ space_at s → cond (not t) (1 + position_or_len (λ b. b == 32) s) 0 ≡ cond t 0 (suc (space_at s))
    go true h = refl
    go false h = omega (arith, h)

module _ (s : List ℕ) where
  pub no-space : None ≡ position (λ b. b == 32) s → has_space s ≡ false
  no-space h = go (has_space s) (h ∙ ap (λ (i : ℕ). cond (ltb i (length s)) (Some i) None) (space-place s))
    where
      go : (t : Bool) → None ≡ cond t (Some (space_at s)) None → t ≡ false
      go true z = cc
      go false z = refl

  pub at-space : (i : ℕ) → Some i ≡ position (λ b. b == 32) s → (has_space s ≡ true) × (i ≡ space_at s)
  at-space i h = go (has_space s) (h ∙ ap (λ (i : ℕ). cond (ltb i (length s)) (Some i) None) (space-place s))
    where
      go : (t : Bool) → Some i ≡ cond t (Some (space_at s)) None → (t ≡ true) × (i ≡ space_at s)
      go true z = (refl, cc)
      go false z = cc

pub space-inside : (s : List ℕ) → space_at s ≤ length s
unfolding space_at
space-inside [] = omega arith
space-inside (b ∷ s) = go (eqb b 32) (space-inside s)
  where
    go : (t : Bool) → space_at s ≤ length s → cond t 0 (suc (space_at s)) ≤ suc (length s)
    go true h = omega arith
    go false h = omega arith

-- ---- words

pub same-long : (xs ys : List ℕ) → (length xs ≡ length ys → ⊥) → false ≡ same xs ys
same-long [] [] h = absurd (h refl)
same-long [] (y ∷ ys) h = refl
same-long (x ∷ xs) [] h = refl
same-long (x ∷ xs) (y ∷ ys) h = go (eqb x y) (same-long xs ys (λ e. h (ap suc e)))
  where
    go : (t : Bool) → false ≡ same xs ys → false ≡ cond t (same xs ys) false
    go true e = e
    go false e = refl

-- the library's equality of two lists
pub same-is : (xs ys : List ℕ) → same xs ys ≡ pointwise eqb xs ys
same-is [] [] = refl
same-is [] (y ∷ ys) = refl
same-is (x ∷ xs) [] = refl
same-is (x ∷ xs) (y ∷ ys) = go (eqb x y) (same-is xs ys)
  where
    go : (t : Bool) → same xs ys ≡ pointwise eqb xs ys → cond t (same xs ys) false ≡ (t && pointwise eqb xs ys)
    go true e = e
    go false e = refl

-- ---- numbers

pub number_short : (s : List ℕ) → length s ≡ 0 → false ≡ is_number s
unfolding is_number
number_short s h = rw (lt-leb 1 (length s) (omega arith)) refl

pub number-long : (s : List ℕ) → 18 < length s → false ≡ is_number s
unfolding is_number
number-long s h = rw (le-leb 1 (length s) (omega arith), lt-leb (length s) 18 h) refl

module _ (s : List ℕ) (long : 0 < length s) (short : length s ≤ 18) where
  pub number_digits : all_digits s ≡ is_number s
  unfolding is_number
  number_digits = rw (le-leb 1 (length s) (omega arith), le-leb (length s) 18 short) refl

module _ (s : List ℕ) (i : ℕ) (inside : i < length s) where
  digit-step : all_digits (drop i s) ≡ (is_digit (get_or s i 0) && all_digits (drop (i + 1) s))
  unfolding all_digits
  digit-step = rw (drop-cons s i 0 inside, add-one) refl

  pub digit-not : is_digit (get_or s i 0) ≡ false → false ≡ all_digits (drop i s)
  digit-not h = sym (digit-step ∙ rw h refl)

  pub digit-next : is_digit (get_or s i 0) ≡ true → all_digits (drop i s) ≡ all_digits (drop (i + 1) s)
  digit-next h = digit-step ∙ rw h refl

  pub value-next : (v : ℕ) → value_from v (drop i s) ≡ value_from (v * 10 + (get_or s i 0 - 48)) (drop (i + 1) s)
  unfolding value_from
  value-next v = rw (drop-cons s i 0 inside, add-one) refl

pub digits-end : (s : List ℕ) (i : ℕ) → length s ≤ i → all_digits (drop i s) ≡ true
unfolding all_digits
digits-end s i h = rw (drop_of_length-le s h) refl

pub value-end : (s : List ℕ) (i v : ℕ) → length s ≤ i → value_from v (drop i s) ≡ v
unfolding value_from
value-end s i v h = rw (drop_of_length-le s h) refl

-- a number of i digits, and one digit more
pub digits_more : (i v d : ℕ) → v < 10 ^ i → d ≤ 9 → v * 10 + d < 10 ^ (i + 1)
digits_more i v d h k = rw (add-one, pow-suc) (omega arith)

pub digits-small : (i v : ℕ) → i ≤ 17 → v < 10 ^ i → v < 10 ^ 17
digits-small i v h k = let p : 10 ^ i ≤ 10 ^ 17 = pow-le-pow_right (omega arith) h in omega arith

-- ---- the newline

pub chomp-none : (s : List ℕ) → length s ≡ 0 → chomp s ≡ s
unfolding chomp
chomp-none [] h = refl
chomp-none (b ∷ s) h = absurd (omega arith)

pub chomp-newline : (s : List ℕ) (n : ℕ) → length s ≡ suc n → get_or s n 0 ≡ 10 → chomp s ≡ take n s
unfolding chomp
chomp-newline [] n h e = absurd (omega arith)
chomp-newline (b ∷ []) zero h e = rw e refl
chomp-newline (b ∷ []) (suc n) h e = absurd (omega arith)
chomp-newline (b ∷ c ∷ s) zero h e = absurd (omega arith)
chomp-newline (b ∷ c ∷ s) (suc n) h e = ap (λ (l : List ℕ). b ∷ l) (chomp-newline (c ∷ s) n (omega arith) e)

pub chomp-other : (s : List ℕ) (n : ℕ) → length s ≡ suc n → (get_or s n 0 ≡ 10 → ⊥) → chomp s ≡ s
unfolding chomp
chomp-other [] n h e = refl
chomp-other (b ∷ []) zero h e = rw (ne_eqb b 10 e) refl
chomp-other (b ∷ []) (suc n) h e = absurd (omega arith)
chomp-other (b ∷ c ∷ s) zero h e = absurd (omega arith)
chomp-other (b ∷ c ∷ s) (suc n) h e = ap (λ (l : List ℕ). b ∷ l) (chomp-other (c ∷ s) n (omega arith) e)

-- the library's answer for the newline at the end
ends : (s : List ℕ) (n : ℕ) → length s ≡ suc n → pointwise eqb (drop n s) (10 ∷ []) ≡ eqb (get_or s n 0) 10
ends s n e = rw (drop-cons s n 0 (omega arith), drop_of_length-le s {i = suc n} (omega arith)) (go (eqb (get_or s n 0) 10))
  where
    go : (t : Bool) → (t && true) ≡ t
    go true = refl
    go false = refl

pub unended : (s : List ℕ) → pointwise eqb (drop (length s - 1) s) (10 ∷ []) ≡ false → s ≡ chomp s
unended [] h = sym (chomp-none [] refl)
unended (b ∷ t) h =
    let f : length (b ∷ t) - 1 ≡ length t = omega arith in
    let k : eqb (get_or (b ∷ t) (length t) 0) 10 ≡ false = sym (ends (b ∷ t) (length t) refl) ∙ rw f at h in
    sym (chomp-other (b ∷ t) (length t) refl (λ q. let z : true ≡ false = sym (eq-eqb _ _ q) ∙ k in cc))

pub ended : (s x : List ℕ) → pointwise eqb (drop (length s - 1) s) (10 ∷ []) ≡ true → x ≡ take (length s - 1) s → x ≡ chomp s
ended [] x h e = cc
ended (b ∷ t) x h e =
    let f : length (b ∷ t) - 1 ≡ length t = omega arith in
    let k : eqb (get_or (b ∷ t) (length t) 0) 10 ≡ true = sym (ends (b ∷ t) (length t) refl) ∙ rw f at h in
    e ∙ ap (λ (n : ℕ). take n (b ∷ t)) f ∙ sym (chomp-newline (b ∷ t) (length t) refl (eqb-true _ _ k))

-- ---- answers

pub refused-number : (s : List ℕ) → false ≡ is_number s → None ≡ cond (is_number s) (Some (value s)) None
refused-number s h = rw (← h) refl

pub accepted-number : (s : List ℕ) (v : ℕ) → true ≡ is_number s → v ≡ value s → Some v ≡ cond (is_number s) (Some (value s)) None
accepted-number s v h e = rw (← h) (ap Some e)

pub name-rmap : (s : List ℕ) → true ≡ same s rmap_name → Some Rmap ≡ kind_of s
unfolding kind_of
name-rmap s h = rw (← h) refl

pub name-refcount : (s : List ℕ) → false ≡ same s rmap_name → true ≡ same s refcount_name → Some Refcount ≡ kind_of s
unfolding kind_of
name-refcount s h k = rw (← h, ← k) refl

pub name-none : (s : List ℕ) → false ≡ same s rmap_name → false ≡ same s refcount_name → None ≡ kind_of s
unfolding kind_of
name-none s h k = rw (← h, ← k) refl

abbrev pub made : TreeKind → ℕ → ℕ → Request
made kind size count = record { kind = kind; blocksize = size; records = count }

-- the parts, from what each of them was found to be
module _ (name size count : List ℕ) where
  abbrev found : List ℕ → Option ℕ
  found s = cond (is_number s) (Some (value s)) None

  pub request-name : None ≡ kind_of name → None ≡ request_of (kind_of name) size count
  unfolding request_of
  request-name h = rw (← h) refl

  module _ (k : TreeKind) (e : Some k ≡ kind_of name) where
    pub request-size : None ≡ found size → None ≡ request_of (kind_of name) size count
    unfolding request_of
    request-size h = rw (← e) (go (is_number size) h)
      where
        go : (t : Bool) → None ≡ cond t (Some (value size)) None → None ≡ cond (t && is_number count) (Some (made k (value size) (value count))) None
        go true z = cc
        go false z = refl

    module _ (v : ℕ) (f : Some v ≡ found size) where
      pub request-count : None ≡ found count → None ≡ request_of (kind_of name) size count
      unfolding request_of
      request-count h = rw (← e) (go (is_number size) (is_number count) h)
        where
          go : (t u : Bool) → None ≡ cond u (Some (value count)) None → None ≡ cond (t && u) (Some (made k (value size) (value count))) None
          go true true z = cc
          go true false z = refl
          go false u z = refl

      pub request-done : (w : ℕ) → Some w ≡ found count → Some (made k v w) ≡ request_of (kind_of name) size count
      unfolding request_of
      request-done w h = rw (← e) (go (is_number size) (is_number count) f h)
        where
          go : (t u : Bool) → Some v ≡ cond t (Some (value size)) None → Some w ≡ cond u (Some (value count)) None
              → Some (made k v w) ≡ cond (t && u) (Some (made k (value size) (value count))) None
          go true true y z = cc
          go true false y z = cc
          go false u y z = cc

-- a part from a place to the end
pub part-rest : (l : List ℕ) (i : ℕ) → take (length l - i) (drop i l) ≡ drop i l
part-rest l i = take_all (length l - i) (drop i l) (le_of_eq (length-drop i l))

module _ (l : List ℕ) where
  pub line-none : has_space l ≡ false → None ≡ line_of l
  unfolding line_of
  line-none h = rw h refl

  module _ (a : List ℕ) (h : has_space l ≡ true) (e : a ≡ rest l) where
    pub line-one : has_space a ≡ false → None ≡ line_of l
    unfolding line_of
    line-one k = rw (h, ← e, k) refl

    pub line-three : (name size count : List ℕ) (o : Option Request) → name ≡ word l → has_space a ≡ true → size ≡ word a → count ≡ rest a
        → o ≡ request_of (kind_of name) size count → o ≡ line_of l
    unfolding line_of
    line-three name size count o en k es ec r = rw (h, ← e, k, ← en, ← es, ← ec) r
