-- Laws of the tests and of the arithmetic that the block check uses.
-- Assumes nothing.
use Prim.Native.Nat.{ℕ, ◌+◌, ◌-◌, ◌*◌, ◌/◌, ◌<◌, ◌≤◌, ◌^◌}
use mathlib.Core.Path.{◌≡◌, refl, ap, sym, ◌∙◌}
use mathlib.Core.Bool.{Bool, true, false, cond, ◌&&◌, false≢true}
use mathlib.Core.List.{List, [], ◌∷◌}
use native.Mathlib.Omega.{arith}
use native.Mathlib.Nat.{le_refl, mul-le-mul, mul-add, le-div_iff_mul-le}
use native.Mathlib.Decide.{dec_le}
use native.Mathlib.Numerals.{add-one}
use borrow.Author.Tests.{leb-true, ltb-true, eqb-true, eq-eqb, ne_eqb, le-leb, lt-leb, lt-ltb, le-ltb}
use lib.Dec.{lit≤, leb, ltb, eqb}
use lib.Pointwise.{pointwise}
use lib.ListN.{length, get_or, drop, drop_of_length-le}
use lib.Seq.{drop-cons}
use Rattle.blocks.specs.Check.{same}
use Rattle.blocks.specs.Geometry.{among, is_version, is_block_size, linear_of, address_of, geometry_ok}
use Rattle.blocks.specs.Offsets.{v4_header_len, v5_header_len}
use Rattle.blocks.specs.Tree.{by_version, header_len, magic_of, overlapping, record_len, keys_len, ptr_len, entry_len, place_len, capacity}
use Rattle.blocks.specs.declared.geometry.Geometry.{Geometry}
use Rattle.blocks.specs.declared.kind.TreeKind.{TreeKind}
use Rattle.blocks.specs.declared.kind.TreeKind.TheVariants.{Rmap, Refcount, ByBlock, BySize}

-- ---- one number of a list

pub both_left : (p q : Bool) → p && q ≡ true → p ≡ true
both_left true q e = refl
both_left false q e = e

pub both_right : (p q : Bool) → p && q ≡ true → q ≡ true
both_right true q e = e
both_right false q e = absurd (false≢true e)

-- bounds that every number of a list keeps, as a test that computes
abbrev within : ℕ → ℕ → List ℕ → Bool
within k m [] = true
within k m (x ∷ xs) = (leb k x && leb x m) && within k m xs

among-within : (k m n : ℕ) (xs : List ℕ) → within k m xs ≡ true → among n xs ≡ true → (k ≤ n) × (n ≤ m)
among-within k m n [] t e = absurd (false≢true e)
among-within k m n (x ∷ xs) t e =
    go (eqb n x) refl (among-within k m n xs (both_right (leb k x && leb x m) (within k m xs) t)) e
  where
    here : leb k x && leb x m ≡ true
    here = both_left (leb k x && leb x m) (within k m xs) t

    go : (q : Bool) → eqb n x ≡ q → (among n xs ≡ true → (k ≤ n) × (n ≤ m)) → cond q true (among n xs) ≡ true → (k ≤ n) × (n ≤ m)
    go true eq later f =
        let low : k ≤ x = leb-true k x (both_left (leb k x) (leb x m) here) in
        let high : x ≤ m = leb-true x m (both_right (leb k x) (leb x m) here) in
        let is : n ≡ x = eqb-true n x eq in
        (omega arith, omega arith)
    go false eq later f = later f

pub size-within : (n : ℕ) → is_block_size n ≡ true → (512 ≤ n) × (n ≤ 65536)
unfolding is_block_size
size-within n e = among-within 512 65536 n (2 ^ 9 ∷ 2 ^ 10 ∷ 2 ^ 11 ∷ 2 ^ 12 ∷ 2 ^ 13 ∷ 2 ^ 14 ∷ 2 ^ 15 ∷ 2 ^ 16 ∷ []) refl e

-- ---- the geometry

not-le : {a b : ℕ} → (a ≤ b → ⊥) → b < a
not-le h = omega arith

-- a product of two 32-bit numbers leaves room for a third
pub product32 : (a b : ℕ) → a < 2 ^ 32 → b < 2 ^ 32 → a * b ≤ 18446744065119617025
product32 a b ha hb =
    let l : a ≤ 4294967295 = omega arith in
    let r : b ≤ 4294967295 = omega arith in
    mul-le-mul l r

-- a product against 2 ^ 64, decided by a quotient of 64 bits; y is the number that the code compares
pub product64 : (x s : ℕ) → 0 < s → (y : ℕ) → y ≡ x → leb y (18446744073709551615 / s) ≡ ltb (x * s) (2 ^ 64)
product64 x s pos y e = ap (λ (n : ℕ). leb n (18446744073709551615 / s)) e ∙ go (dec_le (x * s) 18446744073709551615)
  where
    go : Dec (x * s ≤ 18446744073709551615) → leb x (18446744073709551615 / s) ≡ ltb (x * s) (2 ^ 64)
    go (yes h) =
        let below : x * s < 2 ^ 64 = omega arith in
        le-leb _ _ ((le-div_iff_mul-le pos).1 h) ∙ sym (lt-ltb _ _ below)
    go (no h) =
        let above : 2 ^ 64 ≤ x * s = omega arith in
        lt-leb _ _ (not-le (λ l. h ((le-div_iff_mul-le pos).0 l))) ∙ sym (le-ltb _ _ above)

module _ (g : Geometry) (ok : geometry_ok g ≡ true) where
  -- a block has 512 to 65,536 bytes
  pub blocksize-within : (512 ≤ g.blocksize) × (g.blocksize ≤ 65536)
  unfolding geometry_ok
  blocksize-within = size-within g.blocksize (both_left (is_block_size g.blocksize) _ (both_right (is_version g.version) _ ok))

  -- question 1 leaves room for the address of every block of the group
  pub address-fits : (block : ℕ) → block < 2 ^ 32 → linear_of g block * g.blocksize < 2 ^ 64
  unfolding geometry_ok
  address-fits block h =
      let last : linear_of g 4294967295 * g.blocksize < 2 ^ 64 = ltb-true _ _ (both_right (is_block_size g.blocksize) _ (both_right (is_version g.version) _ ok)) in
      let le : linear_of g block ≤ linear_of g 4294967295 = omega arith in
      let more : linear_of g block * g.blocksize ≤ linear_of g 4294967295 * g.blocksize = mul-le-mul le (le_refl _) in
      omega arith

  pub address-small : (block : ℕ) → block < 2 ^ 32 → address_of g (linear_of g block) < 2 ^ 64
  address-small block h = let fits = address-fits block h in omega arith

-- ---- lengths

by-version-small : {four five : ℕ} (version : ℕ) → four < 2 ^ 32 → five < 2 ^ 32 → by_version version four five < 2 ^ 32
by-version-small {four} {five} version a b = go (eqb version 5)
  where
    go : (t : Bool) → cond t five four < 2 ^ 32
    go true = b
    go false = a

-- what holds of every kind; this and the two laws after it are the only ones here that go by the kind
pub record Bounded (kind : TreeKind) : Type 0 where
  pub record-least : 8 ≤ record_len kind
  pub record-most : record_len kind ≤ 40
  pub keys-least : 4 ≤ keys_len kind
  pub keys-most : keys_len kind ≤ 40
  pub magic-small : (version : ℕ) → magic_of kind version < 2 ^ 32

pub bounded : (kind : TreeKind) → Bounded kind
bounded Rmap =
    record { record-least = lit≤ tt; record-most = lit≤ tt; keys-least = lit≤ tt; keys-most = lit≤ tt; magic-small = λ version. lit≤ tt }
bounded Refcount =
    record { record-least = lit≤ tt; record-most = lit≤ tt; keys-least = lit≤ tt; keys-most = lit≤ tt; magic-small = λ version. lit≤ tt }
bounded ByBlock =
    record { record-least = lit≤ tt; record-most = lit≤ tt; keys-least = lit≤ tt; keys-most = lit≤ tt; magic-small = λ version. by-version-small version (lit≤ tt) (lit≤ tt) }
bounded BySize =
    record { record-least = lit≤ tt; record-most = lit≤ tt; keys-least = lit≤ tt; keys-most = lit≤ tt; magic-small = λ version. by-version-small version (lit≤ tt) (lit≤ tt) }

-- the reverse map alone has a low and a high key; a key of the others lies within the record
pub overlapping-is : (kind : TreeKind) → overlapping kind ≡ true → kind ≡ Rmap
overlapping-is Rmap e = refl
overlapping-is Refcount e = absurd (false≢true e)
overlapping-is ByBlock e = absurd (false≢true e)
overlapping-is BySize e = absurd (false≢true e)

pub key-within : (kind : TreeKind) → overlapping kind ≡ false → keys_len kind ≤ record_len kind
key-within Rmap e = absurd (false≢true (sym e))
key-within Refcount e = lit≤ tt
key-within ByBlock e = lit≤ tt
key-within BySize e = lit≤ tt

-- a place of a block has 8 to 44 bytes
place-within : (kind : TreeKind) (level : ℕ) → (8 ≤ place_len kind level) × (place_len kind level ≤ 44)
place-within kind level = go (eqb level 0)
  where
    of : Bounded kind
    of = bounded kind

    go : (t : Bool) → (8 ≤ cond t (record_len kind) (entry_len kind)) × (cond t (record_len kind) (entry_len kind) ≤ 44)
    go true = (of.record-least, omega (arith, of.record-most))
    go false = (omega (arith, of.keys-least), omega (arith, of.keys-most))

pub place-least : (kind : TreeKind) (level : ℕ) → 8 ≤ place_len kind level
place-least kind level = (place-within kind level).0

pub place-most : (kind : TreeKind) (level : ℕ) → place_len kind level ≤ 44
place-most kind level = (place-within kind level).1

-- a place above the leaves is an entry
pub place-above : (kind : TreeKind) (level : ℕ) → 0 < level → place_len kind level ≡ entry_len kind
place-above kind level h = rw (ne_eqb level 0 (λ e. omega arith))

pub header-least : (version : ℕ) → v4_header_len ≤ header_len version
unfolding header_len
header-least version = go (eqb version 5)
  where
    go : (t : Bool) → v4_header_len ≤ cond t v5_header_len v4_header_len
    go true = lit≤ tt
    go false = lit≤ tt

pub header-most : (version : ℕ) → header_len version ≤ v5_header_len
unfolding header_len
header-most version = go (eqb version 5)
  where
    go : (t : Bool) → cond t v5_header_len v4_header_len ≤ v5_header_len
    go true = lit≤ tt
    go false = lit≤ tt

pub header-five : (version : ℕ) → version ≡ 5 → header_len version ≡ v5_header_len
unfolding header_len
header-five version e = rw (eq-eqb version 5 e)

pub header-four : (version : ℕ) → eqb version 5 ≡ false → header_len version ≡ v4_header_len
unfolding header_len
header-four version e = rw e

module _ (kind : TreeKind) (version level len : ℕ) where
  place-pos : 0 < place_len kind level
  place-pos = omega (arith, place-least kind level)

  -- as many places as there are in the block lie in it
  pub places-fit : (n : ℕ) → header_len version ≤ len → n ≤ capacity kind version level len → header_len version + n * place_len kind level ≤ len
  places-fit n h c = let k : n * place_len kind level ≤ len - header_len version = (le-div_iff_mul-le place-pos).0 c in omega arith

  -- in a node the pointers stand after room for the capacity's keys
  pub pointers-fit : (n : ℕ) → 0 < level → header_len version ≤ len → n ≤ capacity kind version level len
      → header_len version + capacity kind version level len * keys_len kind + n * ptr_len ≤ len
  pointers-fit n above h c =
      let room : ℕ = capacity kind version level len in
      let all : header_len version + room * place_len kind level ≤ len = places-fit room h (le_refl room) in
      let parts : room * place_len kind level ≡ room * keys_len kind + room * ptr_len = ap (λ (x : ℕ). room * x) (place-above kind level above) ∙ mul-add room (keys_len kind) ptr_len in
      omega arith

  -- a place for each 44 bytes, and no more than one for each 8
  pub capacity-least : (n : ℕ) → header_len version + n * 44 ≤ len → n ≤ capacity kind version level len
  capacity-least n h =
      let k : n * place_len kind level ≤ n * 44 = mul-le-mul (le_refl n) (place-most kind level) in
      (le-div_iff_mul-le place-pos).1 (omega arith)

  pub capacity-most : header_len version ≤ len → capacity kind version level len * 8 ≤ len
  capacity-most h =
      let c : ℕ = capacity kind version level len in
      let k : c * 8 ≤ c * place_len kind level = mul-le-mul (le_refl c) (place-least kind level) in
      omega (arith, places-fit c h (le_refl c))

-- a block of a good geometry has room for its header, and for 10 to 8,192 places
module _ (g : Geometry) (kind : TreeKind) (level : ℕ) (ok : geometry_ok g ≡ true) where
  pub header_fits : header_len g.version ≤ g.blocksize
  header_fits = omega (arith, header-most g.version, (blocksize-within g ok).0)

  pub capacity-some : 10 ≤ capacity kind g.version level g.blocksize
  capacity-some = capacity-least kind g.version level g.blocksize 10 (omega (arith, header-most g.version, (blocksize-within g ok).0))

  pub capacity-small : capacity kind g.version level g.blocksize ≤ 8192
  capacity-small = omega (arith, capacity-most kind g.version level g.blocksize header_fits, (blocksize-within g ok).1)

-- ---- two lists compared from the front

-- as the library compares them
pub same-is : (xs ys : List ℕ) → pointwise eqb xs ys ≡ same xs ys
same-is [] [] = refl
same-is [] (y ∷ ys) = refl
same-is (x ∷ xs) [] = refl
same-is (x ∷ xs) (y ∷ ys) = go (eqb x y) (same-is xs ys)
  where
    go : (t : Bool) → pointwise eqb xs ys ≡ same xs ys → (t && pointwise eqb xs ys) ≡ cond t (same xs ys) false
    go true e = e
    go false e = refl

module _ (xs ys : List ℕ) (i : ℕ) (hx : i < length xs) (hy : i < length ys) where
  pub same_next : get_or xs i 0 ≡ get_or ys i 0 → same (drop i xs) (drop i ys) ≡ same (drop (i + 1) xs) (drop (i + 1) ys)
  same_next e = rw (add-one, drop-cons xs i 0 hx, drop-cons ys i 0 hy, eq-eqb _ _ e)

  pub same_not : (get_or xs i 0 ≡ get_or ys i 0 → ⊥) → same (drop i xs) (drop i ys) ≡ false
  same_not e = rw (drop-cons xs i 0 hx, drop-cons ys i 0 hy, ne_eqb _ _ e)

pub same_end : (xs ys : List ℕ) (i : ℕ) → length xs ≤ i → length ys ≤ i → same (drop i xs) (drop i ys) ≡ true
same_end xs ys i hx hy = rw (drop_of_length-le xs {i = i} hx, drop_of_length-le ys {i = i} hy)

pub same-all : (xs : List ℕ) → same xs xs ≡ true
same-all [] = refl
same-all (x ∷ xs) = rw (eq-eqb x x refl) (same-all xs)
