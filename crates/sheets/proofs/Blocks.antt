-- One block of a sheet, taken apart and put together.
-- Assumes nothing.
use Prim.Native.Nat.{ℕ, zero, suc, ◌+◌, ◌-◌, ◌*◌, ◌/◌, ◌^◌, ◌≤◌, ◌<◌}
use native.Mathlib.Nat.{mul-div_cancel}
use native.Mathlib.Omega.{arith}
use mathlib.Core.Path.{◌≡◌, refl, sym, ap, ap₂, ◌∙◌, subst}
use mathlib.Core.Bool.{Bool, true, false, cond, ◌||◌}
use mathlib.Core.List.{List, [], ◌∷◌, ◌++◌, append_assoc}
use lib.Dec.{leb, eqb}
use lib.ListN.{length, take, drop, replicate, length-append, length-replicate}
use lib.Seq.{take_all, take_at, drop-append-add}
use borrow.Author.Tests.{leb-true, eqb-true, le-leb, eq-eqb}
use Rattle.codec.specs.Bytes.{IsBytes, bytes_at, be_of, be_bytes, le_of, le_bytes}
use Rattle.codec.specs.Crc.{crc32c_of}
use Rattle.codec.proofs.Parts.{length-bytes_at, bytes_at-add}
use Rattle.codec.proofs.Stores.{bytes_at-is}
use Rattle.codec.proofs.Numbers.{length-be_bytes, be_bytes-be_of, be_of-be_bytes-lt, length-le_bytes, le_of-le_bytes-lt}
use Rattle.codec.proofs.FieldLists.{IsBytes-append, IsBytes-be_bytes}
use Rattle.codec.proofs.CrcRange.{crc32c_of-lt}
use Rattle.codec.proofs.Overwrites.{IsBytes-bytes_at, IsBytes-zeros, IsBytes-le_bytes}
use Rattle.codec.proofs.Words.{le_bytes-le_of}
use Rattle.codec.proofs.Tests.{conj, and-true}
use Rattle.sheets.specs.Change.{good_changes}
use Rattle.sheets.specs.Sheet.{sheet_header, filled_up, body_of, block_of, is_zeros, count, part_in, crc_ok, good_count, good_header, ruled}

-- ---- fields

field_is : (b : List ℕ) (at w v : ℕ) → at + w ≤ length b → IsBytes b → be_of (bytes_at b at w) ≡ v → bytes_at b at w ≡ be_bytes w v
field_is b at w v h k e =
    sym (be_bytes-be_of (bytes_at b at w) (IsBytes-bytes_at b at w k)) ∙ ap₂ be_bytes (length-bytes_at b at w h) e

crc-is : (b : List ℕ) (v : ℕ) → 4 ≤ length b → IsBytes b → le_of (bytes_at b 0 4) ≡ v → bytes_at b 0 4 ≡ le_bytes 4 v
crc-is b v h k e =
    sym (le_bytes-le_of (bytes_at b 0 4) (IsBytes-bytes_at b 0 4 k)) ∙ ap₂ le_bytes (length-bytes_at b 0 4 h) e

zeros-are : (l : List ℕ) → is_zeros l ≡ true → l ≡ replicate (length l) 0
unfolding is_zeros
zeros-are [] e = refl
zeros-are (b ∷ l) e =
    let z : eqb b 0 ≡ true = search conj in
    let t : is_zeros l ≡ true = search conj in
    ap₂ (λ (x : ℕ) (y : List ℕ). x ∷ y) (eqb-true b 0 z) (zeros-are l t)

zeros-part : (b : List ℕ) (at w : ℕ) → at + w ≤ length b → is_zeros (bytes_at b at w) ≡ true → bytes_at b at w ≡ replicate w 0
zeros-part b at w h e = zeros-are (bytes_at b at w) e ∙ ap (λ (n : ℕ). replicate n 0) (length-bytes_at b at w h)

-- ---- a good block is that of its changes

pub record Ruled (i : ℕ) (last : Bool) (b : List ℕ) : Type 0 where
  pub place : be_of (bytes_at b 4 4) ≡ i
  pub some : 1 ≤ count b
  pub most : count b ≤ 15
  pub full : (last || eqb (count b) 15) ≡ true
  pub mark : be_of (bytes_at b 10 1) ≡ cond last 1 0
  pub zeros : is_zeros (bytes_at b 11 21) ≡ true
  pub good : good_changes (count b) (part_in b) ≡ true
  pub unused : is_zeros (bytes_at b (32 + count b * 32) (480 - count b * 32)) ≡ true

pub ruled-facts : (i : ℕ) (last : Bool) (b : List ℕ) → ruled i last b ≡ true → Ruled i last b
unfolding ruled good_header good_count
ruled-facts i last b e =
    let header : good_header i last b ≡ true = search conj in
    let counted : good_count (count b) last ≡ true = search conj in
    let a : eqb (be_of (bytes_at b 4 4)) i ≡ true = search conj in
    let c : leb 1 (count b) ≡ true = search conj in
    let d : leb (count b) 15 ≡ true = search conj in
    let f : (last || eqb (count b) 15) ≡ true = search conj in
    let g : eqb (be_of (bytes_at b 10 1)) (cond last 1 0) ≡ true = search conj in
    let h : is_zeros (bytes_at b 11 21) ≡ true = search conj in
    let k : good_changes (count b) (part_in b) ≡ true = search conj in
    let l : is_zeros (bytes_at b (32 + count b * 32) (480 - count b * 32)) ≡ true = search conj in
    record {
      place = eqb-true (be_of (bytes_at b 4 4)) i a;
      some = leb-true 1 (count b) c;
      most = leb-true (count b) 15 d;
      full = f;
      mark = eqb-true (be_of (bytes_at b 10 1)) (cond last 1 0) g;
      zeros = h;
      good = k;
      unused = l;
    }

pub part-long : (i : ℕ) (last : Bool) (b : List ℕ) → length b ≡ 512 → Ruled i last b → length (part_in b) ≡ count b * 32
part-long i last b l r = length-bytes_at b 32 (count b * 32) (omega (arith, r.most))

pub block-is : (i : ℕ) (last : Bool) (b : List ℕ) → length b ≡ 512 → IsBytes b → crc_ok b ≡ true → Ruled i last b → b ≡ block_of i last (part_in b)
unfolding crc_ok block_of body_of
block-is i last b l h c r =
    let k : ℕ = count b in
    let p : length (part_in b) ≡ k * 32 = part-long i last b l r in
    let n : length (part_in b) / 32 ≡ k = ap (λ (x : ℕ). x / 32) p ∙ mul-div_cancel k (omega arith) in
    let u : 480 - length (part_in b) ≡ 480 - k * 32 = ap (λ (x : ℕ). 480 - x) p in
    let s : k * 32 + (480 - k * 32) ≡ 480 = omega (arith, r.most) in
    let header : bytes_at b 4 28 ≡ sheet_header i (length (part_in b) / 32) last =
    bytes_at-add b 4 4 24
    ∙ ap₂ ◌++◌ (field_is b 4 4 i (omega arith) h r.place)
    (bytes_at-add b 8 2 22
    ∙ ap₂ ◌++◌ (field_is b 8 2 (length (part_in b) / 32) (omega arith) h (sym n))
    (bytes_at-add b 10 1 21 ∙ ap₂ ◌++◌ (field_is b 10 1 (cond last 1 0) (omega arith) h r.mark) (zeros-part b 11 21 (omega arith) r.zeros))) in
    let body : bytes_at b 4 508 ≡ body_of i last (part_in b) =
    bytes_at-add b 4 28 480
    ∙ ap₂ ◌++◌ header
    (ap (bytes_at b 32) (sym s)
    ∙ bytes_at-add b 32 (k * 32) (480 - k * 32)
    ∙ ap (λ (x : List ℕ). part_in b ++ x) (zeros-part b (32 + k * 32) (480 - k * 32) (omega (arith, r.most)) r.unused ∙ ap (λ (x : ℕ). replicate x 0) (sym u))) in
    sym (bytes_at-is b 0 512 ∙ take_all 512 b (omega arith))
    ∙ bytes_at-add b 0 4 508
    ∙ ap₂ ◌++◌ (crc-is b (crc32c_of (bytes_at b 4 508)) (omega arith) h (eqb-true (le_of (bytes_at b 0 4)) (crc32c_of (bytes_at b 4 508)) c) ∙ ap (λ (x : List ℕ). le_bytes 4 (crc32c_of x)) body) body

-- ---- a block is of bytes

body_bytes : (i : ℕ) (last : Bool) (p : List ℕ) → IsBytes p → IsBytes (body_of i last p)
unfolding body_of
body_bytes i last p h =
    IsBytes-append (sheet_header i (length p / 32) last) (filled_up p)
    (IsBytes-append (be_bytes 4 i) _ (IsBytes-be_bytes 4 i)
    (IsBytes-append (be_bytes 2 (length p / 32)) _ (IsBytes-be_bytes 2 (length p / 32)) (IsBytes-append (be_bytes 1 (cond last 1 0)) _ (IsBytes-be_bytes 1 (cond last 1 0)) (IsBytes-zeros 21))))
    (IsBytes-append p _ h (IsBytes-zeros (480 - length p)))

pub block-bytes : (i : ℕ) (last : Bool) (p : List ℕ) → IsBytes p → IsBytes (block_of i last p)
unfolding block_of
block-bytes i last p h =
    IsBytes-append (le_bytes 4 (crc32c_of (body_of i last p))) (body_of i last p) (IsBytes-le_bytes 4 (crc32c_of (body_of i last p))) (body_bytes i last p h)

-- ---- the block of good changes is good, and has them

-- a part behind a list of known length, and a part that is the whole of a front
skip : (xs ys : List ℕ) (n a at w : ℕ) → length xs ≡ n → at ≡ n + a → bytes_at (xs ++ ys) at w ≡ bytes_at ys a w
unfolding bytes_at
skip xs ys n a at w e f = ap (λ (k : ℕ). take w (drop k (xs ++ ys))) (f ∙ ap (λ (k : ℕ). k + a) (sym e)) ∙ ap (take w) (drop-append-add xs ys a)

front : (xs ys : List ℕ) (w : ℕ) → length xs ≡ w → bytes_at (xs ++ ys) 0 w ≡ xs
unfolding bytes_at
front xs ys w e = take_at xs ys w e

all_of : (xs : List ℕ) (w : ℕ) → length xs ≡ w → bytes_at xs 0 w ≡ xs
unfolding bytes_at
all_of xs w e = take_all w xs (omega arith)

zeros-pass : (n : ℕ) → is_zeros (replicate n 0) ≡ true
unfolding is_zeros
zeros-pass zero = refl
zeros-pass (suc n) = zeros-pass n

mark-small : (last : Bool) → cond {A = ℕ} last 1 0 < 256 ^ 1
mark-small true = omega arith
mark-small false = omega arith

module _ (i : ℕ) (last : Bool) (p : List ℕ) (k : ℕ) (long : length p ≡ k * 32) (some : 1 ≤ k) (most : k ≤ 15) (full : (last || eqb k 15) ≡ true)
    (good : good_changes k p ≡ true) (small : i < 2 ^ 32) (bytes : IsBytes p) where
  I : List ℕ
  I = be_bytes 4 i

  N : List ℕ
  N = be_bytes 2 (length p / 32)

  M : List ℕ
  M = be_bytes 1 (cond last 1 0)

  Z : List ℕ
  Z = replicate 21 0

  U : List ℕ
  U = replicate (480 - length p) 0

  abbrev fifth : List ℕ
  fifth = p ++ U

  abbrev fourth : List ℕ
  fourth = Z ++ fifth

  abbrev third : List ℕ
  third = M ++ fourth

  abbrev second : List ℕ
  second = N ++ third

  abbrev body : List ℕ
  body = I ++ second

  C : List ℕ
  C = le_bytes 4 (crc32c_of body)

  abbrev block : List ℕ
  block = C ++ body

  body_same : body_of i last p ≡ body
  unfolding body_of I N M Z U
  body_same = simp append_assoc

  block_same : block_of i last p ≡ block
  unfolding block_of C
  block_same = ap (λ (x : List ℕ). le_bytes 4 (crc32c_of x) ++ x) body_same

  letter_c : length C ≡ 4
  unfolding C
  letter_c = length-le_bytes 4 (crc32c_of body)

  letter_i : length I ≡ 4
  unfolding I
  letter_i = length-be_bytes 4 i

  letter_n : length N ≡ 2
  unfolding N
  letter_n = length-be_bytes 2 (length p / 32)

  letter_m : length M ≡ 1
  unfolding M
  letter_m = length-be_bytes 1 (cond last 1 0)

  letter_z : length Z ≡ 21
  unfolding Z
  letter_z = refl

  letter_u : length U ≡ 480 - k * 32
  unfolding U
  letter_u = length-replicate (480 - length p) 0 ∙ ap (λ (x : ℕ). 480 - x) long

  body-long : length body ≡ 508
  body-long =
      omega (arith, length-append I second, length-append N third, length-append M fourth, length-append Z fifth, length-append p U, letter_i, letter_n, letter_m, letter_z, letter_u, long, most)

  pub written-long : length (block_of i last p) ≡ 512
  written-long = ap length block_same ∙ length-append C body ∙ omega (arith, letter_c, body-long)

  at_body : bytes_at block 4 508 ≡ body
  at_body = skip C body 4 0 4 508 letter_c refl ∙ all_of body 508 body-long

  at_second : (a at w : ℕ) → at ≡ 8 + a → bytes_at block at w ≡ bytes_at second a w
  at_second a at w e = skip C body 4 (4 + a) at w letter_c (omega arith) ∙ skip I second 4 a (4 + a) w letter_i refl

  at-third : (a at w : ℕ) → at ≡ 10 + a → bytes_at block at w ≡ bytes_at third a w
  at-third a at w e = at_second (2 + a) at w (omega arith) ∙ skip N third 2 a (2 + a) w letter_n refl

  at-fourth : (a at w : ℕ) → at ≡ 11 + a → bytes_at block at w ≡ bytes_at fourth a w
  at-fourth a at w e = at-third (1 + a) at w (omega arith) ∙ skip M fourth 1 a (1 + a) w letter_m refl

  at-fifth : (a at w : ℕ) → at ≡ 32 + a → bytes_at block at w ≡ bytes_at fifth a w
  at-fifth a at w e = at-fourth (21 + a) at w (omega arith) ∙ skip Z fifth 21 a (21 + a) w letter_z refl

  counted : count block ≡ k
  unfolding N
  counted =
      let n : length p / 32 ≡ k = ap (λ (x : ℕ). x / 32) long ∙ mul-div_cancel k (omega arith) in
      ap be_of (at_second 0 8 2 refl ∙ front N third 2 letter_n) ∙ be_of-be_bytes-lt 2 (length p / 32) (omega arith) ∙ n

  part-block : part_in block ≡ p
  part-block = ap (λ (x : ℕ). bytes_at block 32 (x * 32)) counted ∙ at-fifth 0 32 (k * 32) refl ∙ front p U (k * 32) long

  pub written-part : part_in (block_of i last p) ≡ p
  written-part = ap part_in block_same ∙ part-block

  pub written-counted : count (block_of i last p) ≡ k
  written-counted = ap count block_same ∙ counted

  pub written-crc : crc_ok (block_of i last p) ≡ true
  unfolding crc_ok C
  written-crc =
      rw block_same
      (eq-eqb (le_of (bytes_at block 0 4)) (crc32c_of (bytes_at block 4 508))
      (ap le_of (front C body 4 letter_c) ∙ le_of-le_bytes-lt 4 (crc32c_of body) (crc32c_of-lt body (subst IsBytes body_same (body_bytes i last p bytes))) ∙ ap crc32c_of (sym at_body)))

  pub written-ruled : ruled i last (block_of i last p) ≡ true
  unfolding ruled good_header good_count I M Z U
  written-ruled =
      rw block_same
      (and-true (good_header i last block) _
      (and-true (eqb (be_of (bytes_at block 4 4)) i) _ (eq-eqb (be_of (bytes_at block 4 4)) i (ap be_of (skip C body 4 0 4 4 letter_c refl ∙ front I second 4 letter_i) ∙ be_of-be_bytes-lt 4 i small))
      (and-true (good_count (count block) last) _
      (and-true (leb 1 (count block)) _ (le-leb 1 (count block) (omega (arith, counted)))
      (and-true (leb (count block) 15) _ (le-leb (count block) 15 (omega (arith, counted))) (ap (λ (x : ℕ). last || eqb x 15) counted ∙ full)))
      (and-true (eqb (be_of (bytes_at block 10 1)) (cond last 1 0)) _
      (eq-eqb (be_of (bytes_at block 10 1)) (cond last 1 0) (ap be_of (at-third 0 10 1 refl ∙ front M fourth 1 letter_m) ∙ be_of-be_bytes-lt 1 (cond last 1 0) (mark-small last)))
      (ap is_zeros (at-fourth 0 11 21 refl ∙ front Z fifth 21 letter_z) ∙ zeros-pass 21))))
      (and-true (good_changes (count block) (part_in block)) _ (ap₂ good_changes counted part-block ∙ good)
      (ap is_zeros (ap (λ (x : ℕ). bytes_at block (32 + x * 32) (480 - x * 32)) counted ∙ at-fifth (k * 32) (32 + k * 32) (480 - k * 32) refl ∙ skip p U (k * 32) 0 (k * 32) (480 - k * 32) long (omega arith) ∙ all_of U (480 - k * 32) letter_u)
      ∙ zeros-pass (480 - length p))))
