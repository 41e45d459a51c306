-- Sheets written: zeros put in a place, a block put together from its fields, blocks one after another, and what the call comes to.
-- Assumes nothing.
use Prim.Native.Nat.{ℕ, zero, suc, ◌+◌, ◌-◌, ◌*◌, ◌/◌, ◌≤◌, ◌<◌, min}
use native.Mathlib.Nat.{zero-mul, sub-zero, add-sub_cancel_left}
use native.Mathlib.Numerals.{add-one}
use native.Mathlib.Omega.{arith}
use mathlib.Core.Path.{◌≡◌, refl, sym, ap, ap₂, ◌∙◌}
use mathlib.Core.Bool.{Bool, true, false, cond}
use mathlib.Core.List.{List, [], ◌∷◌, ◌++◌, append_assoc}
use borrow.Author.Tests.{leb-true, le-leb, lt-leb}
use borrow.Rule.Slice.PartMut.{put_mid}
use lib.Dec.{leb, eqb}
use lib.ListN.{length, take, drop, set, replicate, length-append, length-take, length-drop, length-set, length-replicate}
use lib.Seq.{take_all, drop-drop}
use native.Mathlib.Decide.{dec_le}
use Rattle.codec.specs.Bytes.{bytes_at, with_bytes, be_bytes, le_bytes}
use Rattle.codec.specs.Crc.{crc32c_of}
use Rattle.codec.specs.Question.{none, done, refused}
use Rattle.codec.specs.Accepted.{whole}
use Rattle.codec.proofs.ListBytes.{whole-facts}
use Rattle.codec.proofs.Numbers.{length-be_bytes, length-le_bytes}
use Rattle.codec.proofs.Parts.{length-with_bytes, with_bytes-add, bytes_at-same}
use Rattle.codec.proofs.Stores.{bytes_at-is, with_bytes-is, with_bytes-none, with_bytes-more, with_bytes-then, part-put}
use Rattle.codec.proofs.Tests.{conj}
use Rattle.sheets.specs.Change.{good_list}
use Rattle.sheets.specs.Sheet.{sheet_header, filled_up, body_of, block_of, blocks_from, blocks_for, sheet_of, write_outcome}
use Rattle.sheets.proofs.Passing.{last-is}

-- ---- zeros

-- a part of a list, lent and filled with zeros
pub zeros-put : (b ys : List ℕ) (at n : ℕ) → at + n ≤ length b → ys ≡ replicate (length (take n (drop at b))) 0
    → put_mid at n b ys ≡ with_bytes b at (replicate n 0)
zeros-put b ys at n h e =
    let l : length (take n (drop at b)) ≡ n = simp (length-take, length-drop) (omega arith) in
    ap (λ (k : ℕ). put_mid at k b ys) (sym (add-sub_cancel_left at n))
    ∙ part-put b ys (replicate n 0) at n (e ∙ ap (λ (k : ℕ). replicate k 0) l) (length-replicate {A = ℕ} n 0)

-- ---- a block

mark-bytes : (last : Bool) → cond {A = ℕ} last 1 0 ∷ [] ≡ be_bytes 1 (cond last 1 0)
unfolding be_bytes
mark-bytes true = refl
mark-bytes false = refl

pub header-long : (i n : ℕ) (last : Bool) → length (sheet_header i n last) ≡ 28
header-long i n last =
    length-append (be_bytes 4 i) (be_bytes 2 n ++ (be_bytes 1 (cond last 1 0) ++ replicate 21 0))
    ∙ ap₂ ◌+◌ (length-be_bytes 4 i)
    (length-append (be_bytes 2 n) (be_bytes 1 (cond last 1 0) ++ replicate 21 0)
    ∙ ap₂ ◌+◌ (length-be_bytes 2 n) (length-append (be_bytes 1 (cond last 1 0)) (replicate 21 0) ∙ ap (λ (x : ℕ). x + 21) (length-be_bytes 1 (cond last 1 0))))

pub filled-long : (p : List ℕ) → length p ≤ 480 → length (filled_up p) ≡ 480
filled-long p h = length-append p (replicate (480 - length p) 0) ∙ omega (arith, length-replicate {A = ℕ} (480 - length p) 0)

module _ (b : List ℕ) (long : length b ≡ 512) where
  -- the fields of the header, left to right
  module _ (i n : ℕ) (last : Bool) (m : ℕ) (b₁ b₂ : List ℕ) (e₁ : b₁ ≡ with_bytes b 4 (be_bytes 4 i)) (e₂ : b₂ ≡ with_bytes b₁ 8 (be_bytes 2 n)) where
    two : List ℕ
    two = be_bytes 4 i ++ be_bytes 2 n

    two-long : length two ≡ 6
    unfolding two
    two-long = length-append (be_bytes 4 i) (be_bytes 2 n) ∙ ap₂ ◌+◌ (length-be_bytes 4 i) (length-be_bytes 2 n)

    two-put : b₂ ≡ with_bytes b 4 two
    unfolding two
    two-put = e₂ ∙ ap (λ (x : List ℕ). with_bytes x 8 (be_bytes 2 n)) e₁ ∙ with_bytes-then b (be_bytes 4 i) (be_bytes 2 n) 4 8 (omega (arith, length-be_bytes 4 i)) (omega arith)

    pub two-same : length b₂ ≡ 512
    two-same = ap length two-put ∙ length-with_bytes b 4 two (omega (arith, two-long)) ∙ long

    pub header-put : (ys : List ℕ) → m ≡ cond last 1 0 → ys ≡ replicate (length (take 21 (drop 11 (set b₂ 10 m)))) 0
        → put_mid 11 21 (set b₂ 10 m) ys ≡ with_bytes b 4 (sheet_header i n last)
    unfolding two
    header-put ys e f =
        let three : List ℕ = two ++ (m ∷ []) in
        let l : length three ≡ 7 = length-append two (m ∷ []) ∙ omega (arith, two-long) in
        let q : set b₂ 10 m ≡ with_bytes b 4 three = with_bytes-more b b₂ two 4 10 m (omega (arith, two-long)) (omega arith) two-put in
        zeros-put (set b₂ 10 m) ys 11 21 (omega (arith, length-set b₂ 10 m, two-same)) f
        ∙ ap (λ (x : List ℕ). with_bytes x 11 (replicate 21 0)) q
        ∙ with_bytes-then b three (replicate 21 0) 4 11 (omega arith) (omega arith)
        ∙ ap (λ (x : List ℕ). with_bytes b 4 ((two ++ x) ++ replicate 21 0)) (ap (λ (x : ℕ). x ∷ []) e ∙ mark-bytes last)
        ∙ ap (with_bytes b 4) (simp append_assoc)

  -- the changes, then zeros
  module _ (p : List ℕ) (few : length p ≤ 480) (b₁ : List ℕ) (e₁ : b₁ ≡ with_bytes b 32 p) where
    copied-long : length b₁ ≡ 512
    copied-long = ap length e₁ ∙ length-with_bytes b 32 p (omega arith) ∙ long

    pub changes-put : (ys : List ℕ) → ys ≡ replicate (length (take (length b₁ - (32 + length p)) (drop (32 + length p) b₁))) 0
        → put_mid (32 + length p) (length b₁ - (32 + length p)) b₁ ys ≡ with_bytes b 32 (filled_up p)
    changes-put ys e =
        let q : length b₁ - (32 + length p) ≡ 480 - length p = omega (arith, copied-long) in
        zeros-put b₁ ys (32 + length p) (length b₁ - (32 + length p)) (omega (arith, copied-long)) e
        ∙ ap₂ (λ (x : List ℕ) (y : ℕ). with_bytes x (32 + length p) (replicate y 0)) e₁ q
        ∙ with_bytes-then b p (replicate (480 - length p) 0) 32 (32 + length p) refl (omega arith)

  -- header, changes, and the CRC of both
  module _ (p : List ℕ) (few : length p ≤ 480) (i : ℕ) (last : Bool) (b₁ : List ℕ) (e₁ : b₁ ≡ with_bytes b 4 (sheet_header i (length p / 32) last)) where
    body-long : length (body_of i last p) ≡ 508
    unfolding body_of
    body-long = length-append (sheet_header i (length p / 32) last) (filled_up p) ∙ ap₂ ◌+◌ (header-long i (length p / 32) last) (filled-long p few)

    module _ (b₂ : List ℕ) (e₂ : b₂ ≡ with_bytes b₁ 32 (filled_up p)) where
      body-put : b₂ ≡ with_bytes b 4 (body_of i last p)
      unfolding body_of
      body-put =
          e₂
          ∙ ap (λ (x : List ℕ). with_bytes x 32 (filled_up p)) e₁
          ∙ with_bytes-then b (sheet_header i (length p / 32) last) (filled_up p) 4 32 (omega (arith, header-long i (length p / 32) last)) (omega arith)

      body_same : length b₂ ≡ 512
      body_same = ap length body-put ∙ length-with_bytes b 4 (body_of i last p) (omega (arith, body-long)) ∙ long

      body_at : take 508 (drop 4 b₂) ≡ body_of i last p
      body_at =
          sym (bytes_at-is b₂ 4 508)
          ∙ ap₂ (λ (x : List ℕ) (y : ℕ). bytes_at x 4 y) body-put (sym body-long)
          ∙ bytes_at-same b 4 (body_of i last p) (omega (arith, body-long))

      body-after : drop 4 b₂ ≡ body_of i last p
      body-after = sym (take_all 508 (drop 4 b₂) (omega (arith, length-drop 4 b₂, body_same))) ∙ body_at

      pub block-put : (crc : ℕ) (b₃ : List ℕ) → crc ≡ crc32c_of (take (length b₂ - 4) (drop 4 b₂)) → b₃ ≡ with_bytes b₂ 0 (le_bytes 4 crc) → b₃ ≡ block_of i last p
      unfolding block_of
      block-put crc b₃ c e =
          let l : length (le_bytes 4 crc) ≡ 4 = length-le_bytes 4 crc in
          let q : length b₂ - 4 ≡ 508 = omega (arith, body_same) in
          let is : crc ≡ crc32c_of (body_of i last p) = c ∙ ap (λ (x : ℕ). crc32c_of (take x (drop 4 b₂))) q ∙ ap crc32c_of body_at in
          e
          ∙ with_bytes-is b₂ 0 (le_bytes 4 crc)
          ∙ ap (λ (y : ℕ). le_bytes 4 crc ++ drop y b₂) (let z : 0 + length (le_bytes 4 crc) ≡ 4 = omega arith in z)
          ∙ ap₂ (λ (x : ℕ) (y : List ℕ). le_bytes 4 x ++ y) is body-after

pub block-long : (i : ℕ) (last : Bool) (p : List ℕ) → length p ≤ 480 → length (block_of i last p) ≡ 512
unfolding block_of body_of
block-long i last p h =
    length-append (le_bytes 4 (crc32c_of (body_of i last p))) (body_of i last p)
    ∙ ap₂ ◌+◌ (length-le_bytes 4 (crc32c_of (body_of i last p)))
    (length-append (sheet_header i (length p / 32) last) (filled_up p) ∙ ap₂ ◌+◌ (header-long i (length p / 32) last) (filled-long p h))

-- ---- blocks one after another

part-few : (n : ℕ) (l : List ℕ) → length (take n l) ≤ n
part-few n l = omega (arith, length-take n l)

blocks-long : (i n : ℕ) (l : List ℕ) → length (blocks_from i n l) ≡ n * 512
unfolding blocks_from
blocks-long i zero l = refl
blocks-long i (suc n) l =
    length-append (block_of i (eqb n 0) (take 480 l)) (blocks_from (suc i) n (drop 480 l))
    ∙ ap₂ ◌+◌ (block-long i (eqb n 0) (take 480 l) (part-few 480 l)) (blocks-long (suc i) n (drop 480 l))
    ∙ omega arith

pub sheet-long : (l : List ℕ) → length (sheet_of l) ≡ blocks_for l * 512
unfolding sheet_of
sheet-long l = blocks-long 0 (blocks_for l) l

module _ (n : ℕ) (l before : List ℕ) where
  -- the blocks from the i-th on
  abbrev rest_of : ℕ → List ℕ
  rest_of i = blocks_from i (n - i) (drop (i * 480) l)

  rest-start : rest_of 0 ≡ blocks_from 0 n l
  rest-start = ap₂ (λ (k m : ℕ). blocks_from 0 k (drop m l)) (sub-zero n) (zero-mul 480)

  rest_more : (i : ℕ) → i < n → rest_of i ≡ block_of i (eqb (i + 1) n) (take 480 (drop (i * 480) l)) ++ rest_of (i + 1)
  unfolding blocks_from
  rest_more i h =
      let e : n - i ≡ suc (n - (i + 1)) = omega arith in
      let q : i * 480 + 480 ≡ (i + 1) * 480 = omega arith in
      ap (λ (k : ℕ). blocks_from i k (drop (i * 480) l)) e
      ∙ ap₂ (λ (t : Bool) (y : List ℕ). block_of i t (take 480 (drop (i * 480) l)) ++ blocks_from (suc i) (n - (i + 1)) y) (last-is n i h) (drop-drop 480 (i * 480) l ∙ ap (λ (k : ℕ). drop k l) q)
      ∙ ap (λ (k : ℕ). block_of i (eqb (i + 1) n) (take 480 (drop (i * 480) l)) ++ blocks_from k (n - (i + 1)) (drop ((i + 1) * 480) l)) (sym (add-one i))

  rest_end : (i : ℕ) → n ≤ i → rest_of i ≡ []
  unfolding blocks_from
  rest_end i h = let e : n - i ≡ 0 = omega arith in ap (λ (k : ℕ). blocks_from i k (drop (i * 480) l)) e

  -- the blocks before the i-th are written
  pub record Laid (out : List ℕ) (i : ℕ) : Type 0 where
    pub within : i ≤ n
    pub same : length out ≡ length before
    pub all : with_bytes before 0 (blocks_from 0 n l) ≡ with_bytes out (i * 512) (rest_of i)

  pub lay-start : Laid before 0
  lay-start =
      record {
        within = omega arith;
        same = refl;
        all = ap₂ (λ (k : ℕ) (x : List ℕ). with_bytes before k x) (sym (zero-mul 512)) (sym rest-start);
      }

  pub lay_done : (out : List ℕ) (i : ℕ) → n ≡ blocks_for l → Laid out i → n ≤ i → out ≡ with_bytes before 0 (sheet_of l)
  unfolding sheet_of
  lay_done out i e k h =
      sym (ap (λ (m : ℕ). with_bytes before 0 (blocks_from 0 m l)) (sym e) ∙ k.all ∙ ap (with_bytes out (i * 512)) (rest_end i h) ∙ with_bytes-none out (i * 512))

  -- one block more; its changes end at byte `to` of the list
  module _ (out : List ℕ) (i : ℕ) (e : n ≡ blocks_for l) (short : length l ≤ 983040 * 32) (room : blocks_for l * 512 ≤ length before) (k : Laid out i) (h : i < n) where
    pub starts : i * 480 ≤ length l
    starts = omega arith

    pub numbered : i < 65536
    numbered = omega arith

    pub ends : i * 512 + 512 ≤ length out
    ends = omega (arith, k.same)

    module _ (to : ℕ) (t : to ≡ min (i * 480 + 480) (length l)) where
      part_is : take (to - i * 480) (drop (i * 480) l) ≡ take 480 (drop (i * 480) l)
      part_is = elim (dec_le (i * 480 + 480) (length l)) [
        | yes y ↦ ap (λ (x : ℕ). take x (drop (i * 480) l)) (let z : to - i * 480 ≡ 480 = omega arith in z)
        | no q ↦ take_all (to - i * 480) (drop (i * 480) l) (omega (arith, length-drop (i * 480) l)) ∙ sym (take_all 480 (drop (i * 480) l) (omega (arith, length-drop (i * 480) l)))
      ]

      pub part-most : length (take (to - i * 480) (drop (i * 480) l)) ≤ 480
      part-most = omega (arith, ap length part_is, part-few 480 (drop (i * 480) l))

      pub lay-more : (ys : List ℕ) → ys ≡ block_of i (eqb (i + 1) n) (take (to - i * 480) (drop (i * 480) l)) → Laid (put_mid (i * 512) (i * 512 + 512 - i * 512) out ys) (i + 1)
      lay-more ys f =
          let b : List ℕ = block_of i (eqb (i + 1) n) (take 480 (drop (i * 480) l)) in
          let bl : length b ≡ 512 = block-long i (eqb (i + 1) n) (take 480 (drop (i * 480) l)) (part-few 480 (drop (i * 480) l)) in
          let is : ys ≡ b = f ∙ ap (block_of i (eqb (i + 1) n)) part_is in
          let put : put_mid (i * 512) (i * 512 + 512 - i * 512) out ys ≡ with_bytes out (i * 512) b = part-put out ys b (i * 512) 512 is bl in
          let fits : i * 512 + length b ≤ length out = omega (arith, ends) in
          let q : i * 512 + length b ≡ (i + 1) * 512 = omega arith in
          record {
            within = omega arith;
            same = ap length put ∙ length-with_bytes out (i * 512) b fits ∙ k.same;
            all =
                k.all
                ∙ ap (with_bytes out (i * 512)) (rest_more i h)
                ∙ sym (with_bytes-add out (i * 512) b (rest_of (i + 1)) fits)
                ∙ ap₂ (λ (x : List ℕ) (y : ℕ). with_bytes x y (rest_of (i + 1))) (sym put) q;
          }

-- ---- the call

module _ (l : List ℕ) (room : ℕ) where
  pub write-refused : good_list l ≡ false → write_outcome l room ≡ refused 33 none
  unfolding write_outcome
  write-refused e = rw e

  module _ (e : good_list l ≡ true) where
    pub write-short : room < blocks_for l * 512 → write_outcome l room ≡ refused 26 none
    unfolding write_outcome
    write-short h = rw (e, lt-leb (blocks_for l * 512) room h)

    pub write_done : blocks_for l * 512 ≤ room → write_outcome l room ≡ done (sheet_of l)
    unfolding write_outcome
    write_done h = rw (e, le-leb (blocks_for l * 512) room h)

    pub list-short : length l ≤ 983040 * 32
    list-short =
        let w : whole 32 l ≡ true = search conj in
        let m : leb (length l / 32) 983040 ≡ true = search conj in
        omega (arith, whole-facts 32 l w, leb-true (length l / 32) 983040 m)
