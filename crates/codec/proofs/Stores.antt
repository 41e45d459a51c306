-- More laws of `bytes_at` and `with_bytes`: each as a list, what lies up to and after a store, and a part that was lent and written.
-- Assumes nothing.
use mathlib.Core.Path.{◌≡◌, refl, sym, ap, ap₂, ◌∙◌}
use mathlib.Core.List.{List, [], ◌∷◌, ◌++◌, append_assoc, append-nil}
use borrow.Rule.Slice.PartMut.{put_mid, Post-is}
use Prim.Native.Nat.{ℕ, ◌+◌, ◌-◌, ◌≤◌, ◌<◌}
use native.Mathlib.Nat.{add-zero, le_refl}
use native.Mathlib.Numerals.{add-one}
use native.Mathlib.Omega.{arith}
use lib.ListN.{length, get_or, set, take, drop, take-append-drop, drop_of_length-le}
use lib.Seq.{length-take-le, take-suc, take_all}
use Rattle.codec.specs.Bytes.{bytes_at, with_bytes}
use Rattle.codec.proofs.Parts.{drop-after, length-with_bytes, with_bytes-one, with_bytes-add}
pub use Rattle.codec.proofs.Parts.{take-with_bytes}

pub bytes_at-is : (l : List ℕ) (at w : ℕ) → bytes_at l at w ≡ take w (drop at l)
unfolding bytes_at
bytes_at-is l at w = refl

pub with_bytes-is : (l : List ℕ) (at : ℕ) (bs : List ℕ) → with_bytes l at bs ≡ take at l ++ bs ++ drop (at + length bs) l
unfolding with_bytes
with_bytes-is l at bs = refl

-- nothing put in
pub with_bytes-none : (l : List ℕ) (at : ℕ) → with_bytes l at [] ≡ l
unfolding with_bytes
with_bytes-none l at =
    ap (λ (k : ℕ). take at l ++ [] ++ drop k l) (add-zero at)
    ∙ ap (λ (t : List ℕ). t ++ drop at l) (append-nil (take at l))
    ∙ take-append-drop at l

-- put over the whole list
pub with_bytes-all : (l bs : List ℕ) → length bs ≡ length l → with_bytes l 0 bs ≡ bs
unfolding with_bytes
with_bytes-all l bs e =
    let h : length l ≤ 0 + length bs = omega arith in
    ap (λ (t : List ℕ). bs ++ t) (drop_of_length-le l h) ∙ append-nil bs

module _ (l : List ℕ) (at : ℕ) (bs : List ℕ) (fits : at + length bs ≤ length l) where
  -- what lies after a store
  pub drop-with_bytes : drop (at + length bs) (with_bytes l at bs) ≡ drop (at + length bs) l
  drop-with_bytes = drop-after l at bs fits (at + length bs) (le_refl (at + length bs))

-- one more element after those put in
module _ (l s bs : List ℕ) (at k v : ℕ) (e : k ≡ at + length bs) (h : k < length l) (q : s ≡ with_bytes l at bs) where
  pub with_bytes-more : set s k v ≡ with_bytes l at (bs ++ (v ∷ []))
  with_bytes-more =
      let f : at + length bs ≤ length l = omega arith in
      let n : at + length bs < length (with_bytes l at bs) = rw (length-with_bytes l at bs f) (omega arith) in
      ap₂ (λ (t : List ℕ) (i : ℕ). set t i v) q e
      ∙ with_bytes-one (with_bytes l at bs) (at + length bs) v n
      ∙ with_bytes-add l at bs (v ∷ []) f

-- a loop that copies a list, element by element
module _ (l s src : List ℕ) (at i : ℕ) where
  pub copy_more : i < length src → at + length src ≤ length l → s ≡ with_bytes l at (take i src)
      → set s (at + i) (get_or src i 0) ≡ with_bytes l at (take (i + 1) src)
  copy_more h f q =
      let n = length-take-le i src (omega arith) in
      with_bytes-more l s (take i src) at (at + i) (get_or src i 0) (ap (λ (k : ℕ). at + k) (sym n)) (omega arith) q
      ∙ ap (with_bytes l at) (sym (ap (λ (k : ℕ). take k src) (add-one i) ∙ take-suc src i 0 h))

  pub copy_done : i ≡ length src → s ≡ with_bytes l at (take i src) → s ≡ with_bytes l at src
  copy_done e q = q ∙ ap (with_bytes l at) (take_all i src (omega arith))

-- a store right after a store is one store
pub with_bytes-then : (l xs ys : List ℕ) (at k : ℕ) → k ≡ at + length xs → k ≤ length l → with_bytes (with_bytes l at xs) k ys ≡ with_bytes l at (xs ++ ys)
with_bytes-then l xs ys at k e h = ap (λ (i : ℕ). with_bytes (with_bytes l at xs) i ys) e ∙ with_bytes-add l at xs ys (omega arith)

-- a part of a list, lent and written
pub part-put : (out ys bytes : List ℕ) (far size : ℕ) → ys ≡ bytes → length bytes ≡ size → put_mid far (far + size - far) out ys ≡ with_bytes out far bytes
unfolding with_bytes
part-put out ys bytes far size e l =
    ap (λ (y : List ℕ). put_mid far (far + size - far) out y) e
    ∙ ap (λ (z : List ℕ). take far out ++ (bytes ++ z)) (Post-is far (far + size) out (omega arith) ∙ ap (λ (n : ℕ). drop (far + n) out) (sym l))
    ∙ sym (append_assoc (take far out) bytes (drop (far + length bytes) out))
