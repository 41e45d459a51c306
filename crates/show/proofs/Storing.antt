-- Laws of blocks stored one after another and of pointers put in one after another: none left, no room for the next one, and one more.
-- Assumes nothing.
use Prim.Native.Nat.{ℕ, ◌+◌, ◌≤◌, ◌<◌}
use native.Mathlib.Numerals.{add-one}
use mathlib.Core.Path.{◌≡◌, refl, sym, ap, ◌∙◌}
use mathlib.Core.Bool.{Bool, cond}
use mathlib.Core.List.{List, [], ◌∷◌}
use borrow.Author.Tests.{le-leb, lt-leb}
use lib.ListN.{length, get_or, take, drop, drop_of_length-le}
use lib.Seq.{drop-cons}
use Rattle.codec.specs.Bytes.{with_bytes, be_bytes}
use Rattle.show.specs.Images.{stored, stored_each, with_pointers}

-- from a number on there is that number, and what there is from the next one on
next-is : (l : List ℕ) (k : ℕ) → k < length l → drop k l ≡ get_or l k 0 ∷ drop (k + 1) l
next-is l k h = drop-cons l k 0 h ∙ ap (λ (i : ℕ). get_or l k 0 ∷ drop i l) (sym (add-one k))

-- ---- blocks

module _ (blocks : List ℕ) (size : ℕ) (image : List ℕ) where
  pub each-none : (numbers : List ℕ) (k : ℕ) → length numbers ≤ k → stored_each blocks size (drop k numbers) image ≡ image
  unfolding stored_each
  each-none numbers k h = ap (λ (l : List ℕ). stored_each blocks size l image) (drop_of_length-le numbers h)

  pub each-short : (numbers : List ℕ) → length blocks < size → stored_each blocks size numbers image ≡ image
  unfolding stored_each
  each-short [] h = refl
  each-short (n ∷ numbers) h =
      ap (λ (t : Bool). cond t (stored_each (drop size blocks) size numbers (stored (take size blocks) n image)) image) (lt-leb size (length blocks) h)

  pub each-next : (numbers : List ℕ) (k : ℕ) → k < length numbers → size ≤ length blocks
      → stored_each blocks size (drop k numbers) image
      ≡ stored_each (drop size blocks) size (drop (k + 1) numbers) (stored (take size blocks) (get_or numbers k 0) image)
  unfolding stored_each
  each-next numbers k h fits =
      ap (λ (l : List ℕ). stored_each blocks size l image) (next-is numbers k h)
      ∙ ap (λ (t : Bool). cond t (stored_each (drop size blocks) size (drop (k + 1) numbers) (stored (take size blocks) (get_or numbers k 0) image)) image)
      (le-leb size (length blocks) fits)

-- ---- pointers

module _ (node : List ℕ) (at : ℕ) where
  pub pointers-none : (pointers : List ℕ) (k : ℕ) → length pointers ≤ k → with_pointers node at (drop k pointers) ≡ node
  unfolding with_pointers
  pointers-none pointers k h = ap (λ (l : List ℕ). with_pointers node at l) (drop_of_length-le pointers h)

  pub pointers-short : (pointers : List ℕ) → length node < at + 4 → with_pointers node at pointers ≡ node
  unfolding with_pointers
  pointers-short [] h = refl
  pointers-short (p ∷ pointers) h =
      ap (λ (t : Bool). cond t (with_pointers (with_bytes node at (be_bytes 4 p)) (at + 4) pointers) node) (lt-leb (at + 4) (length node) h)

  pub pointers-next : (pointers : List ℕ) (k : ℕ) → k < length pointers → at + 4 ≤ length node
      → with_pointers node at (drop k pointers) ≡ with_pointers (with_bytes node at (be_bytes 4 (get_or pointers k 0))) (at + 4) (drop (k + 1) pointers)
  unfolding with_pointers
  pointers-next pointers k h fits =
      ap (λ (l : List ℕ). with_pointers node at l) (next-is pointers k h)
      ∙ ap (λ (t : Bool). cond t (with_pointers (with_bytes node at (be_bytes 4 (get_or pointers k 0))) (at + 4) (drop (k + 1) pointers)) node)
      (le-leb (at + 4) (length node) fits)
