-- Laws of a list with bytes put in: it is bytes, and a second write at the same place takes the first away.
-- Assumes nothing.
use mathlib.Core.Path.{◌≡◌, ap, ap₂, ◌∙◌}
use mathlib.Core.List.{List, [], ◌∷◌, ◌++◌, append_assoc, reverse, reverse-append}
use Prim.Native.Nat.{ℕ, zero, suc, ◌+◌, ◌≤◌, ◌<◌}
use native.Mathlib.Omega.{arith}
use lib.ListN.{length, take, drop, replicate}
use lib.Seq.{length-take-le, take_at, drop_at}
use Rattle.codec.specs.Bytes.{IsBytes, bytes_at, with_bytes, be_bytes, le_bytes}
use Rattle.codec.proofs.Parts.{drop-after}
use Rattle.codec.proofs.FieldLists.{IsBytes-take, IsBytes-drop, IsBytes-append, IsBytes-be_bytes}

-- ---- bytes

IsBytes-one : (x : ℕ) → x < 256 → IsBytes (x ∷ [])
IsBytes-one x h zero = h
IsBytes-one x h (suc i) = omega arith

pub IsBytes-zeros : (n : ℕ) → IsBytes (replicate n 0)
IsBytes-zeros zero i = omega arith
IsBytes-zeros (suc n) zero = omega arith
IsBytes-zeros (suc n) (suc i) = IsBytes-zeros n i

pub IsBytes-reverse : (l : List ℕ) → IsBytes l → IsBytes (reverse l)
IsBytes-reverse [] h = h
IsBytes-reverse (x ∷ l) h =
    rw (reverse-append (x ∷ []) l) (IsBytes-append (reverse l) (x ∷ []) (IsBytes-reverse l (λ i. h (suc i))) (IsBytes-one x (h 0)))

pub IsBytes-le_bytes : (w v : ℕ) → IsBytes (le_bytes w v)
unfolding le_bytes
IsBytes-le_bytes w v = IsBytes-reverse (be_bytes w v) (IsBytes-be_bytes w v)

pub IsBytes-with_bytes : (l : List ℕ) (at : ℕ) (bs : List ℕ) → IsBytes l → IsBytes bs → IsBytes (with_bytes l at bs)
unfolding with_bytes
IsBytes-with_bytes l at bs hl hb =
    IsBytes-append (take at l ++ bs) (drop (at + length bs) l) (IsBytes-append (take at l) bs (IsBytes-take at l hl) hb) (IsBytes-drop (at + length bs) l hl)

pub IsBytes-bytes_at : (l : List ℕ) (at w : ℕ) → IsBytes l → IsBytes (bytes_at l at w)
unfolding bytes_at
IsBytes-bytes_at l at w h = IsBytes-take w (drop at l) (IsBytes-drop at l h)

-- ---- after the bytes, and at their place

-- a part that follows a list of known length
pub bytes_at-past : (p q : List ℕ) (n w : ℕ) → length p ≡ n → bytes_at (p ++ q) n w ≡ take w q
unfolding bytes_at
bytes_at-past p q n w e = ap (take w) (drop_at p q n e)

pub with_bytes-again : (l : List ℕ) (at : ℕ) (xs ys : List ℕ) → at + length xs ≤ length l → length xs ≡ length ys
    → with_bytes (with_bytes l at xs) at ys ≡ with_bytes l at ys
unfolding with_bytes
with_bytes-again l at xs ys h e =
    let front : take at (with_bytes l at xs) ≡ take at l =
    ap (take at) (append_assoc (take at l) xs (drop (at + length xs) l))
    ∙ take_at (take at l) (xs ++ drop (at + length xs) l) at (length-take-le at l (omega arith)) in
    ap₂ (λ (p q : List ℕ). p ++ ys ++ q) front (drop-after l at xs h (at + length ys) (omega arith))
