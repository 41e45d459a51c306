-- Numbers and bytes as the library puts one into the other (`to_be_bytes`, `from_be_bytes` and the same little-endian) are those of specs/Bytes.antt.
-- Assumes nothing.
use mathlib.Core.Path.{◌≡◌, refl, sym, ap, ◌∙◌}
use mathlib.Core.List.{List, [], ◌∷◌}
use Prim.Native.Nat.{ℕ, zero, suc, ◌+◌, ◌/◌, ◌%◌, ◌^◌, ◌≤◌, ◌<◌}
use native.Mathlib.Nat.{div-one}
use lib.ListN.{length}
use Rattle.std.specs.Int.{w16, w32, w64, byte_at, bytes_high_first, to_le_bytes, from_be_bytes, from_le_bytes}
use Rattle.std.proofs.lemmas.Nat.{be_bytes_2, be_bytes_4, be_bytes_8, le_bytes_4}
use Rattle.codec.specs.Bytes.{IsBytes, bytes_at, be_of, be_bytes, le_of, le_bytes}
use Rattle.codec.proofs.Parts.{length-bytes_at}
use Rattle.codec.proofs.Overwrites.{IsBytes-bytes_at}
use Rattle.codec.proofs.Numbers.{be_of-be_bytes-lt, le_of-le_bytes-lt}

-- ---- a number's bytes

lowest : (v : ℕ) → byte_at 0 v ≡ v / 256 ^ 0 % 256
lowest v = ap (λ (n : ℕ). n % 256) (sym (div-one v))

pub high_first : (w v : ℕ) → bytes_high_first w v ≡ be_bytes w v
unfolding be_bytes
high_first zero v = refl
high_first (suc zero) v = ap (λ (b : ℕ). b ∷ []) (lowest v)
high_first (suc (suc w)) v = ap (λ (bs : List ℕ). v / 256 ^ suc w % 256 ∷ bs) (high_first (suc w) v)

pub low_first-4 : (v : ℕ) → to_le_bytes w32 v ≡ le_bytes 4 v
unfolding le_bytes be_bytes
low_first-4 v = ap (λ (b : ℕ). b ∷ v / 256 ^ 1 % 256 ∷ v / 256 ^ 2 % 256 ∷ v / 256 ^ 3 % 256 ∷ []) (lowest v)

-- ---- the number of bytes at a place: written again, it is those bytes

module _ (l : List ℕ) (at : ℕ) (small : IsBytes l) (bs : List ℕ) (n : ℕ) where
  pub read-2 : at + 2 ≤ length l → bs ≡ bytes_at l at 2 → n < 2 ^ 16 → n ≡ from_be_bytes w16 bs → n ≡ be_of (bytes_at l at 2)
  read-2 fits r h e =
      let b : IsBytes (bytes_at l at 2) = IsBytes-bytes_at l at 2 small in
      sym (be_of-be_bytes-lt 2 n h) ∙ ap be_of (sym (high_first 2 n) ∙ be_bytes_2 _ n (length-bytes_at l at 2 fits) b (rw r at e))

  pub read-4 : at + 4 ≤ length l → bs ≡ bytes_at l at 4 → n < 2 ^ 32 → n ≡ from_be_bytes w32 bs → n ≡ be_of (bytes_at l at 4)
  read-4 fits r h e =
      let b : IsBytes (bytes_at l at 4) = IsBytes-bytes_at l at 4 small in
      sym (be_of-be_bytes-lt 4 n h) ∙ ap be_of (sym (high_first 4 n) ∙ be_bytes_4 _ n (length-bytes_at l at 4 fits) b (rw r at e))

  pub read-8 : at + 8 ≤ length l → bs ≡ bytes_at l at 8 → n < 2 ^ 64 → n ≡ from_be_bytes w64 bs → n ≡ be_of (bytes_at l at 8)
  read-8 fits r h e =
      let b : IsBytes (bytes_at l at 8) = IsBytes-bytes_at l at 8 small in
      sym (be_of-be_bytes-lt 8 n h) ∙ ap be_of (sym (high_first 8 n) ∙ be_bytes_8 _ n (length-bytes_at l at 8 fits) b (rw r at e))

  pub low_read-4 : at + 4 ≤ length l → bs ≡ bytes_at l at 4 → n < 2 ^ 32 → n ≡ from_le_bytes w32 bs → n ≡ le_of (bytes_at l at 4)
  low_read-4 fits r h e =
      let b : IsBytes (bytes_at l at 4) = IsBytes-bytes_at l at 4 small in
      sym (le_of-le_bytes-lt 4 n h) ∙ ap le_of (sym (low_first-4 n) ∙ le_bytes_4 _ n (length-bytes_at l at 4 fits) b (rw r at e))
