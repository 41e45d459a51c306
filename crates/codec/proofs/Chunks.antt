-- Laws of a list cut into arrays of one length, as `as_chunks` cuts it.
-- Assumes nothing.
use mathlib.Core.Path.{◌≡◌, sym, ap, ◌∙◌}
use mathlib.Core.List.{List, [], ◌++◌}
use Prim.Native.Nat.{ℕ, zero, suc, ◌+◌, ◌*◌, ◌/◌, ◌<◌}
use native.Mathlib.Nat.{zero-mul, suc-mul, add_comm}
use native.Mathlib.Numerals.{add-one}
use native.Mathlib.Omega.{arith}
use lib.ListN.{length, get_or, take, drop, take-append-drop}
use lib.Seq.{drop-drop}
use Rattle.std.specs.Simd.{first_chunks}
use Rattle.codec.specs.Bytes.{bytes_at}

chunk-first : (w n : ℕ) (l : List ℕ) (i : ℕ) → i < n → get_or (first_chunks w n l) i [] ≡ bytes_at l (i * w) w
unfolding bytes_at
chunk-first w zero l i h = absurd (omega arith)
chunk-first w (suc n) l zero h = rw zero-mul
chunk-first w (suc n) l (suc i) h =
    chunk-first w n (drop w l) i (omega arith)
    ∙ ap (take w) (drop-drop (i * w) w l ∙ ap (λ (m : ℕ). drop m l) (add_comm w (i * w) ∙ sym (suc-mul i w)))

-- the bytes of a chunk
pub chunk-at : (w : ℕ) (l : List ℕ) {cs : List (List ℕ)} → cs ≡ first_chunks w (length l / w) l → (i : ℕ) → i < length l / w → get_or cs i [] ≡ bytes_at l (i * w) w
chunk-at w l e i h = ap (λ (cs : List (List ℕ)). get_or cs i []) e ∙ chunk-first w (length l / w) l i h

-- from a chunk on there is the chunk, and what there is from the next one on
pub chunk-next : (w i : ℕ) (l : List ℕ) → bytes_at l (i * w) w ++ drop ((i + 1) * w) l ≡ drop (i * w) l
unfolding bytes_at
chunk-next w i l =
    ap (λ (k : ℕ). take w (drop (i * w) l) ++ drop k l) (rw (add-one, suc-mul))
    ∙ ap (λ (r : List ℕ). take w (drop (i * w) l) ++ r) (sym (drop-drop w (i * w) l))
    ∙ take-append-drop w (drop (i * w) l)
