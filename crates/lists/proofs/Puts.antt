-- Laws of bytes that are put into a buffer or only counted, and of a buffer on its way.
-- Assumes nothing.
use Prim.Native.Nat.{ℕ, ◌+◌, ◌≤◌, ◌<◌}
use native.Mathlib.Omega.{arith}
use mathlib.Core.Path.{◌≡◌, refl, sym, ap, ◌∙◌}
use mathlib.Core.Bool.{Bool, true, false, cond}
use mathlib.Core.List.{List, [], ◌∷◌, ◌++◌}
use lib.ListN.{length, length-append}
use Rattle.codec.specs.Bytes.{with_bytes}
use Rattle.codec.proofs.Parts.{length-with_bytes, with_bytes-add}
use Rattle.codec.proofs.Stores.{with_bytes-none}
use Rattle.lists.specs.Inner.Passes.{put_if}

pub put-nil : (w : Bool) (s : List ℕ) (at : ℕ) → put_if w s at [] ≡ s
unfolding put_if
put-nil true s at = with_bytes-none s at
put-nil false s at = refl

-- a first part, and what stands behind it
pub put-put : (w : Bool) (s : List ℕ) (at k : ℕ) (a b : List ℕ) → (w ≡ true → 0 < length a → at + length a ≤ length s) → k ≡ at + length a
    → put_if w (put_if w s at a) k b ≡ put_if w s at (a ++ b)
unfolding put_if
put-put true s at k [] b h e = rw (with_bytes-none s at) (ap (λ (n : ℕ). with_bytes s n b) (omega arith))
put-put true s at k (x ∷ a) b h e = rw e (with_bytes-add s at (x ∷ a) b (h refl (omega arith)))
put-put false s at k a b h e = refl

pub length-put : (w : Bool) (s : List ℕ) (at : ℕ) (b : List ℕ) → (w ≡ true → 0 < length b → at + length b ≤ length s) → length (put_if w s at b) ≡ length s
unfolding put_if
length-put true s at [] h = ap length (with_bytes-none s at)
length-put true s at (x ∷ b) h = length-with_bytes s at (x ∷ b) (h refl (omega arith))
length-put false s at b h = refl

pub put-yes : (w : Bool) (s t : List ℕ) (at : ℕ) (b : List ℕ) → w ≡ true → t ≡ with_bytes s at b → t ≡ put_if w s at b
unfolding put_if
put-yes w s t at b h e = rw h e

pub put-no : (w : Bool) (s : List ℕ) (at : ℕ) (b : List ℕ) → w ≡ false → s ≡ put_if w s at b
unfolding put_if
put-no w s at b h = rw h refl

pub put-done : (w : Bool) (s t : List ℕ) (at : ℕ) (b : List ℕ) → t ≡ put_if w s at b → w ≡ true → t ≡ with_bytes s at b
unfolding put_if
put-done w s t at b e h = let f : t ≡ cond true (with_bytes s at b) s = rw h at e in f

-- ---- a buffer on its way: what stands before `at` is finished, `tail` is to come, and the whole is `all`

pub record Going (w : Bool) (all out₀ out : List ℕ) (at : ℕ) (tail : List ℕ) : Type 0 where
  pub kept : length out ≡ length out₀
  pub size : at + length tail ≡ length all
  pub bytes : put_if w out at tail ≡ put_if w out₀ 0 all

pub going_start : (w : Bool) (all out tail : List ℕ) → tail ≡ all → Going w all out out 0 tail
going_start w all out tail e = record { kept = refl; size = rw e (omega arith); bytes = ap (put_if w out 0) e }

module _ (w : Bool) (all out₀ out : List ℕ) (at : ℕ) (tail a b : List ℕ) (g : Going w all out₀ out at tail) (q : tail ≡ a ++ b) (room : w ≡ true → length all ≤ length out₀) where
  pub going-put : (out' : List ℕ) (at' : ℕ) → at' ≡ at + length a → out' ≡ put_if w out at a → length out' ≡ length out → Going w all out₀ out' at' b
  going-put out' at' e f n =
      let t : length tail ≡ length a + length b = ap length q ∙ length-append a b in
      record {
        kept = omega arith;
        size = omega arith;
        bytes =
            ap (λ (l : List ℕ). put_if w l at' b) f
            ∙ put-put w out at at' a b (λ u v. omega (arith, room u)) e
            ∙ ap (put_if w out at) (sym q)
            ∙ g.bytes;
      }

  -- there is room for a first part
  pub going-room : w ≡ true → at + length a ≤ length out
  going-room u = omega (arith, room u, ap length q, length-append a b)

pub going_end : (w : Bool) (all out₀ out out' : List ℕ) (at at' : ℕ) (tail a : List ℕ) → Going w all out₀ out at tail → tail ≡ a → at' ≡ at + length a → out' ≡ put_if w out at a
    → (at' ≡ length all) × (out' ≡ put_if w out₀ 0 all)
going_end w all out₀ out out' at at' tail a g q e f = (omega (arith, ap length q), f ∙ ap (put_if w out at) (sym q) ∙ g.bytes)
