-- Blocks written one after another into an output, and the bytes of a fresh block.
-- Assumes nothing.
use Prim.Native.Nat.{ℕ, ◌+◌, ◌-◌, ◌≤◌}
use native.Mathlib.Nat.{zero-add}
use native.Mathlib.Omega.{arith}
use mathlib.Core.Path.{◌≡◌, refl, sym, ap, ap₂, ◌∙◌}
use mathlib.Core.List.{List, [], ◌∷◌, ◌++◌, append_assoc, append-nil}
use lib.ListN.{length, take, drop, replicate, length-append, length-drop, length-replicate, replicate-append-replicate, take-append-drop}
use lib.Seq.{take_at, drop_at, length-take-le, drop-drop}
use Rattle.codec.specs.Bytes.{with_bytes}
use Rattle.codec.proofs.Parts.{with_bytes-add}
pub use Rattle.codec.proofs.Stores.{part-put}
use Rattle.trees.specs.Build.{Block, padded, output}

-- ---- blocks one after another

pub output-append : (xs ys : List Block) → output (xs ++ ys) ≡ output xs ++ output ys
unfolding output
output-append [] ys = refl
output-append (x ∷ xs) ys = ap (λ (l : List ℕ). x.bytes ++ l) (output-append xs ys) ∙ sym (append_assoc x.bytes (output xs) (output ys))

pub output-one : (b : Block) → output (b ∷ []) ≡ b.bytes
unfolding output
output-one b = append-nil b.bytes

-- so far the first bytes of the output are written: they and the blocks still to come are the whole; the rest is as it was
pub record Written (before out whole : List ℕ) (far : ℕ) (rest : List Block) : Type 0 where
  pub long : length out ≡ length before
  pub inside : far ≤ length before
  pub front : take far out ++ output rest ≡ whole
  pub back : drop far out ≡ drop far before

pub written_none : (before whole : List ℕ) (rest : List Block) → output rest ≡ whole → Written before before whole 0 rest
written_none before whole rest e = record { long = refl; inside = omega arith; front = e; back = refl }

-- some blocks more
pub written-more : (before out whole : List ℕ) (far size : ℕ) (some rest : List Block) (out' : List ℕ)
    → length (output some) ≡ size → far + size ≤ length before
    → Written before out whole far (some ++ rest) → out' ≡ with_bytes out far (output some) → Written before out' whole (far + size) rest
unfolding with_bytes
written-more before out whole far size some rest out' l h w e =
    let bytes : List ℕ = output some in
    let p : List ℕ = take far out ++ bytes in
    let tl : length (take far out) ≡ far = length-take-le far out (omega (arith, w.long)) in
    let pl : length p ≡ far + size = omega (arith, length-append (take far out) bytes) in
    let is : out' ≡ p ++ drop (far + length bytes) out = e in
    record {
      long = ap length is ∙ omega (arith, length-append p (drop (far + length bytes) out), length-drop (far + length bytes) out, w.long);
      inside = h;
      front =
          ap (λ (x : List ℕ). x ++ output rest) (ap (take (far + size)) is ∙ take_at p (drop (far + length bytes) out) (far + size) pl)
          ∙ append_assoc (take far out) bytes (output rest)
          ∙ ap (λ (x : List ℕ). take far out ++ x) (sym (output-append some rest))
          ∙ w.front;
      back =
          ap (drop (far + size)) is
          ∙ drop_at p (drop (far + length bytes) out) (far + size) pl
          ∙ ap (λ (x : ℕ). drop (far + x) out) l
          ∙ sym (drop-drop size far out)
          ∙ ap (drop size) w.back
          ∙ drop-drop size far before;
    }

pub written_all : (before out whole : List ℕ) (far : ℕ) → Written before out whole far [] → out ≡ with_bytes before 0 whole
unfolding output with_bytes
written_all before out whole far w =
    let f : take far out ≡ whole = sym (append-nil (take far out)) ∙ w.front in
    let n : far ≡ 0 + length whole = sym (length-take-le far out (omega (arith, w.long, w.inside))) ∙ ap length f ∙ sym (zero-add (length whole)) in
    sym (take-append-drop far out)
    ∙ ap₂ (λ (x y : List ℕ). x ++ y) f (w.back ∙ ap (λ (x : ℕ). drop x before) n)

-- ---- a fresh block

-- bytes written into zeros
pub put-fresh : (n at : ℕ) (s : List ℕ) → at + length s ≤ n → with_bytes (replicate n 0) at s ≡ padded n (replicate at 0 ++ s)
unfolding with_bytes
put-fresh n at s h =
    let z : List ℕ = replicate at 0 in
    let zl : length z ≡ at = length-replicate {A = ℕ} at 0 in
    let m : ℕ = at + length s in
    let sp : replicate {A = ℕ} n 0 ≡ z ++ replicate (n - at) 0 = ap (λ (x : ℕ). replicate {A = ℕ} x 0) (let e : n ≡ at + (n - at) = omega arith in e) ∙ sym (replicate-append-replicate at (n - at) 0) in
    let sq : replicate {A = ℕ} n 0 ≡ replicate m 0 ++ replicate (n - m) 0 = ap (λ (x : ℕ). replicate {A = ℕ} x 0) (let e : n ≡ m + (n - m) = omega arith in e) ∙ sym (replicate-append-replicate m (n - m) 0) in
    let l : n - m ≡ n - length (z ++ s) = omega (arith, length-append z s) in
    ap₂ (λ (x y : List ℕ). (x ++ s) ++ y)
    (ap (take at) sp ∙ take_at z (replicate (n - at) 0) at zl)
    (ap (drop m) sq ∙ drop_at (replicate m 0) (replicate (n - m) 0) m (length-replicate {A = ℕ} m 0) ∙ ap (λ (x : ℕ). replicate {A = ℕ} x 0) l)

-- a cleared block with records copied in after the header
pub leaf-fresh : (b records : List ℕ) (size header head : ℕ) → length b ≡ size → head ≡ header → header + length records ≤ size
    → with_bytes (replicate (length b) 0) head records ≡ padded size (replicate header 0 ++ records)
leaf-fresh b records size header head l e h =
    ap₂ (λ (x y : ℕ). with_bytes (replicate x 0) y records) l e ∙ put-fresh size header records h

-- keys, then pointers after room for the capacity's keys
pub node-fresh : (size header room : ℕ) (keys pointers : List ℕ) → length keys ≤ room → header + room + length pointers ≤ size
    → with_bytes (with_bytes (replicate size 0) header keys) (header + room) pointers ≡ padded size (replicate header 0 ++ (padded room keys ++ pointers))
node-fresh size header room keys pointers h k =
    let gap : List ℕ = replicate (room - length keys) 0 in
    let gl : length gap ≡ room - length keys = length-replicate {A = ℕ} (room - length keys) 0 in
    let rest : ℕ = size - (header + room) in
    let z : List ℕ = replicate header 0 in
    let zl : length (z ++ keys) ≡ header + length keys = length-append z keys ∙ ap (λ (n : ℕ). n + length keys) (length-replicate {A = ℕ} header 0) in
    -- with the keys written, the room left over is zeros too
    let same : padded size (z ++ keys) ≡ padded size (z ++ padded room keys) =
    ap (λ (n : ℕ). (z ++ keys) ++ replicate {A = ℕ} n 0) (let e : size - length (z ++ keys) ≡ (room - length keys) + rest = omega arith in e)
    ∙ ap (λ (l : List ℕ). (z ++ keys) ++ l) (sym (replicate-append-replicate (room - length keys) rest 0))
    ∙ sym (append_assoc (z ++ keys) gap (replicate rest 0))
    ∙ ap₂ (λ (x : List ℕ) (n : ℕ). x ++ replicate {A = ℕ} n 0) (append_assoc z keys gap)
    (let e : rest ≡ size - length (z ++ padded room keys) = omega (arith, length-append z (padded room keys), length-append keys gap, length-replicate {A = ℕ} header 0) in e) in
    let kl : length (padded room keys) ≡ room = omega (arith, length-append keys gap) in
    let c : header + length keys ≤ size = omega arith in
    let d : header + length (padded room keys) ≤ size = omega arith in
    let f : length (replicate {A = ℕ} size 0) ≡ size = length-replicate {A = ℕ} size 0 in
    let r : header + length (padded room keys) ≤ length (replicate {A = ℕ} size 0) = omega arith in
    ap (λ (l : List ℕ). with_bytes l (header + room) pointers) (put-fresh size header keys c ∙ same ∙ sym (put-fresh size header (padded room keys) d))
    ∙ ap (λ (n : ℕ). with_bytes (with_bytes (replicate size 0) header (padded room keys)) (header + n) pointers) (sym kl)
    ∙ with_bytes-add (replicate size 0) header (padded room keys) pointers r
    ∙ put-fresh size header (padded room keys ++ pointers) (omega (arith, length-append (padded room keys) pointers))
