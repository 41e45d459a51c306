-- A list without one of its extents; so a list whose every extent is as often in another is no longer than it, and if it is as long, both hold the same.
-- Assumes nothing.
use Prim.Native.Nat.{suc, ◌+◌, ◌≤◌, ◌<◌}
use native.Mathlib.Omega.{arith}
use mathlib.Core.Path.{◌≡◌, refl}
use mathlib.Core.Bool.{cond}
use mathlib.Core.List.{List, [], ◌∷◌}
use lib.ListN.{length}
use Rattle.codec.specs.declared.free_extent.FreeExtent.{FreeExtent}
use Rattle.free.specs.Same.{alike, occurs}
use Rattle.free.proofs.Cases.{split}
use Rattle.free.proofs.Extents.{alike-eq}
use Rattle.free.proofs.Occurring.{occurs-first}

unfoldable pub without : FreeExtent → List FreeExtent → List FreeExtent
without e [] = []
without e (x ∷ l) = cond (alike e x) l (x ∷ without e l)

pub occurs-without : (e y : FreeExtent) (l : List FreeExtent) → 0 < occurs e l → occurs y l ≡ cond (alike y e) 1 0 + occurs y (without e l)
unfolding occurs without
occurs-without e y [] h = absurd (omega arith)
occurs-without e y (x ∷ l) h =
    split (alike e x)
    (λ a. rw (a, alike-eq e x a) refl)
    (λ a. let k : 0 < 0 + occurs e l = rw a at h in rw a (omega (arith, occurs-without e y l (omega arith))))

length_without : (e : FreeExtent) (l : List FreeExtent) → 0 < occurs e l → length l ≡ suc (length (without e l))
unfolding occurs without
length_without e [] h = absurd (omega arith)
length_without e (x ∷ l) h =
    split (alike e x)
    (λ a. rw a refl)
    (λ a. let k : 0 < 0 + occurs e l = rw a at h in rw a (omega (arith, length_without e l (omega arith))))

within-length : (l m : List FreeExtent) → ((e : FreeExtent) → occurs e l ≤ occurs e m) → length l ≤ length m
unfolding occurs
within-length [] m h = omega arith
within-length (e ∷ l) m h =
    let some : 0 < occurs e m = omega (arith, h e, occurs-first e l) in
    let rest : length l ≤ length (without e m) = within-length l (without e m) (λ y. omega (arith, h y, occurs-without e y m some)) in
    omega (arith, length_without e m some)

pub same_length : (l m : List FreeExtent) → ((e : FreeExtent) → occurs e l ≡ occurs e m) → length l ≡ length m
same_length l m h = omega (arith, within-length l m (λ e. omega (arith, h e)), within-length m l (λ e. omega (arith, h e)))

pub within_same : (l m : List FreeExtent) → ((e : FreeExtent) → occurs e l ≤ occurs e m) → length l ≡ length m
    → (e : FreeExtent) → occurs e l ≡ occurs e m
unfolding occurs
within_same [] [] h k y = refl
within_same [] (x ∷ m) h k y = absurd (omega arith)
within_same (e ∷ l) m h k y =
    let some : 0 < occurs e m = omega (arith, h e, occurs-first e l) in
    let one : length m ≡ suc (length (without e m)) = length_without e m some in
    let rest : occurs y l ≡ occurs y (without e m) = within_same l (without e m) (λ z. omega (arith, h z, occurs-without e z m some)) (omega arith) y in
    omega (arith, occurs-without e y m some)
