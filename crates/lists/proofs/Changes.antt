-- A release and a raise are the two cases of the change that a pass makes.
-- Assumes nothing.
use Prim.Native.Nat.{ℕ, ◌+◌, ◌-◌, ◌^◌, ◌≤◌, ◌<◌, min, max}
use native.Mathlib.Omega.{arith}
use mathlib.Core.Path.{◌≡◌, refl, sym, ap, ◌∙◌}
use mathlib.Core.Bool.{Bool, true, false, not}
use mathlib.Core.List.{List, [], ◌∷◌, append_assoc}
use lib.Dec.{ltb, leb}
use Rattle.codec.specs.declared.refcount.Refcount.{Refcount}
use Rattle.lists.specs.Release.{stop, piece, clamp, lowered, lower_all, join_all, share}
use Rattle.lists.specs.Raise.{raised, full, owners_fit}
use Rattle.lists.specs.Inner.Passes.{counts_after, fit_if, next, fresh, changed, change_all}
use Rattle.lists.proofs.Cases.{split, tests, conj, not-false}
use Rattle.lists.proofs.Counts.{From, Accepted, lower-one}
use Rattle.lists.proofs.Raising.{raise_on, raise_all-on, full_at, full_at_lem}
use Rattle.lists.proofs.CountJoins.{share-none, share-piece, more-some, piece-none, clamp-low, clamp-high}

-- ---- a release

lowered_is : (s e : ℕ) (r : Refcount) → lowered s e r ≡ changed false s e r
unfolding lowered changed next
lowered_is s e r = refl

lower_all-is : (s e d gap : ℕ) (l : List Refcount) → s ≤ e → e ≤ 2 ^ 31 → From d l → lower_all s e l ≡ change_all false s e gap l
unfolding lower_all change_all fresh share
lower_all-is s e d gap [] h t g = refl
lower_all-is s e d gap (r ∷ l) h t g = rw (lower-one s e r h t g.0, lowered_is s e r, lower_all-is s e (stop r) (max gap (stop r)) l h t g.2) refl

-- ---- a raise

share-raised : (a z n : ℕ) → n < 2 ^ 32 - 1 → piece a z (n + 1) ≡ share a z (next true n)
unfolding next
share-raised a z n h = rw (← more-some n h) (sym (share-piece a z (n + 1) (omega arith)))

raised-middle : (s e : ℕ) (r : Refcount) → s ≤ e → full_at s e r ≡ false → piece (clamp r s) (clamp r e) (r.refcount + 1) ≡ share (clamp r s) (clamp r e) (next true r.refcount)
raised-middle s e r h f =
    split (leb (2 ^ 32 - 1) r.refcount)
    (λ g. split (ltb s (stop r))
    (λ u. let v : ltb r.startblock e ≡ false = rw (g, u) at f in
    rw (clamp-low r s (omega tests), clamp-low r e (omega tests), piece-none r.startblock (r.refcount + 1), share-none r.startblock r.startblock (next true r.refcount) (omega arith)) refl)
    (λ u. rw (clamp-high r s (omega tests), clamp-high r e (omega tests), piece-none (stop r) (r.refcount + 1), share-none (stop r) (stop r) (next true r.refcount) (omega arith)) refl))
    (λ g. share-raised (clamp r s) (clamp r e) r.refcount (omega tests))

clamp-same : (r : Refcount) (s a d : ℕ) → s ≤ a → a ≤ max s d → d ≤ r.startblock → clamp r a ≡ clamp r s
unfolding clamp
clamp-same r s a d h k p = omega arith

raised_is : (s e : ℕ) (r : Refcount) (a : ℕ) → s ≤ e → clamp r a ≡ clamp r s → full_at s e r ≡ false → raised a e r ≡ changed true s e r
unfolding raised changed
raised_is s e r a h q f = rw (q, raised-middle s e r h f) refl

-- a is s, or no record that is left starts before it
raise_on-is : (s e d a : ℕ) (l : List Refcount) → s ≤ e → s ≤ a → a ≤ max s d → From d l → owners_fit s e l ≡ true → raise_on a e l ≡ change_all true s e a l
unfolding raise_on change_all owners_fit fresh share
raise_on-is s e d a [] h k p g o = refl
raise_on-is s e d a (r ∷ l) h k p g o =
    let u : not (full s e r) ≡ true = search conj in
    let v : owners_fit s e l ≡ true = search conj in
    rw (raised_is s e r a h (clamp-same r s a d k p g.1) (sym (full_at_lem s e r g.0) ∙ not-false (full s e r) u), raise_on-is s e (stop r) (max a (stop r)) l h (omega arith) (omega arith) g.2 v)
    (sym (append_assoc (piece a (min r.startblock e) 2) (changed true s e r) (change_all true s e (max a (stop r)) l)))

-- ---- either

-- both ways agree: the edits in the papers' words, by block and mark, and the pass in the order of starts as stored
pub counts_after-is : (up : Bool) (s e : ℕ) (l : List Refcount) → s ≤ e → e ≤ 2 ^ 31 → Accepted l → fit_if up s e l ≡ true
    → counts_after up s e l ≡ join_all (change_all up s e s l)
counts_after-is true s e l h t g o = ap join_all (raise_all-on 0 s e l (omega arith) t g ∙ raise_on-is s e 0 s l h (omega arith) (omega arith) g o)
counts_after-is false s e l h t g o = ap join_all (lower_all-is s e 0 s l h t g)
