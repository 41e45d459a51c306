-- `EveryHighKey` and `EveryHighest`: the high key of a good record is that of its last block, and `highest` is the greatest of the high keys, the
-- last of equals.
-- Assumes nothing.
use Prim.Native.Nat.{ℕ, ◌+◌, ◌-◌, ◌/◌, ◌%◌, ◌^◌, ◌≤◌, ◌<◌}
use native.Mathlib.Omega.{arith}
use mathlib.Core.Path.{◌≡◌, refl, sym, ap, subst}
use mathlib.Core.Bool.{true, false}
use mathlib.Core.Logic.{◌⊎◌, inl, inr}
use mathlib.Core.List.{List, [], ◌∷◌}
use lib.Dec.{ltb, eqb}
use borrow.Author.Tests.{ltb-true, ltb-false, leb-true, leb-false, eqb-true, eqb-false, le-ltb}
use Rattle.codec.specs.Accepted.{in_order}
use Rattle.codec.specs.Rmaps.{reserved, mapping, exempt, good, key_offset, before, follows, accepted}
use Rattle.codec.specs.declared.rmap.Rmap.{Rmap}
use Rattle.trees.specs.declared.keys.RmapKey.{RmapKey}
use Rattle.trees.specs.Keys.{high_key, key_below, greater, greatest, highest}
use Rattle.trees.specs.HighKeys.{NoneAbove, AllBelow, IsHighest, EveryHighKey, EveryHighest}
use Rattle.trees.proofs.Sharing.{split}
use Rattle.trees.proofs.KeyLaws.{good-means}

-- ---- the high key of a record

-- what is added to a file offset does not reach the flags
same_flags : (o n : ℕ) → 0 < n → o % 2 ^ 54 + n ≤ 2 ^ 54 → ((o + (n - 1)) / 2 ^ 54 ≡ o / 2 ^ 54) × ((o + (n - 1)) % 2 ^ 54 + 1 ≡ o % 2 ^ 54 + n)
same_flags o n h k = (omega arith, omega arith)

pub every-high-key : EveryHighKey
unfolding high_key
every-high-key r e =
    let g = good-means r e in
    record {
      start = omega (arith, g.0);
      owner = refl;
      flags = split (exempt r) (λ x. rw x refl) (λ x. rw x (same_flags r.offset r.blockcount g.0 (g.2 x)).0);
      file = λ x. rw x (same_flags r.offset r.blockcount g.0 (g.2 x)).1;
      no_file = λ x. rw x refl;
    }

-- ---- the order of keys

ruleset order = (arith, ltb-true, ltb-false, leb-true, leb-false, eqb-true)

-- at or below: by start, then owner, then file offset
abbrev Le : RmapKey → RmapKey → Type 0
Le j k =
    (j.start ≤ k.start)
    × (j.start ≡ k.start → j.owner ≤ k.owner)
    × (j.start ≡ k.start → j.owner ≡ k.owner → j.offset % 2 ^ 54 ≤ k.offset % 2 ^ 54)

not-below : (j k : RmapKey) → key_below k j ≡ false → Le j k
unfolding key_below
not-below j k e =
    split (eqb k.start j.start)
    (λ p. split (eqb k.owner j.owner)
    (λ q. let r : ltb (k.offset % 2 ^ 54) (j.offset % 2 ^ 54) ≡ false = rw (p, q) at e in (omega order, λ u. omega order, λ u v. omega order))
    (λ q. let r : ltb k.owner j.owner ≡ false = rw (p, q) at e in
    (omega order, λ u. omega order, λ u v. absurd (omega (arith, eqb-false k.owner j.owner q)))))
    (λ p. let r : ltb k.start j.start ≡ false = rw p at e in
    (omega order, λ u. absurd (omega (arith, eqb-false k.start j.start p)), λ u v. absurd (omega (arith, eqb-false k.start j.start p))))

below-le : (j k : RmapKey) → key_below j k ≡ true → Le j k
unfolding key_below
below-le j k e =
    split (eqb j.start k.start)
    (λ p. split (eqb j.owner k.owner)
    (λ q. let r : ltb (j.offset % 2 ^ 54) (k.offset % 2 ^ 54) ≡ true = rw (p, q) at e in (omega order, λ u. omega order, λ u v. omega order))
    (λ q. let r : ltb j.owner k.owner ≡ true = rw (p, q) at e in
    (omega order, λ u. omega order, λ u v. absurd (omega (arith, eqb-false j.owner k.owner q)))))
    (λ p. let r : ltb j.start k.start ≡ true = rw p at e in
    (omega order, λ u. absurd (omega (arith, eqb-false j.start k.start p)), λ u v. absurd (omega (arith, eqb-false j.start k.start p))))

le_not : (j k : RmapKey) → Le j k → key_below k j ≡ false
unfolding key_below
le_not j k h =
    split (eqb k.start j.start)
    (λ p. split (eqb k.owner j.owner)
    (λ q. rw (p, q) (le-ltb (k.offset % 2 ^ 54) (j.offset % 2 ^ 54) (h.2 (omega order) (omega order))))
    (λ q. rw (p, q) (le-ltb k.owner j.owner (h.1 (omega order)))))
    (λ p. rw p (le-ltb k.start j.start h.0))

le_refl : (k : RmapKey) → Le k k
le_refl k = (omega arith, λ u. omega arith, λ u v. omega arith)

le_trans : (i j k : RmapKey) → Le i j → Le j k → Le i k
le_trans i j k f g =
    (omega (arith, f.0, g.0), λ u. omega (arith, f.1 (first u), g.1 (second u)), λ u v. omega (arith, f.2 (first u) (third u v), g.2 (second u) (fourth u v)))
  where
    first : i.start ≡ k.start → i.start ≡ j.start
    first u = omega (arith, f.0, g.0)

    second : i.start ≡ k.start → j.start ≡ k.start
    second u = omega (arith, f.0, g.0)

    third : i.start ≡ k.start → i.owner ≡ k.owner → i.owner ≡ j.owner
    third u v = omega (arith, f.1 (first u), g.1 (second u))

    fourth : i.start ≡ k.start → i.owner ≡ k.owner → j.owner ≡ k.owner
    fourth u v = omega (arith, f.1 (first u), g.1 (second u))

-- ---- the greatest

below_none : (k : RmapKey) (rs : List Rmap) → AllBelow k rs → NoneAbove k rs
below_none k [] h = tt
below_none k (r ∷ rs) h = (le_not (high_key r) k (below-le (high_key r) k h.0), below_none k rs h.1)

-- the first of the records is the one
highest-first : (r : Rmap) (rs : List Rmap) → AllBelow (high_key r) rs → IsHighest (r ∷ rs) (high_key r)
highest-first r rs h =
    record {
      before = [];
      top = r;
      later = rs;
      stands = refl;
      key = refl;
      none_above = (le_not (high_key r) (high_key r) (le_refl (high_key r)), below_none (high_key r) rs h);
      later_below = h;
    }

-- a later one is
highest-later : (r : Rmap) (rs : List Rmap) (k : RmapKey) → IsHighest rs k → Le (high_key r) k → IsHighest (r ∷ rs) k
highest-later r rs k h l =
    record {
      before = r ∷ h.before;
      top = h.top;
      later = h.later;
      stands = ap (λ (x : List Rmap). r ∷ x) h.stands;
      key = h.key;
      none_above = (le_not (high_key r) k l, h.none_above);
      later_below = h.later_below;
    }

-- g is k itself, and all high keys are below it; or it is the highest of them, at or above k
abbrev Found : RmapKey → List Rmap → RmapKey → Type 0
Found k rs g = ((g ≡ k) × AllBelow k rs) ⊎ (IsHighest rs g × Le k g)

found_first : (r : Rmap) (rs : List Rmap) (g : RmapKey) → Found (high_key r) rs g → IsHighest (r ∷ rs) g
found_first r rs g (inl a) = subst (IsHighest (r ∷ rs)) (sym a.0) (highest-first r rs a.1)
found_first r rs g (inr a) = highest-later r rs g a.0 a.1

found-above : (r : Rmap) (rs : List Rmap) (g : RmapKey) → Found (high_key r) rs g → Le (high_key r) g
found-above r rs g (inl a) = subst (Le (high_key r)) (sym a.0) (le_refl (high_key r))
found-above r rs g (inr a) = a.1

found-kept : (k : RmapKey) (r : Rmap) (rs : List Rmap) (g : RmapKey) → key_below (high_key r) k ≡ true → Found k rs g → Found k (r ∷ rs) g
found-kept k r rs g e (inl a) = inl (a.0, (e, a.1))
found-kept k r rs g e (inr a) = inr (highest-later r rs g a.0 (le_trans (high_key r) k g (below-le (high_key r) k e) a.1), a.1)

-- one record more
greatest-kept : (k : RmapKey) (r : Rmap) (rs : List Rmap) → key_below (high_key r) k ≡ true → greatest k rs ≡ greatest k (r ∷ rs)
unfolding greatest greater
greatest-kept k r rs e = rw e refl

greatest-new : (k : RmapKey) (r : Rmap) (rs : List Rmap) → key_below (high_key r) k ≡ false → greatest (high_key r) rs ≡ greatest k (r ∷ rs)
unfolding greatest greater
greatest-new k r rs e = rw e refl

found : (k : RmapKey) (rs : List Rmap) → Found k rs (greatest k rs)
unfolding greatest
found k [] = inl (refl, tt)
found k (r ∷ rs) =
    let f = found (high_key r) rs in
    let g : RmapKey = greatest (high_key r) rs in
    split (key_below (high_key r) k)
    (λ e. subst (Found k (r ∷ rs)) (greatest-kept k r rs e) (found-kept k r rs (greatest k rs) e (found k rs)))
    (λ e. subst (Found k (r ∷ rs)) (greatest-new k r rs e) (inr (found_first r rs g f, le_trans k (high_key r) g (not-below k (high_key r) e) (found-above r rs g f))))

pub every-highest : EveryHighest
every-highest r rs = found_first r rs (greatest (high_key r) rs) (found (high_key r) rs)

-- ---- an accepted list with equals

-- 0/4 of owner 7 at file offset 0, 2/2 of the same at 2, unwritten (bit 61), and 2/1 of owner 9 at 0
abbrev pub written : Rmap
written = record { startblock = 0; blockcount = 4; owner = 7; offset = 0 }

abbrev pub unwritten : Rmap
unwritten = record { startblock = 2; blockcount = 2; owner = 7; offset = 2 ^ 61 + 2 }

abbrev pub other : Rmap
other = record { startblock = 2; blockcount = 1; owner = 9; offset = 0 }

-- the first two have high keys that are equal in the order and differ in their flags; the child's is the second one's
pub record Equals : Type 0 where
  pub list-accepted : accepted (written ∷ unwritten ∷ other ∷ []) ≡ true
  pub not-below-it : key_below (high_key written) (high_key unwritten) ≡ false
  pub not-above-it : key_below (high_key unwritten) (high_key written) ≡ false
  pub flagged : (high_key unwritten).offset ≡ (high_key written).offset + 2 ^ 61
  pub last_taken : highest (written ∷ unwritten ∷ other ∷ []) ≡ high_key unwritten

pub equals : Equals
unfolding high_key key_below greater greatest in_order reserved mapping exempt good key_offset before follows
equals = record { list-accepted = refl; not-below-it = refl; not-above-it = refl; flagged = refl; last_taken = refl }
