-- Every block of an extent is held exactly if the records, in order, reach from its start to its end; and none is exactly if no record overlaps it.
-- Assumes nothing.
use Prim.Native.Nat.{ℕ, zero, suc, ◌+◌, ◌*◌, ◌/◌, ◌≤◌, ◌<◌, max}
use mathlib.Core.Bool.{Bool, true, false, cond}
use mathlib.Core.Path.{◌≡◌, refl, sym, ◌∙◌}
use mathlib.Core.List.{List, [], ◌∷◌}
use native.Mathlib.Omega.{arith}
use native.Mathlib.Numerals.{add-one}
use lib.Dec.{ltb, leb, eqb}
use lib.ListN.{length, drop, drop_of_length-le}
use borrow.Author.Tests.{lt-ltb, le-ltb, le-leb, lt-leb, eq-eqb, ne_eqb}
use Rattle.codec.specs.Bytes.{bytes_at}
use Rattle.codec.specs.Records.{records_of, rmaps}
use Rattle.codec.specs.Rmaps.{end, least, accepted}
use Rattle.codec.specs.declared.rmap.Rmap.{Rmap}
use Rattle.codec.proofs.RecordLists.{length-records_of, records_of-next}
use Rattle.lists.specs.Extent.{over, within}
use Rattle.lists.specs.Holders.{holders}
use Rattle.lists.specs.Held.{each_block, held_all, held_none, no_overlap, OverlapsTell}
use Rattle.lists.specs.RmapEdits.{first, is_some, overlaps}
use Rattle.lists.proofs.Cases.{split, tests, over-facts, within_in, within-left, within-right, within-not}
use Rattle.lists.proofs.Found.{overlaps-ends, no-overlap-parts}
use Rattle.lists.proofs.RmapOrder.{Le, by_start, by_owner, by_offset, Acc, After, accepted-facts, good-facts}

-- ---- a test of each block of an extent

module _ (p : ℕ → Bool) where
  each-true : (s c : ℕ) → ((b : ℕ) → s ≤ b → b < s + c → p b ≡ true) → each_block p s c ≡ true
  unfolding each_block
  each-true s zero h = refl
  each-true s (suc c) h = rw (h s (omega arith) (omega arith)) (each-true (suc s) c (λ b u v. h b (omega arith) (omega arith)))

  each-false : (s c b : ℕ) → s ≤ b → b < s + c → p b ≡ false → each_block p s c ≡ false
  unfolding each_block
  each-false s zero b u v h = absurd (omega arith)
  each-false s (suc c) b u v h =
      split (p s)
      (λ e. rw e (each-false (suc s) c b (split (ltb s b) (λ f. omega tests) (λ f. let z : s ≡ b = omega tests in absurd (differ (rw z at e) h))) (omega arith) h))
      (λ e. rw e refl)
    where
      differ : p b ≡ true → p b ≡ false → ⊥
      differ e f = let z : ◌≡◌ {A = ℕ} 0 1 = cc in omega arith

  -- where it holds, each block passes
  each-means : (s c : ℕ) → each_block p s c ≡ true → (b : ℕ) → 0 < within s c 1 b → p b ≡ true
  each-means s c h b k =
      split (p b) (λ e. e)
      (λ e. let z : each_block p s c ≡ false = each-false s c b inside.0 inside.1 e in let y : ◌≡◌ {A = ℕ} 0 1 = cc in absurd (omega arith))
    where
      inside : (s ≤ b) × (b < s + c)
      inside = split (over s c b) (λ e. over-facts s c b e) (λ e. absurd (omega (arith, within-not s c 1 b e)))

-- ---- 27, by how far the records reach

-- the first block from a on that no record lies over, along a list in order
unfoldable pub reach_of : ℕ → List Rmap → ℕ
reach_of a [] = a
reach_of a (r ∷ l) = cond (leb r.startblock a) (reach_of (max a (end r)) l) a

reach-le : (a : ℕ) (l : List Rmap) → a ≤ reach_of a l
unfolding reach_of
reach-le a [] = omega arith
reach-le a (r ∷ l) = split (leb r.startblock a) (λ e. rw e (omega (arith, reach-le (max a (end r)) l))) (λ e. rw e (omega arith))

-- the blocks before it are held
reach-held : (a : ℕ) (l : List Rmap) (b : ℕ) → a ≤ b → b < reach_of a l → 0 < holders l b
unfolding reach_of holders
reach-held a [] b h k = absurd (omega arith)
reach-held a (r ∷ l) b h k =
    split (leb r.startblock a)
    (λ e. let k : b < reach_of (max a (end r)) l = rw e at k in
    split (ltb b (end r))
    (λ f. omega (tests, within_in r.startblock r.blockcount 1 b (omega tests) (omega tests)))
    (λ f. omega (tests, reach-held (max a (end r)) l b (omega tests) k)))
    (λ e. let k : b < a = rw e at k in absurd (omega arith))

le-start : {a b c d e f : ℕ} → Le a b c d e f → a ≤ d
le-start (by_start p) = omega arith
le-start (by_owner p q) = omega arith
le-start (by_offset p q t) = omega arith

none_before : (n a b c : ℕ) (l : List Rmap) → Acc a b c l → n < a → holders l n ≡ 0
unfolding holders
none_before n a b c [] h k = refl
none_before n a b c (r ∷ l) h k =
    let s = le-start h.1 in
    omega (arith, within-left r.startblock r.blockcount 1 n (omega arith), none_before n r.startblock r.owner r.offset l h.2 (omega arith))

-- and it is not
reach-free : (d e f a : ℕ) (l : List Rmap) → Acc d e f l → holders l (reach_of a l) ≡ 0
unfolding reach_of holders
reach-free d e f a [] h = refl
reach-free d e f a (r ∷ l) h =
    split (leb r.startblock a)
    (λ t. rw t (omega (arith, within-right r.startblock r.blockcount 1 (reach_of (max a (end r)) l) (omega (arith, reach-le (max a (end r)) l)), reach-free r.startblock r.owner r.offset (max a (end r)) l h.2)))
    (λ t. rw t (omega (arith, within-left r.startblock r.blockcount 1 a (omega tests), none_before a r.startblock r.owner r.offset l h.2 (omega tests))))

pub held-reach : (l : List Rmap) (s c : ℕ) → accepted l ≡ true → leb (s + c) (reach_of s l) ≡ held_all l s c
held-reach l s c h =
    split (leb (s + c) (reach_of s l))
    (λ e. e ∙ sym (each-true _ s c (λ b p q. lt-ltb 0 (holders l b) (reach-held s l b p (omega tests)))))
    (λ e. e ∙ sym (each-false _ s c (reach_of s l) (reach-le s l) (omega tests) (le-ltb 0 (holders l (reach_of s l)) (omega (arith, reach-free _ _ _ s l (accepted-facts l h))))))

-- ---- along the bytes of a list

module _ (b : List ℕ) (s c i reach : ℕ) (order : accepted (records_of rmaps b) ≡ true) (inv : reach_of s (records_of rmaps b) ≡ reach_of reach (drop i (records_of rmaps b))) where
  answered : reach_of reach (drop i (records_of rmaps b)) ≡ reach → leb (s + c) reach ≡ held_all (records_of rmaps b) s c
  answered q = rw (inv ∙ q) at (held-reach (records_of rmaps b) s c order)

  module _ (r : Rmap) (inside : i < length b / 24) (read : r ≡ rmaps.decode (bytes_at b (i * 24) 24)) where
    next : drop i (records_of rmaps b) ≡ r ∷ drop (i + 1) (records_of rmaps b)
    next = rw (read, add-one, records_of-next rmaps b i inside) refl

    pub reach-stops : reach < r.startblock → leb (s + c) reach ≡ held_all (records_of rmaps b) s c
    unfolding reach_of
    reach-stops h = answered (rw (next, lt-leb r.startblock reach h) refl)

    pub reach-next : r.startblock ≤ reach → (k : ℕ) → k ≡ max reach (end r) → reach_of s (records_of rmaps b) ≡ reach_of k (drop (i + 1) (records_of rmaps b))
    unfolding reach_of
    reach-next h k q = inv ∙ rw (next, le-leb r.startblock reach h, q) refl

  pub reach-ends : length b / 24 ≤ i → leb (s + c) reach ≡ held_all (records_of rmaps b) s c
  unfolding reach_of
  reach-ends h = answered (rw (drop_of_length-le (records_of rmaps b) {i = i} (rw (length-records_of rmaps b) h)) refl)

-- ---- 23, by the records that overlap

-- a record that does not overlap x lies over none of its blocks
apart : (x r : Rmap) (b : ℕ) → overlaps x r ≡ false → x.startblock ≤ b → b < end x → within r.startblock r.blockcount 1 b ≡ 0
unfolding overlaps
apart x r b e u v =
    split (ltb b (end r))
    (λ f. let k : ltb x.startblock (end r) ≡ true = lt-ltb x.startblock (end r) (omega tests) in
    split (leb r.startblock b)
    (λ g. let h : ltb r.startblock (end x) ≡ true = lt-ltb r.startblock (end x) (omega tests) in let z : ◌≡◌ {A = ℕ} 0 1 = cc in absurd (omega arith))
    (λ g. within-left r.startblock r.blockcount 1 b (omega tests)))
    (λ f. within-right r.startblock r.blockcount 1 b (omega tests))

none_over : (x : Rmap) (l : List Rmap) (b : ℕ) → no_overlap x l ≡ true → x.startblock ≤ b → b < end x → holders l b ≡ 0
unfolding holders
none_over x [] b e u v = refl
none_over x (r ∷ l) b e u v = let d = no-overlap-parts x r l e in omega (arith, apart x r b d.0 u v, none_over x l b d.1 u v)

-- where one overlaps, a block of x is held: the first that they have in common
one-over : (q x : Rmap) (l : List Rmap) → 0 < x.blockcount → After q l → no_overlap x l ≡ false
    → (b : ℕ) × ((x.startblock ≤ b) × (b < end x) × (0 < holders l b))
unfolding holders first is_some
one-over q x [] n h e = let z : ◌≡◌ {A = ℕ} 0 1 = cc in absurd (omega arith)
one-over q x (r ∷ l) n h e =
    split (overlaps x r)
    (λ f. let k = overlaps-ends x r f in
    let b : ℕ = max x.startblock r.startblock in
    (b, (omega arith, omega (arith, n, h.0.0), omega (arith, within_in r.startblock r.blockcount 1 b (omega arith) (omega (arith, h.0.0))))))
    (λ f. let k = one-over r x l n h.2 (rw f at e) in (k.0, (k.1.0, k.1.1, omega (arith, k.1.2))))

pub overlaps-tell : OverlapsTell
overlaps-tell x l a g =
    split (no_overlap x l)
    (λ e. each-true _ x.startblock x.blockcount (λ b u v. eq-eqb (holders l b) 0 (none_over x l b e u v)) ∙ sym e)
    (λ e. let k = one-over least x l (good-facts x g).0 (accepted-facts l a) e in
    each-false _ x.startblock x.blockcount k.0 k.1.0 k.1.1 (ne_eqb (holders l k.0) 0 (omega (arith, k.1.2))) ∙ sym e)

-- ---- what they mean

pub held-means : (l : List Rmap) (s c : ℕ) → held_all l s c ≡ true → (b : ℕ) → 0 < within s c 1 b → 0 < holders l b
held-means l s c h b k = let e : ltb 0 (holders l b) ≡ true = each-means (λ b. ltb 0 (holders l b)) s c h b k in omega tests

pub unheld-means : (l : List Rmap) (s c : ℕ) → held_none l s c ≡ true → (b : ℕ) → 0 < within s c 1 b → holders l b ≡ 0
unheld-means l s c h b k = let e : eqb (holders l b) 0 ≡ true = each-means (λ b. eqb (holders l b) 0) s c h b k in omega tests
