-- A record joined to one of the list.
-- Assumes nothing.
use Prim.Native.Nat.{ℕ, suc, ◌+◌, ◌^◌, ◌≤◌, ◌<◌}
use mathlib.Core.Path.{◌≡◌, refl, sym, ap, ◌∙◌}
use mathlib.Core.Bool.{Bool, true, false, cond, ◌&&◌, ◌||◌}
use mathlib.Core.List.{List, ◌∷◌, ◌++◌}
use native.Mathlib.Omega.{arith}
use lib.Dec.{ltb, eqb}
use lib.ListN.{length, get_or, take, drop, drop_of_length-le}
use lib.Seq.{drop-cons, append_snoc, take-suc}
use borrow.Author.Tests.{lt-ltb, le-ltb}
use Rattle.codec.specs.Rmaps.{end, flags, file_offset, reserved, least, accepted}
use Rattle.codec.specs.declared.rmap.Rmap.{Rmap}
use Rattle.std.specs.Prelude.{Option, Some, None, is_some, unwrap_or}
use Rattle.lists.specs.RmapEdits.{continues, joined, attach}
use Rattle.lists.specs.Inner.Splicing.{join_at}
use Rattle.lists.proofs.Cases.{split, tests, conj}
use Rattle.lists.proofs.Found.{continues-end}
use Rattle.lists.proofs.RmapOrder.{each, accepted-facts}

-- ---- a join with a record of the list

-- x joined behind the record i, and before it
abbrev pub low_join : List Rmap → ℕ → Rmap → Option Rmap
low_join l i x = join_at true l i x

abbrev pub high_join : List Rmap → ℕ → Rmap → Option Rmap
high_join l i x = join_at false l i x

-- x so joined, or x where neither continues the other
abbrev pub low_of : List Rmap → ℕ → Rmap → Rmap
low_of l i x = unwrap_or (low_join l i x) x

abbrev pub high_of : List Rmap → ℕ → Rmap → Rmap
high_of l i x = unwrap_or (high_join l i x) x

-- the two records of a join, the lower first
abbrev pub lower : Bool → Rmap → Rmap → Rmap
lower behind r x = cond behind r x

abbrev pub upper : Bool → Rmap → Rmap → Rmap
upper behind r x = cond behind x r

module _ (behind : Bool) (l : List Rmap) (i : ℕ) (x : Rmap) where
  pub join-out : length l ≤ i → None ≡ join_at behind l i x
  unfolding join_at
  join-out h = rw (le-ltb i (length l) h) refl

  module _ (r : Rmap) (k : i < length l) (f : r ≡ get_or l i least) where
    pub join-miss : continues (lower behind r x) (upper behind r x) ≡ false → None ≡ join_at behind l i x
    unfolding join_at
    join-miss h = rw (lt-ltb i (length l) k, ← f, h) refl

    pub join-hit : continues (lower behind r x) (upper behind r x) ≡ true → Some (joined (lower behind r x) (upper behind r x)) ≡ join_at behind l i x
    unfolding join_at
    join-hit h = rw (lt-ltb i (length l) k, ← f, h) refl

  -- what joins is in the list
  pub join-in : is_some (join_at behind l i x) ≡ true → i < length l
  join-in e =
      split (ltb i (length l))
      (λ f. omega tests)
      (λ f. let h : length l ≤ i = omega tests in
      let z : ◌≡◌ {A = ℕ} 0 1 = cc (join-out h) in absurd (omega arith))

  -- both ends of a join lie below 2^31
  pub join-fits : (r : Rmap) → accepted l ≡ true → end x ≤ 2 ^ 31 → i < length l → r ≡ get_or l i least
      → continues (lower behind r x) (upper behind r x) ≡ true → (lower behind r x).blockcount + (upper behind r x).blockcount < 2 ^ 32
  join-fits r a h k f c = go behind (continues-end (lower behind r x) (upper behind r x) c)
    where
      ends : end r ≤ 2 ^ 31
      ends = rw f (each least l i (accepted-facts l a) k).0.1

      go : (t : Bool) → end (lower t r x) ≡ (upper t r x).startblock → (lower t r x).blockcount + (upper t r x).blockcount < 2 ^ 32
      go true e = omega (arith, ends)
      go false e = omega (arith, ends)

-- what is attached to the records from a place on
pub attach-high : (x : Rmap) (l : List Rmap) (at : ℕ) → at ≤ length l → attach x (drop at l) ≡ high_of l at x ∷ drop (cond (is_some (high_join l at x)) (suc at) at) l
unfolding attach join_at
attach-high x l at h =
    split (ltb at (length l))
    (λ e. let k : at < length l = omega tests in
    split (continues x (get_or l at least))
    (λ f. rw (e, f, drop-cons l at least k, f) refl)
    (λ f. rw (e, f, drop-cons l at least k, f) refl))
    (λ e. let k : length l ≤ at = omega tests in rw (e, drop_of_length-le l k) refl)

-- the record at i, and y behind it, joined where they can be
pub attach-low : (l : List Rmap) (i : ℕ) (y : Rmap) (d : List Rmap) → i < length l
    → take i l ++ attach (get_or l i least) (y ∷ d) ≡ take (cond (is_some (low_join l i y)) i (suc i)) l ++ (low_of l i y ∷ d)
unfolding attach
attach-low l i y d h =
    split (continues (get_or l i least) y)
    (λ e. rw (e, ← join-hit true l i y (get_or l i least) h refl e) refl)
    (λ e. rw (e, ← join-miss true l i y (get_or l i least) h refl e)
    (sym (append_snoc (take i l) (get_or l i least) (y ∷ d)) ∙ ap (λ (m : List Rmap). m ++ (y ∷ d)) (sym (take-suc l i least h))))

-- a join with a record in front ends where x ends
pub low_end : (l : List Rmap) (x : Rmap) (i : ℕ) (j : Option Rmap) (y : Rmap) → end x ≤ 2 ^ 31 → j ≡ low_join l i x → y ≡ unwrap_or j x → end y ≤ 2 ^ 31
unfolding join_at
low_end l x i j y h e f =
    rw (f, e)
    (split (ltb i (length l) && continues (get_or l i least) x)
    (λ f. let c : continues (get_or l i least) x ≡ true = search conj in
    let m = continues-end (get_or l i least) x c in rw f (omega arith))
    (λ f. rw f h))

-- and one with a record behind where that ends
pub high_end : (l : List Rmap) (x : Rmap) (i : ℕ) (j : Option Rmap) (y : Rmap) → accepted l ≡ true → end x ≤ 2 ^ 31 → j ≡ high_join l i x → y ≡ unwrap_or j x → end y ≤ 2 ^ 31
unfolding join_at
high_end l x i j y a h e f =
    rw (f, e)
    (split (ltb i (length l) && continues x (get_or l i least))
    (λ f. let c : continues x (get_or l i least) ≡ true = search conj in
    let b : ltb i (length l) ≡ true = search conj in
    let m = continues-end x (get_or l i least) c in
    let z = (each least l i (accepted-facts l a) (omega tests)).0.1 in rw f (omega arith))
    (λ f. rw f h))

-- ---- what continues x continues the record that x continues, joined with x

pub continues-joined : (r x s : Rmap) → continues r x ≡ true → continues (joined r x) s ≡ continues x s
unfolding continues
continues-joined r x s e =
    let o : eqb r.owner x.owner ≡ true = search conj in
    let f : eqb (flags r) (flags x) ≡ true = search conj in
    let m : eqb (end r) x.startblock ≡ true = search conj in
    let t : (reserved r.owner || eqb (file_offset r + r.blockcount) (file_offset x)) ≡ true = search conj in
    let o' : r.owner ≡ x.owner = omega tests in
    let f' : flags r ≡ flags x = omega tests in
    let m' : end (joined r x) ≡ end x = omega tests in
    let q : (reserved r.owner || eqb (file_offset r + (r.blockcount + x.blockcount)) (file_offset s)) ≡ (reserved x.owner || eqb (file_offset x + x.blockcount) (file_offset s)) =
    split (reserved r.owner)
    (λ h. let k : reserved x.owner ≡ true = rw (← o') h in rw (h, k) refl)
    (λ h. let k : reserved x.owner ≡ false = rw (← o') h in
    let u : eqb (file_offset r + r.blockcount) (file_offset x) ≡ true = rw h at t in
    let v : file_offset r + (r.blockcount + x.blockcount) ≡ file_offset x + x.blockcount = omega tests in
    rw (h, k, v) refl) in
    rw (q, o', f', m') refl
