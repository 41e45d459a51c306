-- How the edits of a reverse map change the number of records over each block.
-- Assumes nothing.
use Prim.Native.Nat.{ℕ, ◌+◌, ◌≤◌}
use mathlib.Core.Bool.{Bool, true}
use mathlib.Core.Path.{◌≡◌, refl, ap}
use mathlib.Core.List.{List, [], ◌∷◌, ◌++◌}
use mathlib.Core.Option.{Option, none, some}
use native.Mathlib.Omega.{arith}
use lib.Dec.{ltb, leb}
use Rattle.codec.specs.Rmaps.{end, before}
use Rattle.codec.specs.declared.rmap.Rmap.{Rmap}
use Rattle.lists.specs.Extent.{within}
use Rattle.lists.specs.Holders.{holders}
use Rattle.lists.specs.RmapEdits.{first, replace, nothing, place, contained, chosen, front, later, place_later, cut_out, remove, continues, joined, attach, insert_after, insert, behind, ahead, share_before, insert_shared}
use Rattle.lists.proofs.Cases.{split, tests, below, within-sum, within-ends}
use Rattle.lists.proofs.Found.{first_passes, replace-none, contains-ends, chosen-contains, chosen-some, continues-end}

-- what one record adds at block b
abbrev pub one : Rmap → ℕ → ℕ
one r b = within r.startblock r.blockcount 1 b

pub holders-append : (l m : List Rmap) (b : ℕ) → holders (l ++ m) b ≡ holders l b + holders m b
unfolding holders
holders-append [] m b = omega arith
holders-append (r ∷ l) m b = omega (arith, holders-append l m b)

pub holders-replace : (p : Rmap → Bool) (f : Rmap → List Rmap) (l : List Rmap) (w : Rmap) (b : ℕ) → first p l ≡ some w → holders (replace p f l) b + one w b ≡ holders l b + holders (f w) b
unfolding holders first replace
holders-replace p f [] w b e = let z : ◌≡◌ {A = ℕ} 0 1 = cc in omega arith
holders-replace p f (r ∷ l) w b e =
    split (p r)
    (λ g. let q : r ≡ w = cc in rw (g, ← q) (omega (arith, holders-append (f r) l b)))
    (λ g. rw g (omega (arith, holders-replace p f l w b (rw g at e))))

pub holders-place : (x : Rmap) (l : List Rmap) (b : ℕ) → holders (place x l) b ≡ one x b + holders l b
unfolding holders place
holders-place x [] b = refl
holders-place x (r ∷ l) b = split (before r x) (λ e. rw e (omega (arith, holders-place x l b))) (λ e. rw e refl)

-- ---- remove

holders-front : (x w : Rmap) (b : ℕ) → w.startblock ≤ x.startblock → holders (front x w) b + below w.startblock 1 b ≡ below x.startblock 1 b
unfolding holders front
holders-front x w b h =
    split (ltb w.startblock x.startblock)
    (λ e. rw e (omega (arith, within-ends w.startblock x.startblock 1 b h)))
    (λ e. rw e (let q : w.startblock ≡ x.startblock = omega tests in rw q (omega arith)))

holders-later : (x w : Rmap) (l : List Rmap) (b : ℕ) → end x ≤ end w → holders (place_later x w l) b + below (end x) 1 b ≡ holders l b + below (end w) 1 b
unfolding place_later later
holders-later x w l b h =
    split (ltb (end x) (end w))
    (λ e. rw e (omega (arith, holders-place (later x w) l b, within-ends (end x) (end w) 1 b h)))
    (λ e. rw e (let q : end x ≡ end w = omega tests in rw q (omega arith)))

-- one record fewer over the blocks of x, and as many elsewhere
pub holders-cut : (x : Rmap) (l : List Rmap) (w : Rmap) (b : ℕ) → first (chosen x l) l ≡ some w → holders (place_later x w (replace (chosen x l) (front x) l)) b + one x b ≡ holders l b
holders-cut x l w b e =
    let h = contains-ends x w (chosen-contains x l w (first_passes (chosen x l) l w e)) in
    omega (
      arith,
      holders-later x w (replace (chosen x l) (front x) l) b h.1,
      holders-replace (chosen x l) (front x) l w b e,
      holders-front x w b h.0,
      within-sum w.startblock w.blockcount 1 b,
      within-sum x.startblock x.blockcount 1 b,
    )

pub holders-remove : (x : Rmap) (l : List Rmap) (b : ℕ) → contained x l ≡ true → holders (remove x l) b + one x b ≡ holders l b
unfolding cut_out
holders-remove x l b e = let k = chosen-some x l e in rw k.1 (holders-cut x l k.0 b k.1)

-- ---- joins

pub one-joined : (r s : Rmap) (b : ℕ) → continues r s ≡ true → one (joined r s) b ≡ one r b + one s b
one-joined r s b e =
    omega (
      arith,
      within-sum r.startblock (r.blockcount + s.blockcount) 1 b,
      within-sum r.startblock r.blockcount 1 b,
      ap (λ (k : ℕ). below k 1 b) (continues-end r s e),
      within-sum s.startblock s.blockcount 1 b,
      ap (λ (k : ℕ). below k 1 b) (let h = continues-end r s e in let q : r.startblock + (r.blockcount + s.blockcount) ≡ s.startblock + s.blockcount = omega arith in q),
    )

pub holders-attach : (r : Rmap) (l : List Rmap) (b : ℕ) → holders (attach r l) b ≡ one r b + holders l b
unfolding holders attach
holders-attach r [] b = refl
holders-attach r (s ∷ l) b = split (continues r s) (λ e. rw e (omega (arith, one-joined r s b e))) (λ e. rw e refl)

-- ---- insert

holders-insert_after : (x r : Rmap) (l : List Rmap) (b : ℕ) → holders (insert_after x r l) b ≡ one x b + (one r b + holders l b)
unfolding holders insert_after
holders-insert_after x r [] b = omega (arith, holders-attach r (attach x []) b, holders-attach x [] b)
holders-insert_after x r (s ∷ l) b =
    split (leb s.startblock x.startblock)
    (λ e. rw e (omega (arith, holders-insert_after x s l b)))
    (λ e. rw e (omega (arith, holders-attach r (attach x (s ∷ l)) b, holders-attach x (s ∷ l) b)))

-- one record more over the blocks of x, and as many elsewhere
pub holders-insert : (x : Rmap) (l : List Rmap) (b : ℕ) → holders (insert x l) b ≡ one x b + holders l b
unfolding holders insert
holders-insert x [] b = holders-attach x [] b
holders-insert x (r ∷ l) b =
    split (leb r.startblock x.startblock) (λ e. rw e (holders-insert_after x r l b)) (λ e. rw e (holders-attach x (r ∷ l) b))

-- ---- insert_shared

-- the record found, if there is one, leaves the list and joins x
holders-behind : (x : Rmap) (l : List Rmap) (b : ℕ) (o : Option Rmap) → first (λ r. continues r x) l ≡ o → one (behind o x) b + holders (replace (λ r. continues r x) nothing l) b ≡ one x b + holders l b
unfolding behind holders
holders-behind x l b none e = rw (replace-none (λ r. continues r x) nothing l e) refl
holders-behind x l b (some r) e =
    omega (arith, holders-replace (λ r. continues r x) nothing l r b e, one-joined r x b (first_passes (λ r. continues r x) l r e))

holders-ahead : (y : Rmap) (l : List Rmap) (b : ℕ) (o : Option Rmap) → first (continues y) l ≡ o → one (ahead o y) b + holders (replace (continues y) nothing l) b ≡ one y b + holders l b
unfolding ahead holders
holders-ahead y l b none e = rw (replace-none (continues y) nothing l e) refl
holders-ahead y l b (some s) e =
    omega (arith, holders-replace (continues y) nothing l s b e, one-joined y s b (first_passes (continues y) l s e))

pub holders-insert_shared : (x : Rmap) (l : List Rmap) (b : ℕ) → holders (insert_shared x l) b ≡ one x b + holders l b
holders-insert_shared x l b =
    let y : Rmap = share_before x l in
    let m : List Rmap = replace (λ r. continues r x) nothing l in
    omega (
      arith,
      holders-place (ahead (first (continues y) m) y) (replace (continues y) nothing m) b,
      holders-ahead y m b (first (continues y) m) refl,
      holders-behind x l b (first (λ r. continues r x) l) refl,
    )
