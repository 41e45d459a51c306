-- `remove` by the index of the record that is cut and of the place of what is left after it.
-- Assumes nothing.
use Prim.Native.Nat.{ℕ, suc, ◌+◌, ◌-◌, ◌≤◌, ◌<◌}
use native.Mathlib.Omega.{arith}
use native.Mathlib.Numerals.{add-one}
use mathlib.Core.Path.{◌≡◌, refl, sym, ap, ◌∙◌}
use mathlib.Core.Bool.{true, cond, ◌&&◌}
use mathlib.Core.List.{List, [], ◌∷◌, ◌++◌, append_assoc, append-nil}
use mathlib.Core.Option.{some}
use lib.Dec.{ltb}
use lib.ListN.{length, get_or, take, drop, length-take, take-append-drop}
use lib.Seq.{get_or-take, drop-drop}
use borrow.Author.Tests.{lt-ltb}
use Rattle.codec.specs.Rmaps.{end, before, follows, least}
use Rattle.codec.specs.declared.rmap.Rmap.{Rmap}
use Rattle.lists.specs.RmapEdits.{index_where, first, replace, place, contains, contained, lines_up, chosen, front, later, place_later, cut_out, remove}
use Rattle.lists.specs.Splice.{between}
use Rattle.lists.specs.Inner.Searches.{seat}
use Rattle.lists.proofs.Cases.{split, tests, conj}
use Rattle.lists.proofs.Found.{contains-ends, chosen-contains}
use Rattle.lists.proofs.Index.{index-passes, index_same, index-drop, first_some, any-index, replace-at, index-first}
use Rattle.lists.proofs.RmapOrder.{Accepted, ascending, le-start, not-before-le}
use Rattle.lists.proofs.Seats.{seat-past, place_at, place-past}

-- the first that contains x and lines up, else the first that contains it
abbrev pub strict_index : Rmap → List Rmap → ℕ
strict_index x l = index_where (λ r. contains x r && lines_up x r) l

abbrev pub any_index : Rmap → List Rmap → ℕ
any_index x l = index_where (λ r. contains x r) l

pub chosen-index : (x : Rmap) (l : List Rmap) → index_where (chosen x l) l ≡ cond (ltb (strict_index x l) (length l)) (strict_index x l) (any_index x l)
unfolding chosen
chosen-index x l =
    let a = any-index (λ r. contains x r && lines_up x r) l in
    split (ltb (strict_index x l) (length l))
    (λ e. rw e (index_same (chosen x l) (λ r. contains x r && lines_up x r) l (λ r. rw (a, e) refl)))
    (λ e. rw e (index_same (chosen x l) (contains x) l (λ r. rw (a, e) refl)))

-- 24: by the record found
strict-any : (x : Rmap) (l : List Rmap) → strict_index x l < length l → any_index x l < length l
strict-any x l h =
    let t : (contains x (get_or l (strict_index x l) least) && lines_up x (get_or l (strict_index x l) least)) ≡ true = index-passes (λ r. contains x r && lines_up x r) l h in
    let u : contains x (get_or l (strict_index x l) least) ≡ true = search conj in
    let v = index-first (contains x) l (strict_index x l) h u in
    omega arith

pub contained-index : (x : Rmap) (l : List Rmap) → contained x l ≡ ltb (index_where (chosen x l) l) (length l)
contained-index x l =
    any-index (contains x) l
    ∙ split (ltb (strict_index x l) (length l))
    (λ e. let h : strict_index x l < length l = omega tests in
    rw (chosen-index x l, e, lt-ltb (any_index x l) (length l) (strict-any x l h)) (sym e))
    (λ e. rw (chosen-index x l, e) refl)

before-start : (r z : Rmap) → r.startblock < z.startblock → before r z ≡ true
before-start r z h =
    split (before r z)
    (λ e. e)
    (λ e. absurd (let k = le-start (not-before-le z r e) in omega arith))

-- what is left before x keeps its place
past-front : (z x w : Rmap) (b : List Rmap) → w.startblock < z.startblock → place z (front x w ++ b) ≡ front x w ++ place z b
unfolding front place
past-front z x w b h =
    split (ltb w.startblock x.startblock)
    (λ e. rw e (rw (before-start (record { startblock = w.startblock; blockcount = x.startblock - w.startblock; owner = w.owner; offset = w.offset }) z h) refl))
    (λ e. rw e refl)

-- the records from a up to p, and what stands from p on
pub between-rest : (l : List Rmap) (a p : ℕ) → a ≤ p → between l a p ++ drop p l ≡ drop a l
between-rest l a p h =
    let s : a + (p - a) ≡ p = omega arith in
    ap (λ (m : List Rmap). between l a p ++ m) (ap (λ (n : ℕ). drop n l) (sym s) ∙ sym (drop-drop (p - a) a l)) ∙ take-append-drop (p - a) (drop a l)

-- the record at i is cut
module _ (x : Rmap) (l : List Rmap) (acc : Accepted l) (pos : 0 < x.blockcount) (i : ℕ) (ei : i ≡ index_where (chosen x l) l) (hi : i < length l) where
  abbrev w : Rmap
  w = get_or l i least

  abbrev k : Rmap
  k = later x w

  pub cut-contains : contains x w ≡ true
  cut-contains = chosen-contains x l w (rw ei (index-passes (chosen x l) l (rw ei at hi)))

  behind-cut : w.startblock < k.startblock
  unfolding later
  behind-cut = omega (arith, (contains-ends x w cut-contains).0)

  stands-before : (n : ℕ) → n ≤ i → before (get_or l n least) k ≡ true
  stands-before n h =
      before-start (get_or l n least) k
      (split (ltb n i)
      (λ e. let up : (get_or l n least).startblock ≤ w.startblock = le-start (ascending 0 0 0 least l n i acc (omega tests) hi) in omega (arith, behind-cut))
      (λ e. let s : n ≡ i = omega tests in rw s behind-cut))

  -- the later part goes behind the record that is cut
  pub cut-before-seat : i + 1 ≤ seat k l
  cut-before-seat = let h = seat-past k l i acc hi (stands-before i (omega arith)) in omega arith

  place-cut : place k (take i l ++ (front x w ++ drop (suc i) l)) ≡ take i l ++ (front x w ++ (between l (i + 1) (seat k l) ++ (k ∷ drop (seat k l) l)))
  place-cut =
      let p : ℕ = seat k l in
      let d : index_where (follows k) (drop (suc i) l) ≡ p - suc i = index-drop (follows k) l (suc i) (omega (arith, cut-before-seat)) in
      let s : suc i + (p - suc i) ≡ p = omega (arith, cut-before-seat) in
      let n : suc i ≡ i + 1 = omega arith in
      place-past k (take i l) (front x w ++ drop (suc i) l)
      (λ n q. let lt : n < i = omega (arith, length-take i l) in rw (get_or-take i l n least lt) (stands-before n (omega arith)))
      ∙ ap (λ (m : List Rmap). take i l ++ m)
      (past-front k x w (drop (suc i) l) behind-cut
      ∙ ap (λ (m : List Rmap). front x w ++ m) (place_at k (drop (suc i) l) ∙ rw (d, drop-drop (p - suc i) (suc i) l, s, n) refl))

  -- the new list in its parts; where nothing is left after x any place serves
  pub cut-is : remove x l
      ≡ take i l ++ (front x w ++ between l (i + 1) (seat k l)) ++ cond (ltb (end x) (end w)) (k ∷ []) [] ++ drop (seat k l) l
  unfolding cut_out place_later
  cut-is =
      let p : ℕ = seat k l in
      let f : first (chosen x l) l ≡ some w = rw ei (first_some (chosen x l) l (rw ei at hi)) in
      let r : replace (chosen x l) (front x) l ≡ take i l ++ (front x w ++ drop (suc i) l) = rw ei (replace-at (chosen x l) (front x) l (rw ei at hi)) in
      let all : between l (i + 1) p ++ drop p l ≡ drop (suc i) l = between-rest l (i + 1) p cut-before-seat ∙ rw (add-one i) refl in
      ap (cut_out x l) f
      ∙ split (ltb (end x) (end w))
      (λ e. rw e (ap (place k) r ∙ place-cut ∙ simp append_assoc))
      (λ e. rw e (r ∙ ap (λ (m : List Rmap). take i l ++ (front x w ++ m)) (sym all) ∙ simp (append_assoc, append-nil)))
