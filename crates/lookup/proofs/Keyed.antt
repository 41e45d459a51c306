-- Under keys that are theirs, a tree that is skipped has no record over a number asked; so nothing is lost where such trees are skipped.
-- Assumes nothing.
use Rattle.std.proofs.Common.{◌≡◌, ℕ, suc, ◌+◌, ◌%◌, ◌<◌, ◌≤◌, Bool, true, false, ◌&&◌, ◌||◌, leb, ◌⊎◌, List, [], ◌∷◌, ◌++◌, length, sym, refl, ap, ◌∙◌, subst, ap₂, inl, inr, append_assoc, arith, length-append}
use Rattle.codec.specs.Records.{first_records, records_of, rmaps}
use Rattle.codec.specs.Rmaps.{accepted, least}
use Rattle.codec.specs.declared.rmap.Rmap.{Rmap}
use Rattle.codec.proofs.RecordLists.{records_of-append}
use Rattle.codec.proofs.RecordKinds.{rmaps-lawful}
use Rattle.walks.specs.Walk.{Visit}
use Rattle.walks.specs.Forest.{Forest, empty, tree, bytes_in}
use Rattle.lists.specs.Holders.{holders}
use Rattle.lists.proofs.Cases.{split, tests, and-true, within-left, within-right}
use Rattle.lists.proofs.Holders.{holders-append}
use Rattle.lists.proofs.RmapOrder.{Le, by_start, by_owner, by_offset, Acc, after-facts}
use Rattle.lookup.specs.Lookup.{any_between, tallies}
use Rattle.lookup.specs.Claims.{furthest, Theirs}
use Rattle.lookup.proofs.Pruned.{pruned}

-- ---- records that ascend

-- starts from m on, ascending, and no count 0
abbrev pub Rising : ℕ → List Rmap → Type 0
Rising m [] = Unit {0}
Rising m (r ∷ rs) = (m ≤ r.startblock) × (0 < r.blockcount) × Rising r.startblock rs

le-start : {a b c d e f : ℕ} → Le a b c d e f → a ≤ d
le-start (by_start p) = omega arith
le-start (by_owner p q) = omega arith
le-start (by_offset p q r) = omega arith

acc-rising : (a b c : ℕ) (rs : List Rmap) → Acc a b c rs → Rising a rs
acc-rising a b c [] h = tt
acc-rising a b c (r ∷ rs) h = (le-start h.1, h.0.0, acc-rising r.startblock r.owner r.offset rs h.2)

pub accepted-rising : (rs : List Rmap) → accepted rs ≡ true → Rising 0 rs
accepted-rising rs e = acc-rising 0 0 0 rs (after-facts least rs e)

-- each part of them ascends
rising-left : (m : ℕ) (xs ys : List Rmap) → Rising m (xs ++ ys) → Rising m xs
rising-left m [] ys h = tt
rising-left m (x ∷ xs) ys h = (h.0, h.1, rising-left x.startblock xs ys h.2)

rising-from : (m n : ℕ) (xs : List Rmap) → m ≤ n → Rising n xs → Rising m xs
rising-from m n [] e h = tt
rising-from m n (x ∷ xs) e h = (omega (arith, h.0), h.1, h.2)

rising-right : (m : ℕ) (xs ys : List Rmap) → Rising m (xs ++ ys) → Rising m ys
rising-right m [] ys h = h
rising-right m (x ∷ xs) ys h = rising-from m x.startblock ys h.0 (rising-right x.startblock xs ys h.2)

-- ---- a number that lies outside the keys

-- below the first start, or above the furthest block, no record lies over it
none_over : (m a high : ℕ) (rs : List Rmap) → Rising m rs → furthest rs ≤ high → (a < m) ⊎ (high < a) → holders rs a ≡ 0
unfolding holders furthest
none_over m a high [] h f out = refl
none_over m a high (r ∷ rs) h f (inl p) =
    omega (arith, within-left r.startblock r.blockcount 1 a (omega (arith, h.0)), none_over r.startblock a high rs h.2 (omega arith) (inl (omega (arith, h.0))))
none_over m a high (r ∷ rs) h f (inr p) =
    omega (arith, within-right r.startblock r.blockcount 1 a (omega (arith, h.1)), none_over r.startblock a high rs h.2 (omega arith) (inr p))

-- one of the numbers
abbrev pub Among : ℕ → List ℕ → Type 0
Among a [] = ⊥
Among a (x ∷ l) = (a ≡ x) ⊎ Among a l

or_right : (a b : Bool) → (a || b) ≡ false → b ≡ false
or_right true b e = let z : ◌≡◌ {A = ℕ} 0 1 = cc in absurd (omega arith)
or_right false b e = e

or_left : (a b : Bool) → (a || b) ≡ false → a ≡ false
or_left true b e = e
or_left false b e = refl

outside : (a low high : ℕ) → (leb low a && leb a high) ≡ false → (a < low) ⊎ (high < a)
outside a low high e =
    split (leb low a)
    (λ f. split (leb a high)
    (λ g. let t : (leb low a && leb a high) ≡ true = and-true _ _ f g in let z : ◌≡◌ {A = ℕ} 0 1 = cc in absurd (omega arith))
    (λ g. inr (omega tests)))
    (λ f. inl (omega tests))

none_between : (a low high : ℕ) (l : List ℕ) → Among a l → any_between l low high ≡ false → (a < low) ⊎ (high < a)
unfolding any_between
none_between a low high [] h e = absurd h
none_between a low high (x ∷ l) (inl p) e =
    let t : (leb low x && leb x high) ≡ false = or_left (leb low x && leb x high) (any_between l low high) e in
    outside a low high (rw p t)
none_between a low high (x ∷ l) (inr p) e = none_between a low high l p (or_right (leb low x && leb x high) (any_between l low high) e)

-- keys that are theirs, between which no number lies
pub theirs-none : (a m low high : ℕ) (asked : List ℕ) (rs : List Rmap) → Among a asked → Rising m rs → Theirs low high rs → any_between asked low high ≡ false → holders rs a ≡ 0
unfolding holders
theirs-none a m low high asked [] h r t e = refl
theirs-none a m low high asked (x ∷ rs) h r t e =
    none_over x.startblock a (furthest (x ∷ rs)) (x ∷ rs) (omega arith, r.1, r.2) (omega arith)
    (subst (λ (y : ℕ). (a < y) ⊎ (furthest (x ∷ rs) < a)) t.0 (subst (λ (y : ℕ). (a < low) ⊎ (y < a)) t.1 (none_between a low high asked h e)))

-- ---- the records of a forest

unfoldable pub records_in : Forest → List Rmap
records_in empty = []
records_in (tree v b below right) = records_of rmaps b ++ (records_in below ++ records_in right)

-- every block has whole records
abbrev pub Whole : Forest → Type 0
Whole empty = Unit {0}
Whole (tree v b below right) = (length b % 24 ≡ 0) × Whole below × Whole right

bytes_whole : (f : Forest) → Whole f → length (bytes_in f) % 24 ≡ 0
unfolding bytes_in
bytes_whole empty h = refl
bytes_whole (tree v b below right) h =
    omega (arith, length-append b (bytes_in below ++ bytes_in right), length-append (bytes_in below) (bytes_in right), h.0, bytes_whole below h.1, bytes_whole right h.2)

pub records-in : (f : Forest) → Whole f → records_of rmaps (bytes_in f) ≡ records_in f
unfolding bytes_in records_in records_of first_records
records-in empty h = refl
records-in (tree v b below right) h =
    records_of-append rmaps rmaps-lawful b (bytes_in below ++ bytes_in right) h.0
    ∙ ap (λ (l : List Rmap). records_of rmaps b ++ l)
    (records_of-append rmaps rmaps-lawful (bytes_in below) (bytes_in right) (bytes_whole below h.1)
    ∙ ap₂ (λ (x y : List Rmap). x ++ y) (records-in below h.1) (records-in right h.2))

-- ---- leaving trees out

module _ (keep_of : Visit → ℕ → Bool) (Own : Visit → ℕ → List Rmap → Type 0) where
  pub pruned-whole : (keep : ℕ → Bool) (i : ℕ) (f : Forest) → Whole f → Whole (pruned keep_of keep i f)
  unfolding pruned
  pruned-whole keep i empty h = tt
  pruned-whole keep i (tree v b below right) h =
      split (keep i)
      (λ e. rw e (h.0, pruned-whole (keep_of v) 0 below h.1, pruned-whole keep (suc i) right h.2))
      (λ e. rw e (pruned-whole keep (suc i) right h.2))

  -- what is said of each tree by its number among its siblings, and of the trees below each block
  abbrev pub Keyed : (ℕ → List Rmap → Type 0) → ℕ → Forest → Type 0
  Keyed own i empty = Unit {0}
  Keyed own i (tree v b below right) = own i (records_of rmaps b ++ records_in below) × Keyed (Own v) 0 below × Keyed own (suc i) right

  module _ (a : ℕ) (skips : (v : Visit) (j m : ℕ) (rs : List Rmap) → Rising m rs → Own v j rs → keep_of v j ≡ false → holders rs a ≡ 0) where
    -- no record over the number is lost
    pub pruned-holders : (own : ℕ → List Rmap → Type 0) (keep : ℕ → Bool) → ((j m : ℕ) (rs : List Rmap) → Rising m rs → own j rs → keep j ≡ false → holders rs a ≡ 0)
        → (i m : ℕ) (f : Forest) → Rising m (records_in f) → Keyed own i f → holders (records_in (pruned keep_of keep i f)) a ≡ holders (records_in f) a
    unfolding pruned records_in
    pruned-holders own keep skip i m empty r k = refl
    pruned-holders own keep skip i m (tree v b below right) r k =
        let x : List Rmap = records_of rmaps b in
        let y : List Rmap = records_in below in
        let z : List Rmap = records_in right in
        let rest : Rising m (y ++ z) = rising-right m x (y ++ z) r in
        let later : holders (records_in (pruned keep_of keep (suc i) right)) a ≡ holders z a = pruned-holders own keep skip (suc i) m right (rising-right m y z rest) k.2 in
        let whole : holders (x ++ (y ++ z)) a ≡ holders x a + (holders y a + holders z a) = holders-append x (y ++ z) a ∙ ap (λ (n : ℕ). holders x a + n) (holders-append y z a) in
        split (keep i)
        (λ e.
        let under : holders (records_in (pruned keep_of (keep_of v) 0 below)) a ≡ holders y a = pruned-holders (Own v) (keep_of v) (skips v) 0 m below (rising-left m y z rest) k.1 in
        let py : List Rmap = records_in (pruned keep_of (keep_of v) 0 below) in
        let pz : List Rmap = records_in (pruned keep_of keep (suc i) right) in
        rw e (omega (arith, whole, later, under, holders-append x (py ++ pz) a, holders-append py pz a)))
        (λ e.
        let here : Rising m (x ++ y) = rising-left m (x ++ y) z (subst (Rising m) (sym (append_assoc x y z)) r) in
        let none : holders (x ++ y) a ≡ 0 = skip i m (x ++ y) here k.0 e in
        rw e (omega (arith, whole, later, none, holders-append x y a)))

-- ---- the answers

pub tallies-same : (rs ss : List Rmap) (asked : List ℕ) → ((a : ℕ) → Among a asked → holders rs a ≡ holders ss a) → tallies rs asked ≡ tallies ss asked
unfolding tallies
tallies-same rs ss [] h = refl
tallies-same rs ss (a ∷ more) h = ap₂ (λ (n : ℕ) (l : List ℕ). n ∷ l) (h a (inl refl)) (tallies-same rs ss more (λ b k. h b (inr k)))
