-- How many records the new lists have at most, and lists that have as many.
-- Assumes nothing.
use Prim.Native.Nat.{ℕ, ◌+◌, ◌^◌, ◌≤◌, ◌<◌, min, max}
use mathlib.Core.Bool.{Bool, true, false, cond}
use mathlib.Core.Path.{◌≡◌, refl, sym, ap, ◌∙◌}
use mathlib.Core.List.{List, [], ◌∷◌, ◌++◌}
use mathlib.Core.Option.{Option, none, some}
use native.Mathlib.Omega.{arith}
use lib.Dec.{ltb, leb, eqb}
use lib.ListN.{length, length-append}
use borrow.Author.Tests.{lt-ltb, le-ltb, lt-leb}
use Rattle.codec.specs.Bytes.{be_of, be_bytes}
use Rattle.codec.specs.Records as records
use Rattle.codec.specs.Records.{records_of, bytes_of, refcounts}
use Rattle.codec.specs.Accepted.{in_order}
use Rattle.codec.specs.Rmaps as rmap
use Rattle.codec.specs.Rmaps.{end, before}
use Rattle.codec.specs.Refcounts.{staging, good, follows}
use Rattle.codec.specs.declared.rmap.Rmap.{Rmap}
use Rattle.codec.specs.declared.refcount.Refcount.{Refcount}
use Rattle.codec.proofs.RecordKinds.{refcounts-lawful}
use Rattle.codec.proofs.ListBytes.{storable-records_of, IsBytes-bytes_of}
use Rattle.lists.specs.declared.splice.Edit.TheVariants.{Insert, InsertShared, Remove}
use Rattle.lists.specs.Extent.{over, within, grow, runs}
use Rattle.lists.specs.RmapEdits as map
use Rattle.lists.specs.Release.{owners, stop, release, unshared, piece, share, clamp, meets, fewer, lowered, lower_all, same_kind, join_from, join_all, continues, joined}
use Rattle.lists.specs.Edits.{edited}
use Rattle.lists.specs.Raise.{raised, raise_all, raise}
use Rattle.lists.specs.Growth.{met, most_raised, EveryMapLength, Counted, EveryCountsLength}
use Rattle.lists.specs.Inner.Passes.{fresh, next, changed, change_all, gap_of}
use Rattle.lists.proofs.Cases.{split, tests}
use Rattle.lists.proofs.Counts.{From, Accepted, accepted-facts, staging-start}
use Rattle.lists.proofs.Runs.{gaps, unshared-gaps}
use Rattle.lists.proofs.Changes.{counts_after-is}
use Rattle.lists.proofs.Settling.{count_of}

-- ---- the reverse map

attach-length : (r : Rmap) (l : List Rmap) → length (map.attach r l) ≤ length l + 1
unfolding map.attach
attach-length r [] = omega arith
attach-length r (s ∷ l) = split (map.continues r s) (λ e. rw e (omega arith)) (λ e. rw e (omega arith))

insert_after-length : (x r : Rmap) (l : List Rmap) → length (map.insert_after x r l) ≤ length l + 2
unfolding map.insert_after
insert_after-length x r [] = omega (arith, attach-length r (map.attach x []), attach-length x [])
insert_after-length x r (s ∷ l) =
    split (leb s.startblock x.startblock)
    (λ e. rw e (omega (arith, insert_after-length x s l)))
    (λ e. rw e (omega (arith, attach-length r (map.attach x (s ∷ l)), attach-length x (s ∷ l))))

insert-length : (x : Rmap) (l : List Rmap) → length (map.insert x l) ≤ length l + 1
unfolding map.insert
insert-length x [] = attach-length x []
insert-length x (r ∷ l) =
    split (leb r.startblock x.startblock) (λ e. rw e (omega (arith, insert_after-length x r l))) (λ e. rw e (attach-length x (r ∷ l)))

place-length : (x : Rmap) (l : List Rmap) → length (map.place x l) ≡ length l + 1
unfolding map.place
place-length x [] = refl
place-length x (r ∷ l) = split (before r x) (λ e. rw e (omega (arith, place-length x l))) (λ e. rw e (omega arith))

-- at most n records in the place of one
replace-length : (p : Rmap → Bool) (f : Rmap → List Rmap) (n : ℕ) → ((r : Rmap) → length (f r) ≤ n + 1) → (l : List Rmap) → length (map.replace p f l) ≤ length l + n
unfolding map.replace
replace-length p f n h [] = omega arith
replace-length p f n h (r ∷ l) =
    split (p r) (λ e. rw e (omega (arith, length-append (f r) l, h r))) (λ e. rw e (omega (arith, replace-length p f n h l)))

front_length : (x w : Rmap) → length (map.front x w) ≤ 1
unfolding map.front
front_length x w = split (ltb w.startblock x.startblock) (λ e. rw e (omega arith)) (λ e. rw e (omega arith))

shared-length : (x : Rmap) (l : List Rmap) → length (map.insert_shared x l) ≤ length l + 1
shared-length x l =
    let y : Rmap = map.share_before x l in
    let m : List Rmap = map.replace (λ r. map.continues r x) map.nothing l in
    omega (
      arith,
      place-length (map.ahead (map.first (map.continues y) m) y) (map.replace (map.continues y) map.nothing m),
      replace-length (map.continues y) map.nothing 0 (λ r. omega arith) m,
      replace-length (λ r. map.continues r x) map.nothing 0 (λ r. omega arith) l,
    )

cut-length : (x : Rmap) (l : List Rmap) (w : Option Rmap) → length (map.cut_out x l w) ≤ length l + 1
unfolding map.cut_out map.place_later
cut-length x l none = omega arith
cut-length x l (some w) =
    let m : List Rmap = map.replace (map.chosen x l) (map.front x) l in
    let k : length m ≤ length l + 0 = replace-length (map.chosen x l) (map.front x) 0 (λ r. front_length x r) l in
    split (ltb (end x) (end w)) (λ e. rw e (omega (arith, place-length (map.later x w) m))) (λ e. rw e (omega arith))

pub map-length : EveryMapLength
map-length Insert x l = insert-length x l
map-length InsertShared x l = shared-length x l
map-length Remove x l = cut-length x l (map.first (map.chosen x l) l)

-- ---- the counts

join_from-length : (r : Refcount) (l : List Refcount) → length (join_from r l) ≤ length l + 1
unfolding join_from
join_from-length r [] = omega arith
join_from-length r (s ∷ l) =
    split (continues r s) (λ e. rw e (omega (arith, join_from-length (joined r s) l))) (λ e. rw e (omega (arith, join_from-length s l)))

join_all-length : (l : List Refcount) → length (join_all l) ≤ length l
unfolding join_all
join_all-length [] = omega arith
join_all-length (r ∷ l) = omega (arith, join_from-length r l)

-- 1 where a is below z, and 0 elsewhere
unfoldable step : ℕ → ℕ → ℕ
step a z = cond (ltb a z) 1 0

step-one : (a z : ℕ) → a < z → step a z ≡ 1
unfolding step
step-one a z h = rw (lt-ltb a z h) refl

step-none : (a z : ℕ) → z ≤ a → step a z ≡ 0
unfolding step
step-none a z h = rw (le-ltb a z h) refl

step-most : (a z : ℕ) → step a z ≤ 1
unfolding step
step-most a z = split (ltb a z) (λ e. rw e (omega arith)) (λ e. rw e (omega arith))

step-later : (a b z : ℕ) → a ≤ b → step b z ≤ step a z
step-later a b z h = split (ltb b z) (λ e. omega (tests, step-most b z, step-one a z (omega tests))) (λ e. omega (tests, step-none b z (omega tests)))

piece-length : (a z n : ℕ) → length (piece a z n) ≡ step a z
unfolding piece step
piece-length a z n = split (ltb a z) (λ e. rw e refl) (λ e. rw e refl)

share-length : (a z n : ℕ) → length (share a z n) ≤ step a z
unfolding share
share-length a z n = split (eqb n 0) (λ e. rw e (omega arith)) (λ e. rw e (omega (arith, piece-length a z n)))

gap_length : (a z : ℕ) → length (gap_of a z) ≡ step a z
unfolding gap_of step
gap_length a z = split (ltb a z) (λ e. rw e refl) (λ e. rw e refl)

-- a gap is a record of a raise, and none of a release
fresh-length : (up : Bool) (a z : ℕ) → length (share a z (fresh up)) ≡ cond up (step a z) 0
unfolding fresh share
fresh-length true a z = piece-length a z 2
fresh-length false a z = refl

-- a block e inside the blocks from a up to z leaves a part behind it, and one past z none
last-part : (a z e : ℕ) → step (max a (min e z)) z + step z e ≤ 1
last-part a z e =
    split (ltb e z)
    (λ p. omega (tests, step-most (max a (min e z)) z, step-none z e (omega tests)))
    (λ p. omega (tests, step-none (max a (min e z)) z (omega tests), step-most z e))

-- the three parts of the blocks from a up to z, cut at s and e, and whether the cuts are still to come: at most one part more for each cut, of those
-- that lie past d
parts : (a z s e d : ℕ) → a < z → s ≤ e → d ≤ a
    → step a (max a (min s z)) + (step (max a (min s z)) (max a (min e z)) + step (max a (min e z)) z) + (step z s + step z e) ≤ 1 + (step d s + step d e)
parts a z s e d n h k =
    split (leb z s)
    (λ p. omega (
      tests,
      step-most a (max a (min s z)),
      step-none (max a (min s z)) (max a (min e z)) (omega tests),
      step-none (max a (min e z)) z (omega tests),
      step-most z s,
      step-most z e,
      step-one d s (omega tests),
      step-one d e (omega tests),
    ))
    (λ p. split (leb e a)
    (λ q. omega (
      tests,
      step-none a (max a (min s z)) (omega tests),
      step-none (max a (min s z)) (max a (min e z)) (omega tests),
      step-most (max a (min e z)) z,
      step-none z s (omega tests),
      step-none z e (omega tests),
    ))
    (λ q. omega (tests, front (omega tests), step-most (max a (min s z)) (max a (min e z)), last-part a z e, step-none z s (omega tests), step-one d e (omega tests))))
  where
    front : s < z → step a (max a (min s z)) ≤ step d s
    front l =
        split (ltb a s)
        (λ p. omega (tests, step-most a (max a (min s z)), step-one d s (omega tests)))
        (λ p. omega (tests, step-none a (max a (min s z)) (omega tests)))

changed-parts : (up : Bool) (s e : ℕ) (r : Refcount)
    → length (changed up s e r) ≤ step r.startblock (clamp r s) + (step (clamp r s) (clamp r e) + step (clamp r e) (stop r))
unfolding changed
changed-parts up s e r =
    omega (
      arith,
      length-append (piece r.startblock (clamp r s) r.refcount) (share (clamp r s) (clamp r e) (next up r.refcount) ++ piece (clamp r e) (stop r) r.refcount),
      length-append (share (clamp r s) (clamp r e) (next up r.refcount)) (piece (clamp r e) (stop r) r.refcount),
      piece-length r.startblock (clamp r s) r.refcount,
      share-length (clamp r s) (clamp r e) (next up r.refcount),
      piece-length (clamp r e) (stop r) r.refcount,
    )

-- a record is cut where s or e lies inside it
changed-length : (up : Bool) (s e d : ℕ) (r : Refcount) → s ≤ e → d ≤ r.startblock → 0 < r.blockcount
    → length (changed up s e r) + (step (stop r) s + step (stop r) e) ≤ 1 + (step d s + step d e)
unfolding clamp
changed-length up s e d r h k n = omega (arith, changed-parts up s e r, parts r.startblock (stop r) s e d (omega arith) h k)

-- two cuts, and in a raise a record for each gap
change_all-length : (up : Bool) (s e d gap : ℕ) (l : List Refcount) → s ≤ e → From d l
    → length (change_all up s e gap l) ≤ length l + (step d s + step d e) + cond up (length (gaps gap e l)) 0
unfolding change_all gaps
change_all-length up s e d gap [] h g = omega (arith, fresh-length up gap e, if-gap up)
  where
    if-gap : (up : Bool) → cond up (step gap e) 0 ≡ cond up (length (gap_of gap e)) 0
    if-gap true = sym (gap_length gap e)
    if-gap false = refl
change_all-length up s e d gap (r ∷ l) h g =
    let m : List Refcount = change_all up s e (max gap (stop r)) l in
    let before : List Refcount = share gap (min r.startblock e) (fresh up) in
    omega (
      arith,
      length-append (before ++ changed up s e r) m,
      length-append before (changed up s e r),
      fresh-length up gap (min r.startblock e),
      changed-length up s e d r h g.1 g.0.0,
      change_all-length up s e (stop r) (max gap (stop r)) l h g.2,
      if-gaps up,
    )
  where
    if-gaps : (up : Bool) → cond up (length (gaps gap e (r ∷ l))) 0 ≡ cond up (step gap (min r.startblock e)) 0 + cond up (length (gaps (max gap (stop r)) e l)) 0
    if-gaps true = length-append (gap_of gap (min r.startblock e)) (gaps (max gap (stop r)) e l) ∙ ap (λ (n : ℕ). n + length (gaps (max gap (stop r)) e l)) (gap_length gap (min r.startblock e))
    if-gaps false = refl

-- a record that meets the extent parts two gaps; any other lies before all of them or behind
gaps-length : (s a e d : ℕ) (l : List Refcount) → s ≤ a → e ≤ 2 ^ 31 → From d l → length (gaps a e l) ≤ step a e + met s e l
unfolding gaps met
gaps-length s a e d [] h t g = omega (arith, gap_length a e)
gaps-length s a e d (r ∷ l) h t g =
    omega (arith, length-append (gap_of a (min r.startblock e)) (gaps (max a (stop r)) e l), gap_length a (min r.startblock e), gaps-length s (max a (stop r)) e (stop r) l (omega arith) t g.2, one)
  where
    behind : e ≤ r.startblock → step a (min r.startblock e) + step (max a (stop r)) e ≤ step a e
    behind k = let q : min r.startblock e ≡ e = omega arith in rw q (omega (arith, step-none (max a (stop r)) e (omega arith)))

    before : stop r ≤ s → step a (min r.startblock e) + step (max a (stop r)) e ≤ step a e
    before k = let q : max a (stop r) ≡ a = omega arith in rw q (omega (arith, step-none a (min r.startblock e) (omega arith)))

    between : step a (min r.startblock e) + step (max a (stop r)) e ≤ step a e + 1
    between = split (ltb a e)
        (λ p. omega (tests, step-most a (min r.startblock e), step-most (max a (stop r)) e, step-one a e (omega tests)))
        (λ p. omega (tests, step-none a (min r.startblock e) (omega tests), step-none (max a (stop r)) e (omega tests)))

    one : step a (min r.startblock e) + step (max a (stop r)) e ≤ step a e + cond (meets s e r) 1 0
    one =
        split (staging r)
        (λ p. rw p (omega (arith, behind (omega (arith, staging-start r p)))))
        (λ p. split (ltb s (stop r))
        (λ q. split (ltb r.startblock e)
        (λ u. rw (p, q, u) between)
        (λ u. rw (p, q, u) (omega (arith, behind (omega tests)))))
        (λ q. rw (p, q) (omega (arith, before (omega tests)))))

meets-by : (s e : ℕ) (r : Refcount) → e ≤ 2 ^ 31 → s < stop r → r.startblock < e → meets s e r ≡ true
unfolding staging
meets-by s e r t u v = rw (lt-leb (2 ^ 31) r.startblock (omega arith), lt-ltb s (stop r) u, lt-ltb r.startblock e v) refl

-- the parts of a record from a up to z, with the gap before it and whether there is one behind it: a record that begins before the extent or ends
-- behind it is cut there, and there is no gap; one that does not meet the extent (n is 0) is not cut
ends : (s e gap a z n : ℕ) → a < z → s ≤ e → s ≤ gap → gap ≤ max s a → (s < z → a < e → 1 ≤ n)
    → step gap (min a e) + (step a (max a (min s z)) + (step (max a (min s z)) (max a (min e z)) + step (max a (min e z)) z)) + step (max gap z) e ≤ 1 + (step gap e + n)
ends s e gap a z n l h p q met =
    split (leb z s)
    (λ f. let same : max gap z ≡ gap = omega tests in
    rw same (omega (tests, step-none gap (min a e) (omega tests), step-most a (max a (min s z)), step-none (max a (min s z)) (max a (min e z)) (omega tests), step-none (max a (min e z)) z (omega tests))))
    (λ f. split (leb e a)
    (λ k. let same : min a e ≡ e = omega tests in
    rw same (omega (tests, step-none a (max a (min s z)) (omega tests), step-none (max a (min s z)) (max a (min e z)) (omega tests), step-most (max a (min e z)) z, step-none (max gap z) e (omega tests))))
    (λ k. omega (tests, met (omega tests) (omega tests), front (omega tests), middle (omega tests), behind)))
  where
    front : s < z → step gap (min a e) + step a (max a (min s z)) ≤ 1
    front f =
        split (ltb a s)
        (λ k. omega (tests, step-none gap (min a e) (omega tests), step-most a (max a (min s z))))
        (λ k. omega (tests, step-most gap (min a e), step-none a (max a (min s z)) (omega tests)))

    middle : a < e → step (max a (min s z)) (max a (min e z)) ≤ step gap e
    middle f =
        split (ltb s e)
        (λ k. omega (tests, step-most (max a (min s z)) (max a (min e z)), step-one gap e (omega tests)))
        (λ k. omega (tests, step-none (max a (min s z)) (max a (min e z)) (omega tests)))

    behind : step (max a (min e z)) z + step (max gap z) e ≤ 1
    behind = omega (arith, last-part a z e, step-later z (max gap z) e (omega arith))

-- a raise by the records met: where a record begins before the extent or ends behind it, there is a cut and no gap
raised-length : (s e d gap : ℕ) (l : List Refcount) → s ≤ e → e ≤ 2 ^ 31 → s ≤ gap → gap ≤ max s d → From d l
    → length (change_all true s e gap l) ≤ length l + (step gap e + met s e l)
unfolding change_all met clamp
raised-length s e d gap [] h t p q g = omega (arith, fresh-length true gap e)
raised-length s e d gap (r ∷ l) h t p q g =
    let m : List Refcount = change_all true s e (max gap (stop r)) l in
    let before : List Refcount = share gap (min r.startblock e) (fresh true) in
    omega (
      arith,
      length-append (before ++ changed true s e r) m,
      length-append before (changed true s e r),
      fresh-length true gap (min r.startblock e),
      changed-parts true s e r,
      raised-length s e (stop r) (max gap (stop r)) l h t (omega arith) (omega arith) g.2,
      one,
    )
  where
    one : step gap (min r.startblock e) + (step r.startblock (clamp r s) + (step (clamp r s) (clamp r e) + step (clamp r e) (stop r))) + step (max gap (stop r)) e
        ≤ 1 + (step gap e + cond (meets s e r) 1 0)
    one =
        split (meets s e r)
        (λ f. rw f (ends s e gap r.startblock (stop r) 1 (omega (arith, g.0.0)) h p (omega (arith, g.1)) (λ u v. omega arith)))
        (λ f. rw f (ends s e gap r.startblock (stop r) 0 (omega (arith, g.0.0)) h p (omega (arith, g.1)) (λ u v. let k : true ≡ false = sym (meets-by s e r t u v) ∙ f in let y : ◌≡◌ {A = ℕ} 0 1 = cc in omega arith)))

pub counts-length : EveryCountsLength
counts-length l start count st order end =
    let g : Accepted l = accepted-facts l st order in
    let e : ℕ = start + count in
    let q : unshared l start count ≡ gaps start e l = unshared-gaps l start count g end in
    record {
      release =
          rw (counts_after-is false start e l (omega arith) end g refl)
          (omega (arith, join_all-length (change_all false start e start l), change_all-length false start e 0 start l (omega arith) g, step-most 0 start, step-most 0 e));
      gaps = rw q (omega (arith, gaps-length start start e 0 l (omega arith) end g, step-most start e));
      raise =
          λ o. rw (q, counts_after-is true start e l (omega arith) end g o)
          (omega (
            arith,
            join_all-length (change_all true start e start l),
            change_all-length true start e 0 start l (omega arith) g,
            step-most 0 start,
            step-most 0 e,
            raised-length start e 0 start l (omega arith) end (omega arith) (omega arith) g,
            step-most start e,
          ));
    }

-- ---- instances: lists that are so long

abbrev mapping : ℕ → ℕ → ℕ → Rmap
mapping start count offset = record { startblock = start; blockcount = count; owner = 7; offset = offset }

-- 2/3 out of the middle of 0/8
map-longest : length (edited Remove (mapping 2 3 2) (mapping 0 8 0 ∷ [])) ≡ 1 + 1
unfolding rmap.reserved rmap.mapping rmap.exempt rmap.key_offset rmap.before map.first map.is_some map.replace map.place map.contains map.lines_up map.chosen map.front map.later map.place_later map.cut_out
map-longest = refl

-- 2/4 let go within 0/10/3
release-longest : length (release 2 6 (count_of 0 10 3 ∷ [])) ≡ 1 + 2
unfolding staging piece share fewer clamp lowered lower_all same_kind continues join_from join_all
release-longest = refl

-- a gap before 2/2/2, and one behind it
gaps-longest : length (unshared (count_of 2 2 2 ∷ []) 0 6) ≡ met 0 6 (count_of 2 2 2 ∷ []) + 1
unfolding staging over within grow runs owners met
gaps-longest = refl

-- 2/6 taken once more, over the end of 0/4/2, a gap and the front of 6/4/2: two and one for the gap, which is one more than the two records met
raise-longest : (length (raise 2 8 (count_of 0 4 2 ∷ count_of 6 4 2 ∷ [])) ≡ 2 + most_raised (count_of 0 4 2 ∷ count_of 6 4 2 ∷ []) 2 6)
    × (2 + length (unshared (count_of 0 4 2 ∷ count_of 6 4 2 ∷ []) 2 6) ≡ met 2 8 (count_of 0 4 2 ∷ count_of 6 4 2 ∷ []) + 1)
unfolding staging over within grow runs owners piece clamp same_kind continues join_from join_all raised raise_all met
raise-longest = (refl, refl)

-- the law on the first of them
release-counted : Counted (records_of refcounts (bytes_of refcounts (count_of 0 10 3 ∷ []))) 2 4
unfolding be_of be_bytes records.fields_of records.field_bytes records.first_records records.records_of records.bytes_of in_order staging good follows
release-counted =
    counts-length (records_of refcounts (bytes_of refcounts (count_of 0 10 3 ∷ []))) 2 4
    (storable-records_of refcounts refcounts-lawful (bytes_of refcounts (count_of 0 10 3 ∷ [])) (IsBytes-bytes_of refcounts refcounts-lawful (count_of 0 10 3 ∷ []))) refl (omega arith)
