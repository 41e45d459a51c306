-- Laws of the differences that stand for counts: one more where a run of numbers begins and one less where it ends add one to the counts of the run.
-- Assumes nothing.
use Rattle.std.proofs.Common.{◌≡◌, ℕ, zero, suc, ◌+◌, ◌-◌, ◌%◌, ◌^◌, ◌<◌, ◌≤◌, Bool, true, false, ◌&&◌, ltb, List, [], ◌∷◌, ◌++◌, length, get_or, take, drop, set, replicate, sym, refl, ap, ◌∙◌, subst, ap₂, add-one, arith, length-set, length-take-le, get_or-drop, get_or-set_other, get_or-take, take-suc, get_or-set_same, get_or-append-add, ext_get_or, ltb-false, ltb-true}
use native.Mathlib.Decide.{dec_lt}
use lib.ListN.{length-replicate, get_or-append, get_or-eq_default, get_or-replicate, drop_of_length-le}
use lib.Seq.{take-length}
use mathlib.Core.List.{append-nil}
use Rattle.codec.specs.Bytes.{with_bytes}
use Rattle.codec.specs.declared.rmap.Rmap.{Rmap}
use Rattle.codec.proofs.Parts.{length-with_bytes}
use Rattle.codec.proofs.Stores.{with_bytes-is, with_bytes-none, with_bytes-more}
use Rattle.lists.specs.Extent.{within}
use Rattle.lists.proofs.Cases.{split, and_l, and_r, within_in, within-left, within-right}
use Rattle.lookup.specs.Lookup.{ascending}
use Rattle.lookup.specs.Inner.Numbers.{first_at, is_below}
use Rattle.lookup.specs.Inner.Tally.{tallied, sums, summed, Room}
use Rattle.lookup.proofs.Ascending.{first-before, first_past, first-after, ascends-order}
use Rattle.lookup.proofs.TallyLaws.{tallied-length, tallied-at, tallied-past, one-is}

-- ---- running sums

pub sums-length : (c : ℕ) (l : List ℕ) → length (sums c l) ≡ length l
unfolding sums
sums-length c [] = refl
sums-length c (d ∷ l) = ap suc (sums-length ((c + d) % 2 ^ 64) l)

-- all places summed
pub summed-all : (l : List ℕ) → summed (length l) l ≡ sums 0 l
summed-all l =
    let y : List ℕ = sums 0 l in
    ap (λ (x : List ℕ). with_bytes l 0 (sums 0 x)) (take-length l)
    ∙ with_bytes-is l 0 y
    ∙ ap (λ (x : List ℕ). y ++ x) (drop_of_length-le l {i = 0 + length y} (omega (arith, sums-length 0 l)))
    ∙ append-nil y

sums-small : (c : ℕ) (l : List ℕ) (k : ℕ) → get_or (sums c l) k 0 < 2 ^ 64
unfolding sums
sums-small c [] k = omega arith
sums-small c (d ∷ l) zero = omega arith
sums-small c (d ∷ l) (suc k) = sums-small ((c + d) % 2 ^ 64) l k

-- from one more on, each is one more
sums-more : (c : ℕ) (l : List ℕ) (k : ℕ) → k < length l → get_or (sums ((c + 1) % 2 ^ 64) l) k 0 ≡ (get_or (sums c l) k 0 + 1) % 2 ^ 64
unfolding sums
sums-more c [] k h = absurd (omega arith)
sums-more c (d ∷ l) zero h = omega arith
sums-more c (d ∷ l) (suc k) h =
    let e : ((c + 1) % 2 ^ 64 + d) % 2 ^ 64 ≡ ((c + d) % 2 ^ 64 + 1) % 2 ^ 64 = omega arith in
    ap (λ (x : ℕ). get_or (sums x l) k 0) e ∙ sums-more ((c + d) % 2 ^ 64) l k (omega arith)

-- m is l with one more at place i
pub record Raised (l m : List ℕ) (i : ℕ) : Type 0 where
  pub same_length : length m ≡ length l
  pub there : get_or m i 0 ≡ (get_or l i 0 + 1) % 2 ^ 64
  pub elsewhere : (k : ℕ) → (k ≡ i → ⊥) → get_or m k 0 ≡ get_or l k 0

raised-rest : (d e : ℕ) (l m : List ℕ) (i : ℕ) → Raised (d ∷ l) (e ∷ m) (suc i) → Raised l m i
raised-rest d e l m i r =
    record {
      same_length = omega (arith, r.same_length);
      there = r.there;
      elsewhere = λ k n. r.elsewhere (suc k) (λ q. n (omega (arith, q)));
    }

raised-tail : (d e : ℕ) (l m : List ℕ) → Raised (d ∷ l) (e ∷ m) 0 → m ≡ l
raised-tail d e l m r = ext_get_or 0 m l (omega (arith, r.same_length)) (λ k h. r.elsewhere (suc k) (λ q. omega (arith, q)))

-- the sums before it stay
sums-before : (c : ℕ) (l m : List ℕ) (i k : ℕ) → Raised l m i → k < i → get_or (sums c m) k 0 ≡ get_or (sums c l) k 0
unfolding sums
sums-before c [] [] i k r h = refl
sums-before c [] (e ∷ m) i k r h = absurd (omega (arith, r.same_length))
sums-before c (d ∷ l) [] i k r h = absurd (omega (arith, r.same_length))
sums-before c (d ∷ l) (e ∷ m) zero k r h = absurd (omega arith)
sums-before c (d ∷ l) (e ∷ m) (suc i) zero r h = ap (λ (x : ℕ). (c + x) % 2 ^ 64) (r.elsewhere 0 (λ q. omega (arith, q)))
sums-before c (d ∷ l) (e ∷ m) (suc i) (suc k) r h =
    let q : e ≡ d = r.elsewhere 0 (λ q. omega (arith, q)) in
    ap (λ (x : ℕ). get_or (sums ((c + x) % 2 ^ 64) m) k 0) q ∙ sums-before ((c + d) % 2 ^ 64) l m i k (raised-rest d e l m i r) (omega arith)

-- and from it on each is one more
sums-after : (c : ℕ) (l m : List ℕ) (i k : ℕ) → Raised l m i → i ≤ k → k < length l → get_or (sums c m) k 0 ≡ (get_or (sums c l) k 0 + 1) % 2 ^ 64
unfolding sums
sums-after c [] m i k r h b = absurd (omega arith)
sums-after c (d ∷ l) [] i k r h b = absurd (omega (arith, r.same_length))
sums-after c (d ∷ l) (e ∷ m) zero zero r h b = let q : e ≡ (d + 1) % 2 ^ 64 = r.there in omega arith
sums-after c (d ∷ l) (e ∷ m) zero (suc k) r h b =
    let q : e ≡ (d + 1) % 2 ^ 64 = r.there in
    let z : (c + e) % 2 ^ 64 ≡ ((c + d) % 2 ^ 64 + 1) % 2 ^ 64 = omega arith in
    ap₂ (λ (x : ℕ) (y : List ℕ). get_or (sums x y) k 0) z (raised-tail d e l m r) ∙ sums-more ((c + d) % 2 ^ 64) l k (omega arith)
sums-after c (d ∷ l) (e ∷ m) (suc i) zero r h b = absurd (omega arith)
sums-after c (d ∷ l) (e ∷ m) (suc i) (suc k) r h b =
    let q : e ≡ d = r.elsewhere 0 (λ q. omega (arith, q)) in
    ap (λ (x : ℕ). get_or (sums ((c + x) % 2 ^ 64) m) k 0) q ∙ sums-after ((c + d) % 2 ^ 64) l m i k (raised-rest d e l m i r) (omega arith) (omega arith)

-- ---- the counts that the first places stand for

module _ (n : ℕ) (l : List ℕ) (fits : n ≤ length l) where
  abbrev front : List ℕ
  front = sums 0 (take n l)

  front_length : length front ≡ n
  front_length = sums-length 0 (take n l) ∙ length-take-le n l fits

  summed-is : summed n l ≡ front ++ drop n l
  summed-is = with_bytes-is l 0 front ∙ ap (λ (k : ℕ). front ++ drop k l) (let e : 0 + length front ≡ n = omega (arith, front_length) in e)

  pub summed-length : length (summed n l) ≡ length l
  summed-length = length-with_bytes l 0 front (omega (arith, front_length))

  summed_at : (k : ℕ) → k < n → get_or (summed n l) k 0 ≡ get_or front k 0
  summed_at k h = ap (λ (x : List ℕ). get_or x k 0) summed-is ∙ get_or-append front (drop n l) 0 k (omega (arith, front_length))

  summed-past : (k : ℕ) → n ≤ k → get_or (summed n l) k 0 ≡ get_or l k 0
  summed-past k h =
      let e : k ≡ length front + (k - n) = omega (arith, front_length) in
      let z : n + (k - n) ≡ k = omega arith in
      ap₂ (λ (x : List ℕ) (y : ℕ). get_or x y 0) summed-is e
      ∙ get_or-append-add front (drop n l) (k - n) 0
      ∙ get_or-drop n l (k - n) 0
      ∙ ap (λ (y : ℕ). get_or l y 0) z

raised-take : (n : ℕ) (l m : List ℕ) (i : ℕ) → n ≤ length l → i < n → Raised l m i → Raised (take n l) (take n m) i
raised-take n l m i fits h r =
    record {
      same_length = length-take-le n m (omega (arith, r.same_length)) ∙ sym (length-take-le n l fits);
      there = get_or-take n m i 0 h ∙ r.there ∙ ap (λ (x : ℕ). (x + 1) % 2 ^ 64) (sym (get_or-take n l i 0 h));
      elsewhere = λ k e. elim (dec_lt k n) [
        | yes b ↦ get_or-take n m k 0 b ∙ r.elsewhere k e ∙ sym (get_or-take n l k 0 b)
        | no b ↦ past (take n m) k (omega (arith, length-take-le n m (omega (arith, r.same_length)), b)) ∙ sym (past (take n l) k (omega (arith, length-take-le n l fits, b)))
      ];
    }
  where
    past : (x : List ℕ) (k : ℕ) → length x ≤ k → get_or x k 0 ≡ 0
    past x k h = get_or-eq_default x 0 h

-- one more at place i of the first n
module _ (n : ℕ) (l m : List ℕ) (i : ℕ) (fits : n ≤ length l) (inside : i < n) (r : Raised l m i) where
  fits' : n ≤ length m
  fits' = omega (arith, r.same_length)

  pub counts-before : (k : ℕ) → k < i → get_or (summed n m) k 0 ≡ get_or (summed n l) k 0
  counts-before k h =
      summed_at n m fits' k (omega arith)
      ∙ sums-before 0 (take n l) (take n m) i k (raised-take n l m i fits inside r) h
      ∙ sym (summed_at n l fits k (omega arith))

  pub counts-after : (k : ℕ) → i ≤ k → k < n → get_or (summed n m) k 0 ≡ (get_or (summed n l) k 0 + 1) % 2 ^ 64
  counts-after k h b =
      summed_at n m fits' k b
      ∙ sums-after 0 (take n l) (take n m) i k (raised-take n l m i fits inside r) h (omega (arith, length-take-le n l fits))
      ∙ ap (λ (x : ℕ). (x + 1) % 2 ^ 64) (sym (summed_at n l fits k b))

counts-small : (n : ℕ) (l : List ℕ) → n ≤ length l → (k : ℕ) → k < n → get_or (summed n l) k 0 < 2 ^ 64
counts-small n l fits k h = rw (summed_at n l fits k h) (sums-small 0 (take n l) k)

-- ---- a store of one more, and of one less

pub more-raised : (l : List ℕ) (i v : ℕ) → i < length l → v ≡ (get_or l i 0 + 1) % 2 ^ 64 → Raised l (set l i v) i
more-raised l i v h e = record { same_length = length-set l i v; there = get_or-set_same l i v 0 h ∙ e; elsewhere = λ k n. get_or-set_other l i k v 0 n }

pub less-raised : (l : List ℕ) (i v : ℕ) → i < length l → (v + 1) % 2 ^ 64 ≡ get_or l i 0 → Raised (set l i v) l i
less-raised l i v h e =
    record {
      same_length = sym (length-set l i v);
      there = sym (ap (λ (x : ℕ). (x + 1) % 2 ^ 64) (get_or-set_same l i v 0 h) ∙ e);
      elsewhere = λ k n. sym (get_or-set_other l i k v 0 n);
    }

-- ---- a record added

module _ (r : Rmap) (asked l : List ℕ) (up : ascending asked ≡ true) (room : length asked ≤ length l) where
  abbrev n : ℕ
  n = length asked

  abbrev from : ℕ
  from = first_at r.startblock asked

  abbrev end : ℕ
  end = r.startblock + r.blockcount

  -- what it adds at a number
  adds : (k : ℕ) → k < n → get_or (tallied (r ∷ []) asked (summed n l)) k 0 ≡ get_or (summed n l) k 0 + within r.startblock r.blockcount 1 (get_or asked k 0)
  adds k h = tallied-at (r ∷ []) asked (summed n l) k (omega (arith, summed-length n l room)) h ∙ ap (λ (x : ℕ). get_or (summed n l) k 0 + x) (one-is r (get_or asked k 0))

  before-it : (k : ℕ) → k < n → k < from → get_or (tallied (r ∷ []) asked (summed n l)) k 0 ≡ get_or (summed n l) k 0
  before-it k h b = omega (arith, adds k h, within-left r.startblock r.blockcount 1 (get_or asked k 0) (first-before r.startblock asked k b))

  after-it : (k : ℕ) → k < n → end ≤ get_or asked k 0 → get_or (tallied (r ∷ []) asked (summed n l)) k 0 ≡ get_or (summed n l) k 0
  after-it k h b = omega (arith, adds k h, within-right r.startblock r.blockcount 1 (get_or asked k 0) b)

  under-it : (k : ℕ) → k < n → from ≤ k → get_or asked k 0 < end → get_or (tallied (r ∷ []) asked (summed n l)) k 0 ≡ get_or (summed n l) k 0 + 1
  under-it k h b c = omega (arith, adds k h, within_in r.startblock r.blockcount 1 (get_or asked k 0) (first-after r.startblock asked up k h b) c)

  -- the counts are as they should be if they are at each number, and the places past them are as they were
  counts_are : (m : List ℕ) → length m ≡ length l
      → ((k : ℕ) → k < n → get_or (summed n m) k 0 ≡ get_or (tallied (r ∷ []) asked (summed n l)) k 0)
      → ((k : ℕ) → n ≤ k → get_or m k 0 ≡ get_or l k 0)
      → summed n m ≡ tallied (r ∷ []) asked (summed n l)
  counts_are m same at past =
      let fits : n ≤ length m = omega (arith, same) in
      ext_get_or 0 (summed n m) (tallied (r ∷ []) asked (summed n l))
      (summed-length n m fits ∙ same ∙ sym (tallied-length (r ∷ []) asked (summed n l) ∙ summed-length n l room))
      (λ k b. elim (dec_lt k n) [
        | yes h ↦ at k h
        | no h ↦ summed-past n m fits k (omega (arith, h)) ∙ past k (omega (arith, h)) ∙ sym (tallied-past (r ∷ []) asked (summed n l) k (omega (arith, h)) ∙ summed-past n l room k (omega (arith, h)))
      ])

  -- no number lies under it
  pub tally-none : (n ≤ from → ⊥) → end ≤ get_or asked from 0 → summed n l ≡ tallied (r ∷ []) asked (summed n l)
  tally-none some far =
      counts_are l refl
      (λ k h. elim (dec_lt k from) [
        | yes b ↦ sym (before-it k h b)
        | no b ↦ sym (after-it k h (omega (arith, far, ascends-order asked up from k (omega (arith, b)) h)))
      ])
      (λ k h. refl)

  pub tally-past : n ≤ from → summed n l ≡ tallied (r ∷ []) asked (summed n l)
  tally-past h = counts_are l refl (λ k b. sym (before-it k b (omega arith))) (λ k b. refl)

  -- one more at the first number under it
  module _ (some : Room 1 asked (summed n l)) (l' : List ℕ) (begins : Raised l l' from) (inside : from < n) where
    -- and no number lies past it
    pub tally-open : n ≤ first_at end asked → summed n l' ≡ tallied (r ∷ []) asked (summed n l)
    tally-open none =
        counts_are l' begins.same_length
        (λ k h. elim (dec_lt k from) [
          | yes b ↦ counts-before n l l' from room inside begins k b ∙ sym (before-it k h b)
          | no b ↦ counts-after n l l' from room inside begins k (omega (arith, b)) h
              ∙ omega (arith, some k h, under-it k h (omega (arith, b)) (first-before end asked k (omega arith)))
        ])
        (λ k h. begins.elsewhere k (λ e. omega (arith, e)))

    -- or one less at the first number past it
    pub tally-closed : (m : List ℕ) → Raised m l' (first_at end asked) → first_at end asked < n → from < first_at end asked → summed n m ≡ tallied (r ∷ []) asked (summed n l)
    tally-closed m ends past h =
        let to : ℕ = first_at end asked in
        let fits : n ≤ length m = omega (arith, ends.same_length, begins.same_length) in
        counts_are m (sym ends.same_length ∙ begins.same_length)
        (λ k b. elim (dec_lt k to) [
          | yes c ↦ sym (counts-before n m l' to fits past ends k c) ∙ elim (dec_lt k from) [
            | yes f ↦ counts-before n l l' from room inside begins k f ∙ sym (before-it k b f)
            | no f ↦ counts-after n l l' from room inside begins k (omega (arith, f)) b
                ∙ omega (arith, some k b, under-it k b (omega (arith, f)) (first-before end asked k c))
          ]
          | no c ↦ omega (
            arith,
            counts-after n m l' to fits past ends k (omega (arith, c)) b,
            counts-after n l l' from room inside begins k (omega (arith, c, h)) b,
            counts-small n m fits k b,
            counts-small n l room k b,
            after-it k b (first-after end asked up k b (omega (arith, c))),
          )
        ])
        (λ k b. sym (ends.elsewhere k (λ e. omega (arith, e))) ∙ begins.elsewhere k (λ e. omega (arith, e)))

  -- as the code goes: i is the first number from its start on, and whether it lies under it is known
  pub tally-not : (i : ℕ) → i ≡ from → is_below asked i end ≡ false → summed n l ≡ tallied (r ∷ []) asked (summed n l)
  tally-not i e f =
      split (ltb i n)
      (λ t. tally-none (λ h. omega (arith, ltb-true i n t, e)) (subst (λ (x : ℕ). end ≤ get_or asked x 0) e (ltb-false (get_or asked i 0) end (sym (ap (λ (b : Bool). b && ltb (get_or asked i 0) end) t) ∙ f))))
      (λ t. tally-past (omega (arith, ltb-false i n t, e)))

  pub under-inside : (i : ℕ) → is_below asked i end ≡ true → i < n
  under-inside i f = ltb-true i n (and_l (ltb i n) (ltb (get_or asked i 0) end) f)

  under-before : (i : ℕ) → is_below asked i end ≡ true → i < first_at end asked
  under-before i f = first_past end asked up i (under-inside i f) (ltb-true (get_or asked i 0) end (and_r (ltb i n) (ltb (get_or asked i 0) end) f))

  module _ (some : Room 1 asked (summed n l)) (i v : ℕ) (e : i ≡ from) (f : is_below asked i end ≡ true) (q : v ≡ (get_or l i 0 + 1) % 2 ^ 64) where
    begun : Raised l (set l i v) from
    begun = subst (Raised l (set l i v)) e (more-raised l i v (omega (arith, under-inside i f)) q)

    pub tally-to-end : (j : ℕ) → j ≡ first_at end asked → n ≤ j → summed n (set l i v) ≡ tallied (r ∷ []) asked (summed n l)
    tally-to-end j g h = tally-open some (set l i v) begun (omega (arith, e, under-inside i f)) (omega (arith, g))

    pub tally-between : (j w : ℕ) → j ≡ first_at end asked → j < n → (w + 1) % 2 ^ 64 ≡ get_or (set l i v) j 0
        → summed n (set (set l i v) j w) ≡ tallied (r ∷ []) asked (summed n l)
    tally-between j w g h u =
        tally-closed some (set l i v) begun (omega (arith, e, under-inside i f)) (set (set l i v) j w)
        (subst (Raised (set (set l i v) j w) (set l i v)) g (less-raised (set l i v) j w (omega (arith, length-set l i v)) u))
        (omega (arith, g)) (omega (arith, e, under-before i f))

-- ---- the sums put in place of the differences, one after another

-- the sum of all
unfoldable pub total : ℕ → List ℕ → ℕ
total c [] = c
total c (d ∷ l) = total ((c + d) % 2 ^ 64) l

total-one : (c : ℕ) (l : List ℕ) (d : ℕ) → total c (l ++ (d ∷ [])) ≡ (total c l + d) % 2 ^ 64
unfolding total
total-one c [] d = refl
total-one c (x ∷ l) d = total-one ((c + x) % 2 ^ 64) l d

sums-one : (c : ℕ) (l : List ℕ) (d : ℕ) → sums c (l ++ (d ∷ [])) ≡ sums c l ++ (((total c l + d) % 2 ^ 64) ∷ [])
unfolding sums total
sums-one c [] d = refl
sums-one c (x ∷ l) d = ap (λ (y : List ℕ). ((c + x) % 2 ^ 64) ∷ y) (sums-one ((c + x) % 2 ^ 64) l d)

pub sum_first : (l : List ℕ) → l ≡ summed 0 l
unfolding sums
sum_first l = sym (with_bytes-none l 0)

module _ (l s : List ℕ) (i v : ℕ) (inside : i < length l) (e : s ≡ summed i l) where
  one_more : take (i + 1) l ≡ take i l ++ (get_or l i 0 ∷ [])
  one_more = ap (λ (k : ℕ). take k l) (add-one i) ∙ take-suc l i 0 inside

  pub sum-there : get_or s i 0 ≡ get_or l i 0
  sum-there = ap (λ (x : List ℕ). get_or x i 0) e ∙ summed-past i l (omega arith) i (omega arith)

  pub sum-total : v ≡ (total 0 (take i l) + get_or s i 0) % 2 ^ 64 → v ≡ total 0 (take (i + 1) l)
  sum-total q =
      q
      ∙ ap (λ (x : ℕ). (total 0 (take i l) + x) % 2 ^ 64) sum-there
      ∙ sym (total-one 0 (take i l) (get_or l i 0))
      ∙ ap (total 0) (sym one_more)

  pub sum-next : v ≡ (total 0 (take i l) + get_or s i 0) % 2 ^ 64 → set s i v ≡ summed (i + 1) l
  sum-next q =
      with_bytes-more l s (sums 0 (take i l)) 0 i v (omega (arith, sums-length 0 (take i l), length-take-le i l (omega arith))) inside e
      ∙ ap (with_bytes l 0)
      (ap (λ (x : ℕ). sums 0 (take i l) ++ (x ∷ [])) (q ∙ ap (λ (x : ℕ). (total 0 (take i l) + x) % 2 ^ 64) sum-there)
      ∙ sym (sums-one 0 (take i l) (get_or l i 0))
      ∙ ap (sums 0) (sym one_more))

-- zeros stand for zeros
zero-sums : (n : ℕ) (k : ℕ) → get_or (sums 0 (replicate n 0)) k 0 ≡ 0
unfolding sums
zero-sums zero k = refl
zero-sums (suc n) zero = refl
zero-sums (suc n) (suc k) = zero-sums n k

pub zero-summed : (n : ℕ) (l : List ℕ) → n ≤ length l → ((k : ℕ) → k < n → get_or l k 0 ≡ 0) → summed n l ≡ l
zero-summed n l fits clear =
    let z : take n l ≡ replicate n 0 =
    ext_get_or 0 (take n l) (replicate n 0) (length-take-le n l fits ∙ sym (length-replicate {A = ℕ} n 0))
    (λ k h. let b : k < n = omega (arith, length-take-le n l fits, h) in get_or-take n l k 0 b ∙ clear k b ∙ sym (get_or-replicate {A = ℕ} n k 0 0 b)) in
    ext_get_or 0 (summed n l) l (summed-length n l fits)
    (λ k h. elim (dec_lt k n) [
      | yes b ↦ summed_at n l fits k b ∙ ap (λ (x : List ℕ). get_or (sums 0 x) k 0) z ∙ zero-sums n k ∙ sym (clear k b)
      | no b ↦ summed-past n l fits k (omega (arith, b))
    ])
