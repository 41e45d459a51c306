-- Laws of the pass over the reverse map that finds the record cut and the first other record over a block.
-- Assumes nothing.
use Rattle.std.proofs.Common.{◌+◌, ◌*◌, ◌/◌, ◌%◌, ◌<◌, ◌≤◌, ◌&&◌, ◌∷◌, ◌∙◌, ◌≡◌, ℕ, zero, suc, Bool, true, false, cond, eqb, ltb, List, [], length, get_or, sym, refl, ap, arith, le-ltb, lt-ltb, eq-eqb, ne_eqb, eqb-true, le-leb}
use borrow.Author.Tests.{eqb-false}
use Rattle.codec.specs.Bytes.{bytes_at}
use Rattle.codec.specs.Question.{none, done, refused}
use Rattle.codec.specs.Records.{records_of, rmaps}
use Rattle.codec.specs.Accepted.{whole}
use Rattle.codec.specs.Rmaps.{least, good, accepted}
use Rattle.codec.specs.declared.rmap.Rmap.{Rmap}
use Rattle.codec.proofs.RecordLists.{length-records_of}
use Rattle.lists.specs.Extent.{over}
use Rattle.lists.specs.RmapEdits.{index_where, note_of, contains, lines_up, contained, cut_at}
use Rattle.lists.proofs.Cases.{split, tests, over-facts, and-off}
use Rattle.lists.proofs.Found.{contains-ends}
use Rattle.lists.proofs.RmapOrder.{good-facts}
use Rattle.lists.proofs.Index.{index-le, index-first, index_same, note-none, seen, seen_none, seen-le, seen_next, seen_all}
use Rattle.lists.proofs.Removing.{strict_index, any_index, chosen-index, contained-index}
use Rattle.lists.proofs.Scanning.{read_at}
use Rattle.reasons.specs.declared.scan.Found.{Found}
use Rattle.reasons.specs.Why.{map_over, index_but}
use Rattle.reasons.specs.Inner.Finding.{over_contains, over_aligned, second_over, Within, Noted, Finds, probe, other_before26}
use Rattle.reasons.proofs.Tests.{over-before}
use Rattle.reasons.proofs.Places.{but-passes}

-- ---- the first record that passes a test, one left out

module _ (p : Rmap → Bool) where
  but-le : (k : ℕ) (l : List Rmap) → index_but p k l ≤ length l
  unfolding index_but
  but-le k [] = omega arith
  but-le zero (r ∷ l) = omega (arith, index-le p l)
  but-le (suc k) (r ∷ l) = split (p r) (λ e. rw e (omega arith)) (λ e. rw e (let t = but-le k l in omega arith))

  -- it is no later than any other that passes
  but_first : (k : ℕ) (l : List Rmap) (i : ℕ) → i < length l → (i ≡ k → ⊥) → p (get_or l i least) ≡ true → index_but p k l ≤ i
  unfolding index_but
  but_first k [] i h d e = absurd (omega arith)
  but_first zero (r ∷ l) zero h d e = absurd (d refl)
  but_first zero (r ∷ l) (suc i) h d e = let t = index-first p l i (omega arith) e in omega arith
  but_first (suc k) (r ∷ l) zero h d e = rw e (omega arith)
  but_first (suc k) (r ∷ l) (suc i) h d e = split (p r) (λ f. rw f (omega arith)) (λ f. rw f (let t = but_first k l i (omega arith) (λ q. d (ap suc q)) e in omega arith))

  -- where the one left out is not the first that passes, that is found
  but-elsewhere : (k : ℕ) (l : List Rmap) → (index_where p l ≡ k → ⊥) → index_but p k l ≡ index_where p l
  unfolding index_where index_but
  but-elsewhere k [] d = refl
  but-elsewhere zero (r ∷ l) d = split (p r) (λ e. absurd (d (rw e refl))) (λ e. rw e refl)
  but-elsewhere (suc k) (r ∷ l) d = split (p r) (λ e. rw e refl) (λ e. rw e (ap suc (but-elsewhere k l (λ q. d (rw e (ap suc q))))))

  -- by the first two that pass
  pub other-of : (l : List Rmap) (k f g o : ℕ) → f ≡ index_where p l → g ≡ index_but p (index_where p l) l → o ≡ cond (eqb f k) g f → o ≡ index_but p k l
  other-of l k f g o ef eg eo =
      split (eqb f k)
      (λ e. let q : index_where p l ≡ k = sym ef ∙ eqb-true f k e in
      let h : o ≡ g = rw e at eo in
      h ∙ eg ∙ ap (λ (i : ℕ). index_but p i l) q)
      (λ e. let h : o ≡ f = rw e at eo in
      h ∙ ef ∙ sym (but-elsewhere k l (λ q. eqb-false f k e (ef ∙ q))))

  module _ (l : List Rmap) where
    abbrev f : ℕ
    f = index_where p l

    abbrev g : ℕ
    g = index_but p (index_where p l) l

    second-behind : g < length l → f < g
    second-behind h =
        let t = but-passes p f l least h in
        let u : f ≤ g = index-first p l g h t.0 in
        split (ltb f g) (λ e. omega tests) (λ e. absurd (t.1 (omega tests)))

    second-all : (i n : ℕ) → n ≡ length l → n ≤ i → seen g i n ≡ g
    unfolding seen
    second-all i n e h = split (ltb g i) (λ t. rw t refl) (λ t. rw t (let u = but-le f l in omega tests))

    -- one record more
    second-next : (i n was now first : ℕ) (r : Rmap) → n ≡ length l → i < n → r ≡ get_or l i least → first ≡ seen f i n → was ≡ seen g i n
        → now ≡ note_of was n i (p r && ltb first n) → now ≡ seen g (i + 1) n
    unfolding seen note_of
    second-next i n was now first r en h er ef ew e =
        split (ltb g i)
        (λ t. let w : was ≡ g = rw t at ew in
        let a : ltb was n ≡ true = lt-ltb was n (omega tests) in
        let b : ltb g (i + 1) ≡ true = lt-ltb g (i + 1) (omega tests) in
        rw b (rw a at e ∙ w))
        (λ t. let w : was ≡ n = rw t at ew in
        let a : ltb was n ≡ false = le-ltb was n (omega arith) in
        let later : (g ≡ i → ⊥) → cond (ltb g (i + 1)) g n ≡ n = λ d. rw (le-ltb g (i + 1) (omega (tests, d))) refl in
        split (p r)
        (λ u. split (ltb f i)
        (λ v. let m : first ≡ f = rw v at ef in
        let c : ltb first n ≡ true = lt-ltb first n (omega tests) in
        let s : g ≤ i = but_first f l i (omega arith) (λ q. omega tests) (rw er at u) in
        let b : ltb g (i + 1) ≡ true = lt-ltb g (i + 1) (omega arith) in
        rw b (rw (a, u, c) at e ∙ omega tests))
        (λ v. let m : first ≡ n = rw v at ef in
        let c : ltb first n ≡ false = le-ltb first n (omega arith) in
        (rw (a, u, c) at e) ∙ sym (later (λ q. let k = second-behind (omega arith) in omega tests))))
        (λ u. (rw (a, u) at e) ∙ sym (later (λ q. let k : p (get_or l g least) ≡ true = (but-passes p f l least (omega arith)).0 in
        let z : p r ≡ true = rw er (rw q at k) in
        let z : ◌≡◌ {A = ℕ} 0 1 = cc in omega arith))))

-- ---- one record

pub noted-apart : (x : Rmap) (b : ℕ) (r : Rmap) (i n : ℕ) (s : Found) → map_over b r ≡ false → Within n s → Noted x b r i n s s
noted-apart x b r i n s e h =
    record {
      aligned = rw e (note-none s.aligned n i h.0);
      containing = rw e (note-none s.containing n i h.1);
      first = rw e (note-none s.first n i h.2);
      second = rw e (note-none s.second n i h.3);
    }

module _ (x : Rmap) (b : ℕ) (r : Rmap) (i n : ℕ) (s : Found) (a c f g : ℕ) (ta tc : Bool) where
  pub noted-over : map_over b r ≡ true → ta ≡ (contains x r && lines_up x r) → tc ≡ contains x r
      → a ≡ note_of s.aligned n i ta → c ≡ note_of s.containing n i tc → f ≡ note_of s.first n i true → g ≡ note_of s.second n i (ltb s.first n)
      → Noted x b r i n s (record { aligned = a; containing = c; first = f; second = g })
  noted-over e ea ec na nc nf ng =
      record {
        aligned = na ∙ rw (e, ea) refl;
        containing = nc ∙ rw (e, ec) refl;
        first = nf ∙ rw e refl;
        second = ng ∙ rw e refl;
      }

-- ---- one pass

-- what there is among the first i records was found
pub record Seen (x : Rmap) (k : ℕ) (b : List ℕ) (i : ℕ) (s : Found) : Type 0 where
  pub aligned : s.aligned ≡ seen (index_where (over_aligned x k) (records_of rmaps b)) i (length b / 24)
  pub containing : s.containing ≡ seen (index_where (over_contains x k) (records_of rmaps b)) i (length b / 24)
  pub first : s.first ≡ seen (index_where (map_over k) (records_of rmaps b)) i (length b / 24)
  pub second : s.second ≡ seen (second_over k (records_of rmaps b)) i (length b / 24)

pub found-start : (x : Rmap) (k : ℕ) (b : List ℕ) → Seen x k b 0 (record { aligned = length b / 24; containing = length b / 24; first = length b / 24; second = length b / 24 })
found-start x k b = record { aligned = seen_none _ _; containing = seen_none _ _; first = seen_none _ _; second = seen_none _ _ }

module _ (x : Rmap) (k : ℕ) (b : List ℕ) (i : ℕ) (s : Found) (seen-so : Seen x k b i s) where
  pub found_within : i ≤ length b / 24 → Within (length b / 24) s
  found_within h = (seen-le _ i _ _ h seen-so.aligned, seen-le _ i _ _ h seen-so.containing, seen-le _ i _ _ h seen-so.first, seen-le _ i _ _ h seen-so.second)

  pub found-next : (r : Rmap) (t : Found) → i < length b / 24 → r ≡ rmaps.decode (bytes_at b (i * 24) 24) → Noted x k r i (length b / 24) s t → Seen x k b (i + 1) t
  found-next r t h d e =
      let n = sym (length-records_of rmaps b) in
      let q = read_at b i r h d in
      record {
        aligned = seen_next (over_aligned x k) (records_of rmaps b) i (length b / 24) _ _ r n h q seen-so.aligned e.aligned;
        containing = seen_next (over_contains x k) (records_of rmaps b) i (length b / 24) _ _ r n h q seen-so.containing e.containing;
        first = seen_next (map_over k) (records_of rmaps b) i (length b / 24) _ _ r n h q seen-so.first e.first;
        second = second-next (map_over k) (records_of rmaps b) i (length b / 24) _ _ s.first r n h q seen-so.first seen-so.second e.second;
      }

  pub found-end : length b / 24 ≤ i → Finds x k (records_of rmaps b) s
  found-end h =
      let n = sym (length-records_of rmaps b) in
      record {
        aligned = seen-so.aligned ∙ seen_all (over_aligned x k) (records_of rmaps b) i (length b / 24) n h;
        containing = seen-so.containing ∙ seen_all (over_contains x k) (records_of rmaps b) i (length b / 24) n h;
        first = seen-so.first ∙ seen_all (map_over k) (records_of rmaps b) i (length b / 24) n h;
        second = seen-so.second ∙ second-all (map_over k) (records_of rmaps b) i (length b / 24) n h;
      }

-- ---- the record cut: whatever contains x lies over each block of x

module _ (x : Rmap) (k : ℕ) (h : over x.startblock x.blockcount k ≡ true) where
  contains-over : (r : Rmap) → contains x r ≡ true → map_over k r ≡ true
  contains-over r e =
      let o = over-facts x.startblock x.blockcount k h in
      let c = contains-ends x r e in
      sym (over-before r.startblock r.blockcount k (omega arith)) ∙ le-leb r.startblock k (omega arith)

  containing-same : (r : Rmap) → over_contains x k r ≡ contains x r
  containing-same r = split (contains x r) (λ e. rw (e, contains-over r e) refl) (λ e. rw e (and-off (map_over k r)))

  aligned-same : (r : Rmap) → over_aligned x k r ≡ (contains x r && lines_up x r)
  aligned-same r = split (contains x r) (λ e. rw (e, contains-over r e) refl) (λ e. rw e (and-off (map_over k r)))

  cut-is : (l : List Rmap) (s : Found) (n at : ℕ) → n ≡ length l → Finds x k l s → at ≡ cond (ltb s.aligned n) s.aligned s.containing → at ≡ cut_at x l
  cut-is l s n at en f e =
      let a : s.aligned ≡ strict_index x l = f.aligned ∙ index_same (over_aligned x k) (λ r. contains x r && lines_up x r) l aligned-same in
      let c : s.containing ≡ any_index x l = f.containing ∙ index_same (over_contains x k) (contains x) l containing-same in
      e ∙ rw (a, c, en) (sym (chosen-index x l))

-- the block searched by is one of x
probe-over : (x : Rmap) (b : ℕ) → good x ≡ true → over x.startblock x.blockcount (probe x b) ≡ true
probe-over x b g =
    split (over x.startblock x.blockcount b)
    (λ e. rw (e, e) refl)
    (λ e. rw e (sym (over-before x.startblock x.blockcount x.startblock (omega (arith, (good-facts x g).0))) ∙ le-leb x.startblock x.startblock (omega arith)))

-- ---- the questions

module _ (map : List ℕ) (x : Rmap) (b : ℕ) where
  abbrev m : List Rmap
  m = records_of rmaps map

  pub other_length : (length map % 24 ≡ 0 → ⊥) → refused 19 none ≡ other_before26 map x b
  unfolding other_before26 whole
  other_length h = rw (ne_eqb (length map % 24) 0 h) refl

  module _ (whole_is : length map % 24 ≡ 0) where
    pub other-order : accepted m ≡ false → refused 20 none ≡ other_before26 map x b
    unfolding other_before26 whole
    other-order h = rw (eq-eqb (length map % 24) 0 whole_is, h) refl

    module _ (ordered : accepted m ≡ true) where
      pub other-extent : good x ≡ false → refused 22 none ≡ other_before26 map x b
      unfolding other_before26 whole
      other-extent h = rw (eq-eqb (length map % 24) 0 whole_is, ordered, h) refl

      module _ (extent : good x ≡ true) (s : Found) (found : Finds x (probe x b) m s) (cut : ℕ) (e : cut ≡ cond (ltb s.aligned (length map / 24)) s.aligned s.containing) where
        cut-at : cut ≡ cut_at x m
        cut-at = cut-is x (probe x b) (probe-over x b extent) m s (length map / 24) cut (sym (length-records_of rmaps map)) found e

        contained-so : contained x m ≡ ltb cut (length map / 24)
        contained-so = contained-index x m ∙ rw (← cut-at, length-records_of rmaps map) refl

        pub other-missing : length map / 24 ≤ cut → refused 24 none ≡ other_before26 map x b
        unfolding other_before26 whole
        other-missing h = rw (eq-eqb (length map % 24) 0 whole_is, ordered, extent, contained-so, le-ltb cut (length map / 24) h) refl

        pub other-found : cut < length map / 24 → (o : ℕ) → o ≡ cond (eqb s.first cut) s.second s.first → done o ≡ other_before26 map x b
        unfolding other_before26 whole
        other-found h o eo =
            let q : o ≡ index_but (map_over (probe x b)) (cut_at x m) m =
            other-of (map_over (probe x b)) m cut s.first s.second o found.first found.second eo ∙ ap (λ (i : ℕ). index_but (map_over (probe x b)) i m) cut-at in
            rw (eq-eqb (length map % 24) 0 whole_is, ordered, extent, contained-so, lt-ltb cut (length map / 24) h) (ap done q)
