-- Laws of one pass over a list, and of a search by halves, over its bytes.
-- Assumes nothing.
use Prim.Native.Nat.{ℕ, zero, suc, ◌+◌, ◌-◌, ◌*◌, ◌/◌, ◌≤◌, ◌<◌}
use native.Mathlib.Omega.{arith}
use native.Mathlib.Nat.{zero-mul}
use mathlib.Core.Path.{◌≡◌, refl, sym, ap, ◌∙◌}
use mathlib.Core.Bool.{Bool, true, false, not, ◌&&◌}
use mathlib.Core.List.{List, [], ◌∷◌}
use lib.Dec.{ltb, leb, eqb}
use lib.ListN.{length, get_or, take, drop}
use lib.Seq.{drop-drop}
use Rattle.std.specs.List.Sorted.{IsPartitionedBy, IsPartitionPoint}
use Rattle.std.specs.Simd.{first_chunks}
use borrow.Author.Tests.{le-leb, lt-ltb, le-ltb}
use Rattle.codec.specs.Bytes.{bytes_at}
use Rattle.codec.specs.Records.{records_of, rmaps}
use Rattle.codec.specs.Accepted.{in_order}
use Rattle.codec.specs.Rmaps.{end, key_offset, before, good, follows, least, accepted}
use Rattle.codec.specs.declared.rmap.Rmap.{Rmap}
use Rattle.std.specs.Prelude.{Some}
use Rattle.codec.proofs.ListOrder.{order-bad, order-low, order-pass}
use Rattle.codec.proofs.RecordLists.{length-records_of, get_d-records_of}
use Rattle.lists.specs.declared.splice.Edit.{Edit}
use Rattle.lists.specs.declared.splice.Edit.TheVariants.{Insert, InsertShared, Remove}
use Rattle.lists.specs.declared.findings.Hits.{Hits}
use Rattle.lists.specs.declared.findings.Scan.{Scan}
use Rattle.lists.specs.RmapEdits.{index_where, continues, overlaps, clash, contains}
use Rattle.lists.specs.Inner.Searches.{seat, touches, tests, Noted, ScanIs}
use Rattle.lists.proofs.Cases.{split, tests as facts, and_l, and_r, and-true}
use Rattle.lists.proofs.Found.{overlaps-ends, contains-ends, continues-end}
use Rattle.lists.proofs.Index.{index-le, index_same, note-none, seen, seen_none, seen-le, seen_next, seen_all}
use Rattle.lists.proofs.RmapOrder.{accepted-facts}
use Rattle.lists.proofs.Seats.{below, seat-past, seat-at}

-- ---- what a record passes

-- no search finds it
abbrev none_hit : Hits
none_hit = record { conflict = false; before = false; after = false; aligned = false; containing = false }

-- ---- a record that does not touch x

module _ (x r : Rmap) where
  module _ (apart : touches x r ≡ false) where
    apart-ends : x.startblock ≤ end r → r.startblock ≤ end x → ⊥
    unfolding touches
    apart-ends a b =
        let t : (leb x.startblock (end r) && leb r.startblock (end x)) ≡ true = and-true _ _ (le-leb _ _ a) (le-leb _ _ b) in
        let z : ◌≡◌ {A = ℕ} 0 1 = cc in omega arith

    never : (t : Bool) → (t ≡ true → (x.startblock ≤ end r) × (r.startblock ≤ end x)) → t ≡ false
    never t f = split t (λ e. let k = f e in absurd (apart-ends k.0 k.1)) (λ e. e)

    apart-overlaps : overlaps x r ≡ false
    apart-overlaps = never (overlaps x r) (λ e. let h = overlaps-ends x r e in (omega arith, omega arith))

    pub tests-apart : (e : Edit) → tests e x r ≡ none_hit
    unfolding tests clash
    tests-apart Insert = rw apart-overlaps refl
    tests-apart InsertShared =
        rw (
          apart-overlaps,
          never (continues r x) (λ e. let h = continues-end r x e in (omega arith, omega arith)),
          never (continues x r) (λ e. let h = continues-end x r e in (omega arith, omega arith)),
        ) refl
    tests-apart Remove = rw (never (contains x r) (λ e. let h = contains-ends x r e in (omega arith, omega arith))) refl

pub noted-apart : (e : Edit) (x r : Rmap) (s : Scan) (i n : ℕ) → touches x r ≡ false → (s.conflict ≤ n) × (s.before ≤ n) × (s.after ≤ n) × (s.aligned ≤ n) × (s.containing ≤ n) → Noted (tests e x r) i n s s
noted-apart e x r s i n t h =
    rw (tests-apart x r t e)
    (record {
      conflict = note-none s.conflict n i h.0;
      before = note-none s.before n i h.1;
      after = note-none s.after n i h.2;
      aligned = note-none s.aligned n i h.3;
      containing = note-none s.containing n i h.4;
    })

-- ---- the record read

pub read_at : (b : List ℕ) (i : ℕ) (r : Rmap) → i < length b / 24 → r ≡ rmaps.decode (bytes_at b (i * 24) 24) → r ≡ get_or (records_of rmaps b) i least
read_at b i r h e = e ∙ sym (get_d-records_of rmaps b i least h)

-- ---- one pass

-- each search has found what there is among the first i records
pub record Seen (e : Edit) (x : Rmap) (b : List ℕ) (i : ℕ) (s : Scan) : Type 0 where
  pub conflict : s.conflict ≡ seen (index_where (λ r. (tests e x r).conflict) (records_of rmaps b)) i (length b / 24)
  pub before : s.before ≡ seen (index_where (λ r. (tests e x r).before) (records_of rmaps b)) i (length b / 24)
  pub after : s.after ≡ seen (index_where (λ r. (tests e x r).after) (records_of rmaps b)) i (length b / 24)
  pub aligned : s.aligned ≡ seen (index_where (λ r. (tests e x r).aligned) (records_of rmaps b)) i (length b / 24)
  pub containing : s.containing ≡ seen (index_where (λ r. (tests e x r).containing) (records_of rmaps b)) i (length b / 24)

pub scan-start : (e : Edit) (x : Rmap) (b : List ℕ) → Seen e x b 0 (record { conflict = length b / 24; before = length b / 24; after = length b / 24; aligned = length b / 24; containing = length b / 24 })
scan-start e x b = record { conflict = seen_none _ _; before = seen_none _ _; after = seen_none _ _; aligned = seen_none _ _; containing = seen_none _ _ }

module _ (e : Edit) (x : Rmap) (b : List ℕ) (i : ℕ) (s : Scan) (found : Seen e x b i s) where
  pub scan-room : i ≤ length b / 24 → (s.conflict ≤ length b / 24) × (s.before ≤ length b / 24) × (s.after ≤ length b / 24) × (s.aligned ≤ length b / 24) × (s.containing ≤ length b / 24)
  scan-room h = (seen-le _ i _ _ h found.conflict, seen-le _ i _ _ h found.before, seen-le _ i _ _ h found.after, seen-le _ i _ _ h found.aligned, seen-le _ i _ _ h found.containing)

  -- one record more
  pub scan-next : (r : Rmap) (k : Scan) → i < length b / 24 → r ≡ rmaps.decode (bytes_at b (i * 24) 24) → Noted (tests e x r) i (length b / 24) s k → Seen e x b (i + 1) k
  scan-next r k h d t =
      let n = sym (length-records_of rmaps b) in
      let q = read_at b i r h d in
      record {
        conflict = seen_next (λ r. (tests e x r).conflict) (records_of rmaps b) i (length b / 24) _ _ r n h q found.conflict t.conflict;
        before = seen_next (λ r. (tests e x r).before) (records_of rmaps b) i (length b / 24) _ _ r n h q found.before t.before;
        after = seen_next (λ r. (tests e x r).after) (records_of rmaps b) i (length b / 24) _ _ r n h q found.after t.after;
        aligned = seen_next (λ r. (tests e x r).aligned) (records_of rmaps b) i (length b / 24) _ _ r n h q found.aligned t.aligned;
        containing = seen_next (λ r. (tests e x r).containing) (records_of rmaps b) i (length b / 24) _ _ r n h q found.containing t.containing;
      }

  pub scan-end : length b / 24 ≤ i → accepted (records_of rmaps b) ≡ true → ScanIs e x (records_of rmaps b) (Some s)
  scan-end h a =
      let n = sym (length-records_of rmaps b) in (
        a,
        record {
          conflict = found.conflict ∙ seen_all (λ r. (tests e x r).conflict) (records_of rmaps b) i (length b / 24) n h;
          before = found.before ∙ seen_all (λ r. (tests e x r).before) (records_of rmaps b) i (length b / 24) n h;
          after = found.after ∙ seen_all (λ r. (tests e x r).after) (records_of rmaps b) i (length b / 24) n h;
          aligned = found.aligned ∙ seen_all (λ r. (tests e x r).aligned) (records_of rmaps b) i (length b / 24) n h;
          containing = found.containing ∙ seen_all (λ r. (tests e x r).containing) (records_of rmaps b) i (length b / 24) n h;
        },
      )

-- the order at one record more
module _ (b : List ℕ) (i : ℕ) (q r : Rmap) (inside : i < length b / 24) (read : r ≡ rmaps.decode (bytes_at b (i * 24) 24)) where
  pub order-stops : (good r && follows q r) ≡ false → in_order good follows q (drop i (records_of rmaps b)) ≡ false
  order-stops h =
      split (good r)
      (λ g. order-low rmaps good follows b i q r inside read g (rw g at h))
      (λ g. order-bad rmaps good follows b i q r inside read g)

  pub order-goes-on : (good r && follows q r) ≡ true → in_order good follows q (drop i (records_of rmaps b)) ≡ in_order good follows r (drop (i + 1) (records_of rmaps b))
  order-goes-on h = order-pass rmaps good follows b i q r inside read (and_l (good r) (follows q r) h) (and_r (good r) (follows q r) h)

-- ---- the place of a record

take-twice : (n : ℕ) (l : List ℕ) → take n (take n l) ≡ take n l
take-twice zero l = refl
take-twice (suc n) [] = refl
take-twice (suc n) (x ∷ l) = ap (λ (m : List ℕ). x ∷ m) (take-twice n l)

-- a chunk of a list, as a call reads it
chunk-bytes : (s n i : ℕ) (b d : List ℕ) → i < n → bytes_at (get_or (first_chunks s n b) i d) 0 s ≡ bytes_at b (i * s) s
unfolding bytes_at
chunk-bytes s zero i b d h = absurd (omega arith)
chunk-bytes s (suc n) zero b d h = rw (zero-mul s) (take-twice s b)
chunk-bytes s (suc n) (suc i) b d h =
    let e : s + i * s ≡ suc i * s = omega arith in
    chunk-bytes s n i (drop s b) d (omega arith) ∙ ap (take s) (drop-drop (i * s) s b ∙ ap (λ (k : ℕ). drop k b) e)

module _ (b : List ℕ) (z : Rmap) (order : accepted (records_of rmaps b) ≡ true) (cs : List (List ℕ)) (e : cs ≡ first_chunks 24 (length b / 24) b) (long : length cs ≡ length b / 24) where
  -- does a chunk's record stand before z?
  abbrev pub stands_before : List ℕ → Bool
  stands_before c = before (rmaps.decode (bytes_at c 0 24)) z

  chunk-is : (i : ℕ) (d : List ℕ) → i < length cs → rmaps.decode (bytes_at (get_or cs i d) 0 24) ≡ get_or (records_of rmaps b) i least
  chunk-is i d h =
      read_at b i (rmaps.decode (bytes_at (get_or cs i d) 0 24)) (omega arith) (ap rmaps.decode (rw e (chunk-bytes 24 (length b / 24) i b d (omega arith))))

  -- those that do come first
  pub parted : IsPartitionedBy stands_before cs
  parted i j d k h t =
      let u : before (get_or (records_of rmaps b) j least) z ≡ true = rw (chunk-is j d h) at t in
      split (before (get_or (records_of rmaps b) i least) z)
      (λ f. rw (chunk-is i d (omega arith)) f)
      (λ f. let v : before (get_or (records_of rmaps b) j least) z ≡ false =
      below z (records_of rmaps b) i j (accepted-facts (records_of rmaps b) order) k (omega (arith, length-records_of rmaps b)) f in
      let y : ◌≡◌ {A = ℕ} 0 1 = cc in absurd (omega arith))

  -- so the place of z is where they end
  pub seat-parted : (r : ℕ) → r ≤ length cs → IsPartitionPoint (λ c. stands_before c ≡ true) (λ c. stands_before c ≡ false) cs r → r ≡ seat z (records_of rmaps b)
  seat-parted r h p =
      let n = length-records_of rmaps b in
      let low : r ≤ seat z (records_of rmaps b) =
      split (ltb 0 r)
      (λ f. let m : r - 1 < length cs = omega facts in
      let t : before (get_or (records_of rmaps b) (r - 1) least) z ≡ true = rw (chunk-is (r - 1) [] m) at (p.0 (r - 1) [] (omega arith) (omega facts)) in
      let u = seat-past z (records_of rmaps b) (r - 1) (accepted-facts (records_of rmaps b) order) (omega arith) t in omega facts)
      (λ f. omega facts) in
      let high : seat z (records_of rmaps b) ≤ r =
      split (ltb r (length cs))
      (λ f. let m : r < length cs = omega facts in
      let t : before (get_or (records_of rmaps b) r least) z ≡ false = rw (chunk-is r [] m) at (p.1 r [] (omega arith) m) in
      seat-at z (records_of rmaps b) r (omega arith) t)
      (λ f. let k = index-le (follows z) (records_of rmaps b) in omega facts) in
      omega arith

none_below : (n : ℕ) → ltb n 0 ≡ false
none_below n = le-ltb n 0 (omega arith)

-- what starts one block after x, with the lowest owner and offset
abbrev pub beyond : Rmap → Rmap
beyond x = record { startblock = x.startblock + 1; blockcount = 0; owner = 0; offset = 0 }

follows-beyond : (x r : Rmap) → follows (beyond x) r ≡ ltb x.startblock r.startblock
unfolding follows before key_offset
follows-beyond x r =
    split (eqb r.startblock (x.startblock + 1))
    (λ e. rw (e, lt-ltb x.startblock r.startblock (omega facts))
    (split (eqb r.owner 0) (λ f. rw f (ap not (none_below (key_offset r.offset)))) (λ f. rw f (ap not (none_below r.owner)))))
    (λ e. rw e
    (split (ltb r.startblock (x.startblock + 1))
    (λ f. rw (f, le-ltb x.startblock r.startblock (omega facts)) refl)
    (λ f. rw (f, lt-ltb x.startblock r.startblock (omega facts)) refl)))

-- its place is the first record that starts after x
pub seat-beyond : (x : Rmap) (l : List Rmap) → seat (beyond x) l ≡ index_where (λ r. ltb x.startblock r.startblock) l
seat-beyond x l = index_same (follows (beyond x)) (λ r. ltb x.startblock r.startblock) l (follows-beyond x)
