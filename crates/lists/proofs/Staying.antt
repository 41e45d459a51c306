-- Laws of runs of records that an edit leaves as they are.
-- Assumes nothing.
use Prim.Native.Nat.{ℕ, ◌+◌, ◌-◌, ◌*◌, ◌/◌, ◌^◌, ◌≤◌, ◌<◌, min, max}
use native.Mathlib.Omega.{arith}
use mathlib.Core.Path.{◌≡◌, refl, sym, ap, ap₂, subst, ◌∙◌}
use mathlib.Core.Logic.{inr, ⊎_elim}
use mathlib.Core.Bool.{Bool, true, false, not, ◌&&◌, and-false}
use mathlib.Core.List.{List, [], ◌∷◌, ◌++◌, append-nil, append_assoc}
use lib.Dec.{ltb, leb, eqb}
use lib.ListN.{length, take, drop, length-append, length-take, length-drop, take-append-drop}
use lib.Seq.{take-add, drop-drop}
use borrow.Author.Tests.{lt-ltb, le-ltb, le-leb, lt-leb, ne_eqb}
use Rattle.codec.specs.Bytes.{IsBytes, bytes_at}
use Rattle.codec.specs.Records.{records_of, bytes_of, refcounts}
use Rattle.codec.specs.Refcounts.{staging, end, good, follows}
use Rattle.codec.specs.declared.refcount.Refcount.{Refcount}
use Rattle.codec.proofs.RecordLists.{length-bytes_of, bytes_of-append, length-records_of}
use Rattle.codec.proofs.RecordKinds.{refcounts-lawful}
use Rattle.lists.specs.declared.carried.Joiner.{Joiner}
use Rattle.lists.specs.declared.carried.Carried.{Carried}
use Rattle.lists.specs.Release.{stop, share}
use Rattle.lists.specs.Raise.{full}
use Rattle.lists.specs.Splice.{between}
use Rattle.lists.specs.Inner.Passes.{put_if, pending, goes_on, fresh, changed, changed_from, Room, Cut, Pushed, StepAsks, Stepped, Passable}
use Rattle.lists.specs.Inner.Staying.{Stays, AllStay, behind, Unchanged, skipped, skipped_by, SkipAsks, Skipped}
use Rattle.lists.proofs.Cases.{split, tests}
use Rattle.lists.proofs.Places.{follows-place, follows-least}
use Rattle.lists.proofs.Staged.{unstaged, clear-on, not-staging}
use Rattle.lists.proofs.Puts.{put-put, length-put}
use Rattle.lists.proofs.CountJoins.{pending-some, pending-room, room_for, share-none, push-next, whole-pushed, meets-not}
use Rattle.lists.proofs.FreeGaps.{gap-none}
use Rattle.lists.proofs.Writing.{between-bytes}
use Rattle.lists.proofs.Passing.{next, storable, Passed, Carrying, Rooms, step-asks, carrying-step, rooms-of}

abbrev C : List Refcount → List ℕ
C l = bytes_of refcounts l

-- ---- parts of a list

pub between-empty : (l : List Refcount) (i j : ℕ) → j ≤ i → between l i j ≡ []
between-empty l i j h = let n : j - i ≡ 0 = omega arith in ap (λ (n : ℕ). take n (drop i l)) n

-- one record more
pub between_next : (l : List Refcount) (i j : ℕ) (r : Refcount) (m : List Refcount) → i ≤ j → drop j l ≡ r ∷ m → between l i (j + 1) ≡ between l i j ++ (r ∷ [])
between_next l i j r m h e =
    let n : (j + 1) - i ≡ (j - i) + 1 = omega arith in
    let k : i + (j - i) ≡ j = omega arith in
    ap (λ (n : ℕ). take n (drop i l)) n
    ∙ take-add (j - i) 1 (drop i l)
    ∙ ap (λ (x : List Refcount). between l i j ++ take 1 x) (drop-drop (j - i) i l ∙ ap (λ (n : ℕ). drop n l) k ∙ e)

-- what stands behind it
pub between-rest : (l : List Refcount) (i j : ℕ) → i ≤ j → drop i l ≡ between l i j ++ drop j l
between-rest l i j h =
    let k : i + (j - i) ≡ j = omega arith in
    sym (take-append-drop (j - i) (drop i l)) ∙ ap (λ (x : List Refcount). between l i j ++ x) (drop-drop (j - i) i l ∙ ap (λ (n : ℕ). drop n l) k)

-- the part up to the record before j, and that record
module _ (b : List ℕ) (i j : ℕ) (r : Refcount) (some : i < j) (inside : j ≤ length b / 12) (read : r ≡ refcounts.decode (bytes_at b ((j - 1) * 12) 12)) where
  abbrev records : List Refcount
  records = records_of refcounts b

  last-next : drop (j - 1) records ≡ r ∷ drop j records
  last-next = let k : (j - 1) + 1 ≡ j = omega arith in next b (j - 1) r (omega arith) read ∙ ap (λ (n : ℕ). r ∷ drop n records) k

  pub between-last : between records i j ≡ between records i (j - 1) ++ (r ∷ [])
  between-last =
      let k : j ≡ (j - 1) + 1 = omega arith in
      ap (between records i) k ∙ between_next records i (j - 1) r (drop j records) (omega arith) last-next

  pub length_front : length (C (between records i (j - 1))) ≡ (j - 1 - i) * 12
  length_front =
      let n : length (between records i (j - 1)) ≡ j - 1 - i = simp (length-take, length-drop) (omega (arith, length-records_of refcounts b)) in
      length-bytes_of refcounts refcounts-lawful (between records i (j - 1)) ∙ ap (λ (n : ℕ). n * 12) n

-- ---- a run that stays, record by record

module _ (l : List Refcount) (i z n s high : ℕ) where
  -- z' and n' are those behind the records up to j
  module _ (j z' n' : ℕ) (stay : (m : List Refcount) → AllStay z' n' s high m → AllStay z n s high (between l i j ++ m)) where
    pub stay-next : (r : Refcount) (rest : List Refcount) → i ≤ j → drop j l ≡ r ∷ rest → Stays z' n' s high r
        → (m : List Refcount) → AllStay (stop r) r.refcount s high m → AllStay z n s high (between l i (j + 1) ++ m)
    stay-next r rest h e t m k = rw (between_next l i j r rest h e, append_assoc (between l i j) (r ∷ []) m) (stay (r ∷ m) (t, k))

    pub stay-done : AllStay z n s high (between l i j)
    stay-done = rw (append-nil (between l i j)) at (stay [] tt)

-- ---- one record that stays

stays-good : (z n s high : ℕ) (r : Refcount) → Stays z n s high r → good r ≡ true
unfolding good staging
stays-good z n s high r t =
    let a : stop r ≤ 2 ^ 31 = t.end in
    let b : 0 < r.blockcount = t.some in
    rw (lt-leb (2 ^ 31) r.startblock (omega arith), le-leb (end r) (2 ^ 31) (omega arith), lt-ltb 0 r.blockcount b, le-leb 2 r.refcount t.shared) refl

stays-follows : (q r : Refcount) → Passed q → r.startblock < 2 ^ 32 → stop q ≤ r.startblock → follows q r ≡ true
stays-follows q r p h k = ⊎_elim (λ e. rw e (follows-least r)) (λ g. follows-place q r g.0 g.1 h ∙ le-leb (stop q) r.startblock k) p

apart-goes : (j : Joiner) (z a n : ℕ) → j.start + j.count ≤ z → z ≤ a → (a ≡ z → n ≡ j.owners → ⊥) → goes_on j a n ≡ false
unfolding goes_on
apart-goes j z a n h k q =
    split (eqb (j.start + j.count) a)
    (λ e. let f : j.start + j.count ≡ a = omega tests in
    let g : a ≡ z = omega arith in
    rw (e, ne_eqb j.owners n (λ u. q g (sym u))) (and-false (not (eqb j.count 0))))
    (λ e. rw e (and-false (not (eqb j.count 0))))

-- records from `high` on lie behind the extent, and below 2^31 only once its free blocks are found
abbrev pub Ahead : (e high gap : ℕ) → Type 0
Ahead e high gap = (e ≤ high) × (high ≤ 2 ^ 31 → e ≤ gap)

pub behind-ahead : (gap e : ℕ) → e ≤ 2 ^ 31 → Ahead e (behind gap e) gap
unfolding behind
behind-ahead gap e h = split (leb e gap) (λ t. rw t (omega arith, λ u. omega tests)) (λ t. rw t (omega arith, λ u. absurd (omega arith)))

-- what is carried behind r alone
abbrev one : Carried → Refcount → Carried
one w r = skipped w r (w.joiner.at + length (C (pending w.joiner))) (max w.gap (stop r))

C-append : (p l : List Refcount) → length (C (p ++ l)) ≡ length (C p) + length (C l)
C-append p l = ap length (bytes_of-append refcounts refcounts-lawful p l) ∙ length-append (C p) (C l)

stops-rise : (l : List Refcount) (r : Refcount) (z n s high : ℕ) → AllStay z n s high (l ++ (r ∷ [])) → z ≤ stop r
stops-rise [] r z n s high t = omega (arith, t.0.after)
stops-rise (x ∷ l) r z n s high t = omega (arith, t.0.after, stops-rise l r (stop x) x.refcount s high t.1)

module _ (up write list : Bool) (all : List Refcount) (s e : ℕ) (new₀ free₀ : List ℕ) (free : List ℕ) (rooms : Rooms up write list all s e (length new₀) (length free₀)) (high : ℕ) where
  module _ (new : List ℕ) (w : Carried) (r : Refcount) (m : List Refcount) (carrying : Carrying up write list all s e new₀ free₀ new free w (r ∷ m))
      (ahead : Ahead e high w.gap) (t : Stays (stop w.prev) w.joiner.owners s high r) where
    small : r.startblock < 2 ^ 32
    small = omega (arith, t.end)

    is-good : good r ≡ true
    is-good = stays-good _ _ s high r t

    is-after : follows w.prev r ≡ true
    is-after = stays-follows w.prev r carrying.prev small t.after

    asks : StepAsks up write list s e w r (length new) (length free)
    asks = step-asks up write list all s e new₀ free₀ new free w rooms r (r ∷ m) m refl carrying small t.few is-good is-after

    unmet : (ltb s (stop r) && ltb r.startblock e) ≡ false
    unmet = ⊎_elim (λ h. sym (meets-not r.startblock (stop r) s e h)) (λ h. rw (le-ltb r.startblock e (omega (arith, ahead.0))) (and-false (ltb s (stop r)))) t.off

    no_gap : min r.startblock e ≤ w.gap
    no_gap = ⊎_elim (λ h. omega (arith, carrying.low)) (λ h. omega (arith, ahead.1 (omega (arith, t.end)))) t.off

    -- no block before r is filled
    alone : changed_from up s e w.gap r ≡ changed up s e r
    alone = rw (share-none w.gap (min r.startblock e) (fresh up) no_gap) refl

    cut : Cut up write s e w.joiner r (length new)
    cut =
        record {
          extent = asks.extent;
          end = asks.end;
          fits = asks.fits;
          lies = asks.lies;
          owned = asks.owned;
          behind = asks.behind;
          room = λ u. rw (← alone) (asks.counts u);
        }

    room : Room write w.joiner (length new)
    room = room_for write w.joiner (changed up s e r) (length new) cut.room

    unfilled : full s e r ≡ false
    unfolding full
    unfilled = rw unmet (ap (λ (t : Bool). leb (2 ^ 32 - 1) r.refcount && t) (and-false (not (staging r))) ∙ and-false (leb (2 ^ 32 - 1) r.refcount))

    pub roomy : write ≡ true → 0 < length (C (pending w.joiner)) → w.joiner.at + length (C (pending w.joiner)) ≤ length new
    roomy = pending-room write w.joiner (length new) room

    pushed : Pushed write w.joiner new (changed_from up s e w.gap r) (stop r) (one w r).joiner (put_if write new w.joiner.at (C (pending w.joiner)))
    pushed =
        let q : stop r - r.startblock ≡ r.blockcount = omega arith in
        let c = cut in
        let at : ℕ = w.joiner.at + length (C (pending w.joiner)) in
        let out : List ℕ = put_if write new w.joiner.at (C (pending w.joiner)) in
        rw alone
        (whole-pushed up write s e w.joiner r new c unmet _ _
        (subst (λ (n : ℕ). Pushed write w.joiner new (share r.startblock (stop r) r.refcount) (stop r) (record { start = r.startblock; count = n; owners = r.refcount; at = at }) out) q
        (push-next write w.joiner r.startblock (stop r) r.refcount (omega (arith, t.some)) c.owned c.lies c.fits c.behind new out at room
        (apart-goes w.joiner (stop w.prev) r.startblock r.refcount carrying.behind t.after t.apart) refl refl)))

    stepped : Stepped up write list s e w r new free (one w r) (put_if write new w.joiner.at (C (pending w.joiner))) free
    stepped =
        let f = gap-none list free w.free w.gap (min r.startblock e) no_gap in
        record {
          prev = refl;
          joiner = pushed;
          gap = refl;
          place = f.0;
          bytes = f.1;
          clear = clear-on w.clear _ (sym (unstaged r s e (not-staging r (omega (arith, t.end, t.some)))));
          fit = clear-on w.fit _ unfilled;
        }

    pub by_one : Carrying up write list all s e new₀ free₀ (put_if write new w.joiner.at (C (pending w.joiner))) free (one w r) m
    by_one = carrying-step up write list all s e new₀ free₀ new free w rooms r (r ∷ m) m refl carrying small t.few is-good is-after (one w r) _ free (length-put write new w.joiner.at _ roomy) refl stepped

  -- behind the records l and then r
  pub run_on : (l : List Refcount) (r : Refcount) (m : List Refcount) (new : List ℕ) (w : Carried) → Carrying up write list all s e new₀ free₀ new free w (l ++ (r ∷ m))
      → Ahead e high w.gap → AllStay (stop w.prev) w.joiner.owners s high (l ++ (r ∷ []))
      → Carrying up write list all s e new₀ free₀ (put_if write new w.joiner.at (C (pending w.joiner ++ l))) free (skipped_by w l r) m
  run_on [] r m new w carrying ahead t = rw (append-nil (pending w.joiner)) (by_one new w r m carrying ahead t.0)
  run_on (x ∷ l) r m new w carrying ahead t =
      let step = by_one new w x (l ++ (r ∷ m)) carrying ahead t.0 in
      let at : ℕ = w.joiner.at + length (C (pending w.joiner)) in
      let out : List ℕ = put_if write new w.joiner.at (C (pending w.joiner)) in
      let rest = run_on l r m out (one w x) step (ahead.0, λ u. omega (arith, ahead.1 u)) t.1 in
      let q : pending (one w x).joiner ++ l ≡ x ∷ l = ap (λ (p : List Refcount). p ++ l) (pending-some (one w x).joiner t.0.some) in
      let a : at + length (C (pending (one w x).joiner ++ l)) ≡ w.joiner.at + length (C (pending w.joiner ++ (x ∷ l))) =
      omega (arith, ap (λ (p : List Refcount). length (C p)) q, C-append (pending w.joiner) (x ∷ l)) in
      let g : max (max w.gap (stop x)) (stop r) ≡ max w.gap (stop r) = omega (arith, stops-rise l r (stop x) x.refcount s high t.1) in
      let b : put_if write out at (C (pending (one w x).joiner ++ l)) ≡ put_if write new w.joiner.at (C (pending w.joiner ++ (x ∷ l))) =
      ap (λ (p : List Refcount). put_if write out at (C p)) q
      ∙ put-put write new w.joiner.at at (C (pending w.joiner)) (C (x ∷ l)) (roomy new w x (l ++ (r ∷ m)) carrying ahead t.0) refl
      ∙ ap (put_if write new w.joiner.at) (sym (bytes_of-append refcounts refcounts-lawful (pending w.joiner) (x ∷ l))) in
      subst (λ (o : List ℕ). Carrying up write list all s e new₀ free₀ o free (skipped_by w (x ∷ l) r) m) b
      (subst (λ (n : ℕ). Carrying up write list all s e new₀ free₀ (put_if write out at (C (pending (one w x).joiner ++ l))) free (skipped w r n (max w.gap (stop r))) m) a
      (subst (λ (n : ℕ). Carrying up write list all s e new₀ free₀ (put_if write out at (C (pending (one w x).joiner ++ l))) free (skipped w r (at + length (C (pending (one w x).joiner ++ l))) n) m) g rest))

-- ---- the run as the pass goes by it

pub skipped-some : (write : Bool) (w : Carried) (b : List ℕ) (i j : ℕ) (new new₁ new₂ : List ℕ) (r : Refcount) (at size gap : ℕ) → IsBytes b → i < j → j ≤ length b / 12 → size ≡ (j - 1 - i) * 12
    → (write ≡ true → w.joiner.at + length (C (pending w.joiner)) ≤ length new)
    → r ≡ refcounts.decode (bytes_at b ((j - 1) * 12) 12)
    → at ≡ w.joiner.at + length (C (pending w.joiner)) → new₁ ≡ put_if write new w.joiner.at (C (pending w.joiner))
    → new₂ ≡ put_if write new₁ at (take size (drop (i * 12) b)) → gap ≡ max w.gap (stop r)
    → Skipped write w (between (records_of refcounts b) i j) new (skipped w r (at + size) gap) new₂
unfolding bytes_at
skipped-some write w b i j new new₁ new₂ r at size gap bytes some inside qs room read qa q₁ q₂ qg =
    let f : List Refcount = between (records_of refcounts b) i (j - 1) in
    let p : List Refcount = pending w.joiner in
    let same : take size (drop (i * 12) b) ≡ C f = ap (λ (k : ℕ). take k (drop (i * 12) b)) qs ∙ between-bytes refcounts refcounts-lawful b i (j - 1) (omega arith) (omega arith) bytes in
    let n : length (C f) ≡ (j - 1 - i) * 12 = length_front b i j r some inside read in
    let a : at + size ≡ w.joiner.at + length (C (p ++ f)) = omega (arith, C-append p f) in
    inr (record {
      front = f;
      last = r;
      run = between-last b i j r some inside read;
      carried = ap₂ (skipped w r) a qg;
      bytes =
          q₂
          ∙ ap₂ (λ (o k : List ℕ). put_if write o at k) q₁ same
          ∙ put-put write new w.joiner.at at (C p) (C f) (λ u v. room u) qa
          ∙ ap (put_if write new w.joiner.at) (sym (bytes_of-append refcounts refcounts-lawful p f));
    })

module _ (up write list : Bool) (b : List ℕ) (start count : ℕ) (new₀ free₀ new free : List ℕ) (w : Carried) (ask : Passable up (records_of refcounts b) start count write list (length new₀) (length free₀))
    (bytes : IsBytes b) (i j : ℕ) (order : i ≤ j) (inside : j ≤ length b / 12)
    (carrying : Carrying up write list (records_of refcounts b) start (start + count) new₀ free₀ new free w (drop i (records_of refcounts b)))
    (stay : Unchanged start (start + count) w (between (records_of refcounts b) i j)) where
  rooms : Rooms up write list (records_of refcounts b) start (start + count) (length new₀) (length free₀)
  rooms = rooms-of up write list (records_of refcounts b) start count new₀ free₀ ask (storable b bytes)

  went : (l : List Refcount) (r : Refcount) → between (records_of refcounts b) i j ≡ l ++ (r ∷ [])
      → Carrying up write list (records_of refcounts b) start (start + count) new₀ free₀ (put_if write new w.joiner.at (C (pending w.joiner ++ l))) free (skipped_by w l r) (drop j (records_of refcounts b))
  went l r q =
      let m : List Refcount = drop j (records_of refcounts b) in
      let h : Carrying up write list (records_of refcounts b) start (start + count) new₀ free₀ new free w (l ++ (r ∷ m)) =
      rw (between-rest (records_of refcounts b) i j order, q, append_assoc l (r ∷ []) m) at carrying in
      let t : Unchanged start (start + count) w (l ++ (r ∷ [])) = rw q at stay in
      run_on up write list (records_of refcounts b) start (start + count) new₀ free₀ free rooms (behind w.gap (start + count)) l r m new w h (behind-ahead w.gap (start + count) rooms.end) t

  pub skip-asks : SkipAsks write w i j b (length new)
  skip-asks =
      let r : Refcount = refcounts.decode (bytes_at b ((j - 1) * 12) 12) in
      let f : List Refcount = between (records_of refcounts b) i (j - 1) in
      let p : List Refcount = pending w.joiner in
      record {
        inside = inside;
        fits = carrying.fits;
        place = λ h. let k = went f r (between-last b i j r h inside refl) in omega (arith, k.fits.place, k.fits.lies.end, C-append p f, length_front b i j r h inside refl);
        room =
            λ u h. let k = went f r (between-last b i j r h inside refl) in
            omega (arith, k.counts.size, rooms.counts u, carrying.counts.kept, C-append p f, length_front b i j r h inside refl);
      }

  pub skipped-on : (k : Carried) (new' : List ℕ) → Skipped write w (between (records_of refcounts b) i j) new k new'
      → Carrying up write list (records_of refcounts b) start (start + count) new₀ free₀ new' free k (drop j (records_of refcounts b))
  skipped-on k new' =
      ⊎_elim
      (λ n. let h : Carrying up write list (records_of refcounts b) start (start + count) new₀ free₀ new free w (drop j (records_of refcounts b)) =
      rw (between-rest (records_of refcounts b) i j order, n.0) at carrying in
      rw (n.1, n.2) h)
      (λ g. rw (g.carried, g.bytes) (went g.front g.last g.run))
