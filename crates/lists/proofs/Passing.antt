-- Laws of a pass along the counts: what holds between two records, what one record more does, and the answer at each exit.
-- Assumes nothing.
use Prim.Native.Nat.{ℕ, ◌+◌, ◌*◌, ◌/◌, ◌^◌, ◌≤◌, ◌<◌, min, max}
use native.Mathlib.Omega.{arith}
use mathlib.Core.Path.{◌≡◌, refl, sym, ap, ◌∙◌}
use mathlib.Core.Logic.{◌⊎◌, inl, inr, ⊎_elim}
use mathlib.Core.Bool.{Bool, true, false, not, ◌&&◌}
use mathlib.Core.List.{List, [], ◌∷◌, ◌++◌, append-nil}
use lib.Dec.{ltb, leb}
use native.Mathlib.Numerals.{add-one}
use lib.ListN.{length, drop, drop_of_length-le}
use borrow.Author.Tests.{le-leb}
use Rattle.codec.specs.Bytes.{IsBytes, bytes_at}
use Rattle.codec.specs.Records.{records_of, bytes_of, refcounts, free_extents, AllStorable}
use Rattle.codec.specs.Accepted.{in_order}
use Rattle.codec.specs.Refcounts.{staging, block, end, good, follows, least, accepted}
use Rattle.codec.specs.declared.check.ListRefusal.TheVariants.{ExtentOrder}
use Rattle.codec.specs.declared.refcount.Refcount.{Refcount}
use Rattle.codec.specs.declared.free_extent.FreeExtent.{FreeExtent}
use Rattle.codec.proofs.Parts.{length-bytes_at}
use Rattle.codec.proofs.FieldLists.{IsBytes-take, IsBytes-drop}
use Rattle.codec.proofs.RecordLists.{length-records_of, records_of-next, storable-first_records}
use Rattle.codec.proofs.RecordKinds.{refcounts-lawful}
use Rattle.lists.specs.declared.EditRefusal.TheVariants as why
use Rattle.std.specs.Prelude.{Ok, Err}
use Rattle.lists.specs.declared.carried.Joiner.{Joiner}
use Rattle.lists.specs.declared.carried.Carried.{Carried}
use Rattle.lists.specs.Release.{stop, clear, join_all, share}
use Rattle.lists.specs.Raise.{full, owners_fit}
use Rattle.lists.specs.Inner.Passes.{fit_if, pass_outcome, Passable, put_if, gap_of, pending, join_on, fresh, changed_from, change_all, begun, Lies, Fits, Room, Pushed, StepAsks, Stepped, PassIs}
use Rattle.lists.proofs.Cases.{tests, and-true, and-on}
use Rattle.lists.proofs.Places.{good_place, accepted_from, good-place, follows-place}
use Rattle.lists.proofs.Counts.{OfKind, shared, staged, Good, from-facts, accepted-facts}
use Rattle.lists.proofs.Runs.{gaps, unshared-gaps}
use Rattle.lists.proofs.Puts.{put-done, Going, going_start, going-put, going-room, going_end}
use Rattle.lists.proofs.CountJoins.{join_on-nil, join_on-more, room_for}
use Rattle.lists.proofs.Changes.{counts_after-is}
use Rattle.lists.proofs.FreeGaps.{gap-place, gaps-step, gaps-end}

pub no : {P : Type 0} → false ≡ true → P
no e = absurd (let y : ◌≡◌ {A = ℕ} 0 1 = cc in omega arith)

abbrev C : List Refcount → List ℕ
C l = bytes_of refcounts l

abbrev F : List FreeExtent → List ℕ
F l = bytes_of free_extents l

-- ---- the records of a list of bytes, one after another

module _ (b : List ℕ) (i : ℕ) where
  module _ (r : Refcount) (inside : i < length b / 12) (read : r ≡ refcounts.decode (bytes_at b (i * 12) 12)) where
    pub next : drop i (records_of refcounts b) ≡ r ∷ drop (i + 1) (records_of refcounts b)
    next = rw (read, add-one, records_of-next refcounts b i inside) refl

    pub small : IsBytes b → (r.startblock < 2 ^ 32) × (r.refcount < 2 ^ 32)
    unfolding bytes_at
    small h =
        let s = refcounts-lawful.storable-decode (bytes_at b (i * 12) 12) (length-bytes_at b (i * 12) 12 (omega arith)) (IsBytes-take 12 (drop (i * 12) b) (IsBytes-drop (i * 12) b h)) in
        rw read (s.startblock, s.refcount)

  pub no_more : length b / 12 ≤ i → drop i (records_of refcounts b) ≡ []
  no_more h = drop_of_length-le (records_of refcounts b) {i = i} (rw (length-records_of refcounts b) h)

pub storable : (b : List ℕ) → IsBytes b → AllStorable refcounts (records_of refcounts b)
unfolding records_of
storable b h = storable-first_records refcounts refcounts-lawful (length b / 12) b (omega arith) h

-- ---- what 21 says of a record

good-facts : (r : Refcount) → good_place r ≡ true → Good r
unfolding accepted_from
good-facts r g = (from-facts 0 (r ∷ []) (and-true _ _ g (and-true _ _ (le-leb 0 r.startblock (omega arith)) refl))).0

record-lies : (r : Refcount) → Good r → r.refcount < 2 ^ 32 → Lies r.startblock (stop r) r.refcount × (0 < r.refcount)
record-lies r g n = go g.1
  where
    go : OfKind r → Lies r.startblock (stop r) r.refcount × (0 < r.refcount)
    go (shared p q) = (record { end = omega arith; owners = n; shared = λ u. p; staging = λ u. absurd (omega arith) }, omega arith)
    go (staged p q t) = (record { end = q; owners = n; shared = λ u. absurd (omega arith); staging = λ u. p }, omega arith)

-- the least record, or one that passed
abbrev pub Passed : Refcount → Type 0
Passed q = (q ≡ least) ⊎ ((good_place q ≡ true) × (q.startblock < 2 ^ 32))

follows-stop : (q r : Refcount) → Passed q → r.startblock < 2 ^ 32 → follows q r ≡ true → stop q ≤ r.startblock
follows-stop q r p h f =
    ⊎_elim (λ e. rw e (omega arith))
    (λ g. let t : leb (stop q) r.startblock ≡ true = sym (follows-place q r g.0 g.1 h) ∙ f in omega tests)
    p

and_assoc : (a b c : Bool) → (a && (b && c)) ≡ ((a && b) && c)
and_assoc true b c = refl
and_assoc false b c = refl

-- ---- between two records: l are those to come

pub record Carrying (up write list : Bool) (all : List Refcount) (s e : ℕ) (new₀ free₀ new₁ free₁ : List ℕ) (w : Carried) (l : List Refcount) : Type 0 where
  pub order : accepted all ≡ in_order good follows w.prev l
  pub clear : clear s e all ≡ (w.clear && clear s e l)
  pub fit : owners_fit s e all ≡ (w.fit && owners_fit s e l)
  pub prev : Passed w.prev
  pub fits : Fits w.joiner
  pub behind : w.joiner.start + w.joiner.count ≤ stop w.prev
  pub counts : Going write (C (join_all (change_all up s e s all))) new₀ new₁ w.joiner.at (C (join_on w.joiner (change_all up s e w.gap l)))
  pub low : s ≤ w.gap
  pub past : stop w.prev ≤ w.gap
  pub gap : w.gap ≤ 2 ^ 32
  pub place : w.free ≤ 8 * w.gap
  pub extents : Going list (bytes_of free_extents (gaps s e all)) free₀ free₁ w.free (bytes_of free_extents (gaps w.gap e l))

pub carrying-start : (up write list : Bool) (all : List Refcount) (s e : ℕ) (new free : List ℕ) (w : Carried) → w ≡ begun s → s ≤ 2 ^ 32
    → Carrying up write list all s e new free new free w all
unfolding join_on
carrying-start up write list all s e new free w q h =
    rw q (record {
      order = refl;
      clear = refl;
      fit = refl;
      prev = inl refl;
      fits =
          record {
            lies = record { end = omega arith; owners = omega arith; shared = λ u. absurd (omega arith); staging = λ u. absurd (omega arith) };
            count = omega arith;
            place = omega arith;
          };
      behind = omega arith;
      counts = going_start write _ new _ refl;
      low = omega arith;
      past = omega arith;
      gap = h;
      place = omega arith;
      extents = going_start list _ free _ refl;
    })

-- what was lent has room where it is written
pub record Rooms (up write list : Bool) (all : List Refcount) (s e room free_room : ℕ) : Type 0 where
  pub extent : s ≤ e
  pub end : e ≤ 2 ^ 31
  pub counts : write ≡ true → length (C (join_all (change_all up s e s all))) ≤ room
  pub extents : list ≡ true → length (bytes_of free_extents (gaps s e all)) ≤ free_room

module _ (up write list : Bool) (all : List Refcount) (s e : ℕ) (new₀ free₀ new free : List ℕ) (w : Carried) (rooms : Rooms up write list all s e (length new₀) (length free₀)) where
  module _ (r : Refcount) (l m : List Refcount) (q : l ≡ r ∷ m) (carrying : Carrying up write list all s e new₀ free₀ new free w l)
      (small : r.startblock < 2 ^ 32) (few : r.refcount < 2 ^ 32) (g : good r ≡ true) (f : follows w.prev r ≡ true) where
    inv : Carrying up write list all s e new₀ free₀ new free w (r ∷ m)
    inv = rw q at carrying

    placed : good_place r ≡ true
    placed = sym (good-place r small) ∙ g

    -- the records to come behind r
    abbrev rest : List Refcount
    rest = change_all up s e (max w.gap (stop r)) m

    change-more : C (join_on w.joiner (change_all up s e w.gap (r ∷ m))) ≡ C (join_on w.joiner (changed_from up s e w.gap r ++ rest))
    unfolding change_all
    change-more = refl

    pub step-asks : StepAsks up write list s e w r (length new) (length free)
    step-asks =
        let lies = record-lies r (good-facts r placed) few in
        let after = follows-stop w.prev r inv.prev small f in
        record {
          extent = rooms.extent;
          end = rooms.end;
          fits = inv.fits;
          lies = lies.0;
          owned = lies.1;
          behind = omega (arith, inv.behind);
          gap = omega (arith, inv.behind, inv.past);
          counts = λ u. omega (arith, rooms.counts u, inv.counts.kept, inv.counts.size, ap length change-more, join_on-more w.joiner (changed_from up s e w.gap r) rest);
          place = omega (arith, inv.place, inv.gap);
          room = going-room list _ free₀ free w.free _ (F (gap_of w.gap (min r.startblock e))) (F (gaps (max w.gap (stop r)) e m)) inv.extents (gaps-step w.gap e r m) rooms.extents;
        }

    pub carrying-step : (k : Carried) (new' free' : List ℕ) → length new' ≡ length new → length free' ≡ length free → Stepped up write list s e w r new free k new' free'
        → Carrying up write list all s e new₀ free₀ new' free' k m
    unfolding in_order clear owners_fit change_all
    carrying-step k new' free' hn hf t =
        let lies = record-lies r (good-facts r placed) few in
        let b = t.joiner in
        record {
          order = rw t.prev (inv.order ∙ rw (g, f) refl);
          clear = rw t.clear (inv.clear ∙ and_assoc w.clear (not (staging r && (ltb (block r) e && ltb s (end r)))) (clear s e m));
          fit = rw t.fit (inv.fit ∙ and_assoc w.fit (not (full s e r)) (owners_fit s e m));
          prev = rw t.prev (inr (placed, small));
          fits = b.fits;
          behind = rw t.prev b.behind;
          counts =
              rw t.gap
              (record {
                kept = omega (arith, inv.counts.kept);
                size = omega (arith, b.size rest, inv.counts.size);
                bytes = b.bytes rest ∙ inv.counts.bytes;
              });
          low = omega (arith, t.gap, inv.low);
          past = rw t.prev (omega (arith, t.gap));
          gap = omega (arith, t.gap, inv.gap, lies.0.end);
          place = rw (t.place, t.gap) (gap-place w.gap (min r.startblock e) (stop r) w.free inv.place (omega arith));
          extents = rw t.gap (going-put list _ free₀ free w.free _ (F (gap_of w.gap (min r.startblock e))) (F (gaps (max w.gap (stop r)) e m)) inv.extents (gaps-step w.gap e r m) rooms.extents free' k.free t.place t.bytes hf);
        }

  -- behind the last record
  module _ (l : List Refcount) (q : l ≡ []) (carrying : Carrying up write list all s e new₀ free₀ new free w l) where
    last : Carrying up write list all s e new₀ free₀ new free w []
    last = rw q at carrying

    pub last-accepted : accepted all ≡ true
    unfolding in_order
    last-accepted = last.order

    pub last-clear : (t : Bool) → w.clear ≡ t → clear s e all ≡ t
    unfolding clear
    last-clear t h = last.clear ∙ rw h (and-on t)

    -- 28 fails where there are too many owners
    pub last_fit : fit_if up s e all ≡ not (up && not w.fit)
    unfolding owners_fit
    last_fit = go up w.fit (last.fit ∙ and-on w.fit)
      where
        go : (u t : Bool) → owners_fit s e all ≡ t → fit_if u s e all ≡ not (u && not t)
        go false t h = refl
        go true true h = h
        go true false h = h

    left : change_all up s e w.gap [] ≡ share w.gap e (fresh up) ++ []
    unfolding change_all
    left = sym (append-nil (share w.gap e (fresh up)))

    ahead : Going write (C (join_all (change_all up s e s all))) new₀ new w.joiner.at (C (join_on w.joiner (share w.gap e (fresh up) ++ [])))
    ahead = rw left at last.counts

    pub fill-asks : ((e ≤ 2 ^ 31) × (w.joiner.start + w.joiner.count ≤ w.gap)) × (Fits w.joiner × Room write w.joiner (length new))
    fill-asks = (
      (rooms.end, omega (arith, last.behind, last.past)),
      (last.fits, room_for write w.joiner (share w.gap e (fresh up) ++ []) (length new) (λ u. omega (arith, rooms.counts u, ahead.kept, ahead.size))),
    )

    module _ (j : Joiner) (z : ℕ) (new₁ : List ℕ) (n₁ : length new₁ ≡ length new) (p : Pushed write w.joiner new (share w.gap e (fresh up)) z j new₁) where
      filled : Going write (C (join_all (change_all up s e s all))) new₀ new₁ j.at (C (join_on j []))
      filled = record { kept = omega (arith, ahead.kept); size = omega (arith, p.size [], ahead.size); bytes = p.bytes [] ∙ ahead.bytes }

      pub finish-asks : Fits j × Room write j (length new₁)
      finish-asks = (p.fits, room_for write j [] (length new₁) (λ u. omega (arith, rooms.counts u, filled.kept, filled.size)))

      pub finish-done : (n : ℕ) (new' : List ℕ) → n ≡ j.at + length (C (pending j)) → new' ≡ put_if write new₁ j.at (C (pending j))
          → (n ≡ length (C (join_all (change_all up s e s all)))) × (new' ≡ put_if write new₀ 0 (C (join_all (change_all up s e s all))))
      finish-done n new' h b = going_end write _ new₀ new₁ new' j.at n _ _ filled (ap C (join_on-nil j)) h b

    pub gap-asks : ((w.free ≤ 2 ^ 36) × (e ≤ 2 ^ 31)) × (list ≡ true → w.free + length (bytes_of free_extents (gap_of w.gap e)) ≤ length free)
    gap-asks = (
      (omega (arith, last.place, last.gap), rooms.end),
      λ u. omega (arith, rooms.extents u, last.extents.kept, last.extents.size, ap length (gaps-end w.gap e)),
    )

    pub gap-done : (n : ℕ) (free' : List ℕ) → n ≡ w.free + length (bytes_of free_extents (gap_of w.gap e)) → free' ≡ put_if list free w.free (bytes_of free_extents (gap_of w.gap e))
        → (n ≡ length (bytes_of free_extents (gaps s e all))) × (free' ≡ put_if list free₀ 0 (bytes_of free_extents (gaps s e all)))
    gap-done n free' h b = going_end list _ free₀ free free' w.free n _ _ last.extents (gaps-end w.gap e) h b

-- the gap before a record is filled
module _ (up write list : Bool) (s e : ℕ) (w : Carried) (r : Refcount) (new : List ℕ) (free_room : ℕ) (ask : StepAsks up write list s e w r (length new) free_room)
    (z : ℕ) (qz : z ≡ min r.startblock e) where
  pub fill-before : ((z ≤ 2 ^ 31) × (w.joiner.start + w.joiner.count ≤ w.gap)) × (Fits w.joiner × Room write w.joiner (length new))
  fill-before = (
    (omega (arith, ask.end), ask.gap),
    (ask.fits, room_for write w.joiner (changed_from up s e w.gap r) (length new) ask.counts),
  )

-- ---- the answer at each exit

module _ (up write list : Bool) (all : List Refcount) (start count : ℕ) (new₀ free₀ : List ℕ) (ask : Passable up all start count write list (length new₀) (length free₀)) where
  never : {P : Type 0} (t : Bool) → t ≡ true → t ≡ false → P
  never t a b = let z : ◌≡◌ {A = Bool} true false = sym a ∙ b in absurd (let y : ◌≡◌ {A = ℕ} 0 1 = cc in omega arith)

  pub rooms-of : AllStorable refcounts all → Rooms up write list all start (start + count) (length new₀) (length free₀)
  rooms-of h =
      record {
        extent = omega arith;
        end = ask.end;
        counts =
            λ u. let k = accepted-facts all h (ask.accepted u) in
            rw (counts_after-is up start (start + count) all (omega arith) ask.end k (ask.owners u)) at (ask.counts u);
        extents =
            λ u. let k = accepted-facts all h (ask.accepted (ask.listed u)) in
            rw (unshared-gaps all start count k ask.end) at (ask.free u);
      }

  module _ (new' free' : List ℕ) where
    pub told-order : accepted all ≡ false → PassIs up write list all start count (Err (why.List ExtentOrder)) new₀ new' free₀ free'
    unfolding pass_outcome
    told-order h = record { said = rw h refl; counts = λ u. never _ (ask.accepted u) h; extents = λ u. never _ (ask.accepted (ask.listed u)) h }

    module _ (h : accepted all ≡ true) where
      pub told-staging : clear start (start + count) all ≡ false → PassIs up write list all start count (Err why.Staging) new₀ new' free₀ free'
      unfolding pass_outcome
      told-staging k = record { said = rw (h, k) refl; counts = λ u. never _ (ask.clear u) k; extents = λ u. never _ (ask.clear (ask.listed u)) k }

      module _ (k : clear start (start + count) all ≡ true) where
        pub told-owners : fit_if up start (start + count) all ≡ false → PassIs up write list all start count (Err why.Owners) new₀ new' free₀ free'
        unfolding pass_outcome
        told-owners o = record { said = rw (h, k, o) refl; counts = λ u. never _ (ask.owners u) o; extents = λ u. never _ (ask.owners (ask.listed u)) o }

        pub told-done : (n m : ℕ) → AllStorable refcounts all → fit_if up start (start + count) all ≡ true
            → (n ≡ length (C (join_all (change_all up start (start + count) start all)))) × (new' ≡ put_if write new₀ 0 (C (join_all (change_all up start (start + count) start all))))
            → (m ≡ length (bytes_of free_extents (gaps start (start + count) all))) × (free' ≡ put_if list free₀ 0 (bytes_of free_extents (gaps start (start + count) all)))
            → PassIs up write list all start count (Ok (record { counts = n; free = m })) new₀ new' free₀ free'
        unfolding pass_outcome
        told-done n m st o a b =
            let facts = accepted-facts all st h in
            let p = counts_after-is up start (start + count) all (omega arith) ask.end facts o in
            let q = unshared-gaps all start count facts ask.end in
            record {
              said = rw (h, k, o, p, q, a.0, b.0) refl;
              counts = λ u. rw p (put-done write new₀ new' 0 _ a.1 u);
              extents = λ u. rw q (put-done list free₀ free' 0 _ b.1 u);
            }

-- ---- what the pass asks, of each step

module _ (l : List Refcount) (start count room free_room : ℕ) where
  -- the first step writes nothing
  pub asks-measured : (up : Bool) → start + count ≤ 2 ^ 31 → Passable up l start count false false room free_room
  asks-measured up h = record { end = h; listed = λ u. u; accepted = no; clear = no; owners = no; counts = no; free = no }

-- ---- the next record of the counts b

module _ (up write list : Bool) (b : List ℕ) (start count : ℕ) (new₀ free₀ new free : List ℕ) (w : Carried) (ask : Passable up (records_of refcounts b) start count write list (length new₀) (length free₀))
    (bytes : IsBytes b) (i : ℕ) (r : Refcount) (inside : i < length b / 12) (read : r ≡ refcounts.decode (bytes_at b (i * 12) 12))
    (carrying : Carrying up write list (records_of refcounts b) start (start + count) new₀ free₀ new free w (drop i (records_of refcounts b)))
    (g : good r ≡ true) (f : follows w.prev r ≡ true) where
  pub next-asks : StepAsks up write list start (start + count) w r (length new) (length free)
  next-asks =
      let fit = small b i r inside read bytes in
      step-asks up write list (records_of refcounts b) start (start + count) new₀ free₀ new free w (rooms-of up write list (records_of refcounts b) start count new₀ free₀ ask (storable b bytes))
      r (drop i (records_of refcounts b)) (drop (i + 1) (records_of refcounts b)) (next b i r inside read) carrying fit.0 fit.1 g f

  pub next-carrying : (k : Carried) (new' free' : List ℕ) → length new' ≡ length new → length free' ≡ length free → Stepped up write list start (start + count) w r new free k new' free'
      → Carrying up write list (records_of refcounts b) start (start + count) new₀ free₀ new' free' k (drop (i + 1) (records_of refcounts b))
  next-carrying =
      let fit = small b i r inside read bytes in
      carrying-step up write list (records_of refcounts b) start (start + count) new₀ free₀ new free w (rooms-of up write list (records_of refcounts b) start count new₀ free₀ ask (storable b bytes))
      r (drop i (records_of refcounts b)) (drop (i + 1) (records_of refcounts b)) (next b i r inside read) carrying fit.0 fit.1 g f

-- ---- no record more of the counts b

module _ (up write list : Bool) (b : List ℕ) (start count : ℕ) (new₀ free₀ new free : List ℕ) (w : Carried) (ask : Passable up (records_of refcounts b) start count write list (length new₀) (length free₀))
    (bytes : IsBytes b) (i : ℕ) (past : length b / 12 ≤ i)
    (carrying : Carrying up write list (records_of refcounts b) start (start + count) new₀ free₀ new free w (drop i (records_of refcounts b))) where
  abbrev l : List Refcount
  l = records_of refcounts b

  rooms : Rooms up write list l start (start + count) (length new₀) (length free₀)
  rooms = rooms-of up write list l start count new₀ free₀ ask (storable b bytes)

  ordered : accepted l ≡ true
  ordered = last-accepted up write list l start (start + count) new₀ free₀ new free w rooms _ (no_more b i past) carrying

  cleared : (t : Bool) → w.clear ≡ t → clear start (start + count) l ≡ t
  cleared = last-clear up write list l start (start + count) new₀ free₀ new free w rooms _ (no_more b i past) carrying

  fitted : fit_if up start (start + count) l ≡ not (up && not w.fit)
  fitted = last_fit up write list l start (start + count) new₀ free₀ new free w rooms _ (no_more b i past) carrying

  pub end-staging : w.clear ≡ false → PassIs up write list l start count (Err why.Staging) new₀ new free₀ free
  end-staging k = told-staging up write list l start count new₀ free₀ ask new free ordered (cleared false k)

  pub end-owners : w.clear ≡ true → (up && not w.fit) ≡ true → PassIs up write list l start count (Err why.Owners) new₀ new free₀ free
  end-owners k o = told-owners up write list l start count new₀ free₀ ask new free ordered (cleared true k) (fitted ∙ ap not o)

  pub end-fill : ((start + count ≤ 2 ^ 31) × (w.joiner.start + w.joiner.count ≤ w.gap)) × (Fits w.joiner × Room write w.joiner (length new))
  end-fill = fill-asks up write list l start (start + count) new₀ free₀ new free w rooms _ (no_more b i past) carrying

  pub end-gap : ((w.free ≤ 2 ^ 36) × (start + count ≤ 2 ^ 31)) × (list ≡ true → w.free + length (bytes_of free_extents (gap_of w.gap (start + count))) ≤ length free)
  end-gap = gap-asks up write list l start (start + count) new₀ free₀ new free w rooms _ (no_more b i past) carrying

  module _ (j : Joiner) (z : ℕ) (new₁ : List ℕ) (n₁ : length new₁ ≡ length new) (p : Pushed write w.joiner new (share w.gap (start + count) (fresh up)) z j new₁) where
    pub end-finish : Fits j × Room write j (length new₁)
    end-finish = finish-asks up write list l start (start + count) new₀ free₀ new free w rooms _ (no_more b i past) carrying j z new₁ n₁ p

    pub end-done : w.clear ≡ true → (up && not w.fit) ≡ false → (n m : ℕ) (new' free' : List ℕ)
        → n ≡ j.at + length (C (pending j)) → new' ≡ put_if write new₁ j.at (C (pending j))
        → m ≡ w.free + length (bytes_of free_extents (gap_of w.gap (start + count))) → free' ≡ put_if list free w.free (bytes_of free_extents (gap_of w.gap (start + count)))
        → PassIs up write list l start count (Ok (record { counts = n; free = m })) new₀ new' free₀ free'
    end-done k o n m new' free' hn bn hm bm =
        told-done up write list l start count new₀ free₀ ask new' free' ordered (cleared true k) n m (storable b bytes) (fitted ∙ ap not o)
        (finish-done up write list l start (start + count) new₀ free₀ new free w rooms _ (no_more b i past) carrying j z new₁ n₁ p n new' hn bn)
        (gap-done up write list l start (start + count) new₀ free₀ new free w rooms _ (no_more b i past) carrying m free' hm bm)
