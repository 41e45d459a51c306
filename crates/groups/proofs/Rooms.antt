-- That the room of specs/Room.antt suffices, and that less does not.
-- Assumes nothing.
use Prim.Native.Nat.{ℕ, ◌+◌, ◌*◌, ◌^◌, ◌≤◌}
use mathlib.Core.Bool.{Bool, true, false}
use mathlib.Core.Path.{◌≡◌, refl, sym, ap, ◌∙◌}
use mathlib.Core.List.{List, [], ◌∷◌, ◌++◌}
use native.Mathlib.Nat.{add-mul, mul-le-mul_right, div-mul-le_self}
use native.Mathlib.Omega.{arith}
use lib.ListN.{length}
use borrow.Author.Tests.{le-leb}
use Rattle.codec.specs.Bytes as bytes
use Rattle.codec.specs.Bytes.{IsBytes}
use Rattle.codec.specs.Question.{none, Outcome, done, refused, Question, ask, answer, map_outcome}
use Rattle.codec.specs.Records as records
use Rattle.codec.specs.Records.{Kind, records_of, bytes_of, rmaps, refcounts, free_extents}
use Rattle.codec.specs.Accepted as accepted
use Rattle.codec.specs.Rmaps as rmap
use Rattle.codec.specs.Rmaps.{end}
use Rattle.codec.specs.Refcounts as refcount
use Rattle.codec.specs.declared.rmap.Rmap.{Rmap}
use Rattle.codec.specs.declared.refcount.Refcount.{Refcount}
use Rattle.codec.proofs.Meaning.{AllHold}
use Rattle.codec.proofs.RecordLists.{Lawful, length-records_of, length-bytes_of}
use Rattle.codec.proofs.RecordKinds.{rmaps-lawful, refcounts-lawful, free_extents-lawful}
use Rattle.codec.proofs.ListBytes.{storable-records_of, IsBytes-bytes_of}
use Rattle.lists.specs.declared.splice.Edit.{Edit}
use Rattle.lists.specs.declared.splice.Edit.TheVariants.{Insert, InsertShared, Remove}
use Rattle.lists.specs.Extent as blocks
use Rattle.lists.specs.Holders as holding
use Rattle.lists.specs.RmapEdits as edits
use Rattle.lists.specs.Held as held
use Rattle.lists.specs.Release as lower
use Rattle.lists.specs.Release.{release, unshared}
use Rattle.lists.specs.Raise as upper
use Rattle.lists.specs.Raise.{raise, owners_fit}
use Rattle.lists.specs.Edits.{fits, edited, edit_questions, insert_outcome, insert_shared_outcome, remove_outcome, extent_questions, release_outcome}
use Rattle.lists.specs.Growth.{met, most_raised, Counted}
use Rattle.lists.proofs.Cases.{and-true}
use Rattle.lists.proofs.Staged as extents
use Rattle.lists.proofs.Placing.{good-end}
use Rattle.lists.proofs.Growing.{map-length, counts-length}
use Rattle.groups.specs.LetGo.{let_go_questions, let_go_outcome}
use Rattle.groups.specs.TakeHeld.{take_held_questions, take_held_outcome}
use Rattle.groups.specs.History.{Lists, Change, take, take_held, let_go, step}
use Rattle.groups.specs.Room.{map_room, lower_room, free_room, raise_room, Not26, EveryEditHasRoom, EveryReleaseHasRoom, Roomy, EveryRoom}
use Rattle.groups.proofs.Asking.{others, last-asked}
use Rattle.groups.proofs.Example.{record_of, counted, free_at, small-fits}

-- ---- 26, asked last of all

-- it is not the answer if it holds where all before it hold
never-26 : {A : Type 0} (qs : List Question) (t : Bool) (x : A) → others 26 qs ≡ true → (AllHold qs → t ≡ true) → Not26 (answer (qs ++ (ask 26 t ∷ [])) (done x))
never-26 qs t x o h v e =
    let k = last-asked 26 v qs (ask 26 t) x o e in
    let z : ◌≡◌ {A = Bool} true false = sym (h k.0) ∙ k.1 in
    let y : ◌≡◌ {A = ℕ} 0 1 = cc in
    omega arith

-- n records more than there were fit the bytes of n records more
more-fits : {R : Type 0} (k : Kind R) → Lawful k → (b : List ℕ) (rs : List R) (n room : ℕ) → length rs ≤ length (records_of k b) + n → length b + n * k.size ≤ room → fits k rs room ≡ true
more-fits k law b rs n room h r =
    le-leb (length (bytes_of k rs)) room
    (omega (
      arith,
      length-bytes_of k law rs,
      mul-le-mul_right k.size h,
      add-mul (length (records_of k b)) n k.size,
      ap (λ (m : ℕ). m * k.size) (length-records_of k b),
      div-mul-le_self (length b) k.size,
    ))

-- ---- one list

module _ (e : Edit) (b : List ℕ) (x : Rmap) (room : ℕ) (r : map_room b ≤ room) where
  map-fits : fits rmaps (edited e x (records_of rmaps b)) room ≡ true
  map-fits = more-fits rmaps rmaps-lawful b (edited e x (records_of rmaps b)) 1 room (map-length e x (records_of rmaps b)) (omega arith)

pub edit-roomy : EveryEditHasRoom
unfolding others insert_outcome insert_shared_outcome remove_outcome
edit-roomy Insert b x room r = never-26 (edit_questions Insert b x) _ _ refl (λ k. map-fits Insert b x room r)
edit-roomy InsertShared b x room r = never-26 (edit_questions InsertShared b x) _ _ refl (λ k. map-fits InsertShared b x room r)
edit-roomy Remove b x room r = never-26 (edit_questions Remove b x) _ _ refl (λ k. map-fits Remove b x room r)

module _ (c : List ℕ) (start count : ℕ) (bytes : IsBytes c) (order : refcount.accepted (records_of refcounts c) ≡ true) (end : start + count ≤ 2 ^ 31) where
  abbrev l : List Refcount
  l = records_of refcounts c

  lengths : Counted l start count
  lengths = counts-length l start count (storable-records_of refcounts refcounts-lawful c bytes) order end

  lowered-fits : (room : ℕ) → lower_room c ≤ room → fits refcounts (release start (start + count) l) room ≡ true
  lowered-fits room r = more-fits refcounts refcounts-lawful c (release start (start + count) l) 2 room lengths.release r

  free-fits : (room : ℕ) → free_room c start count ≤ room → fits free_extents (unshared l start count) room ≡ true
  free-fits room r = more-fits free_extents free_extents-lawful [] (unshared l start count) (met start (start + count) l + 1) room (omega (arith, lengths.gaps)) (omega arith)

  raised-fits : (room : ℕ) → owners_fit start (start + count) l ≡ true → raise_room c start count ≤ room → fits refcounts (raise start (start + count) l) room ≡ true
  raised-fits room o r = more-fits refcounts refcounts-lawful c (raise start (start + count) l) (most_raised l start count) room (lengths.raise o) r

pub release-roomy : EveryReleaseHasRoom
unfolding release_outcome
release-roomy c start count room extents_room bytes r f =
    never-26 (extent_questions c start count) _ _ (unfold others in refl)
    (λ k. let end = extents.good-end start count k.1.1.0 in
    and-true _ _ (lowered-fits c start count bytes k.1.0 end room r) (free-fits c start count bytes k.1.0 end extents_room f))

-- ---- the changes of a history

-- a result of another form is no refusal
map-not : {A B : Type 0} (f : A → B) (o : Outcome A) → Not26 o → Not26 (map_outcome f o)
map-not f (done x) h v e = let z : ◌≡◌ {A = ℕ} 0 1 = cc in omega arith
map-not f (refused n w) h v e = let p : n ≡ 26 = cc in let q : w ≡ v = cc in h v (rw (p, q) refl)

module _ (map counts : List ℕ) (x : Rmap) (bytes : IsBytes counts) where
  pub let-go-roomy : (room counts_room extents_room : ℕ) → map_room map ≤ room → lower_room counts ≤ counts_room → free_room counts x.startblock x.blockcount ≤ extents_room
      → Not26 (let_go_outcome map counts x room counts_room extents_room)
  unfolding let_go_outcome
  let-go-roomy room counts_room extents_room r s t =
      never-26 (let_go_questions map counts x) _ _ (unfold others in refl)
      (λ k. let end = good-end x k.1.1.0 in
      let order = k.1.1.1.1.1.0 in
      and-true _ _ (map-fits Remove map x room r)
      (and-true _ _ (lowered-fits counts x.startblock x.blockcount bytes order end counts_room s) (free-fits counts x.startblock x.blockcount bytes order end extents_room t)))

  pub take-held-roomy : (room counts_room : ℕ) → map_room map ≤ room → raise_room counts x.startblock x.blockcount ≤ counts_room
      → Not26 (take_held_outcome map counts x room counts_room)
  unfolding take_held_outcome
  take-held-roomy room counts_room r s =
      let nothing-free : fits free_extents [] 0 ≡ true = unfold bytes_of in refl in
      never-26 (take_held_questions map counts x) _ _ (unfold others in refl)
      (λ k. let end = good-end x k.1.1.1.1.0 in
      let order = k.1.1.1.0 in
      and-true _ _ (map-fits InsertShared map x room r)
      (and-true _ _ (raised-fits counts x.startblock x.blockcount bytes order end counts_room k.1.1.1.1.1.1.1.1.0 s) nothing-free))

pub roomy : EveryRoom
unfolding step
roomy σ (take x fits room) bytes r = map-not _ _ (edit-roomy Insert σ.map x room r)
roomy σ (take_held x fits room counts_room) bytes r = map-not _ _ (take-held-roomy σ.map σ.counts x bytes room counts_room r.0 r.1)
roomy σ (let_go x room counts_room extents_room) bytes r = map-not _ _ (let-go-roomy σ.map σ.counts x bytes room counts_room extents_room r.0 r.1 r.2)

-- ---- instances: steps that take all of the room of one list, done, and refused with a byte fewer

-- 0/10 held by 7, 8 and 9
abbrev three : Lists
three = record { map = bytes_of rmaps (record_of 0 10 7 0 ∷ record_of 0 10 8 0 ∷ record_of 0 10 9 0 ∷ []); counts = bytes_of refcounts (counted 0 10 3 ∷ []) }

-- 2/4 of owner 7 let go: one mapping more, and two counts more
abbrev middle : (room counts_room : ℕ) → Change
middle room counts_room = let_go (record_of 2 4 7 2) room counts_room 16

-- 0/6 held by 7, of which 8 holds 2/2
abbrev two : Lists
two = record { map = bytes_of rmaps (record_of 0 6 7 0 ∷ record_of 2 2 8 0 ∷ []); counts = bytes_of refcounts (counted 2 2 2 ∷ []) }

-- 0/6 of owner 7 let go: a free extent before the shared record, and one behind it
abbrev around : (extents_room : ℕ) → Change
around extents_room = let_go (record_of 0 6 7 0) 72 36 extents_room

-- 0/10 held by 7, of which 8 holds 0/4 and 6/4
abbrev apart : Lists
apart = record { map = bytes_of rmaps (record_of 0 10 7 0 ∷ record_of 0 4 8 0 ∷ record_of 6 4 8 6 ∷ []); counts = bytes_of refcounts (counted 0 4 2 ∷ counted 6 4 2 ∷ []) }

-- 2/6 taken by 9: both shared records are cut, and the gap between them gets one
abbrev across : (counts_room : ℕ) → Change
across counts_room = take_held (record_of 2 6 9 0) (small-fits 2 6 9 0 (omega arith)) 96 counts_room

pub record Taken : Type 0 where
  pub both-longer : step three (middle 96 36) ≡ done (record {
    lists = record {
      map = bytes_of rmaps (record_of 0 2 7 0 ∷ record_of 0 10 8 0 ∷ record_of 0 10 9 0 ∷ record_of 6 4 7 6 ∷ []);
      counts = bytes_of refcounts (counted 0 2 3 ∷ counted 2 4 2 ∷ counted 6 4 3 ∷ []);
    };
    free = [];
  })
  pub map-short : step three (middle 95 36) ≡ refused 26 none
  pub counts-short : step three (middle 96 35) ≡ refused 26 none
  pub around-one : step two (around 16) ≡ done (record { lists = record { map = bytes_of rmaps (record_of 2 2 8 0 ∷ []); counts = [] }; free = free_at 0 2 ∷ free_at 4 2 ∷ [] })
  pub free-short : step two (around 15) ≡ refused 26 none
  pub across-both : step apart (across 60) ≡ done (record {
    lists = record {
      map = bytes_of rmaps (record_of 0 10 7 0 ∷ record_of 0 4 8 0 ∷ record_of 2 6 9 0 ∷ record_of 6 4 8 6 ∷ []);
      counts = bytes_of refcounts (counted 0 2 2 ∷ counted 2 2 3 ∷ counted 4 2 2 ∷ counted 6 2 3 ∷ counted 8 2 2 ∷ []);
    };
    free = [];
  })
  pub raised-short : step apart (across 59) ≡ refused 26 none
  -- each of the three that are done has the room of the claim
  pub middle-roomy : Roomy three (middle 96 36)
  pub around-roomy : Roomy two (around 16)
  pub across-roomy : Roomy apart (across 60)

pub taken : Taken
unfolding step let_go_outcome take_held_outcome bytes.be_of bytes.be_bytes records.fields_of records.field_bytes records.first_records records.records_of records.bytes_of accepted.whole accepted.in_order rmap.reserved rmap.mapping rmap.exempt rmap.good rmap.key_offset rmap.before rmap.follows refcount.staging refcount.good refcount.follows blocks.over blocks.within blocks.grow blocks.runs holding.holders held.each_block edits.first edits.is_some edits.replace edits.place edits.continues edits.overlaps edits.clash edits.behind edits.ahead edits.contains edits.lines_up edits.chosen edits.front edits.later edits.place_later edits.cut_out lower.owners lower.clear lower.piece lower.share lower.fewer lower.clamp lower.lowered lower.lower_all lower.same_kind lower.continues lower.join_from lower.join_all upper.raised upper.raise_all upper.full upper.owners_fit met
taken =
    record {
      both-longer = refl;
      map-short = refl;
      counts-short = refl;
      around-one = refl;
      free-short = refl;
      middle-roomy = (omega arith, omega arith, omega arith);
      around-roomy = (omega arith, omega arith, omega arith);
      across-both = refl;
      raised-short = refl;
      across-roomy = (omega arith, omega arith);
    }

-- the theorems on them
middle-never : Not26 (step three (middle 96 36))
middle-never = roomy three (middle 96 36) (IsBytes-bytes_of refcounts refcounts-lawful (counted 0 10 3 ∷ [])) taken.middle-roomy

across-never : Not26 (step apart (across 60))
across-never = roomy apart (across 60) (IsBytes-bytes_of refcounts refcounts-lawful (counted 0 4 2 ∷ counted 6 4 2 ∷ [])) taken.across-roomy
