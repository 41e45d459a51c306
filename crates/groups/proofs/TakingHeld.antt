-- The first half of a take of held blocks, exit by exit, and that its counts can be written.
-- Assumes nothing.
use Prim.Native.Nat.{ℕ, ◌/◌, ◌≤◌, ◌<◌}
use native.Mathlib.Omega.{arith}
use mathlib.Core.Path.{◌≡◌, refl, sym, ap, ◌∙◌}
use mathlib.Core.Bool.{Bool, true, false}
use mathlib.Core.List.{List, [], ◌∷◌, ◌++◌}
use lib.ListN.{length}
use Rattle.codec.specs.Bytes.{with_bytes}
use Rattle.codec.specs.Question.{none, Outcome, done, refused, ask, answer}
use Rattle.codec.specs.Records.{records_of, bytes_of, rmaps, refcounts, free_extents}
use Rattle.codec.specs.Accepted.{whole}
use Rattle.codec.specs.Rmaps as rmap
use Rattle.codec.specs.Refcounts as refcount
use Rattle.codec.specs.ListRefusal.{list_number, list_outcome}
use Rattle.codec.specs.declared.check.ListRefusal.{ListRefusal}
use Rattle.codec.specs.declared.check.ListRefusal.TheVariants as list
use Rattle.std.specs.Prelude.{Ok, Err}
use Rattle.codec.specs.declared.rmap.Rmap.{Rmap}
use Rattle.codec.specs.declared.refcount.Refcount.{Refcount}
use Rattle.codec.proofs.Meaning.{done-means}
use Rattle.lists.specs.declared.EditRefusal.{EditRefusal}
use Rattle.lists.specs.declared.EditRefusal.TheVariants as why
use Rattle.lists.specs.declared.splice.Edit.TheVariants.{InsertShared}
use Rattle.lists.specs.declared.splice.Splice.{Splice}
use Rattle.lists.specs.Extent.{good_extent}
use Rattle.lists.specs.Held.{held_all}
use Rattle.lists.specs.RmapEdits.{unclashed}
use Rattle.lists.specs.Release.{clear}
use Rattle.lists.specs.Raise.{owners_fit, raise_outcome, Raisable}
use Rattle.lists.specs.Edits.{map_questions, count_questions}
use Rattle.lists.specs.Answer.{edit_number, length_of}
use Rattle.lists.specs.Splice.{edit_before26, prepared_outcome, list_of, PreparedIs}
use Rattle.lists.proofs.RmapOrder.{good-facts}
use Rattle.groups.specs.declared.Sizes.{Sizes}
use Rattle.groups.specs.declared.measured.Measure.{Measure}
use Rattle.groups.specs.Joint.{NewLists}
use Rattle.groups.specs.TakeHeld.{raising, take_held_questions}
use Rattle.groups.specs.Answer.{sizes}
use Rattle.groups.specs.Inner.Measured.{TakeHeldMeasured}
use Rattle.groups.specs.Inner.Order.{after_counts, counts_before, held_before}
use Rattle.groups.proofs.Asking.{answer-refused, answer-done, extent-good}
use Rattle.groups.proofs.HeldQuestions.{list-refuses, extent-refuses, owners-refuse, counts-refuse}

-- ---- the length of an outcome

lengths-done : (n : ℕ) (o : Outcome (List Refcount)) → done n ≡ length_of refcounts o → (l : List Refcount) × (o ≡ done l) × (n ≡ length (bytes_of refcounts l))
lengths-done n (done l) e = let g : ◌≡◌ {A = Outcome ℕ} (done n) (done (length (bytes_of refcounts l))) = e in (l, refl, cc)
lengths-done n (refused m w) e = let z : ◌≡◌ {A = ℕ} 0 1 = cc in absurd (omega arith)

-- the numbers of the list's refusals come before those of the extent
list-early : (r : ListRefusal) → list_number r < 22
list-early list.Length = omega arith
list-early list.RmapOrder = omega arith
list-early list.ExtentOrder = omega arith

-- ---- the small functions

-- the arm of every refusal but that of the list
abbrev NotList : EditRefusal → Type 0
NotList q = (r : ListRefusal) → q ≡ why.List r → ⊥

after_list : (counts : List ℕ) (q : EditRefusal) → NotList q → counts_before counts q ≡ after_counts counts q
after_list counts (why.List r) k = absurd (k r refl)
after_list counts why.Extent k = refl
after_list counts why.Overlap k = refl
after_list counts why.Missing k = refl
after_list counts why.Staging k = refl
after_list counts why.Room k = refl
after_list counts why.Unheld k = refl
after_list counts why.Owners k = refl

pub counts-refused : (counts : List ℕ) (q : EditRefusal) → NotList q → (r : ListRefusal) → list_outcome (Err r) ≡ refcount.check_order counts
    → counts_before counts q ≡ refused (list_number r) none
unfolding refcount.check_order
counts-refused counts q k r e =
    after_list counts q k ∙ answer-refused (count_questions counts) [] (length counts / 12) (refused (edit_number q) none) (list_number r) none (sym e)

pub counts-accepted : (counts : List ℕ) (q : EditRefusal) → NotList q → (n : ℕ) → list_outcome (Ok n) ≡ refcount.check_order counts
    → counts_before counts q ≡ refused (edit_number q) none
unfolding refcount.check_order
counts-accepted counts q k n e =
    after_list counts q k ∙ answer-done (count_questions counts) [] (length counts / 12) n (refused (edit_number q) none) (sym e)

-- the arm of every refusal but 28
pub before-held : (m : List Rmap) (x : Rmap) (q : EditRefusal) → (q ≡ why.Owners → ⊥)
    → held_before m x q ≡ refused (edit_number q) none
before-held m x (why.List r) k = refl
before-held m x why.Extent k = refl
before-held m x why.Overlap k = refl
before-held m x why.Missing k = refl
before-held m x why.Staging k = refl
before-held m x why.Room k = refl
before-held m x why.Unheld k = refl
before-held m x why.Owners k = absurd (k refl)

-- ---- all questions but 26

module _ (map counts : List ℕ) (x : Rmap) where
  abbrev m : List Rmap
  m = records_of rmaps map

  abbrev c : List Refcount
  c = records_of refcounts counts

  abbrev g : NewLists
  g = raising x m c

  abbrev all : Bool
  all = held_all m x.startblock x.blockcount

  module _ (n : ℕ) (p : refused n none ≡ edit_before26 InsertShared map x) where
    by-list : n < 22 → answer (take_held_questions map counts x) (done g) ≡ refused n none
    unfolding edit_before26
    by-list i =
        list-refuses (λ (l : List Refcount). length l) g.counts g.map g (whole rmaps.size map) (rmap.accepted m) (whole refcounts.size counts) (refcount.accepted c) (rmap.good x) (unclashed x m)
        (clear x.startblock (rmap.end x) c) all (owners_fit x.startblock (rmap.end x) c) n i p

    by-extent : 22 ≤ n → answer (take_held_questions map counts x) (done g) ≡ answer (count_questions counts) (refused n none)
    unfolding edit_before26
    by-extent i =
        extent-refuses (λ (l : List Refcount). length l) g.counts g.map g (whole rmaps.size map) (rmap.accepted m) (whole refcounts.size counts) (refcount.accepted c) (rmap.good x) (unclashed x m)
        (clear x.startblock (rmap.end x) c) all (owners_fit x.startblock (rmap.end x) c) n i p

  splice-order : (q : EditRefusal) → refused (edit_number q) none ≡ edit_before26 InsertShared map x
      → answer (take_held_questions map counts x) (done g) ≡ counts_before counts q
  splice-order (why.List r) p = by-list (list_number r) p (list-early r)
  splice-order why.Extent p = by-extent 22 p (omega arith)
  splice-order why.Overlap p = by-extent 23 p (omega arith)
  splice-order why.Missing p = by-extent 24 p (omega arith)
  splice-order why.Staging p = by-extent 25 p (omega arith)
  splice-order why.Room p = by-extent 26 p (omega arith)
  splice-order why.Unheld p = by-extent 27 p (omega arith)
  splice-order why.Owners p = by-extent 28 p (omega arith)

  pub refused-by-map : (q t : EditRefusal) → PreparedIs InsertShared map x (Err q) → counts_before counts q ≡ refused (edit_number t) none
      → TakeHeldMeasured map counts x (Err t)
  unfolding prepared_outcome
  refused-by-map q t p e = splice-order q p.0 ∙ e

  module _ (p : Splice) (h : PreparedIs InsertShared map x (Ok p)) where
    -- what the splice's answer says of its questions
    said : ((whole rmaps.size map ≡ true) × (rmap.accepted m ≡ true) × (rmap.good x ≡ true) × (unclashed x m ≡ true)) × (list_of m p ≡ g.map)
    unfolding prepared_outcome edit_before26
    said =
        let k = done-means (map_questions map x ++ (ask 23 (unclashed x m) ∷ [])) g.map (list_of m p) (sym h.0) in
        let q = k.0 in
        ((q.0, q.1.0, q.1.1.0, q.1.1.1.0), sym k.1)

    pub ordered : rmap.accepted m ≡ true
    ordered = said.0.1

    abbrev Raises : Outcome ℕ → Type 0
    Raises o = o ≡ length_of refcounts (raise_outcome counts x.startblock x.blockcount)

    by-owners : Raises (refused 28 none) → answer (take_held_questions map counts x) (done g) ≡ answer (ask 27 all ∷ []) (refused 28 none)
    unfolding raise_outcome
    by-owners e =
        let s = said.0 in
        rw (s.0, s.1, s.2, s.3)
        (owners-refuse (λ l. length (bytes_of refcounts l)) g.counts g.map g (whole refcounts.size counts) (refcount.accepted c) (clear x.startblock (rmap.end x) c) all
        (owners_fit x.startblock (rmap.end x) c) (rw (extent-good x s.2) at e))

    by-counts : (n : ℕ) → (n ≡ 28 → ⊥) → Raises (refused n none) → answer (take_held_questions map counts x) (done g) ≡ refused n none
    unfolding raise_outcome
    by-counts n i e =
        let s = said.0 in
        rw (s.0, s.1, s.2, s.3)
        (counts-refuse (λ l. length (bytes_of refcounts l)) g.counts g.map g (whole refcounts.size counts) (refcount.accepted c) (clear x.startblock (rmap.end x) c) all
        (owners_fit x.startblock (rmap.end x) c) n i (rw (extent-good x s.2) at e))

    raise-order : (q : EditRefusal) → Raises (refused (edit_number q) none) → answer (take_held_questions map counts x) (done g) ≡ held_before m x q
    raise-order (why.List r) e = let i = list-early r in by-counts (list_number r) (λ k. omega arith) e
    raise-order why.Extent e = by-counts 22 (λ k. omega arith) e
    raise-order why.Overlap e = by-counts 23 (λ k. omega arith) e
    raise-order why.Missing e = by-counts 24 (λ k. omega arith) e
    raise-order why.Staging e = by-counts 25 (λ k. omega arith) e
    raise-order why.Room e = by-counts 26 (λ k. omega arith) e
    raise-order why.Unheld e = by-counts 27 (λ k. omega arith) e
    raise-order why.Owners e = by-owners e

    pub refused-by-counts : (q t : EditRefusal) → Raises (refused (edit_number q) none) → held_before m x q ≡ refused (edit_number t) none
        → TakeHeldMeasured map counts x (Err t)
    refused-by-counts q t e f = raise-order q e ∙ f

    module _ (n : ℕ) (e : Raises (done n)) where
      -- what the measure's answer says of its questions
      measured-is : ((whole refcounts.size counts ≡ true) × (refcount.accepted c ≡ true) × (clear x.startblock (rmap.end x) c ≡ true) × (owners_fit x.startblock (rmap.end x) c ≡ true))
          × (n ≡ length (bytes_of refcounts g.counts))
      unfolding raise_outcome
      measured-is =
          let k = lengths-done n (raise_outcome counts x.startblock x.blockcount) e in
          let d = done-means
          (count_questions counts
          ++ (ask 22 (good_extent x.startblock x.blockcount)
          ∷ ask 25 (clear x.startblock (rmap.end x) c)
          ∷ ask 28 (owners_fit x.startblock (rmap.end x) c)
          ∷ []))
          g.counts k.0 k.1 in
          let q = d.0 in
          ((q.0, q.1.0, q.1.1.1.0, q.1.1.1.1.0), k.2 ∙ ap (λ (l : List Refcount). length (bytes_of refcounts l)) (sym d.1))

      pub refused-unheld : all ≡ false → TakeHeldMeasured map counts x (Err why.Unheld)
      refused-unheld z =
          let s = said.0 in
          let k = measured-is.0 in
          rw (s.0, s.1, k.0, k.1, s.2, s.3, k.2, z) refl

      pub raise-ready : all ≡ true
          → TakeHeldMeasured map counts x (Ok (record { splice = p; sizes = record { map = p.size; counts = n; free = 0 } }))
      unfolding bytes_of
      raise-ready z =
          let s = said.0 in
          let k = measured-is.0 in
          let u : p.size ≡ length (bytes_of rmaps g.map) = h.1.size ∙ ap (λ (l : List Rmap). length (bytes_of rmaps l)) said.1 in
          let v : n ≡ length (bytes_of refcounts g.counts) = measured-is.1 in
          let w : ◌≡◌ {A = Sizes} (record { map = p.size; counts = n; free = 0 }) (sizes g) = λ i. record { map = u i; counts = v i; free = 0 } in
          record { asked = rw (s.0, s.1, k.0, k.1, s.2, s.3, k.2, z, k.3) refl; splice = h.1; list = said.1; measured = w }

  -- what the questions say to the second half
  pub raisable : (n : Measure) → TakeHeldMeasured map counts x (Ok n) → (room : ℕ) → length (bytes_of refcounts g.counts) ≤ room
      → Raisable c x.startblock x.blockcount room
  raisable n h room i =
      let q = (done-means (take_held_questions map counts x) g g h.asked).0 in
      record {
        end = (good-facts x q.1.1.1.1.0).1;
        accepted = q.1.1.1.0;
        clear = q.1.1.1.1.1.1.0;
        owners = q.1.1.1.1.1.1.1.1.0;
        counts = i;
      }

-- nothing is written where nothing was lent
pub none_written : ◌≡◌ {A = List ℕ} [] (with_bytes [] 0 (bytes_of free_extents []))
unfolding with_bytes bytes_of
none_written = refl
