-- The first half of a letting go, exit by exit, and that its counts can be written.
-- Assumes nothing.
use Prim.Native.Nat.{ℕ, ◌≤◌}
use native.Mathlib.Omega.{arith}
use mathlib.Core.Path.{◌≡◌, refl, sym, ap, ◌∙◌}
use mathlib.Core.List.{List, [], ◌∷◌, ◌++◌}
use lib.ListN.{length}
use Rattle.codec.specs.Question.{none, Values, Outcome, done, refused, Question, ask, answer}
use Rattle.codec.specs.Records.{records_of, bytes_of, rmaps, refcounts, free_extents}
use Rattle.codec.specs.Rmaps as rmap
use Rattle.codec.specs.declared.rmap.Rmap.{Rmap}
use Rattle.codec.specs.declared.refcount.Refcount.{Refcount}
use Rattle.codec.proofs.Meaning.{done-means}
use Rattle.lists.specs.declared.EditRefusal.{EditRefusal}
use Rattle.lists.specs.declared.Lengths.{Lengths}
use Rattle.std.specs.Prelude.{Ok, Err}
use Rattle.lists.specs.declared.splice.Edit.TheVariants.{Remove}
use Rattle.lists.specs.declared.splice.Splice.{Splice}
use Rattle.lists.specs.RmapEdits.{contained}
use Rattle.lists.specs.Release.{clear}
use Rattle.lists.specs.Edits.{map_questions, count_questions, Freed}
use Rattle.lists.specs.Answer.{edit_number, released_outcome, lengths_of}
use Rattle.lists.specs.Steps.{measure_outcome, Writable}
use Rattle.lists.specs.Splice.{edit_before26, prepared_outcome, list_of, PreparedIs}
use Rattle.lists.proofs.RmapOrder.{good-facts}
use Rattle.groups.specs.declared.Sizes.{Sizes}
use Rattle.groups.specs.declared.measured.Measure.{Measure}
use Rattle.groups.specs.Joint.{NewLists}
use Rattle.groups.specs.LetGo.{letting, let_go_questions}
use Rattle.groups.specs.Answer.{sizes}
use Rattle.groups.specs.Inner.Measured.{LetGoMeasured}
use Rattle.groups.proofs.Asking.{answer-refused, answer-done, extent-good}

-- ---- the lengths of an outcome

lengths-refused : (n : ℕ) (v : Values) (o : Outcome Freed) → refused n v ≡ lengths_of o → o ≡ refused n v
lengths-refused n v (done f) e = let z : ◌≡◌ {A = ℕ} 0 1 = cc in absurd (omega arith)
lengths-refused n v (refused m w) e = let f : ◌≡◌ {A = Outcome Lengths} (refused n v) (refused m w) = e in cc

abbrev lengths_are : Freed → Lengths
lengths_are f = record { counts = length (bytes_of refcounts f.counts); free = length (bytes_of free_extents f.free) }

lengths-done : (n : Lengths) (o : Outcome Freed) → done n ≡ lengths_of o → (f : Freed) × (o ≡ done f) × (n ≡ lengths_are f)
lengths-done n (done f) e = let g : ◌≡◌ {A = Outcome Lengths} (done n) (done (lengths_are f)) = e in (f, refl, cc)
lengths-done n (refused m w) e = let z : ◌≡◌ {A = ℕ} 0 1 = cc in absurd (omega arith)

-- ---- all questions but 26

module _ (map counts : List ℕ) (x : Rmap) where
  abbrev m : List Rmap
  m = records_of rmaps map

  abbrev c : List Refcount
  c = records_of refcounts counts

  abbrev g : NewLists
  g = letting x m c

  -- the reverse map's questions
  abbrev map_asks : List Question
  map_asks = map_questions map x ++ (ask 24 (contained x m) ∷ [])

  -- the counts', after the extent is found good
  abbrev counts_asks : List Question
  counts_asks = count_questions counts ++ (ask 25 (clear x.startblock (rmap.end x) c) ∷ [])

  abbrev freed : Freed
  freed = record { counts = g.counts; free = g.free }

  pub measured-map : (q : EditRefusal) → PreparedIs Remove map x (Err q) → LetGoMeasured map counts x (Err q)
  unfolding prepared_outcome edit_before26
  measured-map q h = answer-refused map_asks counts_asks g.map (done g) (edit_number q) none (sym h.0)

  module _ (p : Splice) (h : PreparedIs Remove map x (Ok p)) where
    prepared-is : answer map_asks (done g.map) ≡ done (list_of m p)
    unfolding prepared_outcome edit_before26
    prepared-is = sym h.0

    after_map : answer (let_go_questions map counts x) (done g) ≡ answer counts_asks (done g)
    after_map = answer-done map_asks counts_asks g.map (list_of m p) (done g) prepared-is

    -- 22 of the counts holds
    measure-is : measure_outcome counts x.startblock x.blockcount ≡ answer counts_asks (done freed)
    unfolding measure_outcome
    measure-is = rw (extent-good x (done-means map_asks g.map (list_of m p) prepared-is).0.1.1.0) refl

    pub measured-counts : (q : EditRefusal) → released_outcome (Err q) ≡ lengths_of (measure_outcome counts x.startblock x.blockcount)
        → LetGoMeasured map counts x (Err q)
    measured-counts q e =
        after_map
        ∙ answer-refused counts_asks [] freed (done g) (edit_number q) none
        (sym measure-is ∙ lengths-refused (edit_number q) none (measure_outcome counts x.startblock x.blockcount) e)

    pub measured-ready : (n : Lengths) → released_outcome (Ok n) ≡ lengths_of (measure_outcome counts x.startblock x.blockcount)
        → LetGoMeasured map counts x (Ok (record { splice = p; sizes = record { map = p.size; counts = n.counts; free = n.free } }))
    measured-ready n e =
        let k = lengths-done n (measure_outcome counts x.startblock x.blockcount) e in
        let a : answer counts_asks (done freed) ≡ done k.0 = sym measure-is ∙ k.1 in
        let s : n ≡ lengths_are freed = k.2 ∙ ap lengths_are (sym (done-means counts_asks freed k.0 a).1) in
        let l : list_of m p ≡ g.map = sym (done-means map_asks g.map (list_of m p) prepared-is).1 in
        let u : p.size ≡ length (bytes_of rmaps g.map) = h.1.size ∙ ap (λ (r : List Rmap). length (bytes_of rmaps r)) l in
        let v : n.counts ≡ length (bytes_of refcounts g.counts) = ap (λ (k : Lengths). k.counts) s in
        let w : n.free ≡ length (bytes_of free_extents g.free) = ap (λ (k : Lengths). k.free) s in
        let z : ◌≡◌ {A = Sizes} (record { map = p.size; counts = n.counts; free = n.free }) (sizes g) =
        λ i. record { map = u i; counts = v i; free = w i } in
        record { asked = after_map ∙ answer-done counts_asks [] freed k.0 (done g) a; splice = h.1; list = l; measured = z }

  -- what the questions say to the second half
  pub writable : (n : Measure) → LetGoMeasured map counts x (Ok n) → (room free_room : ℕ) → length (bytes_of refcounts g.counts) ≤ room
      → length (bytes_of free_extents g.free) ≤ free_room → Writable c x.startblock x.blockcount room free_room
  writable n h room free_room i j =
      let q = (done-means (let_go_questions map counts x) g g h.asked).0 in
      record { end = (good-facts x q.1.1.0).1; accepted = q.1.1.1.1.1.0; clear = q.1.1.1.1.1.1.0; counts = i; free = j }
