-- The second half of an edit of both lists: 26, and what is written. The first half asked the questions qs, prepared the new reverse map of g from
-- the old one l, and measured g; `map`, `counts` and `free` are what was lent.
-- Assumes nothing.
use Prim.Native.Nat.{ℕ, ◌≤◌}
use mathlib.Core.Path.{◌≡◌, refl, sym, ap, ◌∙◌}
use mathlib.Core.Bool.{Bool, true, false, ◌&&◌}
use mathlib.Core.List.{List, [], ◌∷◌}
use lib.Dec.{leb}
use lib.ListN.{length}
use Rattle.codec.specs.Bytes.{with_bytes}
use Rattle.codec.specs.Question.{none, Outcome, done, refused, Question, ask, answer}
use Rattle.codec.specs.Records.{bytes_of, rmaps, refcounts, free_extents}
use Rattle.codec.specs.declared.rmap.Rmap.{Rmap}
use Rattle.lists.specs.declared.EditRefusal.{EditRefusal}
use Rattle.lists.specs.declared.EditRefusal.TheVariants as why
use Rattle.lists.specs.Edits.{written}
use Rattle.lists.specs.Answer.{edit_number}
use Rattle.lists.specs.Splice.{list_of}
use Rattle.lists.proofs.Cases.{tests, conj}
use Rattle.groups.specs.declared.Sizes.{Sizes}
use Rattle.std.specs.Prelude.{Result, Ok, Err}
use Rattle.groups.specs.declared.measured.Measure.{Measure}
use Rattle.groups.specs.Joint.{NewLists, fit_all, joint_outcome}
use Rattle.groups.specs.Answer.{GroupEditIs}
use Rattle.groups.specs.Inner.Measured.{ReadyIs}
use Rattle.groups.proofs.Asking.{answer-refused, answer-done}

-- a question list and what it leads to, with 26 behind it
module _ (qs : List Question) (g : NewLists) (map counts free : List ℕ) where
  abbrev room-question : Question
  room-question = ask 26 (fit_all g (length map) (length counts) (length free))

  abbrev outcome : Outcome NewLists
  outcome = joint_outcome qs g (length map) (length counts) (length free)

  by-outcome : (o : Outcome NewLists) → outcome ≡ o → (r : Result Sizes EditRefusal) (map' counts' free' : List ℕ)
      → GroupEditIs o r map map' counts counts' free free' → GroupEditIs outcome r map map' counts counts' free free'
  by-outcome o e r map' counts' free' h = rw e h

  -- a refusal writes nothing
  refuses : (q : EditRefusal) → outcome ≡ refused (edit_number q) none → GroupEditIs outcome (Err q) map map counts counts free free
  unfolding written
  refuses q e =
      by-outcome (refused (edit_number q) none) e (Err q) map counts free (record { said = refl; map_is = refl; counts_are = refl; free_are = refl })

  pub tells-refused : (q : EditRefusal) → answer qs (done g) ≡ refused (edit_number q) none
      → GroupEditIs outcome (Err q) map map counts counts free free
  tells-refused q h = refuses q (answer-refused qs (room-question ∷ []) g (done g) (edit_number q) none h)

module _ {qs : List Question} {g : NewLists} {l : List Rmap} (map counts free : List ℕ) (m : Measure) (h : ReadyIs qs g l m) where
  abbrev fit : Sizes → Bool
  fit n = leb n.map (length map) && (leb n.counts (length counts) && leb n.free (length free))

  abbrev Tells : Result Sizes EditRefusal → (map' counts' free' : List ℕ) → Type 0
  Tells r map' counts' free' = GroupEditIs (outcome qs g map counts free) r map map' counts counts' free free'

  -- 26 is left
  only-room : outcome qs g map counts free ≡ answer (room-question qs g map counts free ∷ []) (done g)
  only-room = answer-done qs (room-question qs g map counts free ∷ []) g g (done g) h.asked

  fits-is : fit_all g (length map) (length counts) (length free) ≡ fit m.sizes
  fits-is = ap fit (sym h.measured)

  pub tells-room : fit m.sizes ≡ false → Tells (Err why.Room) map counts free
  tells-room short = refuses qs g map counts free why.Room (only-room ∙ rw (fits-is, short) refl)

  module _ (enough : fit m.sizes ≡ true) where
    all_fit : fit_all g (length map) (length counts) (length free) ≡ true
    all_fit = fits-is ∙ enough

    pub map-fits : m.splice.size ≤ length map
    map-fits =
        let all : fit_all g (length map) (length counts) (length free) ≡ true = all_fit in
        let u : leb (length (bytes_of rmaps g.map)) (length map) ≡ true = search conj in
        omega (tests, h.splice.size, ap (λ (k : List Rmap). length (bytes_of rmaps k)) h.list)

    pub counts-fit : length (bytes_of refcounts g.counts) ≤ length counts
    counts-fit =
        let all : fit_all g (length map) (length counts) (length free) ≡ true = all_fit in
        let u : leb (length (bytes_of refcounts g.counts)) (length counts) ≡ true = search conj in omega tests

    pub free-fit : length (bytes_of free_extents g.free) ≤ length free
    free-fit =
        let all : fit_all g (length map) (length counts) (length free) ≡ true = all_fit in
        let u : leb (length (bytes_of free_extents g.free)) (length free) ≡ true = search conj in omega tests

    pub tells-done : (map' counts' free' : List ℕ) → map' ≡ with_bytes map 0 (bytes_of rmaps (list_of l m.splice))
        → counts' ≡ with_bytes counts 0 (bytes_of refcounts g.counts) → free' ≡ with_bytes free 0 (bytes_of free_extents g.free)
        → Tells (Ok m.sizes) map' counts' free'
    unfolding written
    tells-done map' counts' free' a b c =
        by-outcome qs g map counts free (done g) (only-room ∙ rw all_fit refl) (Ok m.sizes) map' counts' free'
        (record {
          said = ap done h.measured;
          map_is = a ∙ ap (λ (k : List Rmap). with_bytes map 0 (bytes_of rmaps k)) h.list;
          counts_are = b;
          free_are = c;
        })
