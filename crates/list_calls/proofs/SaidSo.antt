-- `EveryNamed`: the figures of an explanation name the deciding record's bytes. `EverySaidSo`: what it says is what the letting go does. Each with an instance.
-- Assumes nothing.
use Prim.Native.Nat.{ℕ}
use native.Mathlib.Omega.{arith}
use mathlib.Core.Path.{◌≡◌, refl, sym, ap, ◌∙◌}
use mathlib.Core.Logic.{◌⊎◌, inl, inr}
use mathlib.Core.Bool.{Bool, true, false, not}
use mathlib.Core.List.{List, [], ◌∷◌, ◌++◌}
use lib.Dec.{eqb}
use lib.ListN.{length, get_or, replicate}
use borrow.Author.Tests.{eqb-false}
use Rattle.codec.specs.Bytes as bytes
use Rattle.codec.specs.Bytes.{bytes_at}
use Rattle.codec.specs.Question.{Outcome, done, Question, ask, answer}
use Rattle.codec.specs.Records as records
use Rattle.codec.specs.Accepted as accepted
use Rattle.codec.specs.Rmaps as rmap
use Rattle.codec.specs.Refcounts as refcount
use Rattle.codec.specs.Records.{records_of, bytes_of, rmaps, refcounts, free_extents}
use Rattle.codec.specs.declared.rmap.Rmap.{Rmap}
use Rattle.codec.proofs.Meaning.{AllHold, done-means}
use Rattle.codec.proofs.RecordLists.{records_of-bytes_of}
use Rattle.codec.proofs.RecordKinds.{free_extents-lawful}
use Rattle.lists.specs.Extent as blocks
use Rattle.lists.specs.Extent.{lies}
use Rattle.lists.specs.RmapEdits as edits
use Rattle.lists.specs.RmapEdits.{index_where}
use Rattle.lists.specs.Release as lower
use Rattle.lists.specs.Edits.{written}
use Rattle.lists.proofs.Cases.{split, conj, not-false}
use Rattle.lists.proofs.RmapOrder.{good-facts}
use Rattle.lists.proofs.Fits.{storable-unshared}
use Rattle.lists.proofs.Laws.{written-front}
use Rattle.groups.specs.Joint.{NewLists, fit_all}
use Rattle.groups.specs.LetGo.{letting, let_go_questions, let_go_outcome}
use Rattle.groups.specs.Answer.{sizes_of, free_of}
use Rattle.groups.proofs.Asking.{others}
use Rattle.interface.specs.Interface.{number_of, figures_of, Says}
use Rattle.reasons.specs.declared.explain.Why.{Why}
use Rattle.reasons.specs.declared.explain.Why.TheVariants.{Free, HeldInMap, HeldInCounts, Staging}
use Rattle.reasons.specs.Why.{index_but, deciding_bytes, held_of, why_of, why_questions, explain_outcome}
use Rattle.reasons.specs.Answer.{part_said}
use Rattle.reasons.specs.Claims.{Offers, Answers}
use Rattle.reasons.proofs.Explaining.{every-why}
use Rattle.list_calls.specs.ListCalls.{group_figures, GroupEditSays}
use Rattle.list_calls.specs.ExplainFigures.{explain_figures, bytes_named, EveryNamed}
use Rattle.list_calls.specs.Explained.{free_written, SaidSo, EverySaidSo}
use Rattle.list_calls.proofs.Rooms as rooms

-- ---- a call that answered 0 is done

-- where no question has the number 0
answered : {A : Type 0} (qs : List Question) (x : A) → others 0 qs ≡ true → number_of (answer qs (done x)) ≡ 0 → answer qs (done x) ≡ done x
unfolding others
answered [] x o e = refl
answered (q ∷ qs) x o e =
    let other : not (eqb q.number 0) ≡ true = search conj in
    let rest : others 0 qs ≡ true = search conj in
    split q.holds
    (λ h. rw h (answered qs x rest (rw h at e)))
    (λ h. let n : q.number ≡ 0 = rw h at e in absurd (eqb-false q.number 0 (not-false (eqb q.number 0) other) n))

module _ (map counts : List ℕ) (x : Rmap) (b : ℕ) where
  abbrev why : Why
  why = why_of x b (records_of rmaps map) (records_of refcounts counts)

  explained : (said : List ℕ) → Says explain_figures (explain_outcome map counts x b) 0 said → explain_outcome map counts x b ≡ done why
  unfolding explain_outcome others
  explained said s = answered (why_questions map counts x b) why refl (sym s.number)

-- ---- the record named

named : (map counts : List ℕ) (w : Why) → bytes_named map counts (explain_figures w) ≡ deciding_bytes map counts w
unfolding bytes_at
named map counts Free = refl
named map counts (HeldInMap i) = refl
named map counts (HeldInCounts i) = refl
named map counts (Staging i) = refl

pub every-named : EveryNamed
every-named map counts x b said s =
    let e = explained map counts x b said s in
    ap (bytes_named map counts) (s.figures ∙ ap (figures_of explain_figures) e) ∙ named map counts (why map counts x b) ∙ sym (ap (part_said map counts) e)

-- ---- the letting go

module _ (map counts : List ℕ) (x : Rmap) (b r : ℕ) (said kept kept' lowered lowered' free free' : List ℕ) where
  abbrev o : Outcome NewLists
  o = let_go_outcome map counts x (length kept) (length lowered) (length free)

  module _ (p : GroupEditSays o r said kept kept' lowered lowered' free free') where
    abbrev left : NewLists
    left = letting x (records_of rmaps map) (records_of refcounts counts)

    -- the free extents are read back from where they were written
    read_back : (g : NewLists) → o ≡ done g → free_written said free' ≡ g.free
    unfolding let_go_outcome
    read_back g e =
        let asks : List Question = let_go_questions map counts x ++ (ask 26 (fit_all left (length kept) (length lowered) (length free)) ∷ []) in
        let held : AllHold asks × (left ≡ g) = done-means asks left g e in
        let n : get_or said 2 0 ≡ length (bytes_of free_extents g.free) =
        ap (λ (l : List ℕ). get_or l 2 0) (p.answer.figures ∙ ap (λ (q : Outcome NewLists). figures_of group_figures (sizes_of q)) e) in
        let f : free' ≡ written free_extents free (done g.free) = p.free_are ∙ ap (λ (q : Outcome NewLists). written free_extents free (free_of q)) e in
        let same : left.free ≡ g.free = ap (λ (h : NewLists). h.free) held.1 in
        rw (n, f, written-front free_extents free g.free)
        (rw (← same) (records_of-bytes_of free_extents free_extents-lawful left.free
        (storable-unshared (records_of refcounts counts) x.startblock x.blockcount (good-facts x held.0.1.1.0).1)))

    answers-so : (t : Bool) → Offers t b o → (r ≡ 26) ⊎ ((r ≡ 0) × (lies (free_written said free') b ≡ t))
    answers-so t (inl e) = inl (p.answer.number ∙ ap (λ (q : Outcome NewLists). number_of (sizes_of q)) e)
    answers-so t (inr (g, e, l)) = inr (p.answer.number ∙ ap (λ (q : Outcome NewLists). number_of (sizes_of q)) e, rw (read_back g e) l)

    by-cause : (w : Why) → Answers w b o → SaidSo (get_or (explain_figures w) 0 0) b r said free'
    by-cause Free a = record { free_now = λ e. answers-so true a; still_held = λ e. absurd (omega arith); staging = λ e. absurd (omega arith) }
    by-cause (HeldInMap i) a = record { free_now = λ e. absurd (omega arith); still_held = λ e. answers-so false a; staging = λ e. absurd (omega arith) }
    by-cause (HeldInCounts i) a = record { free_now = λ e. absurd (omega arith); still_held = λ e. answers-so false a; staging = λ e. absurd (omega arith) }
    by-cause (Staging i) a =
        record { free_now = λ e. absurd (omega arith); still_held = λ e. absurd (omega arith); staging = λ e. p.answer.number ∙ ap (λ (q : Outcome NewLists). number_of (sizes_of q)) a }

pub every-said-so : EverySaidSo
every-said-so map counts x b said s r figures kept kept' lowered lowered' free free' p =
    let e = explained map counts x b said s in
    let f : said ≡ explain_figures (why map counts x b) = s.figures ∙ ap (figures_of explain_figures) e in
    rw f
    (by-cause map counts x b r figures kept kept' lowered lowered' free free' p (why map counts x b)
    ((every-why map counts x b (why map counts x b) e).answers (length kept) (length lowered) (length free)))

-- ---- an instance: of 0/6, which 7 lets go, 8 holds 2/2 still

-- block 2 is held by the second record of the map, which begins at byte 24
explains-two : explain_outcome rooms.map rooms.counts (rooms.mapping 0 6 7) 2 ≡ done (HeldInMap 1)
unfolding explain_outcome why_of held_of index_where index_but bytes.be_of bytes.be_bytes records.fields_of records.field_bytes records.first_records records.records_of records.bytes_of accepted.whole accepted.in_order rmap.reserved rmap.mapping rmap.exempt rmap.good rmap.key_offset rmap.before rmap.follows refcount.staging refcount.good refcount.follows blocks.over edits.first edits.is_some edits.contains edits.lines_up edits.chosen lower.clear
explains-two = refl

says_two : Says explain_figures (explain_outcome rooms.map rooms.counts (rooms.mapping 0 6 7) 2) 0 (1 ∷ 1 ∷ 24 ∷ 24 ∷ [])
says_two = record { number = rw explains-two refl; figures = rw explains-two refl }

-- so the figures name that record, and block 2 is not among the free extents 0/2 and 4/2 that the letting go writes
names-two : bytes_named rooms.map rooms.counts (1 ∷ 1 ∷ 24 ∷ 24 ∷ []) ≡ deciding_bytes rooms.map rooms.counts (HeldInMap 1)
names-two = every-named rooms.map rooms.counts (rooms.mapping 0 6 7) 2 (1 ∷ 1 ∷ 24 ∷ 24 ∷ []) says_two ∙ ap (part_said rooms.map rooms.counts) explains-two

keeps-two : (◌≡◌ {A = ℕ} 0 26) ⊎ ((◌≡◌ {A = ℕ} 0 0) × (lies (free_written (24 ∷ 0 ∷ 16 ∷ 0 ∷ []) rooms.free) 2 ≡ false))
keeps-two =
    (every-said-so rooms.map rooms.counts (rooms.mapping 0 6 7) 2 (1 ∷ 1 ∷ 24 ∷ 24 ∷ []) says_two 0 (24 ∷ 0 ∷ 16 ∷ 0 ∷ []) (replicate 72 0) (rooms.kept ++ replicate 48 0) (replicate 36 0)
    (replicate 36 0) (replicate 16 0) rooms.free rooms.said-so).still_held refl

-- and block 0 is free now, and is among them
explains-zero : explain_outcome rooms.map rooms.counts (rooms.mapping 0 6 7) 0 ≡ done Free
unfolding explain_outcome why_of held_of index_where index_but bytes.be_of bytes.be_bytes records.fields_of records.field_bytes records.first_records records.records_of records.bytes_of accepted.whole accepted.in_order rmap.reserved rmap.mapping rmap.exempt rmap.good rmap.key_offset rmap.before rmap.follows refcount.staging refcount.good refcount.follows blocks.over edits.first edits.is_some edits.contains edits.lines_up edits.chosen lower.clear
explains-zero = refl

frees-zero : (◌≡◌ {A = ℕ} 0 26) ⊎ ((◌≡◌ {A = ℕ} 0 0) × (lies (free_written (24 ∷ 0 ∷ 16 ∷ 0 ∷ []) rooms.free) 0 ≡ true))
frees-zero =
    (every-said-so rooms.map rooms.counts (rooms.mapping 0 6 7) 0 (0 ∷ 0 ∷ 0 ∷ 0 ∷ []) (record { number = rw explains-zero refl; figures = rw explains-zero refl }) 0 (24 ∷ 0 ∷ 16 ∷ 0 ∷ [])
    (replicate 72 0) (rooms.kept ++ replicate 48 0) (replicate 36 0) (replicate 36 0) (replicate 16 0) rooms.free rooms.said-so).free_now refl
