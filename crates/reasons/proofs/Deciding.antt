-- The questions of an explanation out of those of its two halves: what the search for another record answers, and what the release of the counts.
-- Assumes nothing.
use Rattle.std.proofs.Common.{◌/◌, ◌<◌, ◌≤◌, ◌||◌, ◌∷◌, ◌++◌, ◌∙◌, ◌≡◌, ℕ, Bool, true, false, cond, List, [], length, sym, refl, ap, arith, le-ltb, lt-ltb}
use Rattle.std.specs.Prelude.{Result, Ok, Err, Some, None, position}
use Rattle.codec.specs.Question.{none, Outcome, done, refused, Question, ask, answer, map_outcome}
use Rattle.codec.specs.Records.{records_of, bytes_of, rmaps, refcounts, free_extents}
use Rattle.codec.specs.Accepted.{whole}
use Rattle.codec.specs.Rmaps as rmap
use Rattle.codec.specs.Refcounts as refcount
use Rattle.codec.specs.declared.check.ListRefusal.TheVariants.{Length, RmapOrder, ExtentOrder}
use Rattle.codec.specs.declared.rmap.Rmap.{Rmap}
use Rattle.codec.specs.declared.refcount.Refcount.{Refcount}
use Rattle.codec.proofs.Meaning.{AllHold, done-means}
use Rattle.codec.proofs.RecordLists.{length-records_of}
use Rattle.lists.specs.declared.EditRefusal.{EditRefusal}
use Rattle.lists.specs.declared.EditRefusal.TheVariants as why
use Rattle.lists.specs.declared.Lengths.{Lengths}
use Rattle.lists.specs.Extent.{over}
use Rattle.lists.specs.RmapEdits.{index_where, contained, cut_at}
use Rattle.lists.specs.Release.{clear}
use Rattle.lists.specs.Edits.{map_questions, Freed, freed}
use Rattle.lists.specs.Answer.{edit_number, released_outcome, lengths_of}
use Rattle.lists.specs.Steps.{measure_outcome}
use Rattle.lists.proofs.Cases.{split, tests, over-facts}
use Rattle.groups.proofs.Asking.{answer-refused, answer-done, extent-good}
use Rattle.reasons.specs.declared.explain.Why.{Why}
use Rattle.reasons.specs.declared.explain.Why.TheVariants.{Free, HeldInMap, HeldInCounts, Staging}
use Rattle.reasons.specs.Why.{map_over, shared_over, staged_over, index_but, staged_at, held_of, why_of, deciding_bytes, explain_outcome}
use Rattle.reasons.specs.declared.explain.ExplainRefusal.{ExplainRefusal}
use Rattle.reasons.specs.Answer.{explain_number, explain_values, explained_outcome, number_said, Named, Explains}
use Rattle.reasons.specs.Claims.{Covers}
use Rattle.reasons.specs.Inner.Finding.{probe, other_before26}
use Rattle.reasons.specs.Inner.Deciding.{staged_answer, held_answer, counts_answer}
use Rattle.reasons.proofs.Places.{none-stands, some-stands}
use Rattle.reasons.proofs.Explaining.{staged-clear, every-why}

-- ---- the questions of the counts. Each letter is a question's truth: a, d the counts' list, k no staging, s a staging record over the block, o inside.

never : {A P : Type 0} (x : A) (n : ℕ) → refused n none ≡ done x → P
never x n e = let z : ◌≡◌ {A = ℕ} 0 1 = cc in absurd (omega arith)

module _ {A B : Type 0} (size : A → B) (x : A) (staging held : Why) where
  abbrev released-counts : Bool → Bool → Bool → Outcome B
  released-counts a d k = map_outcome size (answer (ask 19 a ∷ ask 21 d ∷ ask 25 k ∷ []) (done x))

  abbrev explained : Bool → Bool → Bool → Bool → Bool → Outcome Why
  explained a d k s o = answer (ask 19 a ∷ ask 21 d ∷ ask 25 (k || s) ∷ ask 31 o ∷ []) (done (cond s staging held))

  -- refused by another question than 25
  list-refuses : (a d k s o : Bool) (n : ℕ) → (n ≡ 25 → ⊥) → refused n none ≡ released-counts a d k → refused n none ≡ explained a d k s o
  list-refuses false d k s o n i e = let q : n ≡ 19 = cc in rw q refl
  list-refuses true false k s o n i e = let q : n ≡ 21 = cc in rw q refl
  list-refuses true true false s o n i e = let q : n ≡ 25 = cc in absurd (i q)
  list-refuses true true true s o n i e = never (size x) n e

  -- by 25: it is asked only if no staging record lies over the block
  staging-refuses : (a d k s o : Bool) → refused 25 none ≡ released-counts a d k → answer (ask 25 s ∷ ask 31 o ∷ []) (done staging) ≡ explained a d k s o
  staging-refuses false d k s o e = let q : ◌≡◌ {A = ℕ} 25 19 = cc in absurd (omega arith)
  staging-refuses true false k s o e = let q : ◌≡◌ {A = ℕ} 25 21 = cc in absurd (omega arith)
  staging-refuses true true false true o e = refl
  staging-refuses true true false false o e = refl
  staging-refuses true true true s o e = never (size x) 25 e

  -- by none: a block inside is under no staging record
  none-refuses : (a d k s o : Bool) (y : B) → (k ≡ true → o ≡ true → s ≡ false) → done y ≡ released-counts a d k → answer (ask 31 o ∷ []) (done held) ≡ explained a d k s o
  none-refuses false d k s o y i e = never y 19 (sym e)
  none-refuses true false k s o y i e = never y 21 (sym e)
  none-refuses true true false s o y i e = never y 25 (sym e)
  none-refuses true true true s false y i e = refl
  none-refuses true true true s true y i e = rw (i refl refl) refl

-- ---- the searches' places

module _ (map counts : List ℕ) (other b : ℕ) where
  abbrev m : List Rmap
  m = records_of rmaps map

  abbrev c : List Refcount
  c = records_of refcounts counts

  pub free_now : None ≡ position (shared_over b) c → Free ≡ held_of other b m c
  unfolding held_of
  free_now e = rw (none-stands (shared_over b) c e) refl

  module _ (i : ℕ) (e : Some i ≡ position (shared_over b) c) where
    pub held-in-map : other < length map / 24 → HeldInMap other ≡ held_of other b m c
    unfolding held_of
    held-in-map k = let s = some-stands (shared_over b) c i e in rw (s.0, lt-ltb other (length m) (omega (arith, length-records_of rmaps map))) refl

    pub held-in-counts : length map / 24 ≤ other → HeldInCounts i ≡ held_of other b m c
    unfolding held_of
    held-in-counts k =
        let s = some-stands (shared_over b) c i e in
        rw (s.0, s.1, le-ltb other (length m) (omega (arith, length-records_of rmaps map))) refl

module _ (counts : List ℕ) (x : Rmap) (b : ℕ) where
  pub staged-none : None ≡ position (staged_over b) (records_of refcounts counts) → refused 25 none ≡ staged_answer x b (records_of refcounts counts)
  staged-none e = rw (none-stands (staged_over b) (records_of refcounts counts) e) refl

  module _ (i : ℕ) (e : Some i ≡ position (staged_over b) (records_of refcounts counts)) where
    pub staged-outside : over x.startblock x.blockcount b ≡ false → refused 31 none ≡ staged_answer x b (records_of refcounts counts)
    staged-outside f = rw ((some-stands (staged_over b) (records_of refcounts counts) i e).0, f) refl

    pub staged-here : over x.startblock x.blockcount b ≡ true → done (Staging i) ≡ staged_answer x b (records_of refcounts counts)
    staged-here f = let s = some-stands (staged_over b) (records_of refcounts counts) i e in rw (s.0, s.1, f) refl

  -- the arm of every refusal but 25
  pub refused-other : (q : EditRefusal) → (q ≡ why.Staging → ⊥) → refused (edit_number q) none ≡ counts_answer x b (records_of refcounts counts) q
  refused-other (why.List r) k = refl
  refused-other why.Extent k = refl
  refused-other why.Overlap k = refl
  refused-other why.Missing k = refl
  refused-other why.Staging k = absurd (k refl)
  refused-other why.Room k = refl
  refused-other why.Unheld k = refl
  refused-other why.Owners k = refl

-- ---- the call

-- the bytes of the new counts and of the free extents
abbrev lengths : Freed → Lengths
lengths f = record { counts = length (bytes_of refcounts f.counts); free = length (bytes_of free_extents f.free) }

module _ (map counts : List ℕ) (x : Rmap) (b : ℕ) where
  -- the reverse map's questions, and the others
  abbrev map_asks : List Question
  map_asks = map_questions map x ++ (ask 24 (contained x (records_of rmaps map)) ∷ [])

  abbrev a : Bool
  a = whole refcounts.size counts

  abbrev d : Bool
  d = refcount.accepted (records_of refcounts counts)

  abbrev k : Bool
  k = clear x.startblock (rmap.end x) (records_of refcounts counts)

  abbrev s : Bool
  s = staged_at b (records_of refcounts counts)

  abbrev o : Bool
  o = over x.startblock x.blockcount b

  abbrev rest_asks : List Question
  rest_asks = ask 19 a ∷ ask 21 d ∷ ask 25 (k || s) ∷ ask 31 o ∷ []

  abbrev explained_why : Why
  explained_why = why_of x b (records_of rmaps map) (records_of refcounts counts)

  -- the record that is looked for, and the one that is found where the block is one of x
  abbrev other_at : ℕ → ℕ
  other_at k = index_but (map_over k) (cut_at x (records_of rmaps map)) (records_of rmaps map)

  pub map-refused : (q : EditRefusal) → refused (edit_number q) none ≡ other_before26 map x b → refused (edit_number q) none ≡ explain_outcome map counts x b
  unfolding other_before26 explain_outcome
  map-refused q h = sym (answer-refused map_asks rest_asks (other_at (probe x b)) (done explained_why) (edit_number q) none (sym h))

  module _ (i : ℕ) (h : done i ≡ other_before26 map x b) where
    asked : answer map_asks (done (other_at (probe x b))) ≡ done i
    unfolding other_before26
    asked = sym h

    held-is : AllHold map_asks × (other_at (probe x b) ≡ i)
    held-is = done-means map_asks (other_at (probe x b)) i asked

    other-is : o ≡ true → i ≡ other_at b
    other-is e = sym held-is.1 ∙ rw e refl

    abbrev held : Why
    held = held_of (other_at b) b (records_of rmaps map) (records_of refcounts counts)

    abbrev staged : Why
    staged = Staging (index_where (staged_over b) (records_of refcounts counts))

    after_map : explain_outcome map counts x b ≡ answer rest_asks (done (cond s staged held))
    unfolding explain_outcome why_of
    after_map = answer-done map_asks rest_asks (other_at (probe x b)) i (done explained_why) asked

    -- where the block is none of x nothing else is asked
    held-so : held_answer x i b (records_of rmaps map) (records_of refcounts counts) ≡ answer (ask 31 o ∷ []) (done held)
    held-so = split o (λ e. rw (e, other-is e) refl) (λ e. rw e refl)

    -- 22 of the counts holds
    measure-is : measure_outcome counts x.startblock x.blockcount ≡ answer (ask 19 a ∷ ask 21 d ∷ ask 25 k ∷ []) (done (freed (records_of refcounts counts) x.startblock x.blockcount))
    unfolding measure_outcome
    measure-is = rw (extent-good x held-is.0.1.1.0) refl

    pub counts-refused : (q : EditRefusal) → released_outcome (Err q) ≡ lengths_of (measure_outcome counts x.startblock x.blockcount)
        → counts_answer x b (records_of refcounts counts) q ≡ explain_outcome map counts x b
    counts-refused q e = by-refusal q (e ∙ ap lengths_of measure-is)
      where
        other : (n : ℕ) → (n ≡ 25 → ⊥) → refused n none ≡ lengths_of (answer (ask 19 a ∷ ask 21 d ∷ ask 25 k ∷ []) (done (freed (records_of refcounts counts) x.startblock x.blockcount)))
            → refused n none ≡ explain_outcome map counts x b
        other n i f =
            list-refuses lengths (freed (records_of refcounts counts) x.startblock x.blockcount) staged held a d k s o n i f ∙ sym after_map

        by-refusal : (q : EditRefusal) → released_outcome (Err q) ≡ lengths_of (answer (ask 19 a ∷ ask 21 d ∷ ask 25 k ∷ []) (done (freed (records_of refcounts counts) x.startblock x.blockcount)))
            → counts_answer x b (records_of refcounts counts) q ≡ explain_outcome map counts x b
        by-refusal (why.List Length) f = other 19 (λ z. omega arith) f
        by-refusal (why.List RmapOrder) f = other 20 (λ z. omega arith) f
        by-refusal (why.List ExtentOrder) f = other 21 (λ z. omega arith) f
        by-refusal why.Extent f = other 22 (λ z. omega arith) f
        by-refusal why.Overlap f = other 23 (λ z. omega arith) f
        by-refusal why.Missing f = other 24 (λ z. omega arith) f
        by-refusal why.Staging f =
            staging-refuses lengths (freed (records_of refcounts counts) x.startblock x.blockcount) staged held a d k s o f ∙ sym after_map
        by-refusal why.Room f = other 26 (λ z. omega arith) f
        by-refusal why.Unheld f = other 27 (λ z. omega arith) f
        by-refusal why.Owners f = other 28 (λ z. omega arith) f

    pub counts-done : (n : Lengths) → released_outcome (Ok n) ≡ lengths_of (measure_outcome counts x.startblock x.blockcount)
        → held_answer x i b (records_of rmaps map) (records_of refcounts counts) ≡ explain_outcome map counts x b
    counts-done n e =
        held-so ∙ none-refuses lengths (freed (records_of refcounts counts) x.startblock x.blockcount) staged held a d k s o n unstaged (e ∙ ap lengths_of measure-is) ∙ sym after_map
      where
        unstaged : k ≡ true → o ≡ true → s ≡ false
        unstaged u v =
            let p = over-facts x.startblock x.blockcount b v in
            split s
            (λ e. let z : true ≡ false = sym u ∙ staged-clear x.startblock (rmap.end x) (records_of refcounts counts) b p.0 p.1 (omega tests) in let z : ◌≡◌ {A = ℕ} 0 1 = cc in absurd (omega arith))
            (λ e. e)

-- ---- the record named stands in its list

covers-named : (map counts : List ℕ) (x : Rmap) (b : ℕ) (w : Why) → Covers w x b (records_of rmaps map) (records_of refcounts counts)
    → Named w (length map / rmaps.size) (length counts / refcounts.size)
covers-named map counts x b Free h = tt
covers-named map counts x b (HeldInMap i) h = rw (length-records_of rmaps map) at h.0
covers-named map counts x b (HeldInCounts i) h = rw (length-records_of refcounts counts) at h.0
covers-named map counts x b (Staging i) h = rw (length-records_of refcounts counts) at h.0

pub said-named : (map counts : List ℕ) (x : Rmap) (b : ℕ) (w : Why) → done w ≡ explain_outcome map counts x b
    → Named w (length map / rmaps.size) (length counts / refcounts.size)
said-named map counts x b w e = covers-named map counts x b w (every-why map counts x b w (sym e)).covers

-- and so it does in longer lists
pub named_more : (w : Why) (m c m' c' : ℕ) → m ≤ m' → c ≤ c' → Named w m c → Named w m' c'
named_more Free m c m' c' h k n = tt
named_more (HeldInMap i) m c m' c' h k n = omega arith
named_more (HeldInCounts i) m c m' c' h k n = omega arith
named_more (Staging i) m c m' c' h k n = omega arith

-- ---- what is handed back and said

module _ (map counts : List ℕ) (x : Rmap) (b : ℕ) (answer : Result Why ExplainRefusal) where
  pub explains-said : (w : Why) → answer ≡ Ok w → explained_outcome answer ≡ explain_outcome map counts x b → (part : List ℕ) → part ≡ deciding_bytes map counts w
      → (n : ℕ) → n ≡ number_said (explained_outcome answer) → Explains map counts x b part n
  explains-said w e h part p n q =
      let o : explain_outcome map counts x b ≡ done w = sym h ∙ ap explained_outcome e in
      rw o (record { part_is = p; said_is = q ∙ ap (λ (r : Result Why ExplainRefusal). number_said (explained_outcome r)) e })

  pub explains-refused : (r : ExplainRefusal) → answer ≡ Err r → explained_outcome answer ≡ explain_outcome map counts x b
      → (n : ℕ) → n ≡ number_said (explained_outcome answer) → Explains map counts x b [] n
  explains-refused r e h n q =
      let o : explain_outcome map counts x b ≡ refused (explain_number r) (explain_values r) = sym h ∙ ap explained_outcome e in
      rw o (record { part_is = refl; said_is = q ∙ ap (λ (r : Result Why ExplainRefusal). number_said (explained_outcome r)) e })
