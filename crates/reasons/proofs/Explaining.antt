-- `EveryWhy`: the record named covers the block, the part handed back holds it, and the letting go answers so.
-- Assumes nothing.
use Rattle.std.proofs.Common.{◌≡◌, ◌+◌, ◌*◌, ◌/◌, ◌<◌, ◌≤◌, ◌&&◌, ◌||◌, ◌∷◌, ◌∙◌, ℕ, suc, Bool, true, false, cond, not, eqb, ltb, leb, List, [], length, get_or, sym, refl, ap, subst, inl, inr, le_trans, zero-add, div-mul-le_self, arith, le-ltb, lt-ltb, ne_eqb}
use Rattle.codec.specs.Bytes.{bytes_at}
use Rattle.codec.specs.Question.{none, done, refused}
use Rattle.codec.specs.Records.{Kind, records_of, rmaps, refcounts}
use Rattle.codec.specs.Accepted.{in_order}
use Rattle.codec.specs.Rmaps as rmap
use Rattle.codec.specs.Refcounts as refcount
use Rattle.codec.specs.declared.rmap.Rmap.{Rmap}
use Rattle.codec.specs.declared.refcount.Refcount.{Refcount}
use Rattle.codec.proofs.Meaning.{AllHold, done-means}
use Rattle.codec.proofs.Parts.{length-bytes_at}
use Rattle.codec.proofs.RecordLists.{inside, length-records_of, get_d-records_of}
use Rattle.lists.specs.Extent.{over, within, lies}
use Rattle.lists.specs.RmapEdits.{index_where, cut_at}
use Rattle.lists.specs.Release.{owners, clear, unshared}
use Rattle.lists.proofs.Cases.{split, tests, conj, over-facts, within-over, within-not, and-off}
use Rattle.lists.proofs.Longest.{lies-runs}
use Rattle.lists.proofs.Index.{index-hits}
use Rattle.groups.specs.Joint.{fit_all}
use Rattle.groups.specs.LetGo.{letting, let_go_outcome}
use Rattle.reasons.specs.declared.explain.Why.{Why}
use Rattle.reasons.specs.declared.explain.Why.TheVariants.{Free, HeldInMap, HeldInCounts, Staging}
use Rattle.reasons.specs.Why.{map_over, shared_over, staged_over, index_but, stands, held_of, why_of, deciding_bytes, why_questions, explain_outcome}
use Rattle.reasons.specs.Claims.{Offers, Answers, Covers, HandsBack, EveryWhy}
use Rattle.reasons.proofs.Places.{but-passes}

-- ---- shared counts

shared-two : (r : Refcount) → refcount.good r ≡ true → refcount.staging r ≡ false → 2 ≤ r.refcount
unfolding refcount.good
shared-two r g e =
    let k : cond (refcount.staging r) (eqb r.refcount 1) (leb 2 r.refcount) ≡ true = search conj in
    let t : leb 2 r.refcount ≡ true = rw e at k in
    omega tests

next_place : (i n : ℕ) → not (ltb i n) ≡ not (ltb (suc i) (suc n))
next_place i n =
    split (ltb i n)
    (λ e. rw (e, lt-ltb (suc i) (suc n) (omega tests)) refl)
    (λ e. rw (e, le-ltb (suc i) (suc n) (omega tests)) refl)

-- a shared count lies over a block exactly if it has owners
pub owners-place : (q : Refcount) (c : List Refcount) (b : ℕ) → in_order refcount.good refcount.follows q c ≡ true → eqb (owners c b) 0 ≡ not (stands (index_where (shared_over b) c) c)
unfolding owners index_where in_order
owners-place q [] b h = refl
owners-place q (r ∷ c) b h =
    let g : refcount.good r ≡ true = search conj in
    let f : in_order refcount.good refcount.follows r c ≡ true = search conj in
    split (refcount.staging r)
    (λ e. rw (e, zero-add) (owners-place r c b f ∙ next_place (index_where (shared_over b) c) (length c)))
    (λ e. split (over r.startblock r.blockcount b)
    (λ o. let z : within r.startblock r.blockcount r.refcount b + owners c b ≡ 0 → ⊥ = omega (arith, within-over r.startblock r.blockcount r.refcount b o, shared-two r g e) in
    rw (e, o, lt-ltb 0 (suc (length c)) (omega arith)) (ne_eqb (within r.startblock r.blockcount r.refcount b + owners c b) 0 z))
    (λ o. rw (e, o, within-not r.startblock r.blockcount r.refcount b o, zero-add) (owners-place r c b f ∙ next_place (index_where (shared_over b) c) (length c))))

-- ---- staging

-- an extent over a block that a staging record lies over is not clear
pub staged-clear : (s e : ℕ) (c : List Refcount) (b : ℕ) → s ≤ b → b < e → index_where (staged_over b) c < length c → clear s e c ≡ false
unfolding index_where clear
staged-clear s e [] b h k l = absurd (omega arith)
staged-clear s e (r ∷ c) b h k l =
    split (staged_over b r)
    (λ t. let u : refcount.staging r ≡ true = search conj in
    let v : over (refcount.block r) r.blockcount b ≡ true = search conj in
    let o = over-facts (refcount.block r) r.blockcount b v in
    rw (u, lt-ltb (refcount.block r) e (omega arith), lt-ltb s (refcount.end r) (omega arith)) refl)
    (λ t. let l : suc (index_where (staged_over b) c) < suc (length c) = rw t at l in
    rw (staged-clear s e c b h k (omega arith)) (and-off (not (refcount.staging r && (ltb (refcount.block r) e && ltb s (refcount.end r))))))

-- ---- the claim

or-false : (t : Bool) → (t || false) ≡ true → t ≡ true
or-false true e = e
or-false false e = e

-- a part of a list that holds the record at a place
part-holds : {R : Type 0} (k : Kind R) (b : List ℕ) (i : ℕ) (d : R) → i < length (records_of k b)
    → (length (bytes_at b (i * k.size) k.size) ≡ k.size) × (k.decode (bytes_at b (i * k.size) k.size) ≡ get_or (records_of k b) i d)
part-holds k b i d h =
    let j : i < length b / k.size = rw (length-records_of k b) at h in
    (length-bytes_at b (i * k.size) k.size (le_trans (inside k.size i (length b / k.size) j) (div-mul-le_self (length b) k.size)), sym (get_d-records_of k b i d j))

holds-part : (map counts : List ℕ) (x : Rmap) (b : ℕ) (w : Why) → Covers w x b (records_of rmaps map) (records_of refcounts counts)
    → HandsBack w (records_of rmaps map) (records_of refcounts counts) (deciding_bytes map counts w)
holds-part map counts x b Free h = refl
holds-part map counts x b (HeldInMap i) h = part-holds rmaps map i rmap.least h.0
holds-part map counts x b (HeldInCounts i) h = part-holds refcounts counts i refcount.least h.0
holds-part map counts x b (Staging i) h = part-holds refcounts counts i refcount.least h.0

module _ (map counts : List ℕ) (x : Rmap) (b : ℕ) where
  abbrev m : List Rmap
  m = records_of rmaps map

  abbrev c : List Refcount
  c = records_of refcounts counts

  abbrev i : ℕ
  i = index_where (staged_over b) c

  abbrev j : ℕ
  j = index_where (shared_over b) c

  abbrev o : ℕ
  o = index_but (map_over b) (cut_at x m) m

  abbrev Claimed : Why → Type 0
  Claimed w = Covers w x b m c × ((room counts_room free_room : ℕ) → Answers w b (let_go_outcome map counts x room counts_room free_room))

  module _ (k : AllHold (why_questions map counts x b)) where
    inside-it : over x.startblock x.blockcount b ≡ true
    inside-it = k.1.1.1.1.1.1.1.0

    let-go : (room counts_room free_room : ℕ) → let_go_outcome map counts x room counts_room free_room
        ≡ cond (clear x.startblock (rmap.end x) c) (cond (fit_all (letting x m c) room counts_room free_room) (done (letting x m c)) (refused 26 none)) (refused 25 none)
    unfolding let_go_outcome
    let-go room counts_room free_room = rw (k.0, k.1.0, k.1.1.0, k.1.1.1.0, k.1.1.1.1.0, k.1.1.1.1.1.0) refl

    offered : (t : Bool) → clear x.startblock (rmap.end x) c ≡ true → not (stands j c) ≡ t → (room counts_room free_room : ℕ) → Offers t b (let_go_outcome map counts x room counts_room free_room)
    offered t e f room counts_room free_room =
        let l : lies (unshared c x.startblock x.blockcount) b ≡ t =
        lies-runs (λ b. eqb (owners c b) 0) x.startblock x.blockcount b ∙ rw inside-it (owners-place refcount.least c b k.1.1.1.1.1.0 ∙ f) in
        split (fit_all (letting x m c) room counts_room free_room)
        (λ u. inr (letting x m c, let-go room counts_room free_room ∙ rw (e, u) refl, l))
        (λ u. inl (let-go room counts_room free_room ∙ rw (e, u) refl))

    by_map : clear x.startblock (rmap.end x) c ≡ true → stands j c ≡ true → (t : Bool) → stands o m ≡ t → Claimed (cond t (HeldInMap o) (HeldInCounts j))
    by_map e f true g = ((omega tests, (but-passes (map_over b) (cut_at x m) m rmap.least (omega tests)).0, (but-passes (map_over b) (cut_at x m) m rmap.least (omega tests)).1), offered false e (ap not f))
    by_map e f false g = ((omega tests, index-hits (shared_over b) c refcount.least (omega tests)), offered false e (ap not f))

    by-shared : clear x.startblock (rmap.end x) c ≡ true → (t : Bool) → stands j c ≡ t → Claimed (cond t (cond (stands o m) (HeldInMap o) (HeldInCounts j)) Free)
    by-shared e true f = by_map e f (stands o m) refl
    by-shared e false f = (tt, offered true e (ap not f))

    by-staging : (t : Bool) → stands i c ≡ t → Claimed (cond t (Staging i) (cond (stands j c) (cond (stands o m) (HeldInMap o) (HeldInCounts j)) Free))
    by-staging true f =
        let p = over-facts x.startblock x.blockcount b inside-it in (
          (omega tests, index-hits (staged_over b) c refcount.least (omega tests)),
          λ room counts_room free_room. let-go room counts_room free_room ∙ rw (staged-clear x.startblock (rmap.end x) c b p.0 p.1 (omega tests)) refl,
        )
    by-staging false f = by-shared (or-false (clear x.startblock (rmap.end x) c) (rw f at k.1.1.1.1.1.1.0)) (stands j c) refl

    claimed : Claimed (why_of x b m c)
    unfolding why_of held_of
    claimed = by-staging (stands i c) refl

pub every-why : EveryWhy
unfolding explain_outcome
every-why map counts x b w h =
    let k = done-means (why_questions map counts x b) (why_of x b (records_of rmaps map) (records_of refcounts counts)) w h in
    let d : Claimed map counts x b w = subst (Claimed map counts x b) k.1 (claimed map counts x b k.0) in
    record { covers = d.0; part = holds-part map counts x b w d.0; answers = d.1 }
