-- What is claimed of an explanation, `EveryWhy`: the record named covers the block, the part handed back holds it, and the letting go answers so.
-- And what it says where the lists agree, `EveryHolder`: who holds the block afterwards.
-- Assumes nothing.
use Rattle.std.specs.Prelude.{◌≡◌, ◌<◌, ◌⊎◌, ◌≢◌, ℕ, Bool, true, false, List, [], length, slice_index_or}
use Rattle.codec.specs.Question.{none, Outcome, done, refused}
use Rattle.codec.specs.Records.{records_of, rmaps, refcounts}
use Rattle.codec.specs.Rmaps as rmap
use Rattle.codec.specs.Refcounts as refcount
use Rattle.codec.specs.declared.rmap.Rmap.{Rmap}
use Rattle.codec.specs.declared.refcount.Refcount.{Refcount}
use Rattle.lists.specs.Extent.{lies}
use Rattle.lists.specs.Holders.{holders}
use Rattle.lists.specs.RmapEdits.{cut_at, remove}
use Rattle.groups.specs.Joint.{NewLists}
use Rattle.groups.specs.LetGo.{let_go_outcome}
use Rattle.groups.specs.History.{Lists, Accepted, Agreeing}
use Rattle.reasons.specs.declared.explain.Why.{Why}
use Rattle.reasons.specs.declared.explain.Why.TheVariants.{Free, HeldInMap, HeldInCounts, Staging}
use Rattle.reasons.specs.Why.{map_over, shared_over, staged_over, deciding_bytes, explain_outcome}

-- ---- the record named, and the release

-- the letting go, unless 26 stops it, leaves block b among its free extents, or not
abbrev pub Offers : Bool → ℕ → Outcome NewLists → Type 0
Offers t b o = (o ≡ refused 26 none) ⊎ ((g : NewLists) × (o ≡ done g) × (lies g.free b ≡ t))

-- it answers so for block b: 25 for staging
abbrev pub Answers : Why → ℕ → Outcome NewLists → Type 0
Answers Free b o = Offers true b o
Answers (HeldInMap i) b o = Offers false b o
Answers (HeldInCounts i) b o = Offers false b o
Answers (Staging i) b o = o ≡ refused 25 none

-- the record named stands in its list and covers b; in the reverse map it is another than the one cut
abbrev pub Covers : Why → Rmap → ℕ → List Rmap → List Refcount → Type 0
Covers Free x b m c = Unit {0}
Covers (HeldInMap i) x b m c = (i < length m) × (map_over b (slice_index_or m i rmap.least) ≡ true) × (i ≢ cut_at x m)
Covers (HeldInCounts i) x b m c = (i < length c) × (shared_over b (slice_index_or c i refcount.least) ≡ true)
Covers (Staging i) x b m c = (i < length c) × (staged_over b (slice_index_or c i refcount.least) ≡ true)

-- the part handed back holds that record, and a free block's is empty
abbrev pub HandsBack : Why → List Rmap → List Refcount → (part : List ℕ) → Type 0
HandsBack Free m c part = part ≡ []
HandsBack (HeldInMap i) m c part = (length part ≡ rmaps.size) × (rmaps.decode part ≡ slice_index_or m i rmap.least)
HandsBack (HeldInCounts i) m c part = (length part ≡ refcounts.size) × (refcounts.decode part ≡ slice_index_or c i refcount.least)
HandsBack (Staging i) m c part = (length part ≡ refcounts.size) × (refcounts.decode part ≡ slice_index_or c i refcount.least)

pub record Shown (map counts : List ℕ) (x : Rmap) (b : ℕ) (w : Why) : Type 0 where
  pub covers : Covers w x b (records_of rmaps map) (records_of refcounts counts)
  pub part : HandsBack w (records_of rmaps map) (records_of refcounts counts) (deciding_bytes map counts w)
  pub answers : (room counts_room free_room : ℕ) → Answers w b (let_go_outcome map counts x room counts_room free_room)

abbrev pub EveryWhy : Type 0
EveryWhy = (map counts : List ℕ) (x : Rmap) (b : ℕ) (w : Why) → explain_outcome map counts x b ≡ done w → Shown map counts x b w

-- ---- lists that agree

-- a free block has no holder left, and a block still held has one: a record of the reverse map is named for it, and never the count
abbrev pub HeldAfter : Why → ℕ → Type 0
HeldAfter Free n = n ≡ 0
HeldAfter (HeldInMap i) n = 0 < n
HeldAfter (HeldInCounts i) n = ⊥
HeldAfter (Staging i) n = Unit {0}

-- in lists that are accepted and agree, as in every history
abbrev pub EveryHolder : Type 0
EveryHolder =
    (σ : Lists) (x : Rmap) (b : ℕ) (w : Why) → Accepted σ → Agreeing σ → explain_outcome σ.map σ.counts x b ≡ done w
    → HeldAfter w (holders (remove x (records_of rmaps σ.map)) b)
