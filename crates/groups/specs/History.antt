-- Histories: lists of takes and lets go, refused ones included, run from a reverse map and counts, and what is claimed of each of them.
-- The statement is `EveryHistory`, at the end; what it speaks of stands before it. proofs/History.antt proves it, with an instance in which blocks are
-- shared. proofs/Example.antt has the steps of that instance, and proofs/Storing.antt builds, stores and walks back what it leaves.
-- Assumes nothing.
use Rattle.std.specs.Prelude.{ℕ, ◌+◌, ◌*◌, ◌≤◌, max, Bool, true, false, not, ◌&&◌, ◌||◌, ◌≡◌, refl, ◌↔◌, List, [], ◌∷◌, ◌++◌, eqb, length}
use Rattle.codec.specs.Bytes.{IsBytes}
use Rattle.codec.specs.Question.{Values, Outcome, done, refused, map_outcome}
use Rattle.codec.specs.Records.{records_of, bytes_of, RmapFits, rmaps, refcounts}
use Rattle.codec.specs.Accepted.{whole}
use Rattle.codec.specs.Rmaps as rmap
use Rattle.codec.specs.Refcounts as refcount
use Rattle.codec.specs.declared.rmap.Rmap.{Rmap}
use Rattle.codec.specs.declared.refcount.Refcount.{Refcount}
use Rattle.codec.specs.declared.free_extent.FreeExtent.{FreeExtent}
use Rattle.blocks.specs.declared.geometry.Geometry.{Geometry}
use Rattle.blocks.specs.declared.kind.TreeKind.{TreeKind}
use Rattle.blocks.specs.declared.kind.TreeKind.TheVariants as kind
use Rattle.blocks.specs.Geometry.{geometry_ok, Fits, with_lsn}
use Rattle.trees.specs.Plan.{sum}
use Rattle.walks.specs.WalkCall.{Lent}
use Rattle.trees.specs.Build.{plan_of, AreNumbers, Places, stored}
use Rattle.trees.specs.BuildCall.{built_bytes, build_outcome}
use Rattle.walks.specs.Shapes.{shape_of}
use Rattle.trees.specs.RoundTrip as trip
use Rattle.lists.specs.Extent.{over, within, Longest}
use Rattle.lists.specs.Holders.{holders}
use Rattle.lists.specs.Settled.{staged}
use Rattle.lists.specs.Edits.{insert_outcome}
use Rattle.groups.specs.Joint.{NewLists}
use Rattle.groups.specs.LetGo.{let_go_outcome}
use Rattle.groups.specs.TakeHeld.{take_held_outcome}

-- ---- holders

-- the number of records over block b is `holders` of crates/lists, by these two equations: none in an empty list; in another, 1 if the first
-- record lies over b, and those of the rest
pub holders-none : (b : ℕ) → holders [] b ≡ 0
unfolding holders
holders-none b = refl

pub holders-more : (r : Rmap) (l : List Rmap) (b : ℕ) → holders (r ∷ l) b ≡ within r.startblock r.blockcount 1 b + holders l b
unfolding holders
holders-more r l b = refl

-- ---- agree

-- does a shared count n lie over block b? Staging is no shared count.
unfoldable pub shared : ℕ → ℕ → List Refcount → Bool
shared n b [] = false
shared n b (r ∷ l) = not (refcount.staging r) && (over r.startblock r.blockcount b && eqb r.refcount n) || shared n b l

-- a shared count n lies over a block exactly if n records, two or more, do
abbrev pub Agree : List Rmap → List Refcount → Type 0
Agree map counts = (b n : ℕ) → (shared n b counts ≡ true) ↔ ((2 ≤ n) × (holders map b ≡ n))

-- ---- the two lists

-- the bytes of a reverse map and of shared counts
pub record Lists : Type 0 where
  pub map : List ℕ
  pub counts : List ℕ

-- an accepted reverse map passes 19 and 20, accepted counts 19 and 21
pub record Accepted (σ : Lists) : Type 0 where
  pub map_bytes : IsBytes σ.map
  pub counts_bytes : IsBytes σ.counts
  pub map_whole : whole rmaps.size σ.map ≡ true
  pub map_order : rmap.accepted (records_of rmaps σ.map) ≡ true
  pub counts_whole : whole refcounts.size σ.counts ≡ true
  pub counts_order : refcount.accepted (records_of refcounts σ.counts) ≡ true

abbrev pub Agreeing : Lists → Type 0
Agreeing σ = Agree (records_of rmaps σ.map) (records_of refcounts σ.counts)

-- how many records lie over block b
abbrev pub held : Lists → ℕ → ℕ
held σ b = holders (records_of rmaps σ.map) b

-- ---- one change

-- first takes by `insert`, takes of held blocks, and lets go, with any extents and output lengths. The numbers of an extent that is taken fit
-- their fields, as in memory: the change carries that.
pub data Change : Type 0 where
  take : (x : Rmap) → RmapFits x → (room : ℕ) → Change
  take_held : (x : Rmap) → RmapFits x → (room counts_room : ℕ) → Change
  let_go : (x : Rmap) → (room counts_room free_room : ℕ) → Change

-- what an accepted call leaves: the lists, and the free extents that it offers
pub record Left : Type 0 where
  pub lists : Lists
  pub free : List FreeExtent

-- a first take leaves the counts alone; a take of held blocks and a let go change both lists
abbrev pub took : Lists → List Rmap → Left
took σ m = record { lists = record { map = bytes_of rmaps m; counts = σ.counts }; free = [] }

abbrev pub changed : NewLists → Left
changed g = record { lists = record { map = bytes_of rmaps g.map; counts = bytes_of refcounts g.counts }; free = g.free }

-- each outcome is the one 01 defines, 23 of a first take being 02's, or 02 for a take of held blocks. That a caller of `insert`, `take_held` or
-- `let_go` then holds the lists that are left, in the buffers that it lent, is `EveryCall` of specs/Calls.antt, from the contracts alone.
unfoldable pub step : Lists → Change → Outcome Left
step σ (take x fits room) = map_outcome (took σ) (insert_outcome σ.map x room)
step σ (take_held x fits room counts_room) = map_outcome changed (take_held_outcome σ.map σ.counts x room counts_room)
step σ (let_go x room counts_room free_room) = map_outcome changed (let_go_outcome σ.map σ.counts x room counts_room free_room)

-- each call reads the lists the last accepted one left
unfoldable pub after : Lists → Outcome Left → Lists
after σ (done w) = w.lists
after σ (refused n v) = σ

-- 1 at the blocks that an accepted call covered, and 0 elsewhere
unfoldable pub covered : Outcome Left → Rmap → ℕ → ℕ
covered (done w) x b = within x.startblock x.blockcount 1 b
covered (refused n v) x b = 0

-- the same of takes alone, and of lets go alone
unfoldable pub taken : Change → Outcome Left → ℕ → ℕ
taken (take x fits room) o b = covered o x b
taken (take_held x fits room counts_room) o b = covered o x b
taken (let_go x room counts_room free_room) o b = 0

unfoldable pub gone : Change → Outcome Left → ℕ → ℕ
gone (take x fits room) o b = 0
gone (take_held x fits room counts_room) o b = 0
gone (let_go x room counts_room free_room) o b = covered o x b

-- ---- the whole list

-- the lists after all changes
unfoldable pub run : Lists → List Change → Lists
run σ [] = σ
run σ (c ∷ cs) = run (after σ (step σ c)) cs

-- how many accepted takes, and how many accepted lets go, covered block b
unfoldable pub takes : Lists → List Change → ℕ → ℕ
takes σ [] b = 0
takes σ (c ∷ cs) b = taken c (step σ c) b + takes (after σ (step σ c)) cs b

unfoldable pub lets_go : Lists → List Change → ℕ → ℕ
lets_go σ [] b = 0
lets_go σ (c ∷ cs) b = gone c (step σ c) b + lets_go (after σ (step σ c)) cs b

-- c is a change of the list cs, and before are those before it
pub record At (cs before : List Change) (c : Change) : Type 0 where
  pub rest : List Change
  pub stands : cs ≡ before ++ (c ∷ rest)

-- ---- built, stored and walked

-- what is built and where it is stored: a version 5 geometry, distinct given numbers inside the image, as many as planned and within the
-- visit limit, room for the blocks, and long enough lists and scratch
pub record Stored (kind : TreeKind) (list : List ℕ) (g : Geometry) (numbers image : List ℕ) (room : ℕ) (lent : Lent) : Type 0 where
  pub geometry : geometry_ok g ≡ true
  pub fields : Fits g
  pub version : g.version ≡ 5
  pub levels : trip.levels_for g kind list ≤ 9
  pub numbers_fit : AreNumbers numbers
  pub planned : length numbers ≡ sum (plan_of (shape_of g kind) list)
  pub places : Places g.blocksize (length image) numbers
  pub limit : length numbers ≤ max g.agblocks 64
  pub room_left : length numbers * g.blocksize ≤ room
  pub long : trip.LongEnough list numbers lent

-- build accepts it, and the walk of the image, whatever else that holds, from the last block over the planned levels, under the sequence number that it
-- was built with and any higher one, returns the records byte for byte and the block numbers, both in order, in the planned number of visits, and every
-- level is linked
pub record Back (kind : TreeKind) (list : List ℕ) (g : Geometry) (numbers image : List ℕ) (room : ℕ) (lent : Lent) : Type 0 where
  pub built : build_outcome g kind list numbers room ≡ done (built_bytes g kind list numbers)
  pub walked : (n : ℕ) → g.last_lsn ≤ n
      → trip.Returned (with_lsn g n) kind list numbers (stored g.blocksize image numbers (built_bytes g kind list numbers)) lent

-- each list so built and stored comes back so
abbrev pub Returned : TreeKind → List ℕ → Type 0
Returned kind list =
    (g : Geometry) (numbers image : List ℕ) (room : ℕ) (lent : Lent) → Stored kind list g numbers image room lent → Back kind list g numbers image room lent

-- ---- the claim

-- what a history starts from: a reverse map and counts that are accepted and agree. Nothing is asked of the changes.
pub record Start (σ : Lists) : Type 0 where
  pub accepted : Accepted σ
  pub agree : Agreeing σ

-- what comes of it
pub record Claim (σ : Lists) (cs : List Change) : Type 0 where
  -- after the whole list, the number of records over each block is the starting one + accepted takes − accepted lets go that covered it
  pub sum : (b : ℕ) → held (run σ cs) b + lets_go σ cs b ≡ held σ b + takes σ cs b
  -- and reverse map and counts are again accepted and agree
  pub accepted : Accepted (run σ cs)
  pub agree : Agreeing (run σ cs)
  -- staging lies over the same blocks as before
  pub staging : (b : ℕ) → staged (records_of refcounts (run σ cs).counts) b ≡ staged (records_of refcounts σ.counts) b
  -- a refused call changes neither
  pub refusals : (before : List Change) (c : Change) → At cs before c → (n : ℕ) (v : Values) → step (run σ before) c ≡ refused n v
      → run σ (before ++ (c ∷ [])) ≡ run σ before
  -- each accepted let go offers exactly those of its blocks that no record holds after it, as longest runs, ascending: extents within the one let
  -- go, over its unheld blocks and no other, of which no two touch (`Longest` of crates/lists/specs/Extent.antt)
  pub offers : (before : List Change) (x : Rmap) (room counts_room free_room : ℕ) → At cs before (let_go x room counts_room free_room)
      → (w : Left) → step (run σ before) (let_go x room counts_room free_room) ≡ done w
      → Longest (λ b. eqb (held w.lists b) 0) x.startblock x.blockcount w.free
  -- each of the two, built and stored, is returned by the walk
  pub map_returned : Returned kind.Rmap (run σ cs).map
  pub counts_returned : Returned kind.Refcount (run σ cs).counts

-- every history from such a start comes out so
abbrev pub EveryHistory : Type 0
EveryHistory = (σ : Lists) (cs : List Change) → Start σ → Claim σ cs
