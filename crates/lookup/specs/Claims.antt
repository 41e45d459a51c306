-- What is claimed of every lookup, in any tree that the walk accepts and in one that was built.
-- The statements are `EveryLookup`, `EveryLaterLookup`, `EveryBuilt`, `EveryBuiltLookup`, `EveryLookupStack` and `EveryAcceptedLookup`; what they speak of stands before them.
-- proofs/Looked.antt, proofs/LaterLookups.antt and proofs/Built.antt prove them, and proofs/SmallLookup.antt has a tree that meets their premises.
-- Assumes nothing.
use Rattle.std.specs.Prelude.{◌≡◌, ℕ, ◌+◌, ◌-◌, ◌<◌, ◌≤◌, max, true, cond, List, [], ◌∷◌, length, ◌==◌, ◌≢◌}
use Rattle.codec.specs.Bytes.{IsBytes, with_bytes}
use Rattle.codec.specs.Question.{none, Outcome, done, refused}
use Rattle.codec.specs.Records.{records_of, rmaps}
use Rattle.codec.specs.Rmaps.{accepted}
use Rattle.codec.specs.declared.rmap.Rmap.{Rmap}
use Rattle.blocks.specs.declared.geometry.Geometry.{Geometry}
use Rattle.blocks.specs.declared.kind.TreeKind.TheVariants as kind
use Rattle.blocks.specs.Geometry.{Fits, with_lsn}
use Rattle.walks.specs.Walk.{Visit, Trace, finished, run, visits, records, ending, Shape, block_in, look_in}
use Rattle.walks.specs.Shapes.{shape_of}
use Rattle.walks.specs.Path.{child_at, fan_of}
use Rattle.walks.specs.WalkCall.{Lent, stack_places, walk_of}
use Rattle.walks.specs.LargerStack.{larger_stack}
use Rattle.walks.specs.Later.{NoneNewer}
use Rattle.trees.specs.Build.{root_of, AreNumbers, Holds}
use Rattle.trees.specs.BuildCall.{build_outcome}
use Rattle.trees.specs.RoundTrip.{levels_for, LongEnough}
use Rattle.lookup.specs.Lookup.{ascending, low_start, high_start, lookup_with, lookup_of, tallies, answers_after}

-- ---- keys that are theirs, on the starts alone

-- the furthest block that records lie over, 0 where there are none
unfoldable pub furthest : List Rmap → ℕ
furthest [] = 0
furthest (r ∷ rs) = max (r.startblock + r.blockcount - 1) (furthest rs)

-- the starts of a child's low and high key, for the records under it: the first one's start, and the furthest block. Where there are no records, any keys
-- are theirs.
abbrev pub Theirs : ℕ → ℕ → List Rmap → Type 0
Theirs low high [] = Unit {0}
Theirs low high (r ∷ rs) = (low ≡ r.startblock) × (high ≡ furthest (r ∷ rs))

-- the records under a block: those that the walk from it reads
abbrev pub records_under : Shape → List ℕ → ℕ → Visit → List Rmap
records_under s image limit v = records_of rmaps (records (run (look_in s image) limit (v ∷ [])))

-- the keys of each child of a block are its own
abbrev pub ChildKeys : Shape → List ℕ → ℕ → Visit → Type 0
ChildKeys s image limit v =
    (i : ℕ) → i < fan_of (block_in s.size image v.block)
    → Theirs (low_start s (block_in s.size image v.block) i) (high_start s (block_in s.size image v.block) i)
    (records_under s image limit (child_at s (block_in s.size image v.block) (v.level - 1) i))

-- in each node among the blocks
abbrev pub KeysTheirs : Shape → List ℕ → ℕ → List Visit → Type 0
KeysTheirs s image limit [] = Unit {0}
KeysTheirs s image limit (v ∷ vs) = (0 < v.level → ChildKeys s image limit v) × KeysTheirs s image limit vs

-- ---- every lookup

-- how often a block is among visits
unfoldable pub times : ℕ → List Visit → ℕ
times b [] = 0
times b (v ∷ vs) = cond (v.block == b) 1 0 + times b vs

-- the walk accepts a tree, with whatever lists, and reads t; its records pass 20, and its keys are theirs
pub record Searchable (g : Geometry) (image : List ℕ) (root levels : ℕ) (m : Lent) (t : Trace) : Type 0 where
  pub walked : walk_of g kind.Rmap image root levels m ≡ done t
  pub ended : ending t ≡ finished
  pub order : accepted (records_of rmaps (records t)) ≡ true
  pub keys : KeysTheirs (shape_of g kind.Rmap) image (max g.agblocks 64) (visits t)

-- what 12 and 29 ask
pub record Askable (places : ℕ) (asked : List ℕ) (room : ℕ) : Type 0 where
  pub stack : stack_places ≤ places
  pub order : ascending asked ≡ true
  pub fits : length asked ≤ room

-- a lookup that comes to o finishes; each answer is how many of the walk's records rs hold the block; and no block is visited more often than among the
-- walk's visits vs
pub record Agrees (rs : List Rmap) (vs : List Visit) (asked : List ℕ) (o : Outcome Trace) : Type 0 where
  pub descent : Trace
  pub admitted : o ≡ done descent
  pub finishes : ending descent ≡ finished
  pub answers : (l : List ℕ) → answers_after asked o l ≡ with_bytes l 0 (tallies rs asked)
  pub visited : (b : ℕ) → times b (visits descent) ≤ times b vs

abbrev pub EveryLookup : Type 0
EveryLookup =
    (g : Geometry) (image : List ℕ) (root levels : ℕ) (m : Lent) (t : Trace) (places : ℕ) (asked : List ℕ) (room : ℕ)
    → Searchable g image root levels m t
    → Askable places asked room
    → Agrees (records_of rmaps (records t)) (visits t) asked (lookup_of g image root levels places asked room)

-- a lookup that 30 did not refuse under one sequence number comes to the same under every higher one, refused or not
abbrev pub EveryLaterLookup : Type 0
EveryLaterLookup =
    (g : Geometry) (image : List ℕ) (root levels places : ℕ) (asked : List ℕ) (room n : ℕ)
    → g.last_lsn ≤ n → NoneNewer (lookup_of g image root levels places asked room)
    → lookup_of (with_lsn g n) image root levels places asked room ≡ lookup_of g image root levels places asked room

-- ---- in a tree that was built

-- build built these bytes over the list, with so much output lent, an image holds them at the numbers given, and there are no more than the visits allow
pub record Standing (g : Geometry) (list numbers bytes image : List ℕ) (out : ℕ) : Type 0 where
  pub fits : Fits g
  pub list_bytes : IsBytes list
  pub small : AreNumbers numbers
  pub built : build_outcome g kind.Rmap list numbers out ≡ done bytes
  pub held : Holds g.blocksize image numbers bytes
  pub within : length numbers ≤ max g.agblocks 64

-- the walk accepts it, reading the list, and its records and keys are as a lookup wants them
abbrev pub EveryBuilt : Type 0
EveryBuilt =
    (g : Geometry) (list numbers bytes image : List ℕ) (out : ℕ) (m : Lent)
    → Standing g list numbers bytes image out
    → LongEnough list numbers m
    → (t : Trace) × (Searchable g image (root_of numbers) (levels_for g kind.Rmap list) m t × (records t ≡ list))

-- so a lookup in it, under the number that it was built with and any higher one, counts over the list that was built
abbrev pub EveryBuiltLookup : Type 0
EveryBuiltLookup =
    (g : Geometry) (list numbers bytes image : List ℕ) (out : ℕ) (m : Lent) (places : ℕ) (asked : List ℕ) (room : ℕ)
    → Standing g list numbers bytes image out
    → LongEnough list numbers m
    → Askable places asked room
    → (n : ℕ) → g.last_lsn ≤ n
    → (t : Trace)
    × (walk_of (with_lsn g n) kind.Rmap image (root_of numbers) (levels_for g kind.Rmap list) m ≡ done t)
    × (ending t ≡ finished)
    × Agrees (records_of rmaps list) (visits t) asked (lookup_of (with_lsn g n) image (root_of numbers) (levels_for g kind.Rmap list) places asked room)

-- ---- on nine pairs in the place of a larger stack

-- the lookup that asks for the larger stack, as 12 did before
abbrev pub larger_lookup_of : Geometry → List ℕ → ℕ → ℕ → (places : ℕ) → List ℕ → (room : ℕ) → Outcome Trace
larger_lookup_of g image root levels places asked room = lookup_with (larger_stack g kind.Rmap levels) g image root levels places asked room

-- on nine pairs or more a lookup comes to what it comes to on a stack as large as the larger one; its answer, its visits and the answers that it leaves
-- go by what it comes to alone (`LookupIs`)
abbrev pub EveryLookupStack : Type 0
EveryLookupStack =
    (g : Geometry) (image : List ℕ) (root levels places larger : ℕ) (asked : List ℕ) (room : ℕ)
    → stack_places ≤ places → larger_stack g kind.Rmap levels ≤ larger
    → lookup_of g image root levels places asked room ≡ larger_lookup_of g image root levels larger asked room

-- so each lookup that 12 did not refuse before comes to the same
abbrev pub EveryAcceptedLookup : Type 0
EveryAcceptedLookup =
    (g : Geometry) (image : List ℕ) (root levels places : ℕ) (asked : List ℕ) (room : ℕ)
    → (larger_lookup_of g image root levels places asked room ≢ refused 12 none)
    → lookup_of g image root levels places asked room ≡ larger_lookup_of g image root levels places asked room
