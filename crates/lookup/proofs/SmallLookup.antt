-- A lookup of which `EveryLookup` and `EveryBuiltLookup` speak: a reverse map of two leaves and a root, built, stored in an image and looked up in.
-- Assumes nothing.
use Rattle.std.proofs.Common.{◌≡◌, ℕ, zero, suc, ◌+◌, List, [], ◌∷◌, replicate, sym, refl, ap, ◌∙◌, subst, arith}
use Rattle.codec.specs.Bytes as bytes
use Rattle.codec.specs.Bytes.{IsBytes}
use Rattle.codec.specs.Question.{done}
use Rattle.codec.specs.Records as records
use Rattle.codec.specs.Records.{bytes_of, records_of, rmaps}
use Rattle.codec.specs.Accepted as accepted
use Rattle.codec.specs.Rmaps as rmap
use Rattle.codec.specs.declared.rmap.Rmap.{Rmap}
use Rattle.codec.proofs.ListBytes.{IsBytes-bytes_of}
use Rattle.codec.proofs.RecordKinds.{rmaps-lawful}
use Rattle.blocks.specs.declared.kind.TreeKind.TheVariants as kind
use Rattle.blocks.specs.Geometry as geometry
use Rattle.blocks.specs.Geometry.{with_lsn}
use Rattle.blocks.specs.Tree as tree
use Rattle.walks.specs.Walk as walk
use Rattle.walks.specs.Walk.{Trace, finished, ending}
use Rattle.walks.specs.WalkCall.{Lent}
use Rattle.trees.specs.Plan as plan
use Rattle.trees.specs.Build.{Holds, stored}
use Rattle.trees.specs.BuildCall.{built_bytes, build_outcome}
use Rattle.trees.specs.RoundTrip.{LongEnough}
use Rattle.trees.proofs.BuiltReturned.{built-length}
use Rattle.trees.proofs.Stored.{stored-held}
use Rattle.trees.proofs.SmallTree.{small, small-fits, numbers, small-numbers, small-places}
use Rattle.lists.specs.Extent as extent
use Rattle.lists.specs.Holders as holder
use Rattle.lookup.specs.Lookup as lookup
use Rattle.lookup.specs.Lookup.{tallies, lookup_of, answers_after}
use Rattle.lookup.specs.Claims.{Searchable, Askable, Standing, larger_lookup_of}
use Rattle.lookup.proofs.Looked.{every-lookup-stack, every-accepted-lookup}
use Rattle.lookup.proofs.Built.{every-built, every-built-lookup}
use Rattle.walks.specs.Later.{NoneNewer}
use Rattle.walks.proofs.LaterWalks.{finished-known}
use Rattle.lookup.proofs.LaterLookups.{every-later-lookup}

-- from block b on, at every fourth block two records: two blocks of owner 7, and three of owner 9
unfoldable pub shared : ℕ → ℕ → List Rmap
shared b zero = []
shared b (suc n) =
    record { startblock = b; blockcount = 2; owner = 7; offset = 0 }
    ∷ record { startblock = b; blockcount = 3; owner = 9; offset = 0 }
    ∷ shared (b + 4) n

-- one more than a leaf holds
abbrev pub list : List ℕ
list = bytes_of rmaps (shared 4 10)

built : build_outcome small kind.Rmap list numbers 1536 ≡ done (built_bytes small kind.Rmap list numbers)
unfolding build_outcome shared bytes.be_of bytes.be_bytes records.fields_of records.field_bytes records.first_records records.records_of records.bytes_of accepted.whole accepted.in_order rmap.reserved rmap.mapping rmap.exempt rmap.good rmap.key_offset rmap.before rmap.follows geometry.is_version geometry.is_block_size geometry.geometry_ok tree.header_len plan.ceil plan.leaves plan.above plan.levels_of plan.sum
built = refl

-- an image of three blocks, in which the tree is stored
abbrev pub image : List ℕ
image = stored 512 (replicate 1536 0) numbers (built_bytes small kind.Rmap list numbers)

pub list_bytes : IsBytes list
list_bytes = IsBytes-bytes_of rmaps rmaps-lawful (shared 4 10)

pub image_holds : Holds 512 image numbers (built_bytes small kind.Rmap list numbers)
image_holds =
    (stored-held 512 (replicate 1536 0) numbers (built_bytes small kind.Rmap list numbers)
    (built-length small kind.Rmap list numbers (built_bytes small kind.Rmap list numbers) 1536 small-fits list_bytes small-numbers built) small-places).0

standing : Standing small list numbers (built_bytes small kind.Rmap list numbers) image 1536
standing =
    record { fits = small-fits; list_bytes = list_bytes; small = small-numbers; built = built; held = image_holds; within = omega arith }

-- what is lent to a walk: 12's stack and scratch, and lists as long as needed
abbrev pub room : Lent
room = record { stack = 18; scratch = 3; blocks = 3; bytes = 480 }

long-enough : LongEnough list numbers room
unfolding shared bytes.be_bytes records.field_bytes records.bytes_of
long-enough = record { stack = omega arith; scratch = omega arith; blocks = omega arith; bytes = omega arith }

-- before the records; in the first leaf where two lie, where one lies and where none lies; in the second the last block; and past it
abbrev pub asked : List ℕ
asked = 3 ∷ 4 ∷ 6 ∷ 7 ∷ 42 ∷ 43 ∷ []

-- how many records lie over each
abbrev pub counts : List ℕ
counts = 0 ∷ 2 ∷ 1 ∷ 0 ∷ 1 ∷ 0 ∷ []

askable : Askable 18 asked 6
unfolding lookup.ascending
askable = record { stack = omega arith; order = refl; fits = omega arith }

counted : tallies (records_of rmaps list) asked ≡ counts
unfolding shared bytes.be_of bytes.be_bytes records.fields_of records.field_bytes records.first_records records.records_of records.bytes_of extent.over extent.within holder.holders tallies
counted = refl

-- the premise of `EveryLookup` holds of the walk from the root, block 2, over two levels
pub small-searchable : (t : Trace) × (Searchable small image 2 2 room t × (walk.records t ≡ list))
unfolding shared bytes.be_bytes records.field_bytes records.bytes_of tree.header_len plan.ceil plan.leaves plan.above plan.levels_of
small-searchable = every-built small list numbers (built_bytes small kind.Rmap list numbers) image 1536 room standing long-enough

-- the lookup is accepted, it finishes, and its answers are the counts
pub small-lookup : (d : Trace)
    × (lookup_of small image 2 2 18 asked 6 ≡ done d)
    × (ending d ≡ finished)
    × ((l : List ℕ) → answers_after asked (lookup_of small image 2 2 18 asked 6) l ≡ bytes.with_bytes l 0 counts)
unfolding shared bytes.be_bytes records.field_bytes records.bytes_of tree.header_len plan.ceil plan.leaves plan.above plan.levels_of
small-lookup =
    let a = (every-built-lookup small list numbers (built_bytes small kind.Rmap list numbers) image 1536 room 18 asked 6 standing long-enough askable 5 (omega arith)).3 in
    (a.descent, a.admitted, a.finishes, λ l. a.answers l ∙ ap (bytes.with_bytes l 0) counted)

-- and so where the log has come to 7
pub later-lookup : (l : List ℕ) → answers_after asked (lookup_of (with_lsn small 7) image 2 2 18 asked 6) l ≡ bytes.with_bytes l 0 counts
unfolding shared bytes.be_bytes records.field_bytes records.bytes_of tree.header_len plan.ceil plan.leaves plan.above plan.levels_of
later-lookup l =
    let a = (every-built-lookup small list numbers (built_bytes small kind.Rmap list numbers) image 1536 room 18 asked 6 standing long-enough askable 7 (omega arith)).3 in
    a.answers l ∙ ap (bytes.with_bytes l 0) counted

-- the lookup that 30 did not refuse under 5 comes to the same under 7
pub later_same : lookup_of (with_lsn small 7) image 2 2 18 asked 6 ≡ lookup_of small image 2 2 18 asked 6
later_same =
    every-later-lookup small image 2 2 18 asked 6 7 (omega arith)
    (subst NoneNewer (sym small-lookup.1) (finished-known small-lookup.0 small-lookup.2))

-- on 18 places it is what it was on the 40 that two levels took before, and there it is what it was
pub small-before : lookup_of small image 2 2 18 asked 6 ≡ larger_lookup_of small image 2 2 40 asked 6
unfolding tree.header_len
small-before = every-lookup-stack small image 2 2 18 40 asked 6 (omega arith) (omega arith)

pub small-accepted : lookup_of small image 2 2 40 asked 6 ≡ larger_lookup_of small image 2 2 40 asked 6
unfolding tree.header_len geometry.is_version geometry.is_block_size geometry.geometry_ok lookup.ascending
small-accepted = every-accepted-lookup small image 2 2 40 asked 6 (λ e. let z : ◌≡◌ {A = ℕ} 0 1 = cc e in absurd (omega arith))
