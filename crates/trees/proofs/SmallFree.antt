-- Trees of which `EveryTree` speaks: free space by block on version 4, and by size on version 5, each of two leaves and a root, built, stored and returned.
-- Assumes nothing.
use Prim.Native.Nat.{ℕ, zero, suc, ◌+◌}
use native.Mathlib.Omega.{arith}
use mathlib.Core.Path.{◌≡◌, refl, ap}
use mathlib.Core.List.{List, [], ◌∷◌}
use lib.ListN.{replicate}
use Rattle.codec.specs.Bytes as bytes
use Rattle.codec.specs.Bytes.{IsBytes}
use Rattle.codec.specs.Question.{done}
use Rattle.codec.specs.Records as records
use Rattle.codec.specs.Records.{bytes_of, free_extents}
use Rattle.codec.specs.Accepted as accepted
use Rattle.codec.specs.declared.free_extent.FreeExtent.{FreeExtent}
use Rattle.codec.proofs.ListBytes.{IsBytes-bytes_of}
use Rattle.codec.proofs.Overwrites.{IsBytes-zeros}
use Rattle.codec.proofs.RecordKinds.{free_extents-lawful}
use Rattle.free.specs.Free as free
use Rattle.blocks.specs.declared.geometry.Geometry.{Geometry}
use Rattle.blocks.specs.declared.kind.TreeKind.{TreeKind}
use Rattle.blocks.specs.declared.kind.TreeKind.TheVariants as kind
use Rattle.blocks.specs.Geometry as geometry
use Rattle.blocks.specs.Geometry.{Fits}
use Rattle.blocks.specs.Tree as tree
use Rattle.walks.specs.WalkCall.{Report, Lent, walk_of, report}
use Rattle.trees.specs.Plan as plan
use Rattle.trees.specs.Build.{stored}
use Rattle.trees.specs.BuildCall.{built_bytes, build_outcome}
use Rattle.trees.specs.RoundTrip.{LongEnough, Returned}
use Rattle.trees.proofs.BuiltReturned.{every-tree}
use Rattle.trees.proofs.SmallTree.{small, small-fits, numbers, small-numbers, small-places}

-- the same geometry on version 4
abbrev pub four : Geometry
four = record { version = 4; blocksize = 512; agblocks = 3; agno = 0; meta_uuid = replicate 16 0; last_lsn = 0 }

four-fits : Fits four
four-fits = record { agno_fits = omega arith; agblocks_fits = omega arith; uuid_long = refl; uuid_bytes = IsBytes-zeros 16; lsn_fits = omega arith }

-- n extents of one block each, on every second block: in order by block and by size
unfoldable pub spread : ℕ → ℕ → List FreeExtent
spread b zero = []
spread b (suc n) = record { startblock = b; blockcount = 1 } ∷ spread (b + 2) n

-- one more than a leaf holds: 62 on version 4, 57 on version 5
abbrev pub by_block : List ℕ
by_block = bytes_of free_extents (spread 0 63)

abbrev pub by_size : List ℕ
by_size = bytes_of free_extents (spread 0 58)

extent-bytes : (n : ℕ) → IsBytes (bytes_of free_extents (spread 0 n))
extent-bytes n = IsBytes-bytes_of free_extents free_extents-lawful (spread 0 n)

by-block-built : build_outcome four kind.ByBlock by_block numbers 1536 ≡ done (built_bytes four kind.ByBlock by_block numbers)
unfolding build_outcome spread bytes.be_of bytes.be_bytes records.fields_of records.field_bytes records.first_records records.records_of records.bytes_of accepted.whole accepted.in_order free.good free.follows geometry.is_version geometry.is_block_size geometry.geometry_ok tree.header_len plan.ceil plan.leaves plan.above plan.levels_of plan.sum
by-block-built = refl

by-size-built : build_outcome small kind.BySize by_size numbers 1536 ≡ done (built_bytes small kind.BySize by_size numbers)
unfolding build_outcome spread bytes.be_of bytes.be_bytes records.fields_of records.field_bytes records.first_records records.records_of records.bytes_of accepted.whole accepted.in_order free.good free.smaller free.follows geometry.is_version geometry.is_block_size geometry.geometry_ok tree.header_len plan.ceil plan.leaves plan.above plan.levels_of plan.sum
by-size-built = refl

-- what is lent: 12's stack and scratch, and lists as long as needed
abbrev room : Lent
room = record { stack = 18; scratch = 3; blocks = 3; bytes = 504 }

by-block-long : LongEnough by_block numbers room
unfolding spread bytes.be_bytes records.field_bytes records.bytes_of
by-block-long = record { stack = omega arith; scratch = omega arith; blocks = omega arith; bytes = omega arith }

by-size-long : LongEnough by_size numbers room
unfolding spread bytes.be_bytes records.field_bytes records.bytes_of
by-size-long = record { stack = omega arith; scratch = omega arith; blocks = omega arith; bytes = omega arith }

-- an image of three blocks, in which a tree is stored
abbrev pub image_of : Geometry → TreeKind → List ℕ → List ℕ
image_of g k list = stored 512 (replicate 1536 0) numbers (built_bytes g k list numbers)

by-block-returned : Returned four kind.ByBlock by_block numbers (image_of four kind.ByBlock by_block) room
by-block-returned =
    every-tree four kind.ByBlock by_block numbers (built_bytes four kind.ByBlock by_block numbers) 1536 four-fits (extent-bytes 63) small-numbers by-block-built
    (replicate 1536 0) room small-places (omega arith) by-block-long 0 (omega arith)

by-size-returned : Returned small kind.BySize by_size numbers (image_of small kind.BySize by_size) room
by-size-returned =
    every-tree small kind.BySize by_size numbers (built_bytes small kind.BySize by_size numbers) 1536 small-fits (extent-bytes 58) small-numbers by-size-built
    (replicate 1536 0) room small-places (omega arith) by-size-long 5 (omega arith)

-- the walks from the root, block 2, over two levels answer with their counts
pub by-block-walk : (report 8 (walk_of four kind.ByBlock (image_of four kind.ByBlock by_block) 2 2 room)).outcome ≡ done (record { visits = 3; records = 63; bytes = 504 })
unfolding spread bytes.be_bytes records.field_bytes records.bytes_of tree.header_len plan.ceil plan.leaves plan.above plan.levels_of
by-block-walk = ap (λ (p : Report). p.outcome) by-block-returned.reported

pub by-size-walk : (report 8 (walk_of small kind.BySize (image_of small kind.BySize by_size) 2 2 room)).outcome ≡ done (record { visits = 3; records = 58; bytes = 464 })
unfolding spread bytes.be_bytes records.field_bytes records.bytes_of tree.header_len plan.ceil plan.leaves plan.above plan.levels_of
by-size-walk = ap (λ (p : Report). p.outcome) by-size-returned.reported
