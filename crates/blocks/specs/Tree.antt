-- The lengths by which one kind of tree, and one version, differs from another. Every promise goes by these.
-- Assumes nothing.
use Rattle.std.specs.Prelude.{ℕ, ◌+◌, ◌-◌, ◌/◌, Bool, true, false, cond, eqb}
use Rattle.codec.specs.Records.{rmaps, refcounts, free_extents}
use Rattle.blocks.specs.declared.kind.TreeKind.{TreeKind}
use Rattle.blocks.specs.declared.kind.TreeKind.TheVariants.{Rmap, Refcount, ByBlock, BySize}
use Rattle.blocks.specs.Offsets.{v4_header_len, v5_header_len}

-- what a version has of two numbers, that of 4 and that of 5
abbrev pub by_version : ℕ → ℕ → ℕ → ℕ
by_version version four five = cond (eqb version 5) five four

unfoldable pub header_len : ℕ → ℕ
header_len version = by_version version v4_header_len v5_header_len

-- has a version a tree of the kind
abbrev pub has_tree : TreeKind → ℕ → Bool
has_tree Rmap version = eqb version 5
has_tree Refcount version = eqb version 5
has_tree ByBlock version = true
has_tree BySize version = true

abbrev pub magic_of : TreeKind → ℕ → ℕ
magic_of Rmap version = 0x524D4233
magic_of Refcount version = 0x52334643
magic_of ByBlock version = by_version version 0x41425442 0x41423342
magic_of BySize version = by_version version 0x41425443 0x41423343

-- may records overlap? Then an entry of a node has a low and a high key, else one
abbrev pub overlapping : TreeKind → Bool
overlapping Rmap = true
overlapping Refcount = false
overlapping ByBlock = false
overlapping BySize = false

abbrev pub record_len : TreeKind → ℕ
record_len Rmap = rmaps.size
record_len Refcount = refcounts.size
record_len ByBlock = free_extents.size
record_len BySize = free_extents.size

-- a key of the reverse map: start, owner and offset
abbrev pub rmap_key_len : ℕ
rmap_key_len = 20

-- the keys of one entry of a node: low and high in the reverse map; one in the others, in the counts a start, of free space a whole record
abbrev pub keys_len : TreeKind → ℕ
keys_len Rmap = rmap_key_len + rmap_key_len
keys_len Refcount = 4
keys_len ByBlock = record_len ByBlock
keys_len BySize = record_len BySize

-- a pointer of a node: a block number of the group
abbrev pub ptr_len : ℕ
ptr_len = 4

-- an entry of a node: its keys and a pointer
abbrev pub entry_len : TreeKind → ℕ
entry_len kind = keys_len kind + ptr_len

-- what one place of a block at a level takes: a record in a leaf, an entry in a node
abbrev pub place_len : TreeKind → ℕ → ℕ
place_len kind level = cond (eqb level 0) (record_len kind) (entry_len kind)

-- how many records or entries a block of `len` bytes holds
abbrev pub capacity : TreeKind → ℕ → ℕ → ℕ → ℕ
capacity kind version level len = (len - header_len version) / place_len kind level
