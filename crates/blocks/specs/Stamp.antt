-- The header that a fresh block is given; and a block with other siblings.
-- Assumes nothing.
use Rattle.std.specs.Prelude.{ℕ, cond, List, ◌++◌, eqb}
use Rattle.codec.specs.Bytes.{with_bytes, be_bytes, le_bytes}
use Rattle.blocks.specs.declared.geometry.Geometry.{Geometry}
use Rattle.blocks.specs.declared.kind.TreeKind.{TreeKind}
use Rattle.blocks.specs.Offsets.{left_sibling_at, crc_at}
use Rattle.blocks.specs.Geometry.{linear_of, address_of}
use Rattle.blocks.specs.Tree.{magic_of}
use Rattle.blocks.specs.Check.{block_crc}

-- bytes 8 to 15: the left and the right sibling
abbrev pub siblings : ℕ → ℕ → List ℕ
siblings left right = be_bytes 4 left ++ be_bytes 4 right

-- bytes 0 to 15: magic, level, records and siblings
abbrev pub plain_head : TreeKind → ℕ → ℕ → ℕ → ℕ → ℕ → List ℕ
plain_head kind version level numrecs left right =
    be_bytes 4 (magic_of kind version) ++ be_bytes 2 level ++ be_bytes 2 numrecs ++ siblings left right

-- bytes 16 to 51: address, the volume's last sequence number, UUID and group
abbrev pub identity_head : Geometry → ℕ → List ℕ
identity_head g block = be_bytes 8 (address_of g (linear_of g block)) ++ be_bytes 8 g.last_lsn ++ g.meta_uuid ++ be_bytes 4 g.agno

-- the check put in
abbrev pub with_crc : List ℕ → List ℕ
with_crc b = with_bytes b crc_at (le_bytes 4 (block_crc b))

unfoldable pub stamped : Geometry → TreeKind → ℕ → ℕ → ℕ → ℕ → ℕ → List ℕ → List ℕ
stamped g kind block level numrecs left right b =
    cond (eqb g.version 5)
    (with_crc (with_bytes b 0 (plain_head kind g.version level numrecs left right ++ identity_head g block)))
    (with_bytes b 0 (plain_head kind g.version level numrecs left right))

-- a block that names other siblings, its check put right
unfoldable pub relinked : Geometry → ℕ → ℕ → List ℕ → List ℕ
relinked g left right b =
    cond (eqb g.version 5) (with_crc (with_bytes b left_sibling_at (siblings left right))) (with_bytes b left_sibling_at (siblings left right))
