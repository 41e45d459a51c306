-- Blocks made and damaged.
-- Assumes nothing.
use Rattle.std.specs.Prelude.{ℕ, Bool, cond, ◌&&◌, List, [], ◌∷◌, leb, length, set}
use Rattle.blocks.specs.declared.geometry.Geometry.{Geometry}
use Rattle.blocks.specs.declared.kind.TreeKind.{TreeKind}
use Rattle.blocks.specs.Offsets.{v5_header_len}
use Rattle.blocks.specs.Geometry.{geometry_ok}
use Rattle.blocks.specs.Tree.{header_len, has_tree}
use Rattle.blocks.specs.Stamp.{stamped, with_crc}

-- the bytes 16 to 31, in order
abbrev pub sample_uuid : List ℕ
sample_uuid = 16 ∷ 17 ∷ 18 ∷ 19 ∷ 20 ∷ 21 ∷ 22 ∷ 23 ∷ 24 ∷ 25 ∷ 26 ∷ 27 ∷ 28 ∷ 29 ∷ 30 ∷ 31 ∷ []

-- its last sequence number
abbrev pub sample_lsn : ℕ
sample_lsn = 0x2122232425262728

-- the group 3 of a volume with both
abbrev pub sample_geometry : ℕ → ℕ → ℕ → Geometry
sample_geometry version blocksize agblocks =
    record { version = version; blocksize = blocksize; agblocks = agblocks; agno = 3; meta_uuid = sample_uuid; last_lsn = sample_lsn }

-- stamped between two siblings, where the geometry is good, the version has such a tree and the header fits, and else as it was
abbrev pub fresh_between : Geometry → TreeKind → ℕ → ℕ → ℕ → ℕ → ℕ → List ℕ → List ℕ
fresh_between g kind block level numrecs left right b =
    cond (geometry_ok g && (has_tree kind g.version && leb (header_len g.version) (length b))) (stamped g kind block level numrecs left right b) b

-- with the check put in again, where there is room for it
abbrev pub sealed : List ℕ → List ℕ
sealed b = cond (leb v5_header_len (length b)) (with_crc b) b

-- damaged at one byte, and sealed where asked
abbrev pub damaged : List ℕ → ℕ → ℕ → Bool → List ℕ
damaged b at value again = cond again (sealed (set b at value)) (set b at value)
