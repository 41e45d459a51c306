-- The geometry that every call is given, and the three ways to say where a block lies.
-- Assumes nothing.
use Rattle.std.specs.Prelude.{ℕ, ◌+◌, ◌*◌, ◌/◌, ◌^◌, ◌<◌, ◌≡◌, Bool, true, false, cond, ◌&&◌, List, [], ◌∷◌, ltb, eqb, length}
use Rattle.codec.specs.Bytes.{IsBytes}
use Rattle.blocks.specs.declared.geometry.Geometry.{Geometry}

-- is a number one of a list
abbrev pub among : ℕ → List ℕ → Bool
among n [] = false
among n (x ∷ xs) = cond (eqb n x) true (among n xs)

unfoldable pub is_version : ℕ → Bool
is_version n = among n (4 ∷ 5 ∷ [])

-- a power of two from 512 to 65,536
unfoldable pub is_block_size : ℕ → Bool
is_block_size n = among n (2 ^ 9 ∷ 2 ^ 10 ∷ 2 ^ 11 ∷ 2 ^ 12 ∷ 2 ^ 13 ∷ 2 ^ 14 ∷ 2 ^ 15 ∷ 2 ^ 16 ∷ [])

-- the block number that stands for no block: a sibling that is not there
abbrev pub null_ag_block : ℕ
null_ag_block = 4294967295

-- the linear block number of a block of the group
abbrev pub linear_of : Geometry → ℕ → ℕ
linear_of g block = g.agno * g.agblocks + block

-- the address of a linear block, in units of 512 bytes
abbrev pub address_of : Geometry → ℕ → ℕ
address_of g linear = linear * g.blocksize / 512

-- question 1
unfoldable pub geometry_ok : Geometry → Bool
geometry_ok g =
    is_version g.version && (is_block_size g.blocksize && ltb (linear_of g 4294967295 * g.blocksize) (2 ^ 64))

-- the widths of the fields, which every geometry in memory has
pub record Fits (g : Geometry) : Type 0 where
  pub agno_fits : g.agno < 2 ^ 32
  pub agblocks_fits : g.agblocks < 2 ^ 32
  pub uuid_long : length g.meta_uuid ≡ 16
  pub uuid_bytes : IsBytes g.meta_uuid
  pub lsn_fits : g.last_lsn < 2 ^ 64

-- the same group, where the volume's log has come to another sequence number
abbrev pub with_lsn : Geometry → ℕ → Geometry
with_lsn g n =
    record { version = g.version; blocksize = g.blocksize; agblocks = g.agblocks; agno = g.agno; meta_uuid = g.meta_uuid; last_lsn = n }
