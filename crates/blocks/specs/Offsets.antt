-- Where the fields of a block's header stand, and how long the header is. Version 4 has the fields before blkno_at alone.
-- Assumes nothing.
use Rattle.std.specs.Prelude.{ℕ}

abbrev pub magic_at : ℕ
magic_at = 0

abbrev pub level_at : ℕ
level_at = 4

abbrev pub numrecs_at : ℕ
numrecs_at = 6

abbrev pub left_sibling_at : ℕ
left_sibling_at = 8

abbrev pub right_sibling_at : ℕ
right_sibling_at = 12

-- the block's own address, in units of 512 bytes
abbrev pub blkno_at : ℕ
blkno_at = 16

-- the log sequence number of the last write
abbrev pub lsn_at : ℕ
lsn_at = 24

abbrev pub uuid_at : ℕ
uuid_at = 32

-- the group's number
abbrev pub owner_at : ℕ
owner_at = 48

abbrev pub crc_at : ℕ
crc_at = 52

abbrev pub v4_header_len : ℕ
v4_header_len = 16

abbrev pub v5_header_len : ℕ
v5_header_len = 56
