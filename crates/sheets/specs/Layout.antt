-- Where things lie in a sheet: the lengths of its blocks and changes, and the places of the fields in them.
-- Assumes nothing.
use Rattle.std.specs.Prelude.{ℕ, ◌*◌, ◌-◌}

-- ---- a sheet

-- the bytes of a block
abbrev pub block_len : ℕ
block_len = 512

-- the most blocks
abbrev pub max_blocks : ℕ
max_blocks = 65536

-- ---- a block

-- its CRC (4), lowest byte first, of all bytes behind it
abbrev pub crc_at : ℕ
crc_at = 0

-- its place in the sheet, from 0 (4)
abbrev pub place_at : ℕ
place_at = 4

-- how many changes it has (2)
abbrev pub count_at : ℕ
count_at = 8

-- 1 in the last block, else 0 (1)
abbrev pub last_at : ℕ
last_at = 10

-- zeros, up to the changes
abbrev pub blank_at : ℕ
blank_at = 11

-- the changes
abbrev pub changes_at : ℕ
changes_at = 32

-- the most changes
abbrev pub per_block : ℕ
per_block = 15

-- ---- a change

-- its bytes
abbrev pub change_len : ℕ
change_len = 32

-- its kind (4)
abbrev pub kind_at : ℕ
kind_at = 0

-- zeros (4)
abbrev pub zeros_at : ℕ
zeros_at = 4

-- a record of the reverse map (24)
abbrev pub record_at : ℕ
record_at = 8

-- ---- what follows

-- the bytes of a full block's changes
abbrev pub part_len : ℕ
part_len = per_block * change_len

-- those that the CRC is of
abbrev pub body_len : ℕ
body_len = block_len - place_at

-- the zeros of a block's head
abbrev pub blank_len : ℕ
blank_len = changes_at - blank_at

-- the most changes of a sheet
abbrev pub max_changes : ℕ
max_changes = max_blocks * per_block
