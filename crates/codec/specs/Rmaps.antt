-- The reverse map as a list: what a record says, and questions 19 and 20.
-- Assumes nothing.
use Rattle.std.specs.Prelude.{ℕ, ◌+◌, ◌-◌, ◌*◌, ◌/◌, ◌%◌, ◌^◌, Bool, not, cond, ◌&&◌, ◌||◌, List, [], ◌∷◌, ltb, leb, eqb, length}
use Rattle.codec.specs.Question.{Outcome, done, ask, answer}
use Rattle.codec.specs.Records.{records_of, rmaps}
use Rattle.codec.specs.Accepted.{end_limit, whole, in_order}
use Rattle.codec.specs.declared.rmap.Rmap.{Rmap}

-- a record lies over the blocks from its start up to its end
abbrev pub end : Rmap → ℕ
end r = r.startblock + r.blockcount

-- one more than the largest file offset: bits 0 to 53 of the offset are the file offset, and the bits above them flags
abbrev pub off_limit : ℕ
off_limit = 2 ^ 54

-- bit 61 of the offset marks an extent never written, and bit 62 a mapping block
abbrev pub off_unwritten : ℕ
off_unwritten = 2 ^ 61

abbrev pub off_bmbt_block : ℕ
off_bmbt_block = 2 ^ 62

abbrev pub file_offset : Rmap → ℕ
file_offset r = r.offset % off_limit

abbrev pub flags : Rmap → ℕ
flags r = r.offset / off_limit

-- the first owner that is reserved: bit 63, so such an owner is below 0 as a signed number
abbrev pub first_reserved : ℕ
first_reserved = 2 ^ 63

unfoldable pub reserved : ℕ → Bool
reserved owner = leb first_reserved owner

-- bit 62 of the offset, which is bit 8 of the flags
unfoldable pub mapping : ℕ → Bool
mapping fl = eqb (fl / (off_bmbt_block / off_limit) % 2) 1

-- has the record no file offset?
unfoldable pub exempt : Rmap → Bool
exempt r = reserved r.owner || mapping (flags r)

-- a count above 0, an end at most 2,147,483,648, and a file offset + count at most 2^54, unless reserved or bit 62
unfoldable pub good : Rmap → Bool
good r = ltb 0 r.blockcount && (leb (end r) end_limit && (exempt r || leb (file_offset r + r.blockcount) off_limit))

-- the offset without bit 61
unfoldable pub key_offset : ℕ → ℕ
key_offset o = o - off_unwritten * (o / off_unwritten % 2)

-- by start, owner as unsigned, offset without bit 61: does r come before s?
unfoldable pub before : Rmap → Rmap → Bool
before r s =
    cond (eqb r.startblock s.startblock)
    (cond (eqb r.owner s.owner) (ltb (key_offset r.offset) (key_offset s.offset)) (ltb r.owner s.owner))
    (ltb r.startblock s.startblock)

-- ascending, equals allowed
unfoldable pub follows : Rmap → Rmap → Bool
follows q r = not (before r q)

-- nothing comes before this one
abbrev pub least : Rmap
least = record { startblock = 0; blockcount = 0; owner = 0; offset = 0 }

-- 20
abbrev pub accepted : List Rmap → Bool
accepted l = in_order good follows least l

-- 19, 20; the result is how many records there are
unfoldable pub check_order : List ℕ → Outcome ℕ
check_order b = answer (ask 19 (whole rmaps.size b) ∷ ask 20 (accepted (records_of rmaps b)) ∷ []) (done (length b / rmaps.size))
