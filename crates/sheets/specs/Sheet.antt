-- Sheets: lists of changes in blocks of 512 bytes, each with a CRC of its own. What the writer writes, what the reader asks, and what both calls come to.
-- Assumes nothing.
use Rattle.std.specs.Prelude.{ℕ, zero, suc, ◌+◌, ◌-◌, ◌*◌, ◌/◌, Bool, true, cond, ◌&&◌, ◌||◌, List, [], ◌∷◌, ◌++◌, leb, eqb, length, take, drop, replicate}
use Rattle.codec.specs.Bytes.{bytes_at, be_of, be_bytes, le_of, le_bytes}
use Rattle.codec.specs.Crc.{crc32c_of}
use Rattle.codec.specs.Question.{Outcome, done, Question, ask, answer}
use Rattle.codec.specs.Accepted.{whole}
use Rattle.sheets.specs.Layout.{block_len, max_blocks, crc_at, place_at, count_at, last_at, blank_at, changes_at, per_block, change_len, part_len, body_len, blank_len}
use Rattle.sheets.specs.Change.{good_changes, change_count, good_list}

-- ---- the sheet of a list

-- 1 in the last block, else 0
abbrev pub mark_of : Bool → ℕ
mark_of last = cond last 1 0

-- bytes 4 to 31: place (4), number of changes (2), the mark of the last block (1), zeros (21)
abbrev pub sheet_header : ℕ → ℕ → Bool → List ℕ
sheet_header i n last = be_bytes 4 i ++ (be_bytes 2 n ++ (be_bytes 1 (mark_of last) ++ replicate blank_len 0))

-- bytes 32 to 511: the changes, and zeros in place of unused ones
abbrev pub filled_up : List ℕ → List ℕ
filled_up part = part ++ replicate (part_len - length part) 0

-- bytes 4 to 511
unfoldable pub body_of : ℕ → Bool → List ℕ → List ℕ
body_of i last part = sheet_header i (change_count part) last ++ filled_up part

-- their CRC before them
unfoldable pub block_of : ℕ → Bool → List ℕ → List ℕ
block_of i last part = le_bytes 4 (crc32c_of (body_of i last part)) ++ body_of i last part

-- n blocks from place i on, 15 changes in each but the last
unfoldable pub blocks_from : ℕ → ℕ → List ℕ → List ℕ
blocks_from i zero l = []
blocks_from i (suc n) l = block_of i (eqb n 0) (take part_len l) ++ blocks_from (suc i) n (drop part_len l)

-- the changes over 15, rounded up
abbrev pub blocks_for : List ℕ → ℕ
blocks_for l = (change_count l + (per_block - 1)) / per_block

unfoldable pub sheet_of : List ℕ → List ℕ
sheet_of l = blocks_from 0 (blocks_for l) l

-- ---- what is asked of a block

unfoldable pub is_zeros : List ℕ → Bool
is_zeros [] = true
is_zeros (b ∷ bs) = eqb b 0 && is_zeros bs

-- how many changes a block says it has, and these
abbrev pub count : List ℕ → ℕ
count b = be_of (bytes_at b count_at 2)

abbrev pub part_in : List ℕ → List ℕ
part_in b = bytes_at b changes_at (count b * change_len)

-- is the CRC that of bytes 4 to 511?
unfoldable pub crc_ok : List ℕ → Bool
crc_ok b = eqb (le_of (bytes_at b crc_at 4)) (crc32c_of (bytes_at b place_at body_len))

-- 1 to 15 changes, and 15 unless the block is the last
unfoldable pub good_count : ℕ → Bool → Bool
good_count n last = leb 1 n && (leb n per_block && (last || eqb n per_block))

-- bytes 4 to 31 of block i: its place, the number of its changes, its mark, and zeros
unfoldable pub good_header : ℕ → Bool → List ℕ → Bool
good_header i last b =
    eqb (be_of (bytes_at b place_at 4)) i
    && (good_count (count b) last && (eqb (be_of (bytes_at b last_at 1)) (mark_of last) && is_zeros (bytes_at b blank_at blank_len)))

-- the changes that it does not use
abbrev pub unused_in : List ℕ → List ℕ
unused_in b = bytes_at b (changes_at + count b * change_len) (part_len - count b * change_len)

-- block i: its header, good changes, and unused ones zero
unfoldable pub ruled : ℕ → Bool → List ℕ → Bool
ruled i last b = good_header i last b && (good_changes (count b) (part_in b) && is_zeros (unused_in b))

-- ---- the calls

-- of n blocks: is every CRC right; does every block keep the rules, from place i on; and their changes
unfoldable pub all_crcs : ℕ → List ℕ → Bool
all_crcs zero s = true
all_crcs (suc n) s = crc_ok (take block_len s) && all_crcs n (drop block_len s)

unfoldable pub all_ruled : ℕ → ℕ → List ℕ → Bool
all_ruled i zero s = true
all_ruled i (suc n) s = ruled i (eqb n 0) (take block_len s) && all_ruled (suc i) n (drop block_len s)

unfoldable pub changes_in : ℕ → List ℕ → List ℕ
changes_in zero s = []
changes_in (suc n) s = part_in (take block_len s) ++ changes_in n (drop block_len s)

-- how many blocks a sheet has
abbrev pub block_count : List ℕ → ℕ
block_count s = length s / block_len

-- the changes of a sheet
abbrev pub sheet_changes : List ℕ → List ℕ
sheet_changes s = changes_in (block_count s) s

-- whole blocks, and the CRC of each is right
abbrev pub crcs_hold : List ℕ → Bool
crcs_hold s = whole block_len s && all_crcs (block_count s) s

-- one block or more, at most 65,536, and all other rules
abbrev pub rules_hold : List ℕ → Bool
rules_hold s = leb 1 (block_count s) && (leb (block_count s) max_blocks && all_ruled 0 (block_count s) s)

-- 32 for a bad CRC or a broken 512 bytes in any block, then 33 for any other rule or an empty sheet
abbrev pub sheet_questions : List ℕ → List Question
sheet_questions s = ask 32 (crcs_hold s) ∷ ask 33 (rules_hold s) ∷ []

-- the questions alone, and how many bytes of changes there are
unfoldable pub check_outcome : List ℕ → Outcome ℕ
check_outcome s = answer (sheet_questions s) (done (length (sheet_changes s)))

-- 26 for a short output
unfoldable pub read_outcome : List ℕ → ℕ → Outcome (List ℕ)
read_outcome s room = answer (sheet_questions s ++ (ask 26 (leb (length (sheet_changes s)) room) ∷ [])) (done (sheet_changes s))

-- 33 for an empty or broken list, 26 for a short output
unfoldable pub write_outcome : List ℕ → ℕ → Outcome (List ℕ)
write_outcome l room = answer (ask 33 (good_list l) ∷ ask 26 (leb (blocks_for l * block_len) room) ∷ []) (done (sheet_of l))
