-- What is claimed of sheets. proofs/Written.antt proves `WrittenReads`, proofs/Sheets.antt the rest, and proofs/SmallSheet.antt has instances.
-- Assumes nothing.
use Rattle.std.specs.Prelude.{ℕ, ◌*◌, ◌≤◌, ◌≡◌, List, length}
use Rattle.codec.specs.Bytes.{IsBytes}
use Rattle.codec.specs.Question.{Values, done, refused}
use Rattle.sheets.specs.Layout.{block_len, part_len}
use Rattle.sheets.specs.Sheet.{blocks_for, block_count, read_outcome, write_outcome}

-- what the writer writes reads back as the same changes, wherever they fit
abbrev pub WrittenReads : Type 0
WrittenReads =
    (l s : List ℕ) (room room' : ℕ) → IsBytes l → write_outcome l room ≡ done s → length l ≤ room' → read_outcome s room' ≡ done l

-- an accepted sheet is the one that the writer writes for its changes
abbrev pub ReadWrites : Type 0
ReadWrites =
    (s l : List ℕ) (room room' : ℕ) → IsBytes s → read_outcome s room ≡ done l → length s ≤ room' → write_outcome l room' ≡ done s

-- so it is the only one for them
abbrev pub OnlySheet : Type 0
OnlySheet =
    (s t l : List ℕ) (room room' : ℕ) → IsBytes s → IsBytes t → read_outcome s room ≡ done l → read_outcome t room' ≡ done l → s ≡ t

-- with room for 15 changes for each block of the sheet, or for a block for every 15 changes begun, neither call answers 26
pub record EnoughRoom : Type 0 where
  pub reads : (s : List ℕ) (room : ℕ) (v : Values) → block_count s * part_len ≤ room → read_outcome s room ≡ refused 26 v → ⊥
  pub writes : (l : List ℕ) (room : ℕ) (v : Values) → blocks_for l * block_len ≤ room → write_outcome l room ≡ refused 26 v → ⊥
