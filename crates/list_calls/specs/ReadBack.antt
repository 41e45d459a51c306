-- What kf_write_sheet wrote, kf_read_sheet reads back. proofs/ReadingBack.antt proves `EveryReadBack`, with an instance.
-- Assumes nothing.
use Rattle.std.specs.Prelude.{ℕ, ◌≤◌, ◌≡◌, List, length, get_or, take}
use Rattle.codec.specs.Bytes.{IsBytes}
use Rattle.sheets.specs.Sheet.{read_outcome, write_outcome}
use Rattle.list_calls.specs.ListCalls.{length_figures, SheetSays}

-- the sheet that a call wrote, of which its first figure tells the bytes
abbrev pub sheet_written : (said sheet : List ℕ) → List ℕ
sheet_written said sheet = take (get_or said 0 0) sheet

-- a reading that answered r, said these figures and left `changes` has read the list l
pub record ReadBack (l : List ℕ) (r : ℕ) (said changes : List ℕ) : Type 0 where
  pub number : r ≡ 0
  pub figures : said ≡ length_figures (length l)
  pub list : take (length l) changes ≡ l

-- both calls kept their contracts, kf_write_sheet answered 0, and kf_read_sheet was given what that wrote and lent as much as the list has
abbrev pub EveryReadBack : Type 0
EveryReadBack =
    (l said sheet sheet' : List ℕ) → IsBytes l → SheetSays (write_outcome l (length sheet)) 0 said sheet sheet'
    → (r : ℕ) (said' changes changes' : List ℕ) → length l ≤ length changes
    → SheetSays (read_outcome (sheet_written said sheet') (length changes)) r said' changes changes'
    → ReadBack l r said' changes'
