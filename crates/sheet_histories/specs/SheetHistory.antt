-- The changes of a sheet as a history: `SheetHistory`, at the end, says that the history statement of crates/groups/specs/History.antt holds for changes read
-- from any accepted sheet. A change of a history carries that the numbers of its extent fit their fields, as in memory; bytes that were read always do, and
-- the statement says that first (`Asks`). proofs/Histories.antt proves it, and proofs/SmallSheetHistory.antt has an instance.
-- Assumes nothing.
use Rattle.std.specs.Prelude.{ℕ, zero, suc, ◌≡◌, List, [], ◌∷◌, Option, Some, None}
use Rattle.codec.specs.Bytes.{IsBytes}
use Rattle.codec.specs.Question.{done}
use Rattle.codec.specs.Records.{RmapFits}
use Rattle.groups.specs.History as history
use Rattle.sheets.specs.declared.change.SheetChange.{SheetChange}
use Rattle.sheets.specs.declared.change.SheetChange.TheVariants.{FirstTake, LetGo, TakeHeld}
use Rattle.sheets.specs.Change.{change_count, change_at}
use Rattle.sheets.specs.Sheet.{read_outcome}

-- ---- one change

-- the output lengths of a call: for the new reverse map, the new counts and the free extents
pub record Rooms : Type 0 where
  pub map : ℕ
  pub counts : ℕ
  pub free : ℕ

-- a change asks for something, of an extent whose numbers fit their fields
abbrev pub Asks : Option SheetChange → Type 0
Asks (Some (FirstTake x)) = RmapFits x
Asks (Some (LetGo x)) = RmapFits x
Asks (Some (TakeHeld x)) = RmapFits x
Asks None = ⊥

-- kind 1 is a first take, by `insert`; kind 2 a let go; kind 3 a take of held blocks
unfoldable pub step_of : Rooms → (c : Option SheetChange) → Asks c → history.Change
step_of r (Some (FirstTake x)) fits = history.take x fits r.map
step_of r (Some (LetGo x)) fits = history.let_go x r.map r.counts r.free
step_of r (Some (TakeHeld x)) fits = history.take_held x fits r.map r.counts
step_of r None fits = absurd fits

-- ---- a list of them

-- n changes from change i on, each as `change_at` answers it: they ask for something, and as a history they are these, change j with the output lengths
-- `rooms j`
abbrev pub AllAsk : List ℕ → ℕ → ℕ → Type 0
AllAsk l i zero = Unit {0}
AllAsk l i (suc n) = Asks (change_at l i) × AllAsk l (suc i) n

unfoldable pub steps_of : (ℕ → Rooms) → (l : List ℕ) (i n : ℕ) → AllAsk l i n → List history.Change
steps_of rooms l i zero asks = []
steps_of rooms l i (suc n) asks = step_of (rooms i) (change_at l i) asks.0 ∷ steps_of rooms l (suc i) n asks.1

-- all changes of a list
abbrev pub many : List ℕ → ℕ
many l = change_count l

abbrev pub history_of : (ℕ → Rooms) → (l : List ℕ) → AllAsk l 0 (many l) → List history.Change
history_of rooms l asks = steps_of rooms l 0 (many l) asks

-- ---- the claim

-- the changes of a list are a history, and the history statement holds for it: from every reverse map and counts that are accepted and agree, with any
-- output lengths
pub record HistoryHolds (l : List ℕ) : Type 0 where
  pub asks : AllAsk l 0 (many l)
  pub claim : (rooms : ℕ → Rooms) (σ : history.Lists) → history.Start σ → history.Claim σ (history_of rooms l asks)

-- so it is for changes read from an accepted sheet
abbrev pub SheetHistory : Type 0
SheetHistory = (s l : List ℕ) (room : ℕ) → IsBytes s → read_outcome s room ≡ done l → HistoryHolds l
