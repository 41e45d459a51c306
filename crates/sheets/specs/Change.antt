-- Changes of 32 bytes each: kind (4), zeros (4), a reverse-map record (24). The record is not asked about: that its extent is good is question 22 of the
-- call that the change is made by.
-- Assumes nothing.
use Rattle.std.specs.Prelude.{ℕ, zero, suc, ◌*◌, ◌/◌, Bool, true, cond, ◌&&◌, List, ltb, leb, eqb, length, take, drop, Option, Some, None}
use Rattle.codec.specs.Bytes.{bytes_at, be_of}
use Rattle.codec.specs.Accepted.{whole}
use Rattle.codec.specs.Records.{rmaps}
use Rattle.codec.specs.declared.rmap.Rmap.{Rmap}
use Rattle.sheets.specs.declared.change.SheetChange.{SheetChange}
use Rattle.sheets.specs.declared.change.SheetChange.TheVariants.{FirstTake, LetGo, TakeHeld}
use Rattle.sheets.specs.Layout.{change_len, kind_at, zeros_at, record_at, max_changes}

abbrev pub change_kind : List ℕ → ℕ
change_kind c = be_of (bytes_at c kind_at 4)

abbrev pub change_record : List ℕ → Rmap
change_record c = rmaps.decode (bytes_at c record_at rmaps.size)

-- is the kind 1 (first take), 2 (let go) or 3 (take of held blocks), and are the zeros zero?
unfoldable pub good_change : List ℕ → Bool
good_change c = leb 1 (change_kind c) && (leb (change_kind c) 3 && eqb (be_of (bytes_at c zeros_at 4)) 0)

-- are the first n changes good?
unfoldable pub good_changes : ℕ → List ℕ → Bool
good_changes zero l = true
good_changes (suc n) l = good_change (take change_len l) && good_changes n (drop change_len l)

-- how many changes a list has
abbrev pub change_count : List ℕ → ℕ
change_count l = length l / change_len

-- a list of changes: whole, not empty, no more than a sheet has room for, each good
abbrev pub good_list : List ℕ → Bool
good_list l = whole change_len l && (leb 1 (change_count l) && (leb (change_count l) max_changes && good_changes (change_count l) l))

-- ---- a change as a caller reads it

-- what its 32 bytes ask for; nothing where the kind is none of the three
unfoldable pub asked_by : List ℕ → Option SheetChange
asked_by c =
    cond (eqb (change_kind c) 1) (Some (FirstTake (change_record c)))
    (cond (eqb (change_kind c) 2) (Some (LetGo (change_record c)))
    (cond (eqb (change_kind c) 3) (Some (TakeHeld (change_record c))) None))

-- change i of a list; nothing where there is none
unfoldable pub change_at : List ℕ → ℕ → Option SheetChange
change_at l i = cond (ltb i (change_count l)) (asked_by (bytes_at l (i * change_len) change_len)) None
