-- The splice of an edit: joins tried, records written one after another, and the question of room.
-- Assumes nothing.
use Rattle.std.specs.Prelude.{ℕ, zero, suc, ◌+◌, ◌≡◌, Bool, cond, ◌&&◌, List, [], ◌∷◌, ltb, length, get_or, Option, Some, None}
use Rattle.codec.specs.Bytes.{with_bytes}
use Rattle.codec.specs.Question.{Outcome, done, refused, ask, answer}
use Rattle.codec.specs.Records.{bytes_of, rmaps}
use Rattle.codec.specs.Rmaps.{least}
use Rattle.codec.specs.declared.rmap.Rmap.{Rmap}
use Rattle.lists.specs.declared.splice.Edit.{Edit}
use Rattle.lists.specs.declared.splice.Edit.TheVariants.{Insert, InsertShared, Remove}
use Rattle.lists.specs.declared.splice.Part.{Part}
use Rattle.lists.specs.declared.splice.Splice.{Splice}
use Rattle.lists.specs.RmapEdits.{continues, joined}
use Rattle.lists.specs.Edits.{fits, insert_outcome, insert_shared_outcome, remove_outcome}
use Rattle.lists.specs.Splice.{parts_of, list_of, SpliceGood}

-- x joined to the record i where one continues the other: behind it, or before it
unfoldable pub join_at : Bool → List Rmap → ℕ → Rmap → Option Rmap
join_at behind l i x =
    let r : Rmap = get_or l i least in
    cond (ltb i (length l) && continues (cond behind r x) (cond behind x r)) (Some (joined (cond behind r x) (cond behind x r))) None

-- the index before a place, the length where there is none
unfoldable pub previous : ℕ → ℕ → ℕ
previous zero n = n
previous (suc k) n = k

-- s is the splice of these parts of the list l, with its size
pub record SpliceIs (l : List Rmap) (a : ℕ) (p q : Part) (z : ℕ) (s : Splice) : Type 0 where
  pub list : list_of l s ≡ parts_of l a p q z
  pub good : SpliceGood l s

-- records written at a place, and the place after them
pub record Wrote (old new : List ℕ) (at : ℕ) (rs : List Rmap) (after : ℕ) : Type 0 where
  pub next : after ≡ at + length (bytes_of rmaps rs)
  pub bytes : new ≡ with_bytes old at (bytes_of rmaps rs)

-- what an edit comes to, by the definition of each
abbrev pub edit_outcome : Edit → List ℕ → Rmap → ℕ → Outcome (List Rmap)
edit_outcome Insert = insert_outcome
edit_outcome InsertShared = insert_shared_outcome
edit_outcome Remove = remove_outcome

-- 26 asked of an outcome
unfoldable pub roomed : ℕ → Outcome (List Rmap) → Outcome (List Rmap)
roomed room (done l) = answer (ask 26 (fits rmaps l room) ∷ []) (done l)
roomed room (refused n v) = refused n v
