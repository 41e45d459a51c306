-- The room with which 26 is never the answer: for a new reverse map one record more than it had; for the counts two more after a release or a let go, and
-- after a take of held blocks two and one for each gap or one more than shared records are met, whichever is less; for the free extents one more than
-- shared records are met. The vectors of the bindings have no less. proofs/Rooms.antt proves the statements that begin with `Every`, with instances in which
-- all of the room is taken. That the calls of the C interface then do not answer 26 is in crates/list_calls/specs/Room.antt.
-- Assumes nothing.
use Rattle.std.specs.Prelude.{ℕ, ◌+◌, ◌*◌, ◌≤◌, ◌≡◌, List, length}
use Rattle.codec.specs.Bytes.{IsBytes}
use Rattle.codec.specs.Question.{Values, Outcome, refused}
use Rattle.codec.specs.Records.{records_of, rmaps, refcounts, free_extents}
use Rattle.codec.specs.declared.rmap.Rmap.{Rmap}
use Rattle.lists.specs.declared.splice.Edit.{Edit}
use Rattle.lists.specs.declared.splice.Edit.TheVariants.{Insert, InsertShared, Remove}
use Rattle.lists.specs.Edits.{insert_outcome, insert_shared_outcome, remove_outcome, release_outcome}
use Rattle.lists.specs.Growth.{met, most_raised}
use Rattle.groups.specs.History.{Lists, Change, take, take_held, let_go, step}

-- ---- bytes

-- for the new reverse map
abbrev pub map_room : List ℕ → ℕ
map_room b = length b + rmaps.size

-- for the counts after a release
abbrev pub lower_room : List ℕ → ℕ
lower_room c = length c + 2 * refcounts.size

-- for the free extents
abbrev pub free_room : List ℕ → (start count : ℕ) → ℕ
free_room c start count = (met start (start + count) (records_of refcounts c) + 1) * free_extents.size

-- for the counts after a raise
abbrev pub raise_room : List ℕ → (start count : ℕ) → ℕ
raise_room c start count = length c + most_raised (records_of refcounts c) start count * refcounts.size

-- ---- edits of one list

-- what each edit of the reverse map comes to
abbrev pub edit_outcome : Edit → List ℕ → Rmap → ℕ → Outcome (List Rmap)
edit_outcome Insert = insert_outcome
edit_outcome InsertShared = insert_shared_outcome
edit_outcome Remove = remove_outcome

abbrev pub Not26 : {A : Type 0} → Outcome A → Type 0
Not26 o = (v : Values) → o ≡ refused 26 v → ⊥

abbrev pub EveryEditHasRoom : Type 0
EveryEditHasRoom = (e : Edit) (b : List ℕ) (x : Rmap) (room : ℕ) → map_room b ≤ room → Not26 (edit_outcome e b x room)

abbrev pub EveryReleaseHasRoom : Type 0
EveryReleaseHasRoom =
    (c : List ℕ) (start count room extents_room : ℕ) → IsBytes c → lower_room c ≤ room → free_room c start count ≤ extents_room
    → Not26 (release_outcome c start count room extents_room)

-- ---- the changes of a history

-- each output of the change c, made with the lists σ, has that room
abbrev pub Roomy : Lists → Change → Type 0
Roomy σ (take x fits room) = map_room σ.map ≤ room
Roomy σ (take_held x fits room counts_room) = (map_room σ.map ≤ room) × (raise_room σ.counts x.startblock x.blockcount ≤ counts_room)
Roomy σ (let_go x room counts_room extents_room) =
    (map_room σ.map ≤ room) × (lower_room σ.counts ≤ counts_room) × (free_room σ.counts x.startblock x.blockcount ≤ extents_room)

-- whatever the lists are, as long as they are bytes
abbrev pub EveryRoom : Type 0
EveryRoom = (σ : Lists) (c : Change) → IsBytes σ.counts → Roomy σ c → Not26 (step σ c)
