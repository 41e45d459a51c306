-- The calls that edit lists do not answer 26 where they are lent the room of crates/groups/specs/Room.antt. proofs/Rooms.antt proves `Never26`, with an
-- instance.
-- Assumes nothing.
use Rattle.std.specs.Prelude.{ℕ, ◌≤◌, ◌≡◌, List, [], length}
use Rattle.codec.specs.Bytes.{IsBytes}
use Rattle.codec.specs.declared.rmap.Rmap.{Rmap}
use Rattle.lists.specs.declared.splice.Edit.{Edit}
use Rattle.lists.specs.Edits.{release_outcome}
use Rattle.groups.specs.LetGo.{let_go_outcome}
use Rattle.groups.specs.TakeHeld.{take_held_outcome}
use Rattle.groups.specs.Room.{map_room, lower_room, free_room, raise_room, edit_outcome}
use Rattle.list_calls.specs.ListCalls.{EditSays, ReleaseSays, GroupEditSays}

-- of each call: it kept its contract and was lent that room, so r, which it answered, is not 26
pub record Never26 : Type 0 where
  -- kf_insert, kf_insert_shared and kf_remove
  pub edits : (e : Edit) (old : List ℕ) (x : Rmap) (r : ℕ) (said new new' : List ℕ) → EditSays (edit_outcome e old x (length new)) r said new new'
      → map_room old ≤ length new
      → r ≡ 26 → ⊥
  pub releases : (c : List ℕ) (start count r : ℕ) (said new new' free free' : List ℕ) → IsBytes c
      → ReleaseSays (release_outcome c start count (length new) (length free)) r said new new' free free'
      → lower_room c ≤ length new → free_room c start count ≤ length free
      → r ≡ 26 → ⊥
  pub lets_go : (map counts : List ℕ) (x : Rmap) (r : ℕ) (said kept kept' lowered lowered' free free' : List ℕ) → IsBytes counts
      → GroupEditSays (let_go_outcome map counts x (length kept) (length lowered) (length free)) r said kept kept' lowered lowered' free free'
      → map_room map ≤ length kept → lower_room counts ≤ length lowered → free_room counts x.startblock x.blockcount ≤ length free
      → r ≡ 26 → ⊥
  pub takes_held : (map counts : List ℕ) (x : Rmap) (r : ℕ) (said taken taken' raised raised' : List ℕ) → IsBytes counts
      → GroupEditSays (take_held_outcome map counts x (length taken) (length raised)) r said taken taken' raised raised' [] []
      → map_room map ≤ length taken → raise_room counts x.startblock x.blockcount ≤ length raised
      → r ≡ 26 → ⊥
