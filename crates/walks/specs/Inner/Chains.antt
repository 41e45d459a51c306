-- What is held of each level while its links are followed: the block met last, and the one that it named as next, or nothing where no block was met yet.
-- Assumes nothing.
use Rattle.std.specs.Prelude.{ℕ, zero, suc, ◌≡◌, Bool, true, ◌&&◌, List, eqb, get_or, set, Option, Some, None}
use Rattle.std.specs.List.{list_all}
use Rattle.blocks.specs.Geometry.{null_ag_block}
use Rattle.walks.specs.Walk.{Visit, at_level}
use Rattle.walks.specs.Links.{next, linked}
use Rattle.walks.specs.declared.links.Held.{Held}

-- a level is linked from here on: what was named as next comes next, and the rest is linked after the block met last
abbrev pub linked_from : (ℕ → ℕ) → (ℕ → ℕ) → Option Held → List ℕ → Bool
linked_from left right None bs = linked left right null_ag_block bs
linked_from left right (Some last) bs = eqb last.next (next bs) && linked left right last.block bs

-- each of the first n levels
unfoldable pub levels_from : (ℕ → ℕ) → (ℕ → ℕ) → List (Option Held) → ℕ → List Visit → Bool
levels_from left right held zero vs = true
levels_from left right held (suc n) vs = levels_from left right held n vs && linked_from left right (get_or held n None) (at_level n vs)

-- does a block that names `left` before it follow what is held of its level?
abbrev pub joins : Option Held → ℕ → ℕ → Bool
joins None block left = eqb left null_ag_block
joins (Some last) block left = eqb left last.block && eqb last.next block

-- may a level end here? and each level?
abbrev pub ends : Option Held → Bool
ends None = true
ends (Some last) = eqb last.next null_ag_block

abbrev pub all_end : List (Option Held) → Bool
all_end held = list_all ends held

-- what is held after a block of a level, which names these two beside it, and whether all blocks so far follow
pub record Followed (held held' : List (Option Held)) (so so' : Bool) (block level left right : ℕ) : Type 0 where
  pub now_held : held' ≡ set held level (Some (record { block = block; next = right }))
  pub follows : so' ≡ (so && joins (get_or held level None) block left)
