-- What the yes or no means: of extents and of blocks; and that no accepted list has an extent twice. The statements are `EverySame`, `EveryBlock` and
-- `EveryOnce`; proofs/Sameness.antt and proofs/Covering.antt prove them, and proofs/Instances.antt has lists that are the same and lists that are not.
-- Assumes nothing.
use Rattle.std.specs.Prelude.{ℕ, ◌+◌, ◌≤◌, ◌≡◌, Bool, true, false, cond, ◌&&◌, List, [], ◌∷◌, ltb, leb}
use Rattle.codec.specs.declared.free_extent.FreeExtent.{FreeExtent}
use Rattle.free.specs.declared.order.Order.{Order}
use Rattle.free.specs.declared.order.Order.TheVariants.{ByBlock}
use Rattle.free.specs.Free.{end, accepted}
use Rattle.free.specs.Same.{occurs, same_extents}

-- yes: every extent is as often in one list as in the other; no: there is one that is not
pub record SameMeans (l m : List FreeExtent) : Type 0 where
  pub yes : same_extents l m ≡ true → (e : FreeExtent) → occurs e l ≡ occurs e m
  pub no : same_extents l m ≡ false → (e : FreeExtent) × (occurs e l ≡ occurs e m → ⊥)

abbrev pub EverySame : Type 0
EverySame = (l m : List FreeExtent) → SameMeans l m

abbrev pub EveryOnce : Type 0
EveryOnce = (order : Order) (l : List FreeExtent) → accepted order l ≡ true → (e : FreeExtent) → occurs e l ≤ 1

-- how many extents of a list lie over a block
abbrev pub lies_over : ℕ → FreeExtent → Bool
lies_over b e = leb e.startblock b && ltb b (end e)

unfoldable pub over : ℕ → List FreeExtent → ℕ
over b [] = 0
over b (e ∷ l) = cond (lies_over b e) 1 0 + over b l

-- both lists lie over the same blocks, and over none with two extents
pub record SameBlocks (l m : List FreeExtent) : Type 0 where
  pub same : (b : ℕ) → over b l ≡ over b m
  pub once : (b : ℕ) → over b m ≤ 1

-- so it is where a list by block is accepted and the answer is yes, though by size alone extents may overlap
abbrev pub EveryBlock : Type 0
EveryBlock = (l m : List FreeExtent) → accepted ByBlock l ≡ true → same_extents l m ≡ true → SameBlocks l m
