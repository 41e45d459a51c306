-- What the high keys of a child mean. The statements are `EveryHighKey` and `EveryHighest`; proofs/HighestKeys.antt proves them.
-- Assumes nothing.
use Rattle.std.specs.Prelude.{◌+◌, ◌/◌, ◌%◌, ◌≡◌, true, false, List, [], ◌∷◌, ◌++◌}
use Rattle.codec.specs.Rmaps.{off_limit, end, file_offset, flags, exempt, good}
use Rattle.codec.specs.declared.rmap.Rmap.{Rmap}
use Rattle.trees.specs.declared.keys.RmapKey.{RmapKey}
use Rattle.trees.specs.Keys.{high_key, key_below, highest}

-- k is the key of the last block of r: same owner, same flags, and the file offset of that block where there is one
pub record LastBlock (r : Rmap) (k : RmapKey) : Type 0 where
  pub start : k.start + 1 ≡ end r
  pub owner : k.owner ≡ r.owner
  pub flags : k.offset / off_limit ≡ flags r
  pub file : exempt r ≡ false → k.offset % off_limit + 1 ≡ file_offset r + r.blockcount
  pub no_file : exempt r ≡ true → k.offset ≡ r.offset

-- "A high key adds count − 1 to the start, and to the file offset unless the owner is reserved or bit 62 is set": so it is the key of the
-- record's last block, and the sum does not reach the flags
abbrev pub EveryHighKey : Type 0
EveryHighKey = (r : Rmap) → good r ≡ true → LastBlock r (high_key r)

-- no record has a high key above k
abbrev pub NoneAbove : RmapKey → List Rmap → Type 0
NoneAbove k [] = Unit {0}
NoneAbove k (r ∷ rs) = (key_below k (high_key r) ≡ false) × NoneAbove k rs

-- each has a high key below k
abbrev pub AllBelow : RmapKey → List Rmap → Type 0
AllBelow k [] = Unit {0}
AllBelow k (r ∷ rs) = (key_below (high_key r) k ≡ true) × AllBelow k rs

-- k is the high key of one of the records, none is above it, and those of all later records are below it
pub record IsHighest (rs : List Rmap) (k : RmapKey) : Type 0 where
  pub before : List Rmap
  pub top : Rmap
  pub later : List Rmap
  pub stands : rs ≡ before ++ (top ∷ later)
  pub key : k ≡ high_key top
  pub none_above : NoneAbove k rs
  pub later_below : AllBelow k later

-- "the greatest high key under the child, by start, owner as unsigned, file offset; the last of equals": of the records under a child, of which
-- there is one at least
abbrev pub EveryHighest : Type 0
EveryHighest = (r : Rmap) (rs : List Rmap) → IsHighest (r ∷ rs) (highest (r ∷ rs))
