-- What build goes by: the lengths and the block check that a walk goes by, the keys of a child, and the header of a fresh block.
-- Assumes nothing.
use Rattle.std.specs.Prelude.{ℕ, zero, suc, ◌^◌, ◌≤◌, ◌<◌, ◌≡◌, List, length, drop}
use Rattle.codec.specs.Bytes.{IsBytes}
use Rattle.codec.specs.Question.{done}
use Rattle.blocks.specs.Check.{leftsib_in, rightsib_in}
use Rattle.walks.specs.Walk.{Shape, per_leaf, per_node}

-- the blocks before and after a block on its level; all ones is none
pub record Links : Type 0 where
  pub left : ℕ
  pub right : ℕ

pub record Layout : Type 0 where
  pub shape : Shape
  -- the keys of a child, from the bytes of the records under it
  pub keys : List ℕ → List ℕ
  -- a block with its header: its number, its level, how many records or entries it has, its neighbours, and its bytes
  pub stamp : ℕ → ℕ → ℕ → Links → List ℕ → List ℕ

-- how many records or entries a block of a level holds
abbrev pub capacity : Shape → ℕ → ℕ
capacity s zero = per_leaf s
capacity s (suc level) = per_node s

-- what build asks of a layout: a block holds something, and keys and stamped blocks have their lengths
pub record Sized (t : Layout) : Type 0 where
  pub header_fits : t.shape.header ≤ t.shape.size
  pub record_some : 0 < t.shape.record_length
  pub leaf_some : 0 < per_leaf t.shape
  pub node_some : 0 < per_node t.shape
  pub keys_long : (records : List ℕ) → length (t.keys records) ≡ t.shape.keys_length
  pub stamp_long : (block level n : ℕ) (x : Links) (b : List ℕ) → length b ≡ t.shape.size → length (t.stamp block level n x b) ≡ t.shape.size

-- a block to stamp: its number, its level and its neighbours fit their fields, it is as long as a block, and holds no more than a block does
pub record Fresh (s : Shape) (block level n : ℕ) (x : Links) (b : List ℕ) : Type 0 where
  pub number_fits : block < 2 ^ 32
  pub level_fits : level ≤ 9
  pub left_fits : x.left < 2 ^ 32
  pub right_fits : x.right < 2 ^ 32
  pub are_bytes : IsBytes b
  pub long : length b ≡ s.size
  pub most : n ≤ capacity s level

-- what build and walk ask of it together: the stamp leaves what stands after the header, and a stamped block passes the check and names
-- its neighbours
pub record Sound (t : Layout) : Type 0 where
  pub sized : Sized t
  pub keys_bytes : (records : List ℕ) → IsBytes records → IsBytes (t.keys records)
  pub stamp_body : (block level n : ℕ) (x : Links) (b : List ℕ) → length b ≡ t.shape.size
      → drop t.shape.header (t.stamp block level n x b) ≡ drop t.shape.header b
  pub stamp_passes : (block level n : ℕ) (x : Links) (b : List ℕ) → Fresh t.shape block level n x b
      → t.shape.check block level (t.stamp block level n x b) ≡ done n
  pub stamp_left : (block level n : ℕ) (x : Links) (b : List ℕ) → Fresh t.shape block level n x b → leftsib_in (t.stamp block level n x b) ≡ x.left
  pub stamp_right : (block level n : ℕ) (x : Links) (b : List ℕ) → Fresh t.shape block level n x b → rightsib_in (t.stamp block level n x b) ≡ x.right
