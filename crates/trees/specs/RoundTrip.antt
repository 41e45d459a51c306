-- What it is for a walk to return a built tree, and the claim that it returns every one. The statement is `EveryTree`; proofs/BuiltReturned.antt proves it, and
-- proofs/SmallTree.antt and proofs/SmallFree.antt have trees that meet its premises.
-- Assumes nothing.
use Rattle.std.specs.Prelude.{ℕ, ◌/◌, ◌≤◌, max, ◌≡◌, true, List, length}
use Rattle.codec.specs.Bytes.{IsBytes, with_bytes}
use Rattle.codec.specs.Question.{Outcome, done}
use Rattle.blocks.specs.declared.geometry.Geometry.{Geometry}
use Rattle.blocks.specs.declared.kind.TreeKind.{TreeKind}
use Rattle.blocks.specs.Geometry.{Fits, with_lsn}
use Rattle.blocks.specs.Tree.{record_len}
use Rattle.walks.specs.Walk.{Trace}
use Rattle.walks.specs.WalkCall.{Lent, stack_places, walk_of, report, blocks_after, records_after}
use Rattle.walks.specs.Links.{says_linked}
use Rattle.trees.specs.Build.{plan_of, root_of, AreNumbers, Places, stored}
use Rattle.trees.specs.BuildCall.{build_outcome}
use Rattle.walks.specs.Shapes.{shape_of}

-- the planned levels of a list
abbrev pub levels_for : Geometry → TreeKind → List ℕ → ℕ
levels_for g kind list = length (plan_of (shape_of g kind) list)

-- lists long enough for the records and the blocks, with 12's scratch
pub record LongEnough (list numbers : List ℕ) (m : Lent) : Type 0 where
  pub stack : stack_places ≤ m.stack
  pub scratch : m.blocks ≤ m.scratch
  pub blocks : length numbers ≤ m.blocks
  pub bytes : length list ≤ m.bytes

-- the walk of an image from the last of the numbers, over the planned levels
abbrev pub walk_back : Geometry → TreeKind → List ℕ → List ℕ → List ℕ → Lent → Outcome Trace
walk_back g kind list numbers image m =
    walk_of g kind image (root_of numbers) (levels_for g kind list) m

-- it gives back the records byte for byte and the numbers, both in order, with one visit to each block, and every level is linked
pub record Returned (g : Geometry) (kind : TreeKind) (list numbers image : List ℕ) (m : Lent) : Type 0 where
  pub reported : report (record_len kind) (walk_back g kind list numbers image m)
      ≡ record {
        outcome = done (record { visits = length numbers; records = length list / record_len kind; bytes = length list });
        passed = length numbers;
      }
  pub records : (l : List ℕ) → records_after (walk_back g kind list numbers image m) l ≡ with_bytes l 0 list
  pub blocks : (l : List ℕ) → blocks_after (levels_for g kind list) (walk_back g kind list numbers image m) l ≡ with_bytes l 0 numbers
  pub linked : says_linked g.blocksize image (levels_for g kind list) (walk_back g kind list numbers image m) ≡ true

-- every tree that build built, of any kind and on any version that has it, stored at distinct numbers inside an image, whatever else the image holds, and
-- within the visit limit, is returned by the walk on the same geometry, under the sequence number that it was built with and any higher one
abbrev pub EveryTree : Type 0
EveryTree =
    (g : Geometry) (kind : TreeKind) (list numbers bytes : List ℕ) (room : ℕ) → Fits g → IsBytes list → AreNumbers numbers
    → build_outcome g kind list numbers room ≡ done bytes
    → (image : List ℕ) (m : Lent) → Places g.blocksize (length image) numbers → length numbers ≤ max g.agblocks 64
    → LongEnough list numbers m → (n : ℕ) → g.last_lsn ≤ n → Returned (with_lsn g n) kind list numbers (stored g.blocksize image numbers bytes) m
