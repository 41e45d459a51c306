-- What a walk goes by in a tree of a group: the lengths and the block check of a kind in a geometry; and what a look at a block comes to.
-- Assumes nothing.
use Rattle.std.specs.Prelude.{ℕ, ◌+◌, ◌*◌, List, [], ◌∷◌, leb, length}
use Rattle.codec.specs.Question.{Outcome, ask, answer, map_outcome}
use Rattle.blocks.specs.declared.geometry.Geometry.{Geometry}
use Rattle.blocks.specs.declared.kind.TreeKind.{TreeKind}
use Rattle.blocks.specs.declared.check.Header.{Header}
use Rattle.blocks.specs.Tree.{header_len, record_len, keys_len}
use Rattle.blocks.specs.Check.{check_block}
use Rattle.walks.specs.Walk.{Visit, Shape, block_in}

-- the number of records that a checked block has
abbrev pub numrecs_of : Outcome Header → Outcome ℕ
numrecs_of o = map_outcome (λ h. h.numrecs) o

abbrev pub shape_of : Geometry → TreeKind → Shape
shape_of g kind =
    record {
      size = g.blocksize;
      header = header_len g.version;
      record_length = record_len kind;
      keys_length = keys_len kind;
      check = λ block level b. numrecs_of (check_block g kind block level b);
    }

-- 14, then the block check: the header of a block of an image. `look_in` is what stands under that header (`look-header` of proofs/LookLaws.antt).
abbrev pub header_in : Geometry → TreeKind → List ℕ → Visit → Outcome Header
header_in g kind image v =
    answer (ask 14 (leb ((v.block + 1) * g.blocksize) (length image)) ∷ [])
    (check_block g kind v.block v.level (block_in g.blocksize image v.block))
