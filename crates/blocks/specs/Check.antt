-- The questions about one block, 1 to 8, 30, 9 and 10 of docs/QUESTIONS.md, in this order, and what the check comes to.
-- Assumes nothing.
use Rattle.std.specs.Prelude.{ℕ, Bool, true, false, cond, List, [], ◌∷◌, ◌++◌, leb, eqb, length}
use Rattle.codec.specs.Bytes.{bytes_at, with_bytes, be_of, le_of}
use Rattle.codec.specs.Crc.{crc32c_of}
use Rattle.codec.specs.Question.{Outcome, done, Question, ask, ask_equal, ask_most, answer}
use Rattle.blocks.specs.declared.geometry.Geometry.{Geometry}
use Rattle.blocks.specs.declared.kind.TreeKind.{TreeKind}
use Rattle.blocks.specs.declared.check.Header.{Header}
use Rattle.blocks.specs.Offsets.{magic_at, level_at, numrecs_at, left_sibling_at, right_sibling_at, blkno_at, lsn_at, uuid_at, owner_at, crc_at}
use Rattle.blocks.specs.Geometry.{geometry_ok, linear_of, address_of}
use Rattle.blocks.specs.Tree.{header_len, has_tree, magic_of, capacity}

-- do two lists hold the same numbers
abbrev pub same : List ℕ → List ℕ → Bool
same [] [] = true
same [] (y ∷ ys) = false
same (x ∷ xs) [] = false
same (x ∷ xs) (y ∷ ys) = cond (eqb x y) (same xs ys) false

-- the check of a block, over the whole of it with the check's own field as zeros
abbrev pub block_crc : List ℕ → ℕ
block_crc b = crc32c_of (with_bytes b crc_at (0 ∷ 0 ∷ 0 ∷ 0 ∷ []))

-- 5 to 8 and 30, on version 5 only: the check, the volume, the group, the address, and that the block is not newer than the volume's log
abbrev pub identity_questions : Geometry → ℕ → List ℕ → List Question
identity_questions g block b =
    ask_equal 5 (block_crc b) (le_of (bytes_at b crc_at 4))
    ∷ ask 6 (same (bytes_at b uuid_at 16) g.meta_uuid)
    ∷ ask_equal 7 g.agno (be_of (bytes_at b owner_at 4))
    ∷ ask_equal 8 (address_of g (linear_of g block)) (be_of (bytes_at b blkno_at 8))
    ∷ ask_most 30 g.last_lsn (be_of (bytes_at b lsn_at 8))
    ∷ []

-- 9 and 10: the level, and that the records claimed fit
abbrev pub content_questions : Geometry → TreeKind → ℕ → List ℕ → List Question
content_questions g kind level b =
    ask_equal 9 level (be_of (bytes_at b level_at 2))
    ∷ ask_most 10 (capacity kind g.version level (length b)) (be_of (bytes_at b numrecs_at 2))
    ∷ []

-- 3 to 8, 30, 9 and 10: what is asked of the block itself, once the geometry is good and the header is there
abbrev pub tree_questions : Geometry → TreeKind → ℕ → ℕ → List ℕ → List Question
tree_questions g kind block level b =
    ask 3 (has_tree kind g.version)
    ∷ ask_equal 4 (magic_of kind g.version) (be_of (bytes_at b magic_at 4))
    ∷ (cond (eqb g.version 5) (identity_questions g block b) [] ++ content_questions g kind level b)

abbrev pub block_questions : Geometry → TreeKind → ℕ → ℕ → List ℕ → List Question
block_questions g kind block level b =
    ask 1 (geometry_ok g) ∷ ask 2 (leb (header_len g.version) (length b)) ∷ tree_questions g kind block level b

-- the siblings that a block names, on either version: the blocks before and after it on its level
abbrev pub leftsib_in : List ℕ → ℕ
leftsib_in b = be_of (bytes_at b left_sibling_at 4)

abbrev pub rightsib_in : List ℕ → ℕ
rightsib_in b = be_of (bytes_at b right_sibling_at 4)

-- what a header says, where the records claimed are `numrecs`, the siblings named are `left` and `right`, and the block has `len` bytes
abbrev pub header_says : Geometry → TreeKind → ℕ → ℕ → ℕ → ℕ → ℕ → Header
header_says g kind level numrecs left right len =
    record {
      level = level;
      numrecs = numrecs;
      leftsib = record { 0 = left };
      rightsib = record { 0 = right };
      body = header_len g.version;
      maxrecs = capacity kind g.version level len;
    }

-- what a block says of itself, once checked
abbrev pub header_of : Geometry → TreeKind → ℕ → List ℕ → Header
header_of g kind level b = header_says g kind level (be_of (bytes_at b numrecs_at 2)) (leftsib_in b) (rightsib_in b) (length b)

-- what they come to
unfoldable pub check_block : Geometry → TreeKind → ℕ → ℕ → List ℕ → Outcome Header
check_block g kind block level b = answer (block_questions g kind block level b) (done (header_of g kind level b))
