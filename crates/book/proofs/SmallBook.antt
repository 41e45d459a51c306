-- Small walks that meet the premises of the claims: a tree in which a leaf is met twice, read and refused, by the book and over a stack.
-- Assumes nothing.
use Prim.Native.Nat.{ℕ}
use native.Mathlib.Omega.{arith}
use mathlib.Core.Path.{◌≡◌, refl, sym, ◌∙◌}
use mathlib.Core.List.{List, [], ◌∷◌, ◌++◌}
use lib.ListN.{replicate}
use Rattle.std.specs.Prelude.{Result, Ok, Err}
use Rattle.codec.specs.Bytes as bytes
use Rattle.codec.specs.Question.{none, done, refused}
use Rattle.blocks.specs.declared.geometry.Geometry.{Geometry}
use Rattle.blocks.specs.declared.kind.TreeKind.TheVariants as kind
use Rattle.blocks.specs.Geometry as geometry
use Rattle.blocks.specs.Tree as tree
use Rattle.blocks.specs.Check as check
use Rattle.walks.specs.Walk as walk
use Rattle.walks.specs.Walk.{visit_of, Trace, finished, failed, met}
use Rattle.walks.specs.WalkCall.{Lent, walk_of, report_of}
use Rattle.walks.specs.LargerStack.{on_stack, Alike}
use Rattle.walks.specs.declared.walk.Walked.{Walked}
use Rattle.walks.specs.declared.refusal.StoppedWalk.{StoppedWalk}
use Rattle.walks.specs.declared.refusal.WalkRefusal.TheVariants as why
use Rattle.book.specs.Textbook as book
use Rattle.book.specs.Textbook.{textbook_of}
use Rattle.book.proofs.Same.{every-textbook, every-textbook-call}

-- free space by block on version 4, whose blocks have no check: blocks of 512 bytes
abbrev g : Geometry
g = record { version = 4; blocksize = 512; agblocks = 0; agno = 0; meta_uuid = replicate 16 0; last_lsn = 0 }

-- a block of a level with so many records, no siblings, and these bytes after the header
abbrev block_of : ℕ → ℕ → List ℕ → List ℕ
block_of level n body = 0x41 ∷ 0x42 ∷ 0x54 ∷ 0x42 ∷ 0 ∷ level ∷ 0 ∷ n ∷ replicate 8 255 ++ body

-- the extent of two blocks from block 5 on
abbrev extent : List ℕ
extent = 0 ∷ 0 ∷ 0 ∷ 5 ∷ 0 ∷ 0 ∷ 0 ∷ 2 ∷ []

-- block 0 is a leaf of that extent; block 1 is its node, which names it twice
abbrev leaf : List ℕ
leaf = block_of 0 1 (extent ++ replicate 488 0)

abbrev node : List ℕ
node = block_of 1 2 (replicate 496 0)

abbrev image : List ℕ
image = leaf ++ node

-- room for three blocks and two extents, and a stack of 18 places
abbrev room : Lent
room = record { stack = 18; scratch = 3; blocks = 3; bytes = 16 }

abbrev both : Trace
both = met (visit_of 1 1) [] (met (visit_of 0 0) extent (met (visit_of 0 0) extent finished))

-- by the book: the node, then the leaf, once for each pointer
book-reads : textbook_of g kind.ByBlock image 1 2 (on_stack 0 room) ≡ done both
unfolding tree.header_len geometry.is_version geometry.is_block_size geometry.geometry_ok check.check_block bytes.bytes_at bytes.be_of book.textbook_in book.read_block book.read_children book.and_then walk.fit walk.look_in walk.under walk.pointers
book-reads = refl

-- so the walk over a stack reads it too
stack-reads : walk_of g kind.ByBlock image 1 2 room ≡ done both
stack-reads = sym (every-textbook g kind.ByBlock image 1 2 room (omega arith)) ∙ book-reads

-- with a byte less for records the second extent is refused by both, as the third block's visit
abbrev tight : Lent
tight = record { stack = 18; scratch = 3; blocks = 3; bytes = 15 }

abbrev cut : Trace
cut = met (visit_of 1 1) [] (met (visit_of 0 0) extent (failed 15 none))

book-cut : textbook_of g kind.ByBlock image 1 2 (on_stack 0 tight) ≡ done cut
unfolding tree.header_len geometry.is_version geometry.is_block_size geometry.geometry_ok check.check_block bytes.bytes_at bytes.be_of book.textbook_in book.read_block book.read_children book.and_then walk.fit walk.look_in walk.under walk.pointers
book-cut = refl

stack-cut : walk_of g kind.ByBlock image 1 2 tight ≡ done cut
stack-cut = sym (every-textbook g kind.ByBlock image 1 2 tight (omega arith)) ∙ book-cut

-- the premise is needed: on 17 places the walk over a stack is refused, where the book's reads on. Both ask for the level scratch.
seventeen-places : walk_of g kind.ByBlock image 1 2 (on_stack 17 room) ≡ refused 12 none
unfolding geometry.is_version geometry.is_block_size geometry.geometry_ok
seventeen-places = refl

short-scratch : textbook_of g kind.ByBlock image 1 2 (record { stack = 0; scratch = 2; blocks = 3; bytes = 16 }) ≡ refused 12 none
unfolding geometry.is_version geometry.is_block_size geometry.geometry_ok
short-scratch = refl

-- ---- two calls, on memory that holds sevens

abbrev three : List ℕ
three = replicate 3 7

-- both read the tree, and leave the same
abbrev read : Result Walked StoppedWalk
read = Ok (record { visits = 3; records = 2; bytes = 16 })

calls-read : Alike read read (replicate 3 0) (replicate 3 0) (0 ∷ 0 ∷ 1 ∷ []) (0 ∷ 0 ∷ 1 ∷ []) (extent ++ extent) (extent ++ extent)
unfolding walk.visits walk.records walk.at_level walk.by_level report_of bytes.with_bytes
calls-read =
    every-textbook-call g kind.ByBlock image 1 2 (replicate 18 7) (replicate 18 0) three three (replicate 16 7) (omega arith)
    read read (replicate 3 0) (replicate 3 0) (0 ∷ 0 ∷ 1 ∷ []) (0 ∷ 0 ∷ 1 ∷ []) (extent ++ extent) (extent ++ extent)
    (rw book-reads (record { answer = refl; stack_is = refl; scratch_is = refl; blocks_are = refl; records_are = refl }))
    (rw stack-reads (record { answer = refl; stack_is = refl; scratch_is = refl; blocks_are = refl; records_are = refl }))

-- both are refused by 15 after three visits, and leave zeros
abbrev full : Result Walked StoppedWalk
full = Err (record { refusal = why.Full; visits = 3 })

calls-cut : Alike full full (replicate 3 0) (replicate 3 0) (replicate 3 0) (replicate 3 0) (replicate 15 0) (replicate 15 0)
unfolding walk.visits walk.records report_of
calls-cut =
    every-textbook-call g kind.ByBlock image 1 2 (replicate 18 7) (replicate 18 0) three three (replicate 15 7) (omega arith)
    full full (replicate 3 0) (replicate 3 0) (replicate 3 0) (replicate 3 0) (replicate 15 0) (replicate 15 0)
    (rw book-cut (record { answer = refl; stack_is = refl; scratch_is = refl; blocks_are = refl; records_are = refl }))
    (rw stack-cut (record { answer = refl; stack_is = refl; scratch_is = refl; blocks_are = refl; records_are = refl }))
