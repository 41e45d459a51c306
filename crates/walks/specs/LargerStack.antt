-- Nine pairs in the place of a larger stack: a walk comes to what it came to. The statements are `EveryStack`, `EveryAlike` and `EveryAccepted`;
-- proofs/StackSizes.antt proves them, with walks that meet their premises.
-- Assumes nothing.
use Rattle.std.specs.Prelude.{ℕ, ◌*◌, ◌≤◌, ◌≡◌, List, length, Result}
use Rattle.codec.specs.Question.{none, Outcome, refused}
use Rattle.blocks.specs.declared.geometry.Geometry.{Geometry}
use Rattle.blocks.specs.declared.kind.TreeKind.{TreeKind}
use Rattle.blocks.specs.Tree.{record_len}
use Rattle.walks.specs.Walk.{Trace, per_node}
use Rattle.walks.specs.Shapes.{shape_of}
use Rattle.walks.specs.WalkCall.{Lent, lent, stack_places, walk_with, walk_of}
use Rattle.walks.specs.declared.walk.Walked.{Walked}
use Rattle.walks.specs.declared.refusal.StoppedWalk.{StoppedWalk}
use Rattle.walks.specs.WalkAnswer.{walked_report, WalkIs}

-- the larger stack, which 12 asked for before: a block and its level for each child of a full node on each level
abbrev pub larger_stack : Geometry → TreeKind → ℕ → ℕ
larger_stack g kind levels = 2 * levels * per_node (shape_of g kind)

-- the walk that asks for it
abbrev pub larger_walk_of : Geometry → TreeKind → List ℕ → ℕ → ℕ → Lent → Outcome Trace
larger_walk_of g kind image root levels m = walk_with (larger_stack g kind levels) g kind image root levels m

-- the same memory with a stack of so many places
abbrev pub on_stack : ℕ → Lent → Lent
on_stack places m = record { stack = places; scratch = m.scratch; blocks = m.blocks; bytes = m.bytes }

-- On nine pairs or more a walk comes to what it comes to on a stack as large as the larger one, all else the same. What a call promises goes by what it
-- comes to alone (`WalkIs`, and `LinkingIs` of the link check).
abbrev pub EveryStack : Type 0
EveryStack =
    (g : Geometry) (kind : TreeKind) (image : List ℕ) (root levels : ℕ) (m : Lent) (places : ℕ)
    → stack_places ≤ m.stack → larger_stack g kind levels ≤ places
    → walk_of g kind image root levels m ≡ larger_walk_of g kind image root levels (on_stack places m)

-- two calls answered the same, counts or refusal and visits, and left the same in the level scratch, the block list and the record list
pub record Alike (r r' : Result Walked StoppedWalk) (scratch scratch' blocks blocks' out out' : List ℕ) : Type 0 where
  pub answers : walked_report r ≡ walked_report r'
  pub scratches : scratch ≡ scratch'
  pub block_lists : blocks ≡ blocks'
  pub record_lists : out ≡ out'

-- So a caller of both, lending the same but for the stacks, sees the records, block list, refusals and visits of the larger stack.
abbrev pub EveryAlike : Type 0
EveryAlike =
    (g : Geometry) (kind : TreeKind) (image : List ℕ) (root levels : ℕ) (pairs pairs' larger larger' scratch blocks out : List ℕ)
    → stack_places ≤ length pairs → larger_stack g kind levels ≤ length larger
    → (r r' : Result Walked StoppedWalk) (scratch₁ scratch₂ blocks₁ blocks₂ out₁ out₂ : List ℕ)
    → WalkIs (record_len kind) levels (walk_of g kind image root levels (lent pairs scratch blocks out)) r
    pairs pairs' scratch scratch₁ blocks blocks₁ out out₁
    → WalkIs (record_len kind) levels (larger_walk_of g kind image root levels (lent larger scratch blocks out)) r'
    larger larger' scratch scratch₂ blocks blocks₂ out out₂
    → Alike r r' scratch₁ scratch₂ blocks₁ blocks₂ out₁ out₂

-- And each call that 12 did not refuse before comes to the same, on the memory that it was lent.
abbrev pub EveryAccepted : Type 0
EveryAccepted =
    (g : Geometry) (kind : TreeKind) (image : List ℕ) (root levels : ℕ) (m : Lent)
    → (larger_walk_of g kind image root levels m ≡ refused 12 none → ⊥)
    → walk_of g kind image root levels m ≡ larger_walk_of g kind image root levels m
