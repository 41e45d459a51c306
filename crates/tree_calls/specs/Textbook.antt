-- The textbook walk as a caller sees it: it says and leaves what the walk over a stack does. The statement is `EverySaidAlike`; proofs/TextbookSaid.antt proves it,
-- with two calls that meet its premises.
-- Assumes nothing.
use Rattle.std.specs.Prelude.{ℕ, ◌≤◌, ◌≡◌, List, length}
use Rattle.blocks.specs.declared.geometry.Geometry.{Geometry}
use Rattle.blocks.specs.declared.kind.TreeKind.{TreeKind}
use Rattle.blocks.specs.Tree.{record_len}
use Rattle.walks.specs.WalkCall.{stack_places, walk_of, lent}
use Rattle.book.specs.Textbook.{textbook_of, lists}
use Rattle.tree_calls.specs.WalkFigures.{WalkSays, TextbookSays}

-- two calls gave the same answer and figures, and left the same in the level scratch, the block list and the record list
pub record SaidAlike (r r' : ℕ) (said said' scratch scratch' blocks blocks' out out' : List ℕ) : Type 0 where
  pub answers : r ≡ r'
  pub figures : said ≡ said'
  pub scratches : scratch ≡ scratch'
  pub block_lists : blocks ≡ blocks'
  pub record_lists : out ≡ out'

-- `kf_walk_textbook` and `kf_walk` with a stack of 18 places or more, lent the same besides
abbrev pub EverySaidAlike : Type 0
EverySaidAlike =
    (g : Geometry) (kind : TreeKind) (image : List ℕ) (root levels : ℕ) (stack stack' scratch blocks out : List ℕ)
    → stack_places ≤ length stack
    → (r r' : ℕ) (said said' scratch₁ scratch₂ blocks₁ blocks₂ out₁ out₂ : List ℕ)
    → TextbookSays (record_len kind) levels (textbook_of g kind image root levels (lists scratch blocks out)) r said scratch scratch₁ blocks blocks₁ out out₁
    → WalkSays (record_len kind) levels (walk_of g kind image root levels (lent stack scratch blocks out)) r' said'
    stack stack' scratch scratch₂ blocks blocks₂ out out₂
    → SaidAlike r r' said said' scratch₁ scratch₂ blocks₁ blocks₂ out₁ out₂
