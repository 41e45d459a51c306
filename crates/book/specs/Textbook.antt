-- The textbook walk: "one routine reads a block, another its children from left to right, each calling the other, the level falling". What a call comes to and
-- leaves; and the claim that it is what the walk over a stack comes to, `EveryTextbook`, and so of two calls `EveryTextbookCall`. proofs/Same.antt proves them;
-- proofs/SmallBook.antt has walks that meet their premises.
-- Assumes nothing.
use Rattle.std.specs.Prelude.{ℕ, zero, suc, ◌-◌, ◌≤◌, max, ◌≡◌, List, [], ◌∷◌, length, Result}
use Rattle.codec.specs.Question.{Outcome, done, answer}
use Rattle.blocks.specs.declared.geometry.Geometry.{Geometry}
use Rattle.blocks.specs.declared.kind.TreeKind.{TreeKind}
use Rattle.blocks.specs.Tree.{record_len}
use Rattle.walks.specs.declared.walk.Walked.{Walked}
use Rattle.walks.specs.declared.refusal.StoppedWalk.{StoppedWalk}
use Rattle.walks.specs.Walk.{Visit, visit_of, Look, Trace, finished, spent, failed, met, after, fit, Shape, look_in}
use Rattle.walks.specs.Shapes.{shape_of}
use Rattle.walks.specs.WalkCall.{Lent, lent, stack_places, first_questions, walk_of}
use Rattle.walks.specs.WalkAnswer.{WalkIs}
use Rattle.walks.specs.LargerStack.{on_stack, Alike}

-- ---- the two routines, of at most n visits

-- a walk of at most n visits, and where it is finished another, of those that it left
unfoldable pub and_then : Trace → ℕ → (ℕ → Trace) → Trace
and_then finished n next = next n
and_then spent n next = spent
and_then (failed k x) n next = failed k x
and_then (met v b t) n next = met v b (and_then t (n - 1) next)

-- the children from left to right, each by the routine that reads a block
unfoldable pub read_children : (ℕ → Visit → Trace) → ℕ → List Visit → Trace
read_children block n [] = finished
read_children block n (v ∷ vs) = and_then (block n v) n (λ left. read_children block left vs)

-- a block of a level: is a visit left (13)? Then the look at it (14, 3 to 8, 30, 9 and 10), and its children, one level below it; a leaf has none
unfoldable pub read_block : (Visit → Look) → (level : ℕ) → ℕ → Visit → Trace
read_block look zero zero v = spent
read_block look zero (suc n) v = after v (λ below. finished) (look v)
read_block look (suc level) zero v = spent
read_block look (suc level) (suc n) v = after v (λ below. read_children (read_block look level) n below) (look v)

-- ---- a call

-- the walk of a tree from its root, of at most limit visits, with lists of so many places and bytes (15)
unfoldable pub textbook_in : Shape → List ℕ → ℕ → ℕ → ℕ → ℕ → ℕ → Trace
textbook_in s image root levels limit places room =
    fit places room (read_block (look_in s image) (levels - 1) limit (visit_of root (levels - 1)))

-- what it is lent: no stack
abbrev pub lists : List ℕ → List ℕ → List ℕ → Lent
lists scratch blocks out = lent [] scratch blocks out

-- 1, 11 and 12, which needs no place of a stack and so asks only for the level scratch; then the walk, of at most max(agblocks, 64) visits
abbrev pub textbook_of : Geometry → TreeKind → List ℕ → ℕ → ℕ → Lent → Outcome Trace
textbook_of g kind image root levels m =
    answer (first_questions 0 g levels m)
    (done (textbook_in (shape_of g kind) image root levels (max g.agblocks 64) m.blocks m.bytes))

-- a call's answer, and the three lent slices after it, where what it comes to is o: those of a walk with no stack
abbrev pub TextbookIs : (w levels : ℕ) → Outcome Trace → Result Walked StoppedWalk → (scratch scratch' blocks blocks' out out' : List ℕ) → Type 0
TextbookIs w levels o r scratch scratch' blocks blocks' out out' = WalkIs w levels o r [] [] scratch scratch' blocks blocks' out out'

-- ---- the claim

-- "It gives the same result as the stack walk on every image, refused ones included": on every image and memory it comes to what the walk comes to that is lent
-- a stack of 18 places or more besides
abbrev pub EveryTextbook : Type 0
EveryTextbook =
    (g : Geometry) (kind : TreeKind) (image : List ℕ) (root levels : ℕ) (m : Lent)
    → stack_places ≤ m.stack
    → textbook_of g kind image root levels (on_stack 0 m) ≡ walk_of g kind image root levels m

-- So a caller of both, lending the same but for the stack, sees the same answer, visits, level scratch, block list and record list.
abbrev pub EveryTextbookCall : Type 0
EveryTextbookCall =
    (g : Geometry) (kind : TreeKind) (image : List ℕ) (root levels : ℕ) (stack stack' scratch blocks out : List ℕ)
    → stack_places ≤ length stack
    → (r r' : Result Walked StoppedWalk) (scratch₁ scratch₂ blocks₁ blocks₂ out₁ out₂ : List ℕ)
    → TextbookIs (record_len kind) levels (textbook_of g kind image root levels (lists scratch blocks out)) r scratch scratch₁ blocks blocks₁ out out₁
    → WalkIs (record_len kind) levels (walk_of g kind image root levels (lent stack scratch blocks out)) r'
    stack stack' scratch scratch₂ blocks blocks₂ out out₂
    → Alike r r' scratch₁ scratch₂ blocks₁ blocks₂ out₁ out₂
