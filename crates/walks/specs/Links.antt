-- Neighbours on a level: is every level of a walked tree linked? What a call of the link check comes to and leaves; and the claim that one wrong link is told,
-- `OneLinkWrong`, which proofs/OneLink.antt proves and crates/trees/proofs/SmallTree.antt has an instance of.
-- Assumes nothing.
use Rattle.std.specs.Prelude.{ℕ, zero, suc, ◌*◌, ◌^◌, ◌<◌, ◌≡◌, Bool, true, false, ◌&&◌, List, [], ◌∷◌, eqb, Result, Ok, Err}
use Rattle.codec.specs.Bytes.{IsBytes, with_bytes}
use Rattle.codec.specs.Question.{Outcome, done, refused}
use Rattle.blocks.specs.declared.geometry.Geometry.{Geometry}
use Rattle.blocks.specs.declared.kind.TreeKind.{TreeKind}
use Rattle.blocks.specs.Geometry.{among, null_ag_block}
use Rattle.blocks.specs.Check.{leftsib_in, rightsib_in}
use Rattle.blocks.specs.Stamp.{relinked}
use Rattle.walks.specs.Walk.{Visit, Trace, visits, at_level, by_level, block_in}
use Rattle.walks.specs.WalkCall.{if_finished, Lent, walk_of}
use Rattle.walks.specs.WalkAnswer.{WalkIs}
use Rattle.walks.specs.declared.walk.Walked.{Walked}
use Rattle.walks.specs.declared.walk.Linking.{Linking}
use Rattle.walks.specs.declared.refusal.StoppedWalk.{StoppedWalk}

-- the first of the blocks that come next on a level; all ones where there is none
abbrev pub next : List ℕ → ℕ
next [] = null_ag_block
next (n ∷ ns) = n

-- the siblings that a block of an image names
abbrev pub leftsib_of : ℕ → List ℕ → ℕ → ℕ
leftsib_of size image b = leftsib_in (block_in size image b)

abbrev pub rightsib_of : ℕ → List ℕ → ℕ → ℕ
rightsib_of size image b = rightsib_in (block_in size image b)

-- does each block of a level name the one before it and the one after, where `before` stands before the first and nothing after the last?
unfoldable pub linked : (ℕ → ℕ) → (ℕ → ℕ) → ℕ → List ℕ → Bool
linked left right before [] = true
linked left right before (b ∷ bs) = eqb (left b) before && (eqb (right b) (next bs) && linked left right b bs)

-- each of the first n levels, whose first block has none before it
unfoldable pub levels_linked : (ℕ → ℕ) → (ℕ → ℕ) → ℕ → List Visit → Bool
levels_linked left right zero vs = true
levels_linked left right (suc n) vs = levels_linked left right n vs && linked left right null_ag_block (at_level n vs)

-- what is said of a walk of an image: no, where it was refused
abbrev pub says_linked : ℕ → List ℕ → ℕ → Outcome Trace → Bool
says_linked size image levels (done t) = if_finished t (levels_linked (leftsib_of size image) (rightsib_of size image) levels (visits t)) false
says_linked size image levels (refused n x) = false

-- a call's walk, its counts or its refusal; and the yes or no: no, where it was refused
abbrev pub walked_of : Result Linking StoppedWalk → Result Walked StoppedWalk
walked_of (Ok l) = Ok l.walked
walked_of (Err s) = Err s

abbrev pub says_yes : Result Linking StoppedWalk → Bool
says_yes (Ok l) = l.linked
says_yes (Err s) = false

-- a call of the link check, where the walk comes to o: the walk's answer and what it leaves, and the yes or no
pub record LinkingIs (size w : ℕ) (image : List ℕ) (levels : ℕ) (o : Outcome Trace) (r : Result Linking StoppedWalk)
    (stack stack' scratch scratch' blocks blocks' out out' : List ℕ) : Type 0 where
  pub walks : WalkIs w levels o (walked_of r) stack stack' scratch scratch' blocks blocks' out out'
  pub says : says_yes r ≡ says_linked size image levels o

-- ---- the claim

-- the image in which block b names other siblings, its check put right
abbrev pub relinked_in : Geometry → List ℕ → ℕ → ℕ → ℕ → List ℕ
relinked_in g image b left right = with_bytes image (b * g.blocksize) (relinked g left right (block_in g.blocksize image b))

-- one link wrong: where every level is linked, and then one of the blocks that the walk gave names another block before it or after it, the walk comes to what
-- it came to, and not every level is linked
abbrev pub OneLinkWrong : Type 0
OneLinkWrong =
    (g : Geometry) (kind : TreeKind) (image : List ℕ) (root levels : ℕ) (m : Lent) (t : Trace) (b left right : ℕ)
    → IsBytes image
    → walk_of g kind image root levels m ≡ done t → says_linked g.blocksize image levels (done t) ≡ true
    → among b (by_level levels (visits t)) ≡ true
    → left < 2 ^ 32 → right < 2 ^ 32 → (left ≡ leftsib_of g.blocksize image b → right ≡ rightsib_of g.blocksize image b → ⊥)
    → (walk_of g kind (relinked_in g image b left right) root levels m ≡ done t)
    × (says_linked g.blocksize (relinked_in g image b left right) levels (done t) ≡ false)
