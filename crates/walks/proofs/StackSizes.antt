-- Which stacks 12 takes: with nine pairs, or with the larger stack, the same follows. Instances are at the end.
-- Assumes nothing.
use Prim.Native.Nat.{ℕ, ◌*◌, ◌≤◌}
use native.Mathlib.Nat.{mul-le-mul, mul_comm, mul_assoc}
use native.Mathlib.Omega.{arith}
use borrow.Author.Tests.{le-leb, leb-true}
use mathlib.Core.Path.{◌≡◌, refl, sym, ap, ◌∙◌}
use mathlib.Core.Bool.{Bool, true, false, cond, ◌&&◌}
use mathlib.Core.List.{List, [], ◌∷◌}
use lib.Dec.{leb}
use lib.ListN.{length, replicate}
use Rattle.std.specs.Prelude.{Result, Err}
use Rattle.codec.specs.Question.{none, Outcome, refused, answer}
use Rattle.blocks.specs.declared.geometry.Geometry.{Geometry}
use Rattle.blocks.specs.declared.kind.TreeKind.{TreeKind}
use Rattle.blocks.specs.declared.kind.TreeKind.TheVariants as kind
use Rattle.blocks.specs.Geometry as geometry
use Rattle.blocks.specs.Geometry.{geometry_ok}
use Rattle.blocks.specs.Tree as tree
use Rattle.blocks.specs.Tree.{record_len}
use Rattle.walks.specs.Walk as walk
use Rattle.walks.specs.Walk.{Trace, per_node}
use Rattle.walks.specs.Shapes.{shape_of}
use Rattle.walks.specs.WalkCall.{Lent, lent, stack_places, first_questions, walk_in, walk_of, report_of, report, scratch_after, blocks_after, records_after}
use Rattle.walks.specs.LargerStack.{larger_stack, larger_walk_of, on_stack, EveryStack, Alike, EveryAlike, EveryAccepted}
use Rattle.walks.specs.WalkAnswer.{WalkIs}
use Rattle.walks.specs.declared.walk.Walked.{Walked}
use Rattle.walks.specs.declared.refusal.StoppedWalk.{StoppedWalk}
use Rattle.walks.specs.declared.refusal.WalkRefusal.TheVariants as why
use Rattle.walks.proofs.LookLaws.{node_some}

-- what follows 1, 11 and 12 is the same on nine pairs and on the larger stack
pub larger-same : {A : Type 0} (g : Geometry) (kind : TreeKind) (levels : ℕ) (m : Lent) (places : ℕ) (o : Outcome A) → stack_places ≤ m.stack → larger_stack g kind levels ≤ places
    → answer (first_questions stack_places g levels m) o ≡ answer (first_questions (larger_stack g kind levels) g levels (on_stack places m)) o
larger-same g kind levels m places o p q = rw (le-leb stack_places m.stack p, le-leb (larger_stack g kind levels) places q)

pub every-stack : EveryStack
every-stack g kind image root levels m places p q = larger-same g kind levels m places _ p q

-- two calls that come to the same are alike
pub alike : (w levels : ℕ) (o o' : Outcome Trace) (r r' : Result Walked StoppedWalk) (pairs pairs' larger larger' scratch scratch₁ scratch₂ blocks blocks₁ blocks₂ out out₁ out₂ : List ℕ) → o ≡ o'
    → WalkIs w levels o r pairs pairs' scratch scratch₁ blocks blocks₁ out out₁ → WalkIs w levels o' r' larger larger' scratch scratch₂ blocks blocks₂ out out₂
    → Alike r r' scratch₁ scratch₂ blocks₁ blocks₂ out₁ out₂
alike w levels o o' r r' pairs pairs' larger larger' scratch scratch₁ scratch₂ blocks blocks₁ blocks₂ out out₁ out₂ e p q =
    record {
      answers = p.answer ∙ ap (report w) e ∙ sym q.answer;
      scratches = p.scratch_is ∙ ap (λ (x : Outcome Trace). scratch_after x scratch) e ∙ sym q.scratch_is;
      block_lists = p.blocks_are ∙ ap (λ (x : Outcome Trace). blocks_after levels x blocks) e ∙ sym q.blocks_are;
      record_lists = p.records_are ∙ ap (λ (x : Outcome Trace). records_after x out) e ∙ sym q.records_are;
    }

pub every-alike : EveryAlike
every-alike g kind image root levels pairs pairs' larger larger' scratch blocks out p q r r' scratch₁ scratch₂ blocks₁ blocks₂ out₁ out₂ =
    alike (record_len kind) levels _ _ r r' pairs pairs' larger larger' scratch scratch₁ scratch₂ blocks blocks₁ blocks₂ out out₁ out₂
    (every-stack g kind image root levels (lent pairs scratch blocks out) (length larger) p q)

-- the larger stack has nine pairs' places: no node has room for fewer than ten children
larger-deep : (g : Geometry) (kind : TreeKind) (levels stack : ℕ) → geometry_ok g ≡ true → 1 ≤ levels → larger_stack g kind levels ≤ stack → stack_places ≤ stack
larger-deep g kind levels stack ok some h =
    let most : ℕ = per_node (shape_of g kind) in
    let m : 1 * 10 ≤ levels * most = mul-le-mul some (node_some g kind ok) in
    let e : levels * most * 2 ≡ 2 * levels * most = mul_comm (levels * most) 2 ∙ sym (mul_assoc 2 levels most) in
    omega arith

-- by cases: 1, the two halves of 11, what 12 asked of the stack, of the scratch, and what it asks of the stack now
by_cases : {A : Type 0} (ok some few larger noting deep : Bool) (o : Outcome A) → (ok ≡ true → some ≡ true → larger ≡ true → deep ≡ true)
    → (cond ok (cond (some && few) (cond (larger && noting) o (refused 12 none)) (refused 11 none)) (refused 1 none) ≡ refused 12 none → ⊥)
    → cond ok (cond (some && few) (cond (deep && noting) o (refused 12 none)) (refused 11 none)) (refused 1 none)
    ≡ cond ok (cond (some && few) (cond (larger && noting) o (refused 12 none)) (refused 11 none)) (refused 1 none)
by_cases false some few larger noting deep o f h = refl
by_cases true false few larger noting deep o f h = refl
by_cases true true false larger noting deep o f h = refl
by_cases true true true false noting deep o f h = absurd (h refl)
by_cases true true true true noting deep o f h = ap (λ (b : Bool). cond (b && noting) o (refused 12 none)) (f refl refl refl)

-- what was not refused by 12 comes to the same
pub accepted-same : {A : Type 0} (g : Geometry) (kind : TreeKind) (levels : ℕ) (m : Lent) (o : Outcome A)
    → (answer (first_questions (larger_stack g kind levels) g levels m) o ≡ refused 12 none → ⊥)
    → answer (first_questions stack_places g levels m) o ≡ answer (first_questions (larger_stack g kind levels) g levels m) o
accepted-same g kind levels m o h =
    by_cases (geometry_ok g) (leb 1 levels) (leb levels 9) (leb (larger_stack g kind levels) m.stack) (leb m.blocks m.scratch) (leb stack_places m.stack) o
    (λ ok some larger. le-leb stack_places m.stack (larger-deep g kind levels m.stack ok (leb-true 1 levels some) (leb-true (larger_stack g kind levels) m.stack larger)))
    h

pub every-accepted : EveryAccepted
every-accepted g kind image root levels m h = accepted-same g kind levels m _ h

-- ---- instances

-- blocks of 65,536 bytes: a node of the counts has room for 8,185 children, so nine levels took a stack of 147,330 places
abbrev wide : Geometry
wide = record { version = 5; blocksize = 65536; agblocks = 0; agno = 0; meta_uuid = replicate 16 0; last_lsn = 0 }

-- no lists, and a stack of so many places
abbrev stack_of : ℕ → Lent
stack_of places = on_stack places (record { stack = 0; scratch = 0; blocks = 0; bytes = 0 })

wide-larger : larger_stack wide kind.Refcount 9 ≡ 147330
unfolding tree.header_len
wide-larger = refl

-- 18 places come to what 147,330 did
eighteen-are-enough : (image : List ℕ) (root : ℕ) → walk_of wide kind.Refcount image root 9 (stack_of 18) ≡ larger_walk_of wide kind.Refcount image root 9 (stack_of 147330)
unfolding tree.header_len
eighteen-are-enough image root = every-stack wide kind.Refcount image root 9 (stack_of 18) 147330 (omega arith) (omega arith)

-- 12 refused them before, and refuses 17 now
eighteen-before : (image : List ℕ) (root : ℕ) → larger_walk_of wide kind.Refcount image root 9 (stack_of 18) ≡ refused 12 none
unfolding tree.header_len geometry.is_version geometry.is_block_size geometry.geometry_ok
eighteen-before image root = refl

seventeen-now : (image : List ℕ) (root : ℕ) → walk_of wide kind.Refcount image root 9 (stack_of 17) ≡ refused 12 none
unfolding geometry.is_version geometry.is_block_size geometry.geometry_ok
seventeen-now image root = refl

-- a call that 12 took before
larger-before : (image : List ℕ) (root : ℕ) → walk_of wide kind.Refcount image root 9 (stack_of 147330) ≡ larger_walk_of wide kind.Refcount image root 9 (stack_of 147330)
unfolding tree.header_len geometry.is_version geometry.is_block_size geometry.geometry_ok
larger-before image root = every-accepted wide kind.Refcount image root 9 (stack_of 147330) (λ e. cc e)

-- a root outside an image of no block, at 512 bytes: on 18 places and on the 20 of before both calls are refused by 14 after one visit, and leave zeros
abbrev narrow : Geometry
narrow = record { version = 5; blocksize = 512; agblocks = 0; agno = 0; meta_uuid = replicate 16 0; last_lsn = 0 }

abbrev filled : List ℕ
filled = 7 ∷ []

-- both are refused by 14 after one visit
abbrev outside : Result Walked StoppedWalk
outside = Err (record { refusal = why.Outside; visits = 1 })

outside-alike : Alike outside outside (0 ∷ []) (0 ∷ []) (0 ∷ []) (0 ∷ []) (0 ∷ []) (0 ∷ [])
unfolding tree.header_len geometry.is_version geometry.is_block_size geometry.geometry_ok walk_in walk.run walk.fit walk.look_in walk.visits walk.records report_of
outside-alike =
    every-alike narrow kind.Rmap [] 0 1 (replicate 18 7) (replicate 18 0) (replicate 20 7) (replicate 20 0) filled filled filled (omega arith) (omega arith)
    outside outside (0 ∷ []) (0 ∷ []) (0 ∷ []) (0 ∷ []) (0 ∷ []) (0 ∷ [])
    (record { answer = refl; stack_is = refl; scratch_is = refl; blocks_are = refl; records_are = refl })
    (record { answer = refl; stack_is = refl; scratch_is = refl; blocks_are = refl; records_are = refl })
