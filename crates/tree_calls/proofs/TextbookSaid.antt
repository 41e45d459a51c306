-- The textbook walk and the walk over a stack say and leave the same.
-- Assumes nothing.
use Prim.Native.Nat.{ℕ}
use native.Mathlib.Omega.{arith}
use mathlib.Core.Path.{◌≡◌, refl, sym, ap, ◌∙◌}
use mathlib.Core.List.{List, [], ◌∷◌}
use lib.ListN.{replicate}
use Rattle.codec.specs.Question.{Outcome}
use Rattle.blocks.specs.declared.geometry.Geometry.{Geometry}
use Rattle.blocks.specs.declared.kind.TreeKind.TheVariants as kind
use Rattle.blocks.specs.Geometry as geometry
use Rattle.blocks.specs.Tree.{record_len}
use Rattle.walks.specs.Walk as walk
use Rattle.walks.specs.Walk.{Trace}
use Rattle.walks.specs.WalkCall as call
use Rattle.walks.specs.WalkCall.{report, scratch_after, blocks_after, records_after, lent}
use Rattle.book.specs.Textbook as book
use Rattle.book.proofs.Same.{every-textbook}
use Rattle.interface.specs.Interface.{number_of}
use Rattle.tree_calls.specs.WalkFigures.{visit_figures, walk_figures, WalkSays}
use Rattle.tree_calls.specs.Textbook.{SaidAlike, EverySaidAlike}

-- two calls that come to the same
alike : (w levels : ℕ) (o o' : Outcome Trace) (r r' : ℕ) (said said' stack stack' other other' scratch scratch₁ scratch₂ blocks blocks₁ blocks₂ out out₁ out₂ : List ℕ) → o ≡ o'
    → WalkSays w levels o r said stack stack' scratch scratch₁ blocks blocks₁ out out₁ → WalkSays w levels o' r' said' other other' scratch scratch₂ blocks blocks₂ out out₂
    → SaidAlike r r' said said' scratch₁ scratch₂ blocks₁ blocks₂ out₁ out₂
alike w levels o o' r r' said said' stack stack' other other' scratch scratch₁ scratch₂ blocks blocks₁ blocks₂ out out₁ out₂ e p q =
    record {
      answers = p.answer.number ∙ ap (λ (x : Outcome Trace). number_of (report w x).outcome) e ∙ sym q.answer.number;
      figures = p.answer.figures ∙ ap (λ (x : Outcome Trace). visit_figures (walk_figures 0) (report w x).outcome (report w x).passed) e ∙ sym q.answer.figures;
      scratches = p.leaves.scratch_is ∙ ap (λ (x : Outcome Trace). scratch_after x scratch) e ∙ sym q.leaves.scratch_is;
      block_lists = p.leaves.blocks_are ∙ ap (λ (x : Outcome Trace). blocks_after levels x blocks) e ∙ sym q.leaves.blocks_are;
      record_lists = p.leaves.records_are ∙ ap (λ (x : Outcome Trace). records_after x out) e ∙ sym q.leaves.records_are;
    }

pub every-said-alike : EverySaidAlike
every-said-alike g kind image root levels stack stack' scratch blocks out deep r r' said said' scratch₁ scratch₂ blocks₁ blocks₂ out₁ out₂ =
    alike (record_len kind) levels _ _ r r' said said' [] [] stack stack' scratch scratch₁ scratch₂ blocks blocks₁ blocks₂ out out₁ out₂
    (every-textbook g kind image root levels (lent stack scratch blocks out) deep)

-- ---- an instance: a root outside an image of no block is refused by 14 after one visit, and zeros are left

abbrev g : Geometry
g = record { version = 5; blocksize = 512; agblocks = 0; agno = 0; meta_uuid = replicate 16 0; last_lsn = 0 }

outside-alike : SaidAlike 14 14 (0 ∷ 0 ∷ 1 ∷ 0 ∷ []) (0 ∷ 0 ∷ 1 ∷ 0 ∷ []) (0 ∷ []) (0 ∷ []) (0 ∷ []) (0 ∷ []) (0 ∷ []) (0 ∷ [])
unfolding geometry.is_version geometry.is_block_size geometry.geometry_ok call.walk_in call.report_of walk.run walk.fit walk.look_in walk.visits walk.records book.textbook_in book.read_block
outside-alike =
    every-said-alike g kind.Rmap [] 0 1 (replicate 18 7) (replicate 18 0) (7 ∷ []) (7 ∷ []) (7 ∷ []) (omega arith)
    14 14 (0 ∷ 0 ∷ 1 ∷ 0 ∷ []) (0 ∷ 0 ∷ 1 ∷ 0 ∷ []) (0 ∷ []) (0 ∷ []) (0 ∷ []) (0 ∷ []) (0 ∷ []) (0 ∷ [])
    (record {
      answer = record { number = refl; figures = refl };
      leaves = record { stack_is = refl; scratch_is = refl; blocks_are = refl; records_are = refl };
    })
    (record {
      answer = record { number = refl; figures = refl };
      leaves = record { stack_is = refl; scratch_is = refl; blocks_are = refl; records_are = refl };
    })
