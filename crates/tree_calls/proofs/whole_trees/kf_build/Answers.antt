-- `tree_calls::whole_trees::kf_build` meets its contract.
use mathlib.Core.Path.{refl}
use Rattle.trees.specs.BuildAnswer.{build_number, build_values, built_outcome}
use Rattle.tree_calls.specs.TreeCalls.{build_figures}
use Rattle.interface.proofs.Saying.{result-says}
use Rattle.tree_calls.proofs.whole_trees.kf_build.Goals as goal

pub returns : goal.returns
returns c =
    let built = c.build-built in
    rw (← c.geometry-g.ensures, ← c.tree_kind-tree.ensures)
    (record {
      answer =
          result-says (build_figures _) built_outcome build_number build_values _ built.result c.answer_of.ensures (λ n. refl) (λ r. refl) (λ n k. k) built.ensures.outcome
          (c.say.ensures.number, c.say.ensures.figures);
      wrote = built.ensures.output;
    })
