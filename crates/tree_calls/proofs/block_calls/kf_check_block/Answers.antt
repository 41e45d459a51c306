-- `tree_calls::block_calls::kf_check_block` meets its contract.
use mathlib.Core.Path.{refl}
use Rattle.blocks.specs.Refusal.{refusal_number, refusal_values, checked_outcome}
use Rattle.tree_calls.specs.TreeCalls.{header_figures}
use Rattle.interface.proofs.Saying.{result-says}
use Rattle.tree_calls.proofs.block_calls.kf_check_block.Goals as goal

pub returns : goal.returns
returns c =
    let checked = c.check_block-checked in
    rw (← c.geometry-g.ensures, ← c.tree_kind-tree.ensures)
    (result-says header_figures checked_outcome refusal_number refusal_values _ checked.result c.answer_of.ensures (λ h. refl) (λ r. refl) (λ h k. k) checked.ensures
    (c.say.ensures.number, c.say.ensures.figures))
