-- `tree_calls::whole_trees::kf_walk` meets its contract.
use Rattle.tree_calls.proofs.TreeCalls.{walk-said}
use Rattle.tree_calls.proofs.whole_trees.kf_walk.Goals as goal

pub returns : goal.returns
returns c =
    let a = c.args in
    walk-said a.image.now a.root a.levels
    c.geometry-g.ensures c.tree_kind-tree.ensures c.walk-walked.ensures c.walked_answer.ensures (c.say.ensures.number, c.say.ensures.figures)
