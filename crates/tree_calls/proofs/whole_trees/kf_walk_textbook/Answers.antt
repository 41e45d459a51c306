-- `tree_calls::whole_trees::kf_walk_textbook` meets its contract.
use Rattle.tree_calls.proofs.TreeCalls.{textbook-said}
use Rattle.tree_calls.proofs.whole_trees.kf_walk_textbook.Goals as goal

pub returns : goal.returns
returns c =
    let a = c.args in
    textbook-said a.image.now a.root a.levels c.geometry-g.ensures c.tree_kind-tree.ensures c.walk_textbook-walked.ensures
    c.walked_answer.ensures (c.say.ensures.number, c.say.ensures.figures)
