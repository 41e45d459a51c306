-- `tree_calls::whole_trees::kf_walk_linked` meets its contract.
use Rattle.tree_calls.proofs.TreeCalls.{linking-said}
use Rattle.tree_calls.proofs.whole_trees.kf_walk_linked.Goals as goal

pub returns : goal.returns
returns c =
    let a = c.args in
    linking-said a.image.now a.root a.levels c.geometry-g.ensures c.tree_kind-tree.ensures c.walk_linked-linking.ensures
    c.linking_answer.ensures (c.say.ensures.number, c.say.ensures.figures)
