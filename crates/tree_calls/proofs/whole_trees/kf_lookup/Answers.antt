-- `tree_calls::whole_trees::kf_lookup` meets its contract.
use Rattle.tree_calls.proofs.LookupSaid.{lookup-said}
use Rattle.tree_calls.proofs.whole_trees.kf_lookup.Goals as goal

pub returns : goal.returns
returns c =
    let a = c.args in
    lookup-said a.image.now a.root a.levels a.asked.now c.geometry-g.ensures c.lookup-looked.ensures c.looked_up_answer.ensures (c.say.ensures.number, c.say.ensures.figures)
