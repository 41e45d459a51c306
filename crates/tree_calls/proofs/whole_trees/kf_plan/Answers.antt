-- `tree_calls::whole_trees::kf_plan` meets its contract.
use Rattle.tree_calls.proofs.TreeCalls.{places-left, plan-said}
use Rattle.tree_calls.proofs.whole_trees.kf_plan.Goals as goal

pub returns : goal.returns
returns c =
    let levels = c.args.levels.now in
    plan-said c.args.records c.plan-planned.result levels _ c.geometry-g.ensures c.tree_kind-tree.ensures c.plan-planned.ensures c.answer_of-answer.ensures
    (c.say.ensures.number, c.say.ensures.figures)
    (places-left c.plan-planned.result levels _ c.put_places.ensures.stored c.put_places.ensures.kept c.plan-planned.ensures)
