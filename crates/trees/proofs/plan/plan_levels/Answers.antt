-- `trees::plan::plan_levels` meets its contract.
use Rattle.blocks.proofs.Laws.{capacity-some}
use Rattle.trees.proofs.plan.plan_levels.Goals as goal

pub count_levels-requires : goal.count_levels-requires
count_levels-requires c =
    let a = c.args in
    rw (c.block_capacity-per_leaf.ensures, c.block_capacity-per_node.ensures) (capacity-some a.g a.kind 0 c.requires, capacity-some a.g a.kind 1 c.requires)
