-- `trees::plan::count_levels` meets its contract.
use Prim.Native.Nat.{◌-◌}
use Rattle.trees.specs.Plan.{leaves, levels_of}
use Rattle.trees.proofs.PlanLaws.{Grown}
use Rattle.trees.proofs.plan.count_levels.Given as goal

abbrev pub invariant-loop-below : goal.invariant-loop-below
invariant-loop-below l = Grown l.per_node (leaves l.per_leaf l.records) (levels_of l.per_leaf l.per_node l.records) l.blocks l.below l.total l.levels

abbrev pub decreases-loop-below : goal.decreases-loop-below
decreases-loop-below l = 9 - l.levels
