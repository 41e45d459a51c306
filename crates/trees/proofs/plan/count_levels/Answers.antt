-- `trees::plan::count_levels` meets its contract.
use borrow.Author.Rules.{rules}
use native.Mathlib.Omega.{arith}
use mathlib.Core.Path.{◌≡◌}
use Rattle.trees.specs.Plan.{leaves}
use Rattle.trees.proofs.PlanLaws.{ceil-is, grown-start, grown-more, grown-fits, grown-done, grown-refused, leaves-small}
use Rattle.trees.proofs.plan.count_levels.Goals as goal

pub loop-below-init : goal.loop-below-init
unfolding leaves
loop-below-init c =
    let a = c.args in
    let first : c.max-below.result ≡ leaves a.per_leaf a.records =
    omega (arith, c.div_ceil.ensures, ceil-is a.records a.per_leaf (omega (arith, c.requires.0))) in
    grown-start a.per_leaf a.per_node a.records c.max-below.result first

pub returns-then-levels-eq9 : goal.returns-then-levels-eq9
returns-then-levels-eq9 c = grown-refused c.loop-below.invariant (search rules) (search rules)

pub overflow_add-total : goal.overflow_add-total
overflow_add-total c =
    let l = c.loop-below in
    let a = c.args in
    let k = grown-fits l.invariant (leaves-small a.per_leaf a.records c.requires.0 (omega (arith, c.ranges.records))) (omega (arith, c.requires.1)) (search rules) (search rules) in
    omega (arith, k, ceil-is l.below a.per_node (omega (arith, c.requires.1)), c.div_ceil-below.ensures)

pub loop-below-preserved : goal.loop-below-preserved
loop-below-preserved c =
    let l = c.loop-below in
    rw (c.div_ceil-below.ensures, ← ceil-is l.below c.args.per_node (omega (arith, c.requires.1))) (grown-more l.invariant (search rules) (search rules) (search rules))

pub returns : goal.returns
returns c = grown-done c.loop-below.invariant (search rules)
