-- `reasons::explain::holder` meets its contract.
use Rattle.reasons.proofs.Deciding.{free_now, held-in-map, held-in-counts}
use Rattle.reasons.proofs.explain.holder.Goals as goal

pub returns-in-None : goal.returns-in-None
returns-in-None c = let a = c.args in free_now a.map.now a.counts.now a.other a.block c.in-None.ensures

pub returns-in-Some : goal.returns-in-Some
returns-in-Some c = let a = c.args in held-in-map a.map.now a.counts.now a.other a.block _ c.in-Some.ensures c.if-other-map.true

pub returns-in-Some-2 : goal.returns-in-Some-2
returns-in-Some-2 c = let a = c.args in held-in-counts a.map.now a.counts.now a.other a.block _ c.in-Some.ensures c.if-other-map.false
