-- `free::same::Ascending::reach` meets its contract. The invariant: those before `low` start before. A step is at most the number of extents, so its double
-- fits.
use Prim.Native.Nat.{◌-◌, ◌≤◌}
use lib.ListN.{length}
use Rattle.free.specs.Inner.Searches.{extents_in, StartBefore}
use Rattle.free.proofs.same.Ascending.reach.Given as goal

abbrev pub invariant-loop-step : goal.invariant-loop-step
invariant-loop-step l = (1 ≤ l.step) × (l.low ≤ length l.self.extents.now) × StartBefore (extents_in l.self.extents.now) l.start l.low

abbrev pub decreases-loop-step : goal.decreases-loop-step
decreases-loop-step l = length l.self.extents.now - l.low
