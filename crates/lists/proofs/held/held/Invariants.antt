-- `lists::held::held` meets its contract. The invariant: the records from i on reach from `reach` as far as the whole list from the start.
use mathlib.Core.Path.{◌≡◌}
use lib.ListN.{drop}
use Rattle.codec.specs.Records.{records_of, rmaps}
use Rattle.lists.proofs.Holding.{reach_of}
use Rattle.lists.proofs.held.held.Given as goal

abbrev pub invariant-loop-i : goal.invariant-loop-i
invariant-loop-i l = reach_of l.startblock (records_of rmaps l.list) ≡ reach_of l.reach (drop l.i (records_of rmaps l.list))
