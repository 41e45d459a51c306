-- `lists::search::scan` meets its contract. The invariant: the records from i on are in order behind the last one tested exactly when the whole
-- list is, and each search has found what there is among the first i.
use mathlib.Core.Path.{◌≡◌}
use lib.ListN.{drop}
use Rattle.codec.specs.Records.{records_of, rmaps}
use Rattle.codec.specs.Accepted.{in_order}
use Rattle.codec.specs.Rmaps.{good, follows, accepted}
use Rattle.lists.proofs.Scanning.{Seen}
use Rattle.lists.proofs.search.scan.Given as goal

abbrev pub invariant-loop-i : goal.invariant-loop-i
invariant-loop-i l =
    (accepted (records_of rmaps l.list) ≡ in_order good follows l.prev (drop l.i (records_of rmaps l.list)))
    × Seen l.e l.x l.list l.i l.s
