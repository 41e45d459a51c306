-- `reasons::scan::scan` meets its contract. The invariant: the records from i on are in order behind the last one tested exactly when the whole
-- list is, and each search has found what there is among the first i.
use Rattle.std.proofs.Common.{◌≡◌, ◌/◌, ◌≤◌, length, drop}
use Rattle.codec.specs.Records.{records_of, rmaps}
use Rattle.codec.specs.Accepted.{in_order}
use Rattle.codec.specs.Rmaps.{good, follows, accepted}
use Rattle.reasons.proofs.Finding.{Seen}
use Rattle.reasons.proofs.scan.scan.Given as goal

abbrev pub invariant-loop-i : goal.invariant-loop-i
invariant-loop-i l =
    (l.i ≤ length l.map / 24)
    × (accepted (records_of rmaps l.map) ≡ in_order good follows l.prev (drop l.i (records_of rmaps l.map)))
    × Seen l.x l.block l.map l.i l.s
