use mathlib.Core.Path.{◌≡◌}
use lib.ListN.{length}
use Rattle.walks.specs.Walk.{by_level}
use Rattle.walks.specs.OneVisit.{seen_of}
use Rattle.codec.specs.Bytes.{with_bytes}
use Rattle.walks.proofs.by_level.order.Given as goal

abbrev pub invariant-loop-level : goal.invariant-loop-level
invariant-loop-level l = (l.at ≡ length (by_level l.level (seen_of l.seen))) × (l.list ≡ with_bytes l.initial.list 0 (by_level l.level (seen_of l.seen)))
