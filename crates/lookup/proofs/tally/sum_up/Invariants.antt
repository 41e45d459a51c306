-- `lookup::tally::sum_up` meets its contract. The invariant: the sum of the first differences, and these summed in their places.
use Rattle.std.proofs.Common.{◌≡◌, take}
use Rattle.lookup.specs.Inner.Tally.{summed}
use Rattle.lookup.proofs.SumLaws.{total}
use Rattle.lookup.proofs.tally.sum_up.Given as goal

abbrev pub invariant-loop-place : goal.invariant-loop-place
invariant-loop-place l = (l.sum ≡ total 0 (take l.place-index l.initial.answers)) × (l.answers ≡ summed l.place-index l.initial.answers)
