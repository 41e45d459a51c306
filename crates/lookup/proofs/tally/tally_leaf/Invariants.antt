-- `lookup::tally::tally_leaf` meets its contract. The invariant: the records from i on, added to the answers, make what all of them made at the start.
use Rattle.std.proofs.Common.{◌≡◌, ◌-◌, ◌/◌, ◌≤◌, length, drop}
use Rattle.codec.specs.Records.{records_of, rmaps}
use Rattle.lookup.specs.Inner.Tally.{tallied, summed, Room}
use Rattle.lookup.proofs.tally.tally_leaf.Given as goal

abbrev pub invariant-loop-i : goal.invariant-loop-i
invariant-loop-i l =
    (l.i ≤ length l.records / 24)
    × (length l.answers ≡ length l.initial.answers)
    × (tallied (drop l.i (records_of rmaps l.records)) l.asked.numbers.now (summed (length l.asked.numbers.now) l.answers) ≡ tallied (records_of rmaps l.records) l.asked.numbers.now (summed (length l.asked.numbers.now) l.initial.answers))
    × Room (length l.records / 24 - l.i) l.asked.numbers.now (summed (length l.asked.numbers.now) l.answers)
