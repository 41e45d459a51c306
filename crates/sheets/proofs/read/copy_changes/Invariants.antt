-- `sheets::read::copy_changes` meets its contract. The invariant is `Copied`: what is there, with the changes of the blocks from i on, is the whole.
use Rattle.sheets.proofs.Reading.{Copied}
use Rattle.sheets.proofs.read.copy_changes.Given as goal

abbrev pub invariant-loop-b : goal.invariant-loop-b
invariant-loop-b l = Copied l.sheet l.initial.changes l.changes l.b-index l.at
