-- `sheets::read::check_sheet` meets its contract. The invariant is `Scanned`: the blocks from i on decide 32, and with what was noted they decide 33.
use Rattle.sheets.proofs.Reading.{Scanned}
use Rattle.sheets.proofs.read.check_sheet.Given as goal

abbrev pub invariant-loop-i : goal.invariant-loop-i
invariant-loop-i l = Scanned l.sheet l.good l.i
