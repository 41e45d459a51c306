-- `sheets::change::good_change` meets its contract.
use Rattle.std.proofs.Common.{arith}
use Rattle.std.proofs.lemmas.Bool.Decides.{nat_tests}
use Rattle.sheets.specs.Change.{good_change}
use Rattle.sheets.proofs.change.good_change.Goals as goal

pub returns-then-contains : goal.returns-then-contains
unfolding good_change
returns-then-contains c = grind (arith, nat_tests)

pub returns-else-contains : goal.returns-else-contains
unfolding good_change
returns-else-contains c = grind (arith, nat_tests)
