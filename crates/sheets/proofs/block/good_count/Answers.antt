-- `sheets::block::good_count` meets its contract.
use Rattle.std.proofs.Common.{arith}
use Rattle.std.proofs.lemmas.Bool.Decides.{nat_tests}
use Rattle.sheets.specs.Sheet.{good_count}
use Rattle.sheets.proofs.block.good_count.Goals as goal

pub returns-then-last : goal.returns-then-last
unfolding good_count
returns-then-last c = grind (arith, nat_tests)

pub returns-else-last : goal.returns-else-last
unfolding good_count
returns-else-last c = grind (arith, nat_tests)

pub returns-else-contains : goal.returns-else-contains
unfolding good_count
returns-else-contains c = grind (arith, nat_tests)
