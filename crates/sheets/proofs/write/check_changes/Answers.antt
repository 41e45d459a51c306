-- `sheets::write::check_changes` meets its contract.
use Rattle.std.proofs.Common.{arith}
use Rattle.std.proofs.lemmas.Bool.Decides.{nat_tests}
use Rattle.codec.specs.Accepted.{whole}
use Rattle.sheets.proofs.write.check_changes.Goals as goal

pub returns-then-contains : goal.returns-then-contains
unfolding whole
returns-then-contains c = grind (arith, nat_tests)

pub returns-else-contains : goal.returns-else-contains
unfolding whole
returns-else-contains c = grind (arith, nat_tests)
