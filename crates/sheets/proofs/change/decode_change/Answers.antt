-- `sheets::change::decode_change` meets its contract.
use Rattle.std.proofs.Common.{arith}
use Rattle.std.proofs.lemmas.Bool.Decides.{nat_tests}
use Rattle.sheets.specs.Change.{asked_by}
use Rattle.sheets.proofs.change.decode_change.Goals as goal

pub returns-in-1 : goal.returns-in-1
unfolding asked_by
returns-in-1 c = grind (arith, nat_tests)

pub returns-in-2 : goal.returns-in-2
unfolding asked_by
returns-in-2 c = grind (arith, nat_tests)

pub returns-in-3 : goal.returns-in-3
unfolding asked_by
returns-in-3 c = grind (arith, nat_tests)

pub returns-in_default : goal.returns-in_default
unfolding asked_by
returns-in_default c = grind (arith, nat_tests)
