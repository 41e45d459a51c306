-- `free::order::Order`'s `is_good` meets its contract.
use Rattle.std.proofs.Common.{arith}
use Rattle.std.proofs.lemmas.Bool.Decides.{nat_tests}
use Rattle.free.specs.Free.{good}
use Rattle.free.proofs.order.OrderOrder.is_good.Goals as goal

pub returns-then-e-ne0 : goal.returns-then-e-ne0
unfolding good
returns-then-e-ne0 c = grind (arith, nat_tests)

pub returns-else-e-ne0 : goal.returns-else-e-ne0
unfolding good
returns-else-e-ne0 c = grind (arith, nat_tests)
