-- `free::order::Order`'s `may_follow` meets its contract.
use Rattle.std.proofs.Common.{arith}
use Rattle.std.proofs.lemmas.Bool.Decides.{nat_tests}
use Rattle.free.specs.Free.{smaller, follows}
use Rattle.free.proofs.order.OrderOrder.may_follow.Goals as goal

pub returns-in-ByBlock : goal.returns-in-ByBlock
unfolding follows smaller
returns-in-ByBlock c = grind (arith, nat_tests)

pub returns-in-BySize : goal.returns-in-BySize
unfolding follows smaller
returns-in-BySize c = grind (arith, nat_tests)
