-- `reasons::find::over` meets its contract.
use Rattle.std.proofs.Common.{arith}
use Rattle.std.proofs.lemmas.Bool.Decides.{nat_tests}
use Rattle.lists.specs.Extent.{over}
use Rattle.reasons.proofs.find.over.Goals as goal

pub returns-then-startblock-block : goal.returns-then-startblock-block
unfolding over
returns-then-startblock-block c = grind (arith, nat_tests)

pub returns-else-startblock-block : goal.returns-else-startblock-block
unfolding over
returns-else-startblock-block c = grind (arith, nat_tests)
