-- `blocks::check::check_block` meets its contract: the header lies in the block.
use Rattle.std.proofs.Common.{arith}
use Rattle.std.proofs.lemmas.Grind.{common_steps}
use Rattle.blocks.proofs.Laws.{header-least, header-five}
use Rattle.blocks.proofs.check.check_block.Goals as goal

pub be32-found-requires : goal.be32-found-requires
be32-found-requires c = grind (arith, common_steps, header-least)

pub check_identity-requires : goal.check_identity-requires
check_identity-requires c = (grind (arith, common_steps), grind (arith, common_steps, header-five))

pub check_contents-requires : goal.check_contents-requires
check_contents-requires c = grind (arith, common_steps, header-least)
