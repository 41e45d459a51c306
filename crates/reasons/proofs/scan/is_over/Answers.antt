-- `reasons::scan::is_over` meets its contract.
use Rattle.std.proofs.Common.{arith}
use Rattle.lists.proofs.RmapOrder.{good-facts}
use Rattle.reasons.proofs.Tests.{over-wrapped}
use Rattle.reasons.proofs.scan.is_over.Goals as goal

pub returns : goal.returns
returns c = over-wrapped c.args.r.startblock c.args.r.blockcount c.args.block _ (good-facts c.args.r c.requires).1 (omega arith) (omega arith) (omega arith)
