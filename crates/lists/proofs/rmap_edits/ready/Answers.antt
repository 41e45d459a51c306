-- `lists::rmap_edits::ready` meets its contract.
use Rattle.lists.proofs.Placing.{ready-is}
use Rattle.lists.proofs.rmap_edits.ready.Goals as goal

pub returns : goal.returns
returns c = rw c.len.ensures (ready-is c.args.old.now.list.now _ _ _ _ _ _ c.requires c.part_count.ensures c.part_count-2.ensures)
