-- `codec::list::accepted` meets its contract. The invariant: the records from i on, behind the last one read, decide as the whole list.
use Rattle.codec.proofs.ListOrder.{Passed}
use Rattle.codec.proofs.list.accepted.Given as goal

abbrev pub invariant-loop-i : goal.invariant-loop-i
invariant-loop-i g l = Passed g.O.Item.Record.kind (g.O.Order.is_good l.order) (g.O.Order.may_follow l.order) g.O.Order.least l.list l.i l.prev
