-- `free::order::check_order` meets its contract.
use Rattle.free.specs.Free.{check_order}
use Rattle.free.proofs.order.check_order.Goals as goal

pub returns : goal.returns
unfolding check_order
returns c = c.check_order.ensures
