-- `codec::list::check_order` meets its contract.
use mathlib.Core.Path.{sym, ◌∙◌}
use Rattle.codec.proofs.ListOrder.{asked-length, asked-order, asked-done}
use Rattle.codec.proofs.list.check_order.Goals as goal

pub returns-then-list-LEN-ne0 : goal.returns-then-list-LEN-ne0
returns-then-list-LEN-ne0 g c = asked-length _ _ _ _ (rw (c.LEN.ensures, g.met.O.Item.Record.len_is) at c.if-list-LEN-ne0.true)

pub returns-then-not-accepted : goal.returns-then-not-accepted
returns-then-not-accepted g c =
    asked-order _ _ _ _ (rw (c.LEN.ensures, g.met.O.Item.Record.len_is) at c.if-list-LEN-ne0.false) (sym c.accepted.ensures ∙ c.if-not-accepted.true)

pub returns : goal.returns
returns g c =
    rw (c.LEN-2.ensures, g.met.O.Item.Record.len_is)
    (asked-done _ _ _ _ (rw (c.LEN.ensures, g.met.O.Item.Record.len_is) at c.if-list-LEN-ne0.false) (sym c.accepted.ensures ∙ c.if-not-accepted.false))
