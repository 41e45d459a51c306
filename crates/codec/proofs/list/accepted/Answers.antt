-- `codec::list::accepted` meets its contract. The invariant: the records from i on, behind the last one read, decide as the whole list.
use Rattle.codec.proofs.ListOrder.{stops-bad, stops-low, passes, all-passed}
use Rattle.codec.proofs.list.accepted.Goals as goal
use Rattle.codec.proofs.list.accepted.Goals.{then-not-is_good-via-then-not-is_good, then-not-is_good-via-else-not-is_good+then-not-may_follow}

pub returns-then-not-is_good : goal.returns-then-not-is_good
returns-then-not-is_good g c =
    let inside = rw (c.LEN.ensures, g.met.O.Item.Record.len_is) at c.loop-i-test.true in
    let read = rw (c.LEN-in-loop-i.ensures, g.met.O.Item.Record.len_is) at c.decode-r.ensures in
    elim c.then-not-is_good.branch [
      | then-not-is_good-via-then-not-is_good w ↦ stops-bad c.loop-i.invariant inside read (rw (← c.is_good.ensures) w.if-not-is_good.true)
      | then-not-is_good-via-else-not-is_good+then-not-may_follow w ↦
          stops-low c.loop-i.invariant inside read (rw (← c.is_good.ensures) w.if-not-is_good.false) (rw (← w.may_follow.ensures) w.if-not-may_follow.true)
    ]

pub loop-i-preserved : goal.loop-i-preserved
loop-i-preserved g c =
    let inside = rw (c.LEN.ensures, g.met.O.Item.Record.len_is) at c.loop-i-test.true in
    let read = rw (c.LEN-in-loop-i.ensures, g.met.O.Item.Record.len_is) at c.decode-r.ensures in
    passes c.loop-i.invariant inside read (rw (← c.is_good.ensures) c.if-not-is_good.false) (rw (← c.may_follow.ensures) c.if-not-may_follow.false)

pub returns : goal.returns
returns g c = all-passed c.loop-i.invariant (rw (c.LEN.ensures, g.met.O.Item.Record.len_is) at c.loop-i-test.false)
