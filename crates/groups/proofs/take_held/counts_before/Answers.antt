-- `groups::take_held::counts_before` meets its contract.
use mathlib.Core.Path.{refl}
use Rattle.groups.proofs.TakingHeld.{counts-refused, counts-accepted}
use Rattle.groups.proofs.take_held.counts_before.Goals as goal

pub returns-in-List : goal.returns-in-List
returns-in-List c = rw c.in-List.is refl

pub returns-in-Err : goal.returns-in-Err
returns-in-Err c =
    let a = c.args in
    rw c.from.ensures (counts-refused a.counts.now a.why c.in_default.not-List c.in-Err.list c.in-Err.ensures)

pub returns-in-Ok : goal.returns-in-Ok
returns-in-Ok c =
    let a = c.args in
    counts-accepted a.counts.now a.why c.in_default.not-List _ c.in-Ok.ensures
