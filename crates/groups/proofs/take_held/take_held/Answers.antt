-- `groups::take_held::take_held` meets its contract, exit by exit.
use mathlib.Core.List.{[]}
use mathlib.Core.Path.{sym, ◌∙◌}
use Rattle.std.proofs.lemmas.Result.{err_from_is_err_and}
use Rattle.codec.specs.Records.{records_of, rmaps, refcounts}
use Rattle.groups.specs.TakeHeld.{raising, take_held_questions, take_held_outcome}
use Rattle.groups.proofs.Measuring.{tells-refused, tells-room, map-fits, counts-fit, tells-done}
use Rattle.groups.proofs.TakingHeld.{raisable, none_written}
use Rattle.groups.proofs.take_held.take_held.Goals as goal

pub returns-in_err-m : goal.returns-in_err-m
unfolding take_held_outcome
returns-in_err-m c =
    let a = c.args in
    let p = err_from_is_err_and c.from_residual.result c.from_residual.ensures.1 in
    rw (p.1, p.2)
    (tells-refused (take_held_questions a.map.now a.counts.now a.x)
    (raising a.x (records_of rmaps a.map.now) (records_of refcounts a.counts.now)) a.taken.now a.raised.now [] _ c.in_err-m.ensures)

pub returns-then-not-fit_all : goal.returns-then-not-fit_all
unfolding take_held_outcome
returns-then-not-fit_all c =
    let a = c.args in
    tells-room a.taken.now a.raised.now [] c.in_ok-m.m c.in_ok-m.ensures (sym c.fit_all.ensures ∙ c.if-not-fit_all.true)

pub write_splice-requires : goal.write_splice-requires
write_splice-requires c =
    let a = c.args in
    let h = c.in_ok-m.ensures in
    record { splice_good = h.splice; size_in_bounds = map-fits a.taken.now a.raised.now [] c.in_ok-m.m h (sym c.fit_all.ensures ∙ c.if-not-fit_all.false) }

pub write-requires : goal.write-requires
write-requires c =
    let a = c.args in
    let h = c.in_ok-m.ensures in
    raisable a.map.now a.counts.now a.x c.in_ok-m.m h _
    (counts-fit a.taken.now a.raised.now [] c.in_ok-m.m h (sym c.fit_all.ensures ∙ c.if-not-fit_all.false))

pub returns : goal.returns
unfolding take_held_outcome
returns c =
    let a = c.args in
    tells-done a.taken.now a.raised.now [] c.in_ok-m.m c.in_ok-m.ensures (sym c.fit_all.ensures ∙ c.if-not-fit_all.false) _ _ []
    c.write_splice.ensures c.write.ensures none_written
