-- `groups::let_go::let_go` meets its contract, exit by exit.
use mathlib.Core.Path.{sym, ◌∙◌}
use Rattle.std.proofs.lemmas.Result.{err_from_is_err_and}
use Rattle.codec.specs.Records.{records_of, rmaps, refcounts}
use Rattle.groups.specs.LetGo.{letting, let_go_questions, let_go_outcome}
use Rattle.groups.proofs.Measuring.{tells-refused, tells-room, map-fits, counts-fit, free-fit, tells-done}
use Rattle.groups.proofs.LettingGo.{writable}
use Rattle.groups.proofs.let_go.let_go.Goals as goal

pub returns-in_err-m : goal.returns-in_err-m
unfolding let_go_outcome
returns-in_err-m c =
    let a = c.args in
    let p = err_from_is_err_and c.from_residual.result c.from_residual.ensures.1 in
    rw (p.1, p.2)
    (tells-refused (let_go_questions a.map.now a.counts.now a.x)
    (letting a.x (records_of rmaps a.map.now) (records_of refcounts a.counts.now)) a.kept.now a.lowered.now a.free.now _ c.in_err-m.ensures)

pub returns-then-not-fit_all : goal.returns-then-not-fit_all
unfolding let_go_outcome
returns-then-not-fit_all c =
    let a = c.args in
    tells-room a.kept.now a.lowered.now a.free.now c.in_ok-m.m c.in_ok-m.ensures (sym c.fit_all.ensures ∙ c.if-not-fit_all.true)

pub write_splice-requires : goal.write_splice-requires
write_splice-requires c =
    let a = c.args in
    let h = c.in_ok-m.ensures in
    record { splice_good = h.splice; size_in_bounds = map-fits a.kept.now a.lowered.now a.free.now c.in_ok-m.m h (sym c.fit_all.ensures ∙ c.if-not-fit_all.false) }

pub write-requires : goal.write-requires
write-requires c =
    let a = c.args in
    let h = c.in_ok-m.ensures in
    let f = sym c.fit_all.ensures ∙ c.if-not-fit_all.false in
    writable a.map.now a.counts.now a.x c.in_ok-m.m h _ _
    (counts-fit a.kept.now a.lowered.now a.free.now c.in_ok-m.m h f)
    (free-fit a.kept.now a.lowered.now a.free.now c.in_ok-m.m h f)

pub returns : goal.returns
unfolding let_go_outcome
returns c =
    let a = c.args in
    let w = c.write.ensures in
    tells-done a.kept.now a.lowered.now a.free.now c.in_ok-m.m c.in_ok-m.ensures (sym c.fit_all.ensures ∙ c.if-not-fit_all.false) _ _ _ c.write_splice.ensures w.counts w.extents
