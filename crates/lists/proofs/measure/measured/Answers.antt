-- `lists::measure::measured` meets its contract.
use mathlib.Core.Path.{sym, ◌∙◌}
use Rattle.std.proofs.lemmas.Result.{err_from_is_err_and}
use Rattle.lists.specs.Inner.Passes.{raises}
use Rattle.lists.proofs.Staged.{good-end}
use Rattle.lists.proofs.Passing.{asks-measured}
use Rattle.lists.proofs.Measuring.{measured-length, measured-pass, measured-list, measured-extent}
use Rattle.lists.proofs.measure.measured.Goals as goal

pub returns-in_err-check_order : goal.returns-in_err-check_order
returns-in_err-check_order c = let x = c.args in
    let p = err_from_is_err_and c.from_residual.result c.from_residual.ensures.1 in
    rw (p.1, p.2) (measured-list (raises x.how) x.counts.now x.startblock x.blockcount (sym c.good_extent.ensures ∙ c.if-not-good_extent.true) _ c.in_err-check_order.ensures)

pub returns-then-not-good_extent : goal.returns-then-not-good_extent
returns-then-not-good_extent c = let x = c.args in
    measured-extent (raises x.how) x.counts.now x.startblock x.blockcount (sym c.good_extent.ensures ∙ c.if-not-good_extent.true) _ c.in_ok-check_order.ensures

pub returns-then-counts-ne0 : goal.returns-then-counts-ne0
returns-then-counts-ne0 c = measured-length _ _ _ _ c.if-counts-ne0.true

pub pass-requires : goal.pass-requires
pass-requires c = asks-measured _ _ _ _ _ _ (good-end _ _ (sym c.good_extent.ensures ∙ c.if-not-good_extent.false))

pub returns : goal.returns
returns c = let x = c.args in
    measured-pass (raises x.how) x.counts.now x.startblock x.blockcount _ c.if-counts-ne0.false (sym c.good_extent.ensures ∙ c.if-not-good_extent.false) c.pass.ensures.said
