-- `groups::take_held::measure_both` meets its contract, exit by exit.
use mathlib.Core.Path.{sym, ◌∙◌}
use Rattle.groups.proofs.TakingHeld.{refused-by-map, ordered, refused-by-counts, refused-unheld, raise-ready}
use Rattle.groups.proofs.take_held.measure_both.Goals as goal

pub returns-in-Err : goal.returns-in-Err
returns-in-Err c =
    let a = c.args in
    refused-by-map a.map.now a.counts.now a.x c.in-Err.why c.counts_before.result c.in-Err.ensures c.counts_before.ensures

pub held_before-requires : goal.held_before-requires
held_before-requires c = let a = c.args in ordered a.map.now a.counts.now a.x c.in-Ok.p c.in-Ok.ensures

pub returns-in-Err-measure : goal.returns-in-Err-measure
returns-in-Err-measure c =
    let a = c.args in
    refused-by-counts a.map.now a.counts.now a.x c.in-Ok.p c.in-Ok.ensures c.in-Err-measure.why c.held_before.result c.in-Err-measure.ensures c.held_before.ensures

pub held-requires : goal.held-requires
held-requires c = let a = c.args in ordered a.map.now a.counts.now a.x c.in-Ok.p c.in-Ok.ensures

pub returns-then-not-held : goal.returns-then-not-held
returns-then-not-held c =
    let a = c.args in
    refused-unheld a.map.now a.counts.now a.x c.in-Ok.p c.in-Ok.ensures c.in-Ok-measure.n c.in-Ok-measure.ensures (sym c.held.ensures ∙ c.if-not-held.true)

pub returns : goal.returns
returns c =
    let a = c.args in
    raise-ready a.map.now a.counts.now a.x c.in-Ok.p c.in-Ok.ensures c.in-Ok-measure.n c.in-Ok-measure.ensures (sym c.held.ensures ∙ c.if-not-held.false)
