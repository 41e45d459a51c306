-- `groups::let_go::measure_both` meets its contract, exit by exit.
use Rattle.std.proofs.lemmas.Result.{err_from_is_err_and}
use Rattle.groups.proofs.LettingGo.{measured-map, measured-counts, measured-ready}
use Rattle.groups.proofs.let_go.measure_both.Goals as goal

pub returns-in_err-splice : goal.returns-in_err-splice
returns-in_err-splice c =
    let a = c.args in
    let p = err_from_is_err_and c.from_residual.result c.from_residual.ensures.1 in
    rw (p.1, p.2) (measured-map a.map.now a.counts.now a.x _ c.in_err-splice.ensures)

pub returns-in_err-n : goal.returns-in_err-n
returns-in_err-n c =
    let a = c.args in
    let p = err_from_is_err_and c.from_residual-in_err-n.result c.from_residual-in_err-n.ensures.1 in
    rw (p.1, p.2) (measured-counts a.map.now a.counts.now a.x c.in_ok-splice.splice c.in_ok-splice.ensures _ c.in_err-n.ensures)

pub returns : goal.returns
returns c =
    let a = c.args in
    measured-ready a.map.now a.counts.now a.x c.in_ok-splice.splice c.in_ok-splice.ensures c.in_ok-n.n c.in_ok-n.ensures
