-- `plan_text::line::request_of` meets its contract.
use Rattle.plan_text.proofs.LineLaws.{request-name, request-size, request-count, request-done}
use Rattle.plan_text.proofs.line.request_of.Goals as goal

pub returns-in_err-kind : goal.returns-in_err-kind
returns-in_err-kind c = let a = c.args in rw c.from_residual.ensures (request-name a.name.now a.size.now a.count.now c.in_err-kind.ensures)

pub returns-in_err-blocksize : goal.returns-in_err-blocksize
returns-in_err-blocksize c = let a = c.args in rw c.from_residual-in_err-blocksize.ensures (request-size a.name.now a.size.now a.count.now _ c.in_ok-kind.ensures c.in_err-blocksize.ensures)

pub returns-in_err-records : goal.returns-in_err-records
returns-in_err-records c = let a = c.args in rw c.from_residual-in_err-records.ensures (request-count a.name.now a.size.now a.count.now _ c.in_ok-kind.ensures _ c.in_ok-blocksize.ensures c.in_err-records.ensures)

pub returns : goal.returns
returns c = let a = c.args in request-done a.name.now a.size.now a.count.now _ c.in_ok-kind.ensures _ c.in_ok-blocksize.ensures _ c.in_ok-records.ensures
