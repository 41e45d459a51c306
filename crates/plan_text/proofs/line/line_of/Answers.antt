-- `plan_text::line::line_of` meets its contract.
use Rattle.plan_text.proofs.LineLaws.{line-none, line-one, line-three}
use Rattle.plan_text.proofs.line.line_of.Goals as goal

pub returns-in_err-name : goal.returns-in_err-name
returns-in_err-name c = rw c.from_residual.ensures (line-none c.args.s.now c.in_err-name.ensures)

pub returns-in_err-size : goal.returns-in_err-size
returns-in_err-size c =
    let w = c.in_ok-name.ensures in
    rw c.from_residual-in_err-size.ensures (line-one c.args.s.now _ w.0 w.2 c.in_err-size.ensures)

pub returns : goal.returns
returns c =
    let w = c.in_ok-name.ensures in
    let v = c.in_ok-size.ensures in
    line-three c.args.s.now _ w.0 w.2 _ _ _ _ w.1 v.0 v.1 v.2 c.request_of.ensures
