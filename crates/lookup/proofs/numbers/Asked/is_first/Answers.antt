-- `lookup::numbers::Asked::is_first` meets its contract.
use Rattle.std.proofs.Common.{sym, ◌∙◌, arith}
use Rattle.lookup.proofs.Ascending.{first-zero, first-here}
use Rattle.lookup.proofs.numbers.Asked.is_first.Goals as goal

pub returns-then-i-eq0 : goal.returns-then-i-eq0
returns-then-i-eq0 c =
    let s = c.args.self in
    λ e. first-zero s.numbers.now c.args.a c.args.i s.ascend (sym c.is_below.ensures ∙ c.if-not-is_below.true) c.if-i-eq0.true

pub returns-else-i-eq0 : goal.returns-else-i-eq0
returns-else-i-eq0 c =
    let s = c.args.self in
    λ e. first-here s.numbers.now c.args.a c.args.i s.ascend (sym c.is_below.ensures ∙ c.if-not-is_below.true) (omega (arith, c.if-i-eq0.false)) (sym c.is_below-else-i-eq0.ensures ∙ e)
