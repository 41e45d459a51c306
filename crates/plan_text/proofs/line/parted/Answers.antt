-- `plan_text::line::parted` meets its contract.
use mathlib.Core.Path.{ap, ◌∙◌}
use Prim.Native.Nat.{ℕ, ◌+◌}
use lib.ListN.{take, drop}
use Rattle.plan_text.proofs.LineLaws.{no-space, at-space, part-rest}
use Rattle.plan_text.proofs.line.parted.Goals as goal

pub returns-in_err-i : goal.returns-in_err-i
returns-in_err-i c = rw c.from_residual.ensures (no-space c.args.s.now c.in_err-i.ensures)

pub returns : goal.returns
returns c =
    let s = c.args.s.now in
    let w = at-space s c.in_ok-i.i c.in_ok-i.ensures in
    (w.0, ap (λ (n : ℕ). take n s) w.1, part-rest s (c.in_ok-i.i + 1) ∙ ap (λ (n : ℕ). drop (n + 1) s) w.1)
