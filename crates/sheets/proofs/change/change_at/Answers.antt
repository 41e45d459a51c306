-- `sheets::change::change_at` meets its contract.
use Rattle.std.proofs.Common.{arith}
use mathlib.Core.List.{[]}
use mathlib.Core.Path.{ap, ◌∙◌}
use Rattle.sheets.specs.Change.{asked_by}
use Rattle.codec.proofs.Chunks.{chunk-at}
use Rattle.sheets.proofs.Deciding.{no_change, one-change}
use Rattle.sheets.proofs.change.change_at.Goals as goal

pub returns-in_err-get : goal.returns-in_err-get
returns-in_err-get c = rw c.from_residual.ensures (no_change c.args.list.now c.args.i (omega (arith, c.in_err-get.ensures.lookup.3, c.as_chunks.ensures.front_len)))

pub returns : goal.returns
returns c =
    let a = c.args in
    let h = c.in_ok-get.ensures.lookup.3 in
    one-change a.list.now a.i _ (omega (arith, h.0, c.as_chunks.ensures.front_len))
    (c.decode_change.ensures ∙ ap asked_by (h.1 [] ∙ chunk-at 32 a.list.now c.as_chunks.ensures.front a.i (omega (arith, h.0, c.as_chunks.ensures.front_len))))
