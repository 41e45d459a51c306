-- `plan_text::text::respond` meets its contract.
use mathlib.Core.Path.{ap, sym, ◌∙◌}
use native.Mathlib.Nat.{zero-add}
use native.Mathlib.Omega.{arith}
use lib.ListN.{length}
use Rattle.codec.specs.Bytes.{with_bytes}
use Rattle.plan_text.proofs.TextLaws.{answer-large, put-long}
use Rattle.plan_text.proofs.text.respond.Goals as goal

pub returns-in_default-try_from : goal.returns-in_default-try_from
returns-in_default-try_from c =
    let a = c.args in
    let t = answer-large a.input.now c.in-Some.request c.in-Some.ensures (omega (arith, c.in_default-try_from.ensures)) in
    let all = put-long a.out.now _ _ _ (omega arith) (c.put_line.ensures.value.0 ∙ zero-add _ ∙ ap length (sym t)) (omega (arith, c.put_line.ensures.value.1)) (c.put_line.ensures.out_after ∙ ap (with_bytes a.out.now 0) (sym t)) in record { value = all.0; out_after = all.1 }
