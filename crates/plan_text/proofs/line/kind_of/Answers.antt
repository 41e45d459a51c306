-- `plan_text::line::kind_of` meets its contract.
use mathlib.Core.Path.{ap, sym, ◌∙◌}
use lib.Dec.{eqb}
use lib.Pointwise.{pointwise}
use Rattle.plan_text.specs.Line.{rmap_name, refcount_name}
use Rattle.plan_text.proofs.LineLaws.{same-is, name-rmap, name-refcount, name-none}
use Rattle.plan_text.proofs.line.kind_of.Goals as goal

pub returns-then-eq : goal.returns-then-eq
returns-then-eq c =
    let n = c.args.name.now in
    name-rmap n (c.if-eq.ensures ∙ ap (pointwise eqb n) c.as_slice.ensures ∙ sym (same-is n rmap_name))

pub returns-then-eq-2 : goal.returns-then-eq-2
returns-then-eq-2 c =
    let n = c.args.name.now in
    name-refcount n (c.if-eq.ensures ∙ ap (pointwise eqb n) c.as_slice.ensures ∙ sym (same-is n rmap_name))
    (c.if-eq-2.ensures ∙ ap (pointwise eqb n) c.as_slice-else-eq.ensures ∙ sym (same-is n refcount_name))

pub returns-else-eq-2 : goal.returns-else-eq-2
returns-else-eq-2 c =
    let n = c.args.name.now in
    name-none n (c.if-eq.ensures ∙ ap (pointwise eqb n) c.as_slice.ensures ∙ sym (same-is n rmap_name))
    (c.if-eq-2.ensures ∙ ap (pointwise eqb n) c.as_slice-else-eq.ensures ∙ sym (same-is n refcount_name))
