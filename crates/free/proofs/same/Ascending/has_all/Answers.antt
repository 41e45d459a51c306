-- `free::same::Ascending::has_all` meets its contract. The invariant: the extents from the index on decide as the whole list. Where the last search ended is
-- of no matter.
use native.Mathlib.Omega.{arith}
use mathlib.Core.Path.{sym, ◌∙◌}
use Rattle.std.proofs.lemmas.List.{length-map}
use Rattle.codec.specs.Records.{free_extents}
use Rattle.free.proofs.Searching.{chunk-is, all-not, all-next, all_end}
use Rattle.free.proofs.same.Ascending.has_all.Goals as goal

pub returns-then-not-is_at : goal.returns-then-not-is_at
returns-then-not-is_at c =
    let l = c.loop-x in
    let k = length-map c.args.extents.now free_extents.decode in
    sym (l.invariant ∙ all-not _ _ l.x-index c.decode-e.result (omega (arith, k)) (c.decode-e.ensures ∙ chunk-is c.args.extents.now l.x-index _ (omega arith))
    c.args.self.now.in_order c.place-last.result c.place-last.ensures (sym c.is_at.ensures ∙ c.if-not-is_at.true))

pub loop-x-preserved : goal.loop-x-preserved
loop-x-preserved c =
    let l = c.loop-x in
    let k = length-map c.args.extents.now free_extents.decode in
    l.invariant ∙ all-next _ _ l.x-index c.decode-e.result (omega (arith, k)) (c.decode-e.ensures ∙ chunk-is c.args.extents.now l.x-index _ (omega arith))
    c.args.self.now.in_order c.place-last.result c.place-last.ensures (sym c.is_at.ensures ∙ c.if-not-is_at.false)

pub returns : goal.returns
returns c = sym (c.loop-x.invariant ∙ all_end _ _ c.loop-x.x-index (omega (arith, length-map c.args.extents.now free_extents.decode)))
