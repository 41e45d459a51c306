-- `lookup::children::Search::next_kept` meets its contract. The invariant: what is due is what was due, and the pairs are open from the parent of the last child on.
use Rattle.std.proofs.Common.{sym, ◌∙◌}
use Rattle.std.specs.Prelude.{None}
use Rattle.blocks.specs.declared.kind.TreeKind.TheVariants as kind
use Rattle.walks.specs.Walk.{Shape}
use Rattle.walks.specs.Shapes.{shape_of}
use Rattle.walks.specs.Path.{Moved, Advanced}
use Rattle.walks.proofs.PathLaws.{path-none-left}
use Rattle.walks.proofs.DescendLaws.{opened-moved}
use Rattle.lookup.specs.Lookup.{keeps}
use Rattle.lookup.proofs.ChildLaws.{fewer, next-skipped, next-taken}
use Rattle.lookup.proofs.children.Search.next_kept.Goals as goal

pub returns-in_err-next : goal.returns-in_err-next
returns-in_err-next c =
    let l = c.loop-next in
    let a = c.args in
    let sh : Shape = shape_of a.self.now.tree.g kind.Rmap in
    let told : Advanced sh a.self.now.tree.image.now None l.from a.levels l.pairs c.advance.new.pairs = c.in_err-next.ensures in
    rw c.from_residual.ensures (l.invariant.2 ∙ path-none-left (keeps a.self.now.asked.numbers.now sh) sh a.self.now.tree.image.now l.pairs l.from a.levels l.invariant.1.within told.0)

pub returns-then-kept : goal.returns-then-kept
returns-then-kept c =
    let l = c.loop-next in
    let a = c.args in
    next-taken _ _ _ _ _ _ _ _ l.invariant.1 (rw a.self.now.rmap at c.in_ok-next.ensures) (keeps a.self.now.asked.numbers.now (shape_of a.self.now.tree.g kind.Rmap)) (sym c.if-kept.true ∙ c.kept.ensures) a.pairs.now a.low l.invariant.2

pub loop-next-smaller : goal.loop-next-smaller
loop-next-smaller c = fewer _ _ _ _ _ _ _ _ c.loop-next.invariant.1 (rw c.args.self.now.rmap at c.in_ok-next.ensures)

pub loop-next-preserved : goal.loop-next-preserved
loop-next-preserved c =
    let l = c.loop-next in
    let a = c.args in
    let sh : Shape = shape_of a.self.now.tree.g kind.Rmap in
    let moved : Moved sh a.self.now.tree.image.now c.in_ok-next.next.block c.in_ok-next.next.level l.from a.levels l.pairs c.advance.new.pairs = rw a.self.now.rmap at c.in_ok-next.ensures in (
      c.advance.auto.pairs ∙ l.invariant.0,
      opened-moved sh a.self.now.tree.image.now l.pairs c.advance.new.pairs _ _ l.from a.levels l.invariant.1 moved,
      l.invariant.2
          ∙ next-skipped sh a.self.now.tree.image.now l.pairs c.advance.new.pairs _ _ l.from a.levels l.invariant.1 moved (keeps a.self.now.asked.numbers.now sh)
          (sym c.if-kept.false ∙ c.kept.ensures),
    )
