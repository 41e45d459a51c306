-- `lookup::children::Search::read` meets its contract.
use Rattle.std.proofs.Common.{length, sym, arith}
use Rattle.blocks.specs.declared.kind.TreeKind.TheVariants as kind
use Rattle.walks.proofs.PathLaws.{small}
use Rattle.lookup.specs.Inner.Tally.{summed}
use Rattle.lookup.proofs.FoundLaws.{refused-adds, whole, records-fit, node-adds, leaf-adds, leaf_room}
use Rattle.lookup.proofs.children.Search.read.Goals as goal

pub returns-in_err-header-clause-answers_after : goal.returns-in_err-header-clause-answers_after
returns-in_err-header-clause-answers_after c =
    let a = c.args in
    refused-adds a.self.now.tree.g a.self.now.tree.image.now a.block a.level a.self.now.asked.numbers.now _ _ _ (sym c.in_err-header.ensures)

pub overflow_add-from : goal.overflow_add-from
overflow_add-from c =
    let a = c.args in
    let fit = records-fit a.self.now.tree.g a.self.now.tree.image.now a.block a.level a.self.now.asked.numbers.now (summed (length a.self.now.asked.numbers.now) a.answers.now) c.args.self.now.tree.good c.in_ok-header.header (sym c.in_ok-header.ensures) c.if-level-eq0.true in
    omega (arith, small a.self.now.tree.g kind.Rmap c.args.self.now.tree.good a.block c.ranges.block.fits, fit)

pub overflow_add-to : goal.overflow_add-to
overflow_add-to c =
    let a = c.args in
    let fit = records-fit a.self.now.tree.g a.self.now.tree.image.now a.block a.level a.self.now.asked.numbers.now (summed (length a.self.now.asked.numbers.now) a.answers.now) c.args.self.now.tree.good c.in_ok-header.header (sym c.in_ok-header.ensures) c.if-level-eq0.true in
    omega (arith, small a.self.now.tree.g kind.Rmap c.args.self.now.tree.good a.block c.ranges.block.fits, fit)

pub slice_bounds-tally_leaf-end : goal.slice_bounds-tally_leaf-end
slice_bounds-tally_leaf-end c =
    let a = c.args in
    let fit = records-fit a.self.now.tree.g a.self.now.tree.image.now a.block a.level a.self.now.asked.numbers.now (summed (length a.self.now.asked.numbers.now) a.answers.now) c.args.self.now.tree.good c.in_ok-header.header (sym c.in_ok-header.ensures) c.if-level-eq0.true in
    omega (arith, fit, whole a.self.now.tree.g a.self.now.tree.image.now a.block a.level a.self.now.asked.numbers.now (summed (length a.self.now.asked.numbers.now) a.answers.now) c.args.self.now.tree.good c.in_ok-header.header (sym c.in_ok-header.ensures))

pub tally_leaf-requires : goal.tally_leaf-requires
tally_leaf-requires c =
    let a = c.args in
    (c.requires.0, leaf_room a.self.now.tree.g a.self.now.tree.image.now a.block a.level a.self.now.asked.numbers.now (summed (length a.self.now.asked.numbers.now) a.answers.now) c.args.self.now.tree.good c.in_ok-header.header (sym c.in_ok-header.ensures) c.requires.1)

pub returns-then-level-eq0-clause-answers_after : goal.returns-then-level-eq0-clause-answers_after
returns-then-level-eq0-clause-answers_after c =
    let a = c.args in
    leaf-adds a.self.now.tree.g a.self.now.tree.image.now a.block a.level a.self.now.asked.numbers.now (summed (length a.self.now.asked.numbers.now) a.answers.now) c.args.self.now.tree.good c.in_ok-header.header (sym c.in_ok-header.ensures) c.if-level-eq0.true _ c.tally_leaf.ensures

pub returns-else-level-eq0-clause-answers_after : goal.returns-else-level-eq0-clause-answers_after
returns-else-level-eq0-clause-answers_after c =
    let a = c.args in
    node-adds a.self.now.tree.g a.self.now.tree.image.now a.block a.level a.self.now.asked.numbers.now (summed (length a.self.now.asked.numbers.now) a.answers.now) c.args.self.now.tree.good c.in_ok-header.header (sym c.in_ok-header.ensures) (omega (arith, c.if-level-eq0.false))
