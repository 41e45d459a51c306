-- `lookup::children::Search::descend` meets its contract. The invariant is `Descending`, with the pairs that hold what is due.
use Rattle.std.proofs.Common.{◌≡◌, ◌+◌, ◌-◌, ◌^◌, ◌<◌, ◌∷◌, length}
use Rattle.blocks.specs.declared.kind.TreeKind.TheVariants as kind
use Rattle.walks.specs.Walk.{visit_of}
use Rattle.walks.specs.Shapes.{shape_of}
use Rattle.walks.specs.Path.{due_in, path_of, Opened}
use Rattle.lookup.specs.Lookup.{keeps, look_asked, descent_of}
use Rattle.lookup.specs.Inner.Tally.{summed}
use Rattle.lookup.proofs.DescentLaws.{Descending}
use Rattle.lookup.proofs.children.Search.descend.Given as goal

abbrev pub invariant-loop-passed : goal.invariant-loop-passed
invariant-loop-passed l =
    Descending (look_asked l.self.asked.numbers.now (shape_of l.self.tree.g kind.Rmap) l.self.tree.image.now) l.limit (descent_of l.self.asked.numbers.now (shape_of l.self.tree.g kind.Rmap) l.self.tree.image.now l.root l.levels l.limit) l.self.asked.numbers.now (summed (length l.self.asked.numbers.now) l.initial.answers)
    (summed (length l.self.asked.numbers.now) l.answers) l.passed
    (visit_of l.due.block l.due.level ∷ path_of (due_in (keeps l.self.asked.numbers.now (shape_of l.self.tree.g kind.Rmap)) (shape_of l.self.tree.g kind.Rmap) l.self.tree.image.now) l.stack (l.due.level + 1) (l.levels - (l.due.level + 1)))
    × Opened (shape_of l.self.tree.g kind.Rmap) l.self.tree.image.now l.stack (l.due.level + 1) l.levels
    × (l.due.level < l.levels)
    × (l.due.block < 2 ^ 32)
    × (length l.stack ≡ length l.initial.stack)
    × (length l.answers ≡ length l.initial.answers)
