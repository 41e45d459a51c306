-- `lookup::children::Search::next_kept` meets its contract. The invariant: what is due is what was due, and the pairs are open from the parent of the last child on.
use Rattle.std.proofs.Common.{◌≡◌, ◌-◌, length}
use Rattle.blocks.specs.declared.kind.TreeKind.TheVariants as kind
use Rattle.walks.specs.Shapes.{shape_of}
use Rattle.walks.specs.Path.{every, due_in, path_of, Opened}
use Rattle.lookup.specs.Lookup.{keeps}
use Rattle.lookup.proofs.children.Search.next_kept.Given as goal

abbrev pub invariant-loop-next : goal.invariant-loop-next
invariant-loop-next l =
    (length l.pairs ≡ length l.initial.pairs)
    × Opened (shape_of l.self.tree.g kind.Rmap) l.self.tree.image.now l.pairs l.from l.levels
    × (path_of (due_in (keeps l.self.asked.numbers.now (shape_of l.self.tree.g kind.Rmap)) (shape_of l.self.tree.g kind.Rmap) l.self.tree.image.now) l.initial.pairs l.low (l.levels - l.low)
    ≡ path_of (due_in (keeps l.self.asked.numbers.now (shape_of l.self.tree.g kind.Rmap)) (shape_of l.self.tree.g kind.Rmap) l.self.tree.image.now) l.pairs l.from (l.levels - l.from))

-- each turn takes one of the children that are left
abbrev pub decreases-loop-next : goal.decreases-loop-next
decreases-loop-next l = length (path_of (due_in every (shape_of l.self.tree.g kind.Rmap) l.self.tree.image.now) l.pairs l.from (l.levels - l.from))
