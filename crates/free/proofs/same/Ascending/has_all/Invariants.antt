-- `free::same::Ascending::has_all` meets its contract. The invariant: the extents from the index on decide as the whole list. Where the last search ended is
-- of no matter.
use mathlib.Core.Path.{◌≡◌}
use lib.ListN.{drop}
use Rattle.free.specs.Inner.Searches.{extents_in, all_in}
use Rattle.free.proofs.same.Ascending.has_all.Given as goal

abbrev pub invariant-loop-x : goal.invariant-loop-x
invariant-loop-x l = all_in (extents_in l.extents) (extents_in l.self.extents.now) ≡ all_in (drop l.x-index (extents_in l.extents)) (extents_in l.self.extents.now)
