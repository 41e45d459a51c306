-- `trees::build::first` meets its contract. The invariant: the record under block `at` of level l is the one asked for.
use Prim.Native.Nat.{◌≤◌}
use mathlib.Core.Path.{◌≡◌}
use lib.ListN.{get_or}
use Rattle.trees.specs.Plan.{first_of}
use Rattle.trees.proofs.build.first.Given as goal

abbrev pub invariant-loop-l : goal.invariant-loop-l
invariant-loop-l l = (first_of l.records l.levels l.l l.at ≡ first_of l.records l.levels l.level l.i) × (l.at ≤ get_or l.levels l.l 0) × (l.l ≤ l.level)
