-- `trees::keys::highest_key` meets its contract. The invariant: the greatest of the key so far and of the records from i on is that of all.
use Prim.Native.Nat.{◌≤◌, ◌<◌}
use mathlib.Core.Path.{◌≡◌}
use Rattle.codec.specs.Records.{rmaps}
use Rattle.trees.specs.Keys.{greatest, highest, records_between}
use Rattle.trees.proofs.keys.highest_key.Given as goal

abbrev pub invariant-loop-i : goal.invariant-loop-i
invariant-loop-i l = (l.from < l.i) × (l.i ≤ l.to) × (greatest l.k (records_between rmaps l.list l.i l.to) ≡ highest (records_between rmaps l.list l.from l.to))
