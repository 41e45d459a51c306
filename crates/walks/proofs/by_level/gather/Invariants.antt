use mathlib.Core.Path.{◌≡◌}
use Prim.Native.Nat.{◌+◌}
use lib.ListN.{length, take}
use Rattle.walks.specs.Inner.WalkState.{level_in}
use Rattle.codec.specs.Bytes.{with_bytes}
use Rattle.walks.proofs.by_level.gather.Given as goal

abbrev pub invariant-loop-place : goal.invariant-loop-place
invariant-loop-place l = (l.k ≡ l.at + length (level_in l.level (take l.place-index l.seen))) × (l.list ≡ with_bytes l.initial.list l.at (level_in l.level (take l.place-index l.seen)))
