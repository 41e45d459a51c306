-- `trees::build::put_pointers` meets its contract. The invariant: the first i pointers are written.
use Prim.Native.Nat.{◌≤◌}
use mathlib.Core.Path.{◌≡◌}
use lib.ListN.{length, take}
use Rattle.codec.specs.Bytes.{with_bytes}
use Rattle.trees.specs.Inner.BuildNeeds.{pointer_bytes}
use Rattle.trees.proofs.build.put_pointers.Given as goal

abbrev pub invariant-loop-i : goal.invariant-loop-i
invariant-loop-i l = (l.i ≤ length l.blocks) × (length l.b ≡ length l.initial.b) × (l.b ≡ with_bytes l.initial.b l.at (pointer_bytes (take l.i l.blocks)))
