-- `plan_text::text::put_levels` meets its contract. The invariant: the lines of the levels passed stand at the front.
use Prim.Native.Nat.{◌*◌, ◌≤◌}
use mathlib.Core.Path.{◌≡◌}
use lib.ListN.{length, take}
use Rattle.codec.specs.Bytes.{with_bytes}
use Rattle.plan_text.specs.Text.{level_lines}
use Rattle.plan_text.proofs.text.put_levels.Given as goal

abbrev pub invariant-loop-i : goal.invariant-loop-i
invariant-loop-i l = (length l.out ≡ length l.initial.out) × (l.at ≡ length (level_lines 0 (take l.i l.blocks))) × (l.at ≤ 64 * l.i) × (l.out ≡ with_bytes l.initial.out 0 (level_lines 0 (take l.i l.blocks)))
