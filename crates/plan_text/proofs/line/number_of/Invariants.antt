-- `plan_text::line::number_of` meets its contract. The invariant: what is read so far has as many digits as bytes passed, and the rest decides as the whole.
use Prim.Native.Nat.{◌^◌, ◌<◌}
use mathlib.Core.Path.{◌≡◌}
use lib.ListN.{drop}
use Rattle.plan_text.specs.Line.{all_digits, value_from, value}
use Rattle.plan_text.proofs.line.number_of.Given as goal

abbrev pub invariant-loop-b : goal.invariant-loop-b
invariant-loop-b l = (l.v < 10 ^ l.b-index) × (value_from l.v (drop l.b-index l.s) ≡ value l.s) × (all_digits (drop l.b-index l.s) ≡ all_digits l.s)
