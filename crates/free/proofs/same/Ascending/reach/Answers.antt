-- `free::same::Ascending::reach` meets its contract. The invariant: those before `low` start before. A step is at most the number of extents, so its double
-- fits.
use Prim.Native.Nat.{◌+◌, ◌-◌}
use native.Mathlib.Omega.{arith}
use Rattle.codec.specs.Records.{free_extents}
use Rattle.std.proofs.lemmas.List.{length-map}
use Rattle.free.proofs.Searching.{up_to, down_to}
use Rattle.free.proofs.same.Ascending.reach.Goals as goal

pub returns-then-start-start_at : goal.returns-then-start-start_at
returns-then-start-start_at c =
    let s = c.args.self.now in
    down_to _ c.args.start s.in_order _ (omega (arith, length-map s.extents.now free_extents.decode)) c.loop-step.low c.loop-step.invariant.2 (omega arith) (omega arith)

pub loop-step-preserved : goal.loop-step-preserved
loop-step-preserved c =
    let s = c.args.self.now in (
      omega arith,
      omega arith,
      up_to _ c.args.start s.in_order (c.loop-step.low + c.loop-step.step - 1) (omega (arith, length-map s.extents.now free_extents.decode)) _ (omega arith) (omega arith),
    )
