-- `free::same::Ascending::known` meets its contract.
use mathlib.Core.Path.{refl}
use native.Mathlib.Omega.{arith}
use Rattle.codec.specs.Records.{free_extents}
use Rattle.std.proofs.lemmas.List.{length-map}
use Rattle.free.proofs.Searching.{up_to}
use Rattle.free.proofs.same.Ascending.known.Goals as goal

pub returns-then-start_at-start : goal.returns-then-start_at-start
returns-then-start_at-start c =
    let s = c.args.self.now in
    up_to _ c.args.start s.in_order c.args.last (omega (arith, length-map s.extents.now free_extents.decode)) _ refl (omega arith)
