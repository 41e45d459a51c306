-- `free::same::Ascending::is_at` meets its contract.
use native.Mathlib.Omega.{arith}
use mathlib.Core.Path.{◌∙◌}
use Rattle.std.proofs.lemmas.List.{length-map}
use Rattle.codec.specs.Records.{free_extents}
use Rattle.free.proofs.Searching.{chunk-is, here}
use Rattle.free.proofs.same.Ascending.is_at.Goals as goal

pub returns-then-i-self : goal.returns-then-i-self
returns-then-i-self c =
    let k = c.args.self.now.extents.now in
    c.eq.ensures
    ∙ here _ c.args.e c.decode.result c.args.i (omega (arith, length-map k free_extents.decode)) (c.decode.ensures ∙ chunk-is _ _ _ c.if-i-self.true)
