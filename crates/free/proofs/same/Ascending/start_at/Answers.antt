-- `free::same::Ascending::start_at` meets its contract.
use mathlib.Core.Path.{ap, ◌∙◌}
use Rattle.codec.specs.declared.free_extent.FreeExtent.{FreeExtent}
use Rattle.free.proofs.Searching.{chunk-is}
use Rattle.free.proofs.same.Ascending.start_at.Goals as goal

pub returns : goal.returns
returns c = ap (λ (e : FreeExtent). e.startblock) (c.decode.ensures ∙ chunk-is _ _ _ c.requires)
