-- `sheets::change::good_changes` meets its contract.
use Rattle.std.proofs.Common.{rules, tests}
use lib.ListN.{length}
use Prim.Native.Nat.{◌/◌}
use mathlib.Core.Path.{ap, ◌∙◌}
use Rattle.std.specs.List.{list_all}
use Rattle.std.proofs.lemmas.Iterator.{YieldsList-from_slice}
use Rattle.std.proofs.lemmas.Iterator.Search.{all_from_yields_List}
use Rattle.sheets.specs.Change.{good_change}
use Rattle.sheets.proofs.Passing.{good-all}
use Rattle.sheets.proofs.change.good_changes.Goals as goal

pub returns : goal.returns
returns c =
    all_from_yields_List good_change _ _ _ c.all.ensures.ran (YieldsList-from_slice c.as_chunks.result.0.now cc) (λ x r q k. search (rules, tests))
    ∙ ap (list_all good_change) c.as_chunks.ensures.front
    ∙ good-all (length c.args.list.now / 32) c.args.list.now
