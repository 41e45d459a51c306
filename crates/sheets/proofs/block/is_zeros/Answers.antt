-- `sheets::block::is_zeros` meets its contract.
use Rattle.std.proofs.Common.{rules, tests}
use mathlib.Core.Path.{sym, ◌∙◌}
use lib.Dec.{eqb}
use Rattle.std.proofs.lemmas.Iterator.{YieldsList-from_slice}
use Rattle.std.proofs.lemmas.Iterator.Search.{all_from_yields_List}
use Rattle.sheets.proofs.Passing.{zeros-all}
use Rattle.sheets.proofs.block.is_zeros.Goals as goal

pub returns : goal.returns
returns c =
    all_from_yields_List (λ b. eqb b 0) _ _ _ c.all.ensures.ran (YieldsList-from_slice c.args.s.now cc) (λ x r q k. search (rules, tests))
    ∙ sym (zeros-all c.args.s.now)
