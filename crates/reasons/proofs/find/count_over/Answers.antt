-- `reasons::find::count_over` meets its contract.
use Rattle.std.proofs.Common.{◌∙◌}
use Rattle.reasons.proofs.Tests.{counts-over}
use Rattle.reasons.proofs.find.count_over.Goals as goal

pub returns-then-is_staging-staging : goal.returns-then-is_staging-staging
returns-then-is_staging-staging c =
    let a = c.args in
    c.over.ensures ∙ rw c.block.ensures (counts-over a.staging a.r a.block (rw c.is_staging.ensures at c.if-is_staging-staging.true))
