-- `reasons::find::find_count` meets its contract.
use Rattle.std.proofs.Common.{◌∙◌, rules, tests}
use Rattle.std.proofs.lemmas.Iterator.{YieldsList-from_slice}
use Rattle.std.proofs.lemmas.Iterator.Search.{position_from_yields_List}
use Rattle.codec.specs.Records.{refcounts}
use Rattle.reasons.specs.Inner.Deciding.{count_over}
use Rattle.reasons.proofs.Places.{in_chunk, position-chunks}
use Rattle.reasons.proofs.find.find_count.Goals as goal

pub returns : goal.returns
returns c =
    let a = c.args in
    position_from_yields_List (λ r. count_over a.staging a.block (in_chunk refcounts r)) _ _ _ c.position.ensures.ran
    (YieldsList-from_slice c.as_chunks.result.0.now cc)
    (λ x r q k. search (rules, tests))
    ∙ position-chunks refcounts (count_over a.staging a.block) a.counts.now _ c.as_chunks.ensures.front
