-- `reasons::explain::record_at` meets its contract.
use Rattle.std.proofs.Common.{◌/◌, ◌<◌, ◌∙◌, length, sym, ap, inl, inr, arith}
use Rattle.reasons.specs.Why.{deciding_bytes}
use Rattle.codec.proofs.Chunks.{chunk-at}
use Rattle.reasons.proofs.explain.record_at.Goals as goal
use Rattle.reasons.proofs.explain.record_at.Goals.{In-HeldInCounts}

pub bounds-as_chunks-i : goal.bounds-as_chunks-i
bounds-as_chunks-i c = let h : c.in-HeldInMap.i < length c.args.map.now / 24 = rw c.in-HeldInMap.is at c.requires in omega (arith, h)

pub returns-in-HeldInMap : goal.returns-in-HeldInMap
returns-in-HeldInMap c =
    let a = c.args in
    chunk-at 24 a.map.now c.as_chunks.ensures.front c.in-HeldInMap.i (rw c.in-HeldInMap.is at c.requires)
    ∙ ap (deciding_bytes a.map.now a.counts.now) (sym c.in-HeldInMap.is)

counts-has : (c : In-HeldInCounts) → c.in-HeldInCounts.i < length c.args.counts.now / 12
counts-has c = elim c.in-HeldInCounts.is [ inl e ↦ rw e at c.requires | inr e ↦ rw e at c.requires ]

pub bounds-as_chunks-i-in-HeldInCounts : goal.bounds-as_chunks-i-in-HeldInCounts
bounds-as_chunks-i-in-HeldInCounts c = omega (arith, counts-has (goal.at.bounds-as_chunks-i-in-HeldInCounts c).In-HeldInCounts)

pub returns-in-HeldInCounts : goal.returns-in-HeldInCounts
returns-in-HeldInCounts c =
    let a = c.args in
    chunk-at 12 a.counts.now c.as_chunks-in-HeldInCounts.ensures.front c.in-HeldInCounts.i (counts-has (goal.at.returns-in-HeldInCounts c).In-HeldInCounts)
    ∙ elim c.in-HeldInCounts.is [
      | inl e ↦ ap (deciding_bytes a.map.now a.counts.now) (sym e)
      | inr e ↦ ap (deciding_bytes a.map.now a.counts.now) (sym e)
    ]
