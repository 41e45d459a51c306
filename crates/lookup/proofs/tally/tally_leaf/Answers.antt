-- `lookup::tally::tally_leaf` meets its contract. The invariant: the records from i on, added to the answers, make what all of them made at the start.
use Rattle.std.proofs.Common.{◌/◌, length, sym, ◌∙◌, arith}
use Rattle.lookup.specs.Inner.Tally.{summed}
use Rattle.lookup.proofs.TallyLaws.{leaf-next, leaf-end, leaf_room, room-one}
use Rattle.lookup.proofs.tally.tally_leaf.Goals as goal

pub tally-near-requires : goal.tally-near-requires
tally-near-requires c = let l = c.loop-i in (omega (arith, l.invariant.1, c.requires.0), room-one _ c.args.asked.numbers.now (summed (length c.args.asked.numbers.now) l.answers) (omega arith) l.invariant.3)

pub loop-i-preserved : goal.loop-i-preserved
loop-i-preserved c = let l = c.loop-i in let d = c.decode-r in let a = c.args in let h = c.loop-i-test.true in (omega arith, c.tally-near.auto.answers ∙ l.invariant.1, leaf-next a.records.now a.asked.numbers.now (summed (length a.asked.numbers.now) l.answers) _ l.i d.result h d.ensures c.tally-near.ensures ∙ l.invariant.2, leaf_room (length a.records.now / 24) l.i d.result a.asked.numbers.now (summed (length a.asked.numbers.now) l.answers) _ h c.tally-near.ensures l.invariant.3)

pub returns : goal.returns
returns c = let l = c.loop-i in let a = c.args in sym (leaf-end a.records.now a.asked.numbers.now (summed (length a.asked.numbers.now) l.answers) l.i c.loop-i-test.false) ∙ l.invariant.2
