-- `sheets::write::put_blocks` meets its contract. The invariant is `Laid`: what is there, with the blocks from i on, is the whole.
use Rattle.sheets.proofs.Writing.{Laid}
use Rattle.sheets.proofs.write.put_blocks.Given as goal

abbrev pub invariant-loop-i : goal.invariant-loop-i
invariant-loop-i l = Laid l.n l.list l.initial.sheet l.sheet l.i
