-- `reasons::scan::noted` meets its contract.
use Rattle.std.proofs.Common.{◌∙◌, sym}
use Rattle.reasons.proofs.Finding.{noted-apart, noted-over}
use Rattle.reasons.proofs.scan.noted.Goals as goal

pub is_over-requires : goal.is_over-requires
is_over-requires c = c.requires.1

pub returns-then-not-is_over : goal.returns-then-not-is_over
returns-then-not-is_over c = noted-apart _ _ _ _ _ _ (sym c.is_over.ensures ∙ c.if-not-is_over.true) c.requires.0

pub returns : goal.returns
returns c =
    noted-over _ _ _ _ _ _ _ _ _ _ _ _ (sym c.is_over.ensures ∙ c.if-not-is_over.false) c.contains_aligned.ensures c.contains.ensures
    c.note.ensures c.note-2.ensures c.note-3.ensures c.note-4.ensures
