-- `lists::refcounts::measure` meets its contract.
use mathlib.Core.Path.{ap, ◌∙◌}
use Rattle.lists.specs.Answer.{lengths_of}
use Rattle.lists.proofs.Measuring.{measured-lower}
use Rattle.lists.proofs.refcounts.measure.Goals as goal

pub returns : goal.returns
returns c = let x = c.args in c.measured.ensures ∙ ap lengths_of (measured-lower x.counts.now x.startblock x.blockcount)
