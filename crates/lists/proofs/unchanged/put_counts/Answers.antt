-- `lists::unchanged::put_counts` meets its contract.
use Rattle.lists.specs.Inner.Passes.{writes_counts}
use Rattle.lists.proofs.Puts.{put-yes, put-no}
use mathlib.Core.Path.{sym, ◌∙◌}
use Rattle.lists.proofs.unchanged.put_counts.Goals as goal

pub returns-then-writes_counts : goal.returns-then-writes_counts
returns-then-writes_counts c = let a = c.args in put-yes (writes_counts a.pass) a.new.now _ a.at _ (sym c.writes_counts.ensures ∙ c.if-writes_counts.true) c.copy.ensures

pub returns-else-writes_counts : goal.returns-else-writes_counts
returns-else-writes_counts c = let a = c.args in put-no (writes_counts a.pass) a.new.now a.at _ (sym c.writes_counts.ensures ∙ c.if-writes_counts.false)
