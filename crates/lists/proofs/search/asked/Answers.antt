-- `lists::search::asked` meets its contract.
use mathlib.Core.Path.{sym, ◌∙◌}
use Rattle.lists.proofs.Splicing.{asked-length, asked-order, asked-extent}
use Rattle.lists.proofs.search.asked.Goals as goal

pub returns-then-list-ne0 : goal.returns-then-list-ne0
returns-then-list-ne0 c = λ qs o. asked-length c.args.list.now c.args.x qs o c.if-list-ne0.true

pub returns-in_default : goal.returns-in_default
returns-in_default c = λ qs o. asked-order c.args.list.now c.args.x qs o c.if-list-ne0.false c.in_default.ensures

pub returns-then-not-good : goal.returns-then-not-good
returns-then-not-good c = λ qs o. asked-extent c.args.list.now c.args.x qs o c.if-list-ne0.false c.in-Some.ensures.0 (sym c.good.ensures ∙ c.if-not-good.true)
