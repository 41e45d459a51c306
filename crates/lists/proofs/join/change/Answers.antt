-- `lists::join::change` meets its contract.
use mathlib.Core.Path.{sym, ◌∙◌}
use Rattle.lists.specs.Inner.Passes.{raises, writes_counts}
use Rattle.lists.proofs.CountJoins.{asks-whole, whole-pushed}
use Rattle.lists.proofs.join.change.Goals as goal

pub push-requires-clause-room : goal.push-requires-clause-room
push-requires-clause-room c = let x = c.args in
    (asks-whole (raises x.edit.how) (writes_counts x.pass) x.edit.start x.edit.end x.j x.r x.new.now c.requires (sym c.meets.ensures ∙ c.if-meets.false)).1.1.1

pub returns : goal.returns
returns c = let x = c.args in
    whole-pushed (raises x.edit.how) (writes_counts x.pass) x.edit.start x.edit.end x.j x.r x.new.now c.requires (sym c.meets.ensures ∙ c.if-meets.false) c.push.result _ c.push.ensures
