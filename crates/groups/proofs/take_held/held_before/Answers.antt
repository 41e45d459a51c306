-- `groups::take_held::held_before` meets its contract.
use mathlib.Core.Path.{refl, sym, ◌∙◌}
use Rattle.codec.specs.Records.{records_of, rmaps}
use Rattle.groups.proofs.TakingHeld.{before-held}
use Rattle.groups.proofs.take_held.held_before.Goals as goal

pub returns-then-held : goal.returns-then-held
returns-then-held c = rw (c.in-Owners.is, sym c.held.ensures ∙ c.if-held.true) refl

pub returns-else-held : goal.returns-else-held
returns-else-held c = rw (c.in-Owners.is, sym c.held.ensures ∙ c.if-held.false) refl

pub returns-in_default : goal.returns-in_default
returns-in_default c =
    let a = c.args in
    before-held (records_of rmaps a.map.now) a.x a.why c.in_default.not-Owners
