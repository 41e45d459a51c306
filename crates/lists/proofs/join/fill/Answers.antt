-- `lists::join::fill` meets its contract.
use mathlib.Core.Path.{sym, ◌∙◌}
use lib.ListN.{length}
use Rattle.lists.specs.Inner.Passes.{raises, writes_counts}
use Rattle.lists.proofs.CountJoins.{share-none, fresh-none, fill_none, asks-fill, fill-pushed}
use Rattle.lists.proofs.join.fill.Goals as goal

pub returns-then-not-raises : goal.returns-then-not-raises
returns-then-not-raises c = let x = c.args in
    let p = c.requires in
    fill_none (raises x.how) (writes_counts x.pass) x.j x.a x.z p.z_le_end_limit.0 p.z_le_end_limit.1 p.fits x.new.now (fresh-none (raises x.how) x.a x.z (sym c.raises.ensures ∙ c.if-not-raises.true))

pub returns-then-z-a : goal.returns-then-z-a
returns-then-z-a c = let x = c.args in
    let p = c.requires in
    fill_none (raises x.how) (writes_counts x.pass) x.j x.a x.z p.z_le_end_limit.0 p.z_le_end_limit.1 p.fits x.new.now (share-none x.a x.z _ c.if-z-a.true)

pub push-requires : goal.push-requires
push-requires c = let x = c.args in
    let p = c.requires in
    let all = asks-fill (raises x.how) (writes_counts x.pass) x.j x.a x.z p.z_le_end_limit.0 p.z_le_end_limit.1 p.fits (length x.new.now) c.if-z-a.false p.room in record { lies = all.0; a_le_z = all.1.0; fits = all.1.1.0; room = all.1.1.1 }

pub returns : goal.returns
returns c = let x = c.args in
    let p = c.requires in
    let h = c.push in
    fill-pushed (raises x.how) (writes_counts x.pass) x.j x.a x.z p.z_le_end_limit.0 p.z_le_end_limit.1 p.fits h.result x.new.now _ (sym c.raises.ensures ∙ c.if-not-raises.false) h.ensures
