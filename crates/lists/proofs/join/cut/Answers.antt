-- `lists::join::cut` meets its contract: one push, or three, one after another.
use native.Mathlib.Omega.{arith}
use mathlib.Core.Path.{sym, ◌∙◌}
use Rattle.lists.specs.Inner.Passes.{raises, writes_counts}
use Rattle.lists.proofs.CountJoins.{asks-within, within-pushed, asks-front, asks-middle, asks-behind, changed-pushed}
use Rattle.lists.proofs.join.cut.Goals as goal

pub push-requires : goal.push-requires
push-requires c = let x = c.args in
    let all = asks-within (raises x.edit.how) (writes_counts x.pass) x.edit.start x.edit.end x.j x.r x.new.now c.requires.cut c.requires.startblock_lt_e (sym c.covers.ensures ∙ c.if-covers.true) c.next-then.result c.next-then.ensures in record { lies = all.0; a_le_z = all.1.0; fits = all.1.1.0; room = all.1.1.1 }

pub returns-then-covers : goal.returns-then-covers
returns-then-covers c = let x = c.args in
    within-pushed (raises x.edit.how) (writes_counts x.pass) x.edit.start x.edit.end x.j x.r x.new.now c.requires.cut c.requires.startblock_lt_e (sym c.covers.ensures ∙ c.if-covers.true) c.next-then.result c.next-then.ensures c.push.result _ c.push.ensures

pub push-front-requires : goal.push-front-requires
push-front-requires c = let x = c.args in
    let m = c.next-then in
    let a = c.clamp-a in
    let z = c.clamp-z in
    let all = asks-front (raises x.edit.how) (writes_counts x.pass) x.edit.start x.edit.end x.j x.r x.new.now c.requires.cut c.requires.startblock_lt_e a.result z.result m.result a.ensures z.ensures m.ensures in record { lies = all.0; a_le_z = all.1.0; fits = all.1.1.0; room = all.1.1.1 }

pub push-middle-requires : goal.push-middle-requires
push-middle-requires c = let x = c.args in
    let m = c.next-then in
    let a = c.clamp-a in
    let z = c.clamp-z in
    let f = c.push-front in
    let all = asks-middle (raises x.edit.how) (writes_counts x.pass) x.edit.start x.edit.end x.j x.r x.new.now c.requires.cut c.requires.startblock_lt_e a.result z.result m.result a.ensures z.ensures m.ensures
    f.result _ f.ensures (omega (arith, f.auto.new)) in record { lies = all.0; a_le_z = all.1.0; fits = all.1.1.0; room = all.1.1.1 }

pub push-requires-2 : goal.push-requires-2
push-requires-2 c = let x = c.args in
    let m = c.next-then in
    let a = c.clamp-a in
    let z = c.clamp-z in
    let f = c.push-front in
    let g = c.push-middle in
    let all = asks-behind (raises x.edit.how) (writes_counts x.pass) x.edit.start x.edit.end x.j x.r x.new.now c.requires.cut c.requires.startblock_lt_e a.result z.result m.result a.ensures z.ensures m.ensures
    f.result _ f.ensures (omega (arith, f.auto.new))
    g.result _ g.ensures (omega (arith, g.auto.new)) in record { lies = all.0; a_le_z = all.1.0; fits = all.1.1.0; room = all.1.1.1 }

pub returns : goal.returns
returns c = let x = c.args in
    let m = c.next-then in
    let a = c.clamp-a in
    let z = c.clamp-z in
    let f = c.push-front in
    let g = c.push-middle in
    let h = c.push-2 in
    changed-pushed (raises x.edit.how) (writes_counts x.pass) x.edit.start x.edit.end x.j x.r x.new.now c.requires.cut c.requires.startblock_lt_e a.result z.result m.result a.ensures z.ensures m.ensures
    f.result _ f.ensures (omega (arith, f.auto.new))
    g.result _ g.ensures (omega (arith, g.auto.new))
    h.result _ h.ensures
