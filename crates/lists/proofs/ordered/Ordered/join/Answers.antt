-- `lists::ordered::Ordered::join` meets its contract.
use mathlib.Core.Path.{◌≡◌, sym, ◌∙◌}
use mathlib.Core.Bool.{cond}
use Rattle.lists.proofs.Placing.{joined-out, joined-miss, joined-hit, joined-fits}
use Rattle.lists.proofs.ordered.Ordered.join.Goals as goal
use Rattle.lists.proofs.ordered.Ordered.join.Goals.{then-behind, else-behind, then-behind-2, else-behind-2}

pub returns-then-len-i : goal.returns-then-len-i
returns-then-len-i c = let a = c.args in joined-out a.self.now.list.now a.behind a.i a.x (rw (← c.len.ensures) c.if-len-i.true)

pub returns-then-not-continues : goal.returns-then-not-continues
returns-then-not-continues c =
    let a = c.args in
    let el : c.if-behind.low ≡ cond a.behind c.at-r.result a.x = elim c.if-behind.branch [ then-behind w ↦ rw w.if-behind.true w.low-is | else-behind w ↦ rw w.if-behind.false w.low-is ] in
    let eh : c.if-behind-2.high ≡ cond a.behind a.x c.at-r.result = elim c.if-behind-2.branch [ then-behind-2 w ↦ rw w.if-behind-2.true w.high-is | else-behind-2 w ↦ rw w.if-behind-2.false w.high-is ] in
    joined-miss a.self.now.list.now a.behind a.i a.x _ _ _ (rw (← c.len.ensures) c.if-len-i.false) c.at-r.ensures el eh (sym c.continues.ensures ∙ c.if-not-continues.true)

pub join-requires : goal.join-requires
join-requires c =
    let a = c.args in
    let el : c.if-behind.low ≡ cond a.behind c.at-r.result a.x = elim c.if-behind.branch [ then-behind w ↦ rw w.if-behind.true w.low-is | else-behind w ↦ rw w.if-behind.false w.low-is ] in
    let eh : c.if-behind-2.high ≡ cond a.behind a.x c.at-r.result = elim c.if-behind-2.branch [ then-behind-2 w ↦ rw w.if-behind-2.true w.high-is | else-behind-2 w ↦ rw w.if-behind-2.false w.high-is ] in
    joined-fits a.self.now.list.now a.behind a.i a.x _ _ _ (rw (← c.len.ensures) c.if-len-i.false) c.at-r.ensures el eh a.self.now.in_order c.requires (sym c.continues.ensures ∙ c.if-not-continues.false)

pub returns : goal.returns
returns c =
    let a = c.args in
    let el : c.if-behind.low ≡ cond a.behind c.at-r.result a.x = elim c.if-behind.branch [ then-behind w ↦ rw w.if-behind.true w.low-is | else-behind w ↦ rw w.if-behind.false w.low-is ] in
    let eh : c.if-behind-2.high ≡ cond a.behind a.x c.at-r.result = elim c.if-behind-2.branch [ then-behind-2 w ↦ rw w.if-behind-2.true w.high-is | else-behind-2 w ↦ rw w.if-behind-2.false w.high-is ] in
    joined-hit a.self.now.list.now a.behind a.i a.x _ _ _ (rw (← c.len.ensures) c.if-len-i.false) c.at-r.ensures el eh _ c.join.ensures (sym c.continues.ensures ∙ c.if-not-continues.false)
