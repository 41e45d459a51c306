-- `lists::rmap_edits::place_remove` meets its contract.
use mathlib.Core.Path.{◌≡◌, refl, sym, ◌∙◌}
use mathlib.Core.Bool.{cond}
use lib.Dec.{ltb}
use borrow.Author.Tests.{lt-ltb, le-ltb}
use Rattle.codec.specs.Records.{rmaps}
use Rattle.codec.proofs.RecordLists.{length-records_of}
use Rattle.lists.specs.declared.EditRefusal.TheVariants as why
use Rattle.lists.specs.declared.splice.Edit.TheVariants.{Remove}
use Rattle.lists.specs.Inner.Searches.{tests, TakeGood}
use Rattle.lists.proofs.Scanning.{read_at}
use Rattle.lists.proofs.Splicing.{contained-at, cut-ends, remove-parts, remove-good}
use Rattle.lists.proofs.Placing.{good-at, prepared-is, refused-is}
use Rattle.lists.proofs.rmap_edits.place_remove.Goals as goal
use Rattle.lists.proofs.rmap_edits.place_remove.Goals.{then-s-n, else-s-n}

pub returns-then-n-at : goal.returns-then-n-at
unfolding tests
returns-then-n-at c =
    let b = c.args.old.now.list.now in
    let g : TakeGood b c.args.x = record { aligned = c.args.old.now.whole; ordered = c.args.old.now.in_order; extent = c.requires.0 } in
    let f = c.requires.1 in
    let at : c.if-s-n.at ≡ cond (ltb c.args.s.aligned c.len-n.result) c.args.s.aligned c.args.s.containing =
    elim c.if-s-n.branch [ then-s-n w ↦ rw (lt-ltb _ _ w.if-s-n.true) w.at-is | else-s-n w ↦ rw (le-ltb _ _ w.if-s-n.false) w.at-is ] in
    let n = c.len-n.ensures ∙ sym (length-records_of rmaps b) in
    refused-is Remove b _ g why.Missing (contained-at b c.args.x g _ n _ _ _ f.aligned f.containing at ∙ le-ltb _ _ c.if-n-at.true) refl refl

pub later-k-requires : goal.later-k-requires
unfolding tests
later-k-requires c =
    let b = c.args.old.now.list.now in
    let g : TakeGood b c.args.x = record { aligned = c.args.old.now.whole; ordered = c.args.old.now.in_order; extent = c.requires.0 } in
    let f = c.requires.1 in
    let at : c.if-s-n.at ≡ cond (ltb c.args.s.aligned c.len-n.result) c.args.s.aligned c.args.s.containing =
    elim c.if-s-n.branch [ then-s-n w ↦ rw (lt-ltb _ _ w.if-s-n.true) w.at-is | else-s-n w ↦ rw (le-ltb _ _ w.if-s-n.false) w.at-is ] in
    let n = c.len-n.ensures ∙ sym (length-records_of rmaps b) in
    let w = read_at b c.if-s-n.at c.at-w.result (rw (← c.len-n.ensures) c.if-n-at.false) c.at-w.ensures in
    let h = cut-ends b c.args.x g _ n _ _ _ f.aligned f.containing at _ c.if-n-at.false w in
    (good-at b _ _ g.ordered (rw (← c.len-n.ensures) c.if-n-at.false) c.at-w.ensures, h.0, h.1)

pub overflow_sub-f : goal.overflow_sub-f
unfolding tests
overflow_sub-f c =
    let b = c.args.old.now.list.now in
    let g : TakeGood b c.args.x = record { aligned = c.args.old.now.whole; ordered = c.args.old.now.in_order; extent = c.requires.0 } in
    let f = c.requires.1 in
    let at : c.if-s-n.at ≡ cond (ltb c.args.s.aligned c.len-n.result) c.args.s.aligned c.args.s.containing =
    elim c.if-s-n.branch [ then-s-n w ↦ rw (lt-ltb _ _ w.if-s-n.true) w.at-is | else-s-n w ↦ rw (le-ltb _ _ w.if-s-n.false) w.at-is ] in
    let n = c.len-n.ensures ∙ sym (length-records_of rmaps b) in
    let w = read_at b c.if-s-n.at c.at-w.result (rw (← c.len-n.ensures) c.if-n-at.false) c.at-w.ensures in
    (cut-ends b c.args.x g _ n _ _ _ f.aligned f.containing at _ c.if-n-at.false w).0

pub ready-requires : goal.ready-requires
unfolding tests
ready-requires c =
    let b = c.args.old.now.list.now in
    let g : TakeGood b c.args.x = record { aligned = c.args.old.now.whole; ordered = c.args.old.now.in_order; extent = c.requires.0 } in
    let f = c.requires.1 in
    let at : c.if-s-n.at ≡ cond (ltb c.args.s.aligned c.len-n.result) c.args.s.aligned c.args.s.containing =
    elim c.if-s-n.branch [ then-s-n w ↦ rw (lt-ltb _ _ w.if-s-n.true) w.at-is | else-s-n w ↦ rw (le-ltb _ _ w.if-s-n.false) w.at-is ] in
    let n = c.len-n.ensures ∙ sym (length-records_of rmaps b) in
    let w = read_at b c.if-s-n.at c.at-w.result (rw (← c.len-n.ensures) c.if-n-at.false) c.at-w.ensures in
    rw (← c.len-n.ensures) (remove-good b c.args.x g _ n _ _ _ f.aligned f.containing at _ c.if-n-at.false w _ _ _ _ _ _ _ c.seat-place.ensures c.later-k.ensures refl c.end.ensures c.end-2.ensures c.then_some.ensures c.then_some-2.ensures)

pub returns : goal.returns
unfolding tests
returns c =
    let b = c.args.old.now.list.now in
    let g : TakeGood b c.args.x = record { aligned = c.args.old.now.whole; ordered = c.args.old.now.in_order; extent = c.requires.0 } in
    let f = c.requires.1 in
    let at : c.if-s-n.at ≡ cond (ltb c.args.s.aligned c.len-n.result) c.args.s.aligned c.args.s.containing =
    elim c.if-s-n.branch [ then-s-n w ↦ rw (lt-ltb _ _ w.if-s-n.true) w.at-is | else-s-n w ↦ rw (le-ltb _ _ w.if-s-n.false) w.at-is ] in
    let n = c.len-n.ensures ∙ sym (length-records_of rmaps b) in
    let w = read_at b c.if-s-n.at c.at-w.result (rw (← c.len-n.ensures) c.if-n-at.false) c.at-w.ensures in
    prepared-is Remove b _ g _ _ _ _ _ (contained-at b c.args.x g _ n _ _ _ f.aligned f.containing at ∙ lt-ltb _ _ c.if-n-at.false)
    (remove-parts b c.args.x g _ n _ _ _ f.aligned f.containing at _ c.if-n-at.false w _ _ _ _ _ _ _ c.seat-place.ensures c.later-k.ensures refl c.end.ensures c.end-2.ensures c.then_some.ensures c.then_some-2.ensures)
    c.ready.ensures
