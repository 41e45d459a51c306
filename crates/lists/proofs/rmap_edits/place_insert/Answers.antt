-- `lists::rmap_edits::place_insert` meets its contract.
use Prim.Native.Nat.{◌+◌}
use native.Mathlib.Omega.{arith}
use mathlib.Core.Path.{◌≡◌, refl, sym, ◌∙◌}
use mathlib.Core.Bool.{cond}
use Rattle.std.specs.Prelude.{is_some}
use Rattle.codec.specs.Records.{records_of, rmaps}
use Rattle.codec.proofs.RecordLists.{length-records_of}
use Rattle.lists.specs.declared.EditRefusal.TheVariants as why
use Rattle.lists.specs.declared.splice.Edit.TheVariants.{Insert}
use Rattle.lists.specs.Inner.Searches.{tests, TakeGood}
use Rattle.lists.proofs.Joining.{high_end}
use Rattle.lists.proofs.Splicing.{insert-parts, insert-good}
use Rattle.lists.proofs.Placing.{found-le, good-end, unheld-found, held_found, prepared-is, refused-is}
use Rattle.lists.proofs.rmap_edits.place_insert.Goals as goal
use Rattle.lists.proofs.rmap_edits.place_insert.Goals.{then-is_some, else-is_some, then-is_some-2, else-is_some-2}

pub returns-then-s-n : goal.returns-then-s-n
unfolding tests
returns-then-s-n c =
    let b = c.args.old.now.list.now in
    let g : TakeGood b c.args.x = record { aligned = c.args.old.now.whole; ordered = c.args.old.now.in_order; extent = c.requires.0 } in
    refused-is Insert b _ g why.Overlap (held_found b _ g _ c.requires.1.conflict (omega (arith, c.len-n.ensures, found-le _ b _ c.after-at.ensures))) refl refl

pub join-high-requires : goal.join-high-requires
join-high-requires c = good-end _ c.requires.0

pub join-low-requires : goal.join-low-requires
join-low-requires c = high_end _ _ _ _ _ c.args.old.now.in_order (good-end _ c.requires.0) c.join-high.ensures c.unwrap_or-y.ensures

pub overflow_add-rest : goal.overflow_add-rest
overflow_add-rest c = omega (arith, found-le _ c.args.old.now.list.now _ c.after-at.ensures)

pub ready-requires : goal.ready-requires
ready-requires c =
    let b = c.args.old.now.list.now in
    let front : c.if-is_some.front ≡ cond (is_some c.join-low.result) c.previous-i.result c.after-at.result =
    elim c.if-is_some.branch [ then-is_some w ↦ rw (sym c.is_some.ensures ∙ w.if-is_some.true) w.front-is | else-is_some w ↦ rw (sym c.is_some.ensures ∙ w.if-is_some.false) w.front-is ] in
    let rest : c.if-is_some-2.rest ≡ cond (is_some c.join-high.result) (c.after-at.result + 1) c.after-at.result =
    elim c.if-is_some-2.branch [ then-is_some-2 w ↦ rw (sym c.is_some-2.ensures ∙ w.if-is_some-2.true) w.rest-is | else-is_some-2 w ↦ rw (sym c.is_some-2.ensures ∙ w.if-is_some-2.false) w.rest-is ] in
    rw (← c.len-n.ensures) (insert-good c.args.x (records_of rmaps b) _ (c.len-n.ensures ∙ sym (length-records_of rmaps b)) _ _ _ _ _ _ _ _ c.after-at.ensures c.join-high.ensures c.unwrap_or-y.ensures c.previous-i.ensures c.join-low.ensures c.unwrap_or-z.ensures front rest)

pub returns : goal.returns
unfolding tests
returns c =
    let b = c.args.old.now.list.now in
    let g : TakeGood b c.args.x = record { aligned = c.args.old.now.whole; ordered = c.args.old.now.in_order; extent = c.requires.0 } in
    let front : c.if-is_some.front ≡ cond (is_some c.join-low.result) c.previous-i.result c.after-at.result =
    elim c.if-is_some.branch [ then-is_some w ↦ rw (sym c.is_some.ensures ∙ w.if-is_some.true) w.front-is | else-is_some w ↦ rw (sym c.is_some.ensures ∙ w.if-is_some.false) w.front-is ] in
    let rest : c.if-is_some-2.rest ≡ cond (is_some c.join-high.result) (c.after-at.result + 1) c.after-at.result =
    elim c.if-is_some-2.branch [ then-is_some-2 w ↦ rw (sym c.is_some-2.ensures ∙ w.if-is_some-2.true) w.rest-is | else-is_some-2 w ↦ rw (sym c.is_some-2.ensures ∙ w.if-is_some-2.false) w.rest-is ] in
    prepared-is Insert b _ g _ _ _ _ _ (unheld-found b _ g _ c.requires.1.conflict (omega (arith, c.len-n.ensures)))
    (insert-parts c.args.x (records_of rmaps b) _ (c.len-n.ensures ∙ sym (length-records_of rmaps b)) _ _ _ _ _ _ _ _ c.after-at.ensures c.join-high.ensures c.unwrap_or-y.ensures c.previous-i.ensures c.join-low.ensures c.unwrap_or-z.ensures front rest)
    c.ready.ensures
