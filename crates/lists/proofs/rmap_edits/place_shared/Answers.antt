-- `lists::rmap_edits::place_shared` meets its contract.
use Prim.Native.Nat.{◌+◌}
use native.Mathlib.Omega.{arith}
use mathlib.Core.Path.{◌≡◌, refl, sym, ◌∙◌}
use mathlib.Core.Bool.{cond}
use Rattle.std.specs.Prelude.{is_some}
use Rattle.codec.specs.Records.{rmaps}
use Rattle.codec.proofs.RecordLists.{length-records_of}
use Rattle.lists.specs.declared.EditRefusal.TheVariants as why
use Rattle.lists.specs.declared.splice.Edit.TheVariants.{InsertShared}
use Rattle.lists.specs.Inner.Searches.{tests, TakeGood}
use Rattle.lists.proofs.Joining.{low_end}
use Rattle.lists.proofs.Splicing.{shared-parts, shared-good}
use Rattle.lists.proofs.Placing.{found-le, good-end, none_found, one_found, prepared-is, refused-is}
use Rattle.lists.proofs.rmap_edits.place_shared.Goals as goal
use Rattle.lists.proofs.rmap_edits.place_shared.Goals.{then-is_some, else-is_some, then-is_some-2, else-is_some-2, then-is_some-3, else-is_some-3}

pub returns-then-s-len : goal.returns-then-s-len
unfolding tests
returns-then-s-len c =
    let b = c.args.old.now.list.now in
    let g : TakeGood b c.args.x = record { aligned = c.args.old.now.whole; ordered = c.args.old.now.in_order; extent = c.requires.0 } in
    refused-is InsertShared b _ g why.Overlap (one_found _ b _ c.requires.1.conflict (omega (arith, c.len.ensures))) refl refl

pub join-low-requires : goal.join-low-requires
join-low-requires c = good-end _ c.requires.0

pub join-high-requires : goal.join-high-requires
join-high-requires c = low_end _ _ _ _ _ (good-end _ c.requires.0) c.join-low.ensures c.unwrap_or-y.ensures

pub overflow_add-from : goal.overflow_add-from
overflow_add-from c = omega (arith, found-le _ c.args.old.now.list.now _ c.requires.1.before)

pub overflow_add-rest : goal.overflow_add-rest
overflow_add-rest c = omega (arith, found-le _ c.args.old.now.list.now _ c.requires.1.after)

pub ready-requires : goal.ready-requires
unfolding tests
ready-requires c =
    let b = c.args.old.now.list.now in
    let g : TakeGood b c.args.x = record { aligned = c.args.old.now.whole; ordered = c.args.old.now.in_order; extent = c.requires.0 } in
    let f = c.requires.1 in
    let to : c.if-is_some.to ≡ cond (is_some c.join-low.result) c.args.s.before c.seat-place.result =
    elim c.if-is_some.branch [ then-is_some w ↦ rw (sym c.is_some.ensures ∙ w.if-is_some.true) w.to-is | else-is_some w ↦ rw (sym c.is_some.ensures ∙ w.if-is_some.false) w.to-is ] in
    let from : c.if-is_some-2.from ≡ cond (is_some c.join-low.result) (c.args.s.before + 1) c.seat-place.result =
    elim c.if-is_some-2.branch [ then-is_some-2 w ↦ rw (sym c.is_some-2.ensures ∙ w.if-is_some-2.true) w.from-is | else-is_some-2 w ↦ rw (sym c.is_some-2.ensures ∙ w.if-is_some-2.false) w.from-is ] in
    let rest : c.if-is_some-3.rest ≡ cond (is_some c.join-high.result) (c.args.s.after + 1) c.args.s.after =
    elim c.if-is_some-3.branch [ then-is_some-3 w ↦ rw (sym c.is_some-3.ensures ∙ w.if-is_some-3.true) w.rest-is | else-is_some-3 w ↦ rw (sym c.is_some-3.ensures ∙ w.if-is_some-3.false) w.rest-is ] in
    shared-good b c.args.x g _ (sym (length-records_of rmaps b)) _ _ _ _ _ _ _ _ _ _ f.before c.join-low.ensures c.unwrap_or-y.ensures f.after c.join-high.ensures c.unwrap_or-z.ensures c.seat-place.ensures to from rest

pub returns : goal.returns
unfolding tests
returns c =
    let b = c.args.old.now.list.now in
    let g : TakeGood b c.args.x = record { aligned = c.args.old.now.whole; ordered = c.args.old.now.in_order; extent = c.requires.0 } in
    let f = c.requires.1 in
    let to : c.if-is_some.to ≡ cond (is_some c.join-low.result) c.args.s.before c.seat-place.result =
    elim c.if-is_some.branch [ then-is_some w ↦ rw (sym c.is_some.ensures ∙ w.if-is_some.true) w.to-is | else-is_some w ↦ rw (sym c.is_some.ensures ∙ w.if-is_some.false) w.to-is ] in
    let from : c.if-is_some-2.from ≡ cond (is_some c.join-low.result) (c.args.s.before + 1) c.seat-place.result =
    elim c.if-is_some-2.branch [ then-is_some-2 w ↦ rw (sym c.is_some-2.ensures ∙ w.if-is_some-2.true) w.from-is | else-is_some-2 w ↦ rw (sym c.is_some-2.ensures ∙ w.if-is_some-2.false) w.from-is ] in
    let rest : c.if-is_some-3.rest ≡ cond (is_some c.join-high.result) (c.args.s.after + 1) c.args.s.after =
    elim c.if-is_some-3.branch [ then-is_some-3 w ↦ rw (sym c.is_some-3.ensures ∙ w.if-is_some-3.true) w.rest-is | else-is_some-3 w ↦ rw (sym c.is_some-3.ensures ∙ w.if-is_some-3.false) w.rest-is ] in
    prepared-is InsertShared b _ g _ _ _ _ _ (none_found _ b _ f.conflict (omega (arith, c.len.ensures)))
    (shared-parts b c.args.x g _ (sym (length-records_of rmaps b)) _ _ _ _ _ _ _ _ _ _ f.before c.join-low.ensures c.unwrap_or-y.ensures f.after c.join-high.ensures c.unwrap_or-z.ensures c.seat-place.ensures to from rest)
    c.ready.ensures
