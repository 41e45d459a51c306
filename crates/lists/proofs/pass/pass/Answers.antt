-- `lists::pass::pass` meets its contract: what is carried along and the records to come decide and write as the whole list does.
use Prim.Native.Nat.{◌+◌}
use mathlib.Core.Path.{◌≡◌, sym, ◌∙◌}
use mathlib.Core.Bool.{false}
use borrow.Author.Tests.{not-true, not-false}
use native.Mathlib.Omega.{arith}
use Rattle.codec.specs.Bytes.{IsBytes}
use Rattle.codec.specs.Records.{records_of, refcounts}
use Rattle.codec.specs.Accepted.{in_order}
use Rattle.codec.specs.Refcounts.{good, follows}
use lib.ListN.{drop}
use Rattle.codec.proofs.ListOrder.{order-bad, order-low}
use Rattle.lists.specs.Inner.Passes.{raises, writes_counts, writes_free}
use Rattle.lists.proofs.Passing.{carrying-start, next-asks, next-carrying, told-order, end-staging, end-owners, end-fill, end-finish, end-gap, end-done}
use Rattle.lists.proofs.Staying.{skip-asks, skipped-on}
use Rattle.lists.proofs.pass.pass.Goals as goal
use Rattle.lists.proofs.pass.pass.Goals.{then-not-good-via-then-not-good, then-not-good-via-else-not-good+then-not-follows}

pub loop-i-init : goal.loop-i-init
loop-i-init c = let x = c.args in
    (omega arith, carrying-start (raises x.how) (writes_counts x.pass) (writes_free x.pass) (records_of refcounts x.counts.now) x.startblock (x.startblock + x.blockcount) x.new.now x.free.now _ c.begin-w.ensures (omega (arith, c.requires.end)))

pub overflow_mul-i : goal.overflow_mul-i
overflow_mul-i c = omega (arith, c.loop-i-test.true)

pub decode-r-requires : goal.decode-r-requires
decode-r-requires c = omega (arith, c.loop-i-test.true)

pub shape_of-new-then-not-good : goal.shape_of-new-then-not-good
shape_of-new-then-not-good c = c.loop-i.invariant.1.counts.kept

pub shape_of-free-then-not-good : goal.shape_of-free-then-not-good
shape_of-free-then-not-good c = c.loop-i.invariant.1.extents.kept

pub returns-then-not-good : goal.returns-then-not-good
returns-then-not-good c =
    let x = c.args in
    let l = c.loop-i in
    let d = c.decode-r in
    let b = x.counts.now in
    let stops : in_order good follows l.w.prev (drop l.i (records_of refcounts b)) ≡ false =
    elim c.then-not-good.branch [
      | then-not-good-via-then-not-good w ↦
          order-bad refcounts good follows b l.i l.w.prev d.result c.loop-i-test.true d.ensures (sym c.good.ensures ∙ w.if-not-good.true)
      | then-not-good-via-else-not-good+then-not-follows w ↦
          order-low refcounts good follows b l.i l.w.prev d.result c.loop-i-test.true d.ensures (sym c.good.ensures ∙ w.if-not-good.false) (sym w.follows.ensures ∙ w.if-not-follows.true)
    ] in
    told-order (raises x.how) (writes_counts x.pass) (writes_free x.pass) (records_of refcounts b) x.startblock x.blockcount x.new.now x.free.now c.requires _ _
    (l.invariant.1.order ∙ stops)

pub step-w-requires : goal.step-w-requires
step-w-requires c = let x = c.args in
    let p = c.requires in
    let l = c.loop-i in
    let d = c.decode-r in
    let b = x.counts.now in
    let bytes : IsBytes b = λ i. (c.type_inv.counts i).fits in
    let inside = c.loop-i-test.true in
    let g = sym c.good.ensures ∙ c.if-not-good.false in
    let f = sym c.follows.ensures ∙ c.if-not-follows.false in
    next-asks (raises x.how) (writes_counts x.pass) (writes_free x.pass) b x.startblock x.blockcount x.new.now x.free.now l.new l.free l.w p bytes l.i d.result inside d.ensures l.invariant.1 g f

pub overflow_add-next : goal.overflow_add-next
overflow_add-next c = omega (arith, c.loop-i-test.true, c.well_formed.0.0)

pub unchanged-j-requires : goal.unchanged-j-requires
unchanged-j-requires c = omega (arith, c.loop-i-test.true)

pub skip-w-requires : goal.skip-w-requires
skip-w-requires c = let x = c.args in
    let p = c.requires in
    let l = c.loop-i in
    let d = c.decode-r in
    let b = x.counts.now in
    let bytes : IsBytes b = λ i. (c.type_inv.counts i).fits in
    let inside = c.loop-i-test.true in
    let g = sym c.good.ensures ∙ c.if-not-good.false in
    let f = sym c.follows.ensures ∙ c.if-not-follows.false in
    let k = c.step-w in
    let new₁ = k.new.new in
    let free₁ = k.new.free in
    let stepped =
    next-carrying (raises x.how) (writes_counts x.pass) (writes_free x.pass) b x.startblock x.blockcount x.new.now x.free.now l.new l.free l.w p bytes l.i d.result inside d.ensures l.invariant.1 g f
    k.result new₁ free₁ k.auto.new k.auto.free k.ensures in
    let u = c.unchanged-j.ensures in
    skip-asks (raises x.how) (writes_counts x.pass) (writes_free x.pass) b x.startblock x.blockcount x.new.now x.free.now new₁ free₁ k.result p bytes (l.i + 1) c.unchanged-j.result u.lower_bound.0 u.lower_bound.1 stepped u.unchanged

pub loop-i-smaller : goal.loop-i-smaller
loop-i-smaller c = omega (arith, c.loop-i-test.true, c.unchanged-j.ensures.lower_bound.0, c.unchanged-j.ensures.lower_bound.1)

pub loop-i-preserved : goal.loop-i-preserved
loop-i-preserved c = let x = c.args in
    let p = c.requires in
    let l = c.loop-i in
    let d = c.decode-r in
    let b = x.counts.now in
    let bytes : IsBytes b = λ i. (c.type_inv.counts i).fits in
    let inside = c.loop-i-test.true in
    let g = sym c.good.ensures ∙ c.if-not-good.false in
    let f = sym c.follows.ensures ∙ c.if-not-follows.false in
    let k = c.step-w in
    let new₁ = k.new.new in
    let free₁ = k.new.free in
    let stepped =
    next-carrying (raises x.how) (writes_counts x.pass) (writes_free x.pass) b x.startblock x.blockcount x.new.now x.free.now l.new l.free l.w p bytes l.i d.result inside d.ensures l.invariant.1 g f
    k.result new₁ free₁ k.auto.new k.auto.free k.ensures in
    let u = c.unchanged-j in
    let o = c.skip-w in (
      u.ensures.lower_bound.1,
      skipped-on (raises x.how) (writes_counts x.pass) (writes_free x.pass) b x.startblock x.blockcount x.new.now x.free.now new₁ free₁ k.result p bytes (l.i + 1) u.result u.ensures.lower_bound.0 u.ensures.lower_bound.1 stepped u.ensures.unchanged
          o.result _ o.ensures,
    )

pub shape_of-new-then-not-w : goal.shape_of-new-then-not-w
shape_of-new-then-not-w c = c.loop-i.invariant.1.counts.kept

pub shape_of-free-then-not-w : goal.shape_of-free-then-not-w
shape_of-free-then-not-w c = c.loop-i.invariant.1.extents.kept

pub returns-then-not-w : goal.returns-then-not-w
returns-then-not-w c =
    let x = c.args in
    let l = c.loop-i in
    let bytes : IsBytes x.counts.now = λ i. (c.type_inv.counts i).fits in
    end-staging (raises x.how) (writes_counts x.pass) (writes_free x.pass) x.counts.now x.startblock x.blockcount x.new.now x.free.now l.new l.free l.w c.requires bytes l.i c.loop-i-test.false l.invariant.1 (not-true _ c.if-not-w.true)

pub shape_of-new-then-too_many : goal.shape_of-new-then-too_many
shape_of-new-then-too_many c = c.loop-i.invariant.1.counts.kept

pub shape_of-free-then-too_many : goal.shape_of-free-then-too_many
shape_of-free-then-too_many c = c.loop-i.invariant.1.extents.kept

pub returns-then-too_many : goal.returns-then-too_many
returns-then-too_many c =
    let x = c.args in
    let l = c.loop-i in
    let bytes : IsBytes x.counts.now = λ i. (c.type_inv.counts i).fits in
    end-owners (raises x.how) (writes_counts x.pass) (writes_free x.pass) x.counts.now x.startblock x.blockcount x.new.now x.free.now l.new l.free l.w c.requires bytes l.i c.loop-i-test.false l.invariant.1 (not-false _ c.if-not-w.false) (sym c.too_many.ensures ∙ c.if-too_many.true)

pub fill-filled-requires : goal.fill-filled-requires
fill-filled-requires c =
    let x = c.args in
    let l = c.loop-i in
    let bytes : IsBytes x.counts.now = λ i. (c.type_inv.counts i).fits in
    let k = end-fill (raises x.how) (writes_counts x.pass) (writes_free x.pass) x.counts.now x.startblock x.blockcount x.new.now x.free.now l.new l.free l.w c.requires bytes l.i c.loop-i-test.false l.invariant.1 in
    record { z_le_end_limit = k.0; fits = k.1.0; room = k.1.1 }

pub finish-counts_len-requires : goal.finish-counts_len-requires
finish-counts_len-requires c =
    let x = c.args in
    let l = c.loop-i in
    let bytes : IsBytes x.counts.now = λ i. (c.type_inv.counts i).fits in
    let h = c.fill-filled in
    let k = end-finish (raises x.how) (writes_counts x.pass) (writes_free x.pass) x.counts.now x.startblock x.blockcount x.new.now x.free.now l.new l.free l.w c.requires bytes l.i c.loop-i-test.false l.invariant.1 h.result _ _ (omega (arith, h.auto.new)) h.ensures in
    record { fits = k.0; room = k.1 }

pub put_gap-free_len-requires : goal.put_gap-free_len-requires
put_gap-free_len-requires c =
    let x = c.args in
    let l = c.loop-i in
    let bytes : IsBytes x.counts.now = λ i. (c.type_inv.counts i).fits in
    let k = end-gap (raises x.how) (writes_counts x.pass) (writes_free x.pass) x.counts.now x.startblock x.blockcount x.new.now x.free.now l.new l.free l.w c.requires bytes l.i c.loop-i-test.false l.invariant.1 in
    record { at_bound = k.0; z_in_bounds = k.1 }

pub shape_of-new : goal.shape_of-new
shape_of-new c = c.finish-counts_len.auto.new ∙ c.fill-filled.auto.new ∙ c.loop-i.invariant.1.counts.kept

pub shape_of-free : goal.shape_of-free
shape_of-free c = c.put_gap-free_len.auto.free ∙ c.loop-i.invariant.1.extents.kept

pub returns : goal.returns
returns c =
    let x = c.args in
    let l = c.loop-i in
    let bytes : IsBytes x.counts.now = λ i. (c.type_inv.counts i).fits in
    let h = c.fill-filled in
    let f = c.finish-counts_len in
    let g = c.put_gap-free_len in
    end-done (raises x.how) (writes_counts x.pass) (writes_free x.pass) x.counts.now x.startblock x.blockcount x.new.now x.free.now l.new l.free l.w c.requires bytes l.i c.loop-i-test.false l.invariant.1
    h.result _ _ (omega (arith, h.auto.new)) h.ensures (not-false _ c.if-not-w.false) (sym c.too_many.ensures ∙ c.if-too_many.false)
    f.result g.result _ _ f.ensures.value f.ensures.after g.ensures.value g.ensures.free_after
