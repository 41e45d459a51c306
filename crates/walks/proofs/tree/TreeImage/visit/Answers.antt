use native.Mathlib.Omega.{arith}
use mathlib.Core.Path.{sym, ap, ◌∙◌, subst₂}
use mathlib.Core.List.{[]}
use Prim.Native.Nat.{◌+◌, ◌*◌, ◌≤◌}
use lib.ListN.{length}
use Rattle.blocks.specs.Tree.{header_len, record_len}
use Rattle.walks.specs.Walk.{visit_of, good, block_in, look_in}
use Rattle.walks.specs.WalkAnswer.{walk_number, walk_values}
use Rattle.walks.specs.Shapes.{shape_of}
use Rattle.walks.specs.Links.{leftsib_of, rightsib_of}
use Rattle.walks.specs.OneVisit.{Beside, verdict_outcome}
use Rattle.walks.specs.declared.visit.Step.{Step}
use Rattle.walks.proofs.LookLaws.{look-refused, look-done, under-leaf, under-node}
use Rattle.walks.proofs.VisitLaws.{leaf-part, Read, good-read, beside-refused, visit-bad, visit-good}
use Rattle.walks.proofs.tree.TreeImage.visit.Goals as goal
use Rattle.walks.proofs.tree.TreeImage.visit.Goals.{In-Ok, After-from-siblings, After-record_len}

-- the header is that of the block
read : (c : In-Ok) → let a = c.args in Read a.self.now.g a.self.now.kind a.self.now.image.now a.block a.level c.in-Ok.header
read c = let a = c.args in good-read a.self.now.g a.self.now.kind a.self.now.image.now a.block a.level c.in-Ok.header a.self.now.good c.ranges.block.fits (sym c.in-Ok.ensures)

-- its siblings are the block's
siblings : (c : After-from-siblings) (r : Step) → (let a = c.args in Read a.self.now.g a.self.now.kind a.self.now.image.now a.block a.level c.in-Ok.header)
    → Beside r c.from-siblings.result.left c.from-siblings.result.right
    → let a = c.args in Beside r (leftsib_of a.self.now.g.blocksize a.self.now.image.now a.block) (rightsib_of a.self.now.g.blocksize a.self.now.image.now a.block)
siblings c r k b = subst₂ (Beside r) (c.from-siblings.ensures.0 ∙ k.accepts.leftsib-is) (c.from-siblings.ensures.1 ∙ k.accepts.rightsib-is) b

-- and a leaf's records lie in the block
ends : (c : After-record_len) → (let a = c.args in Read a.self.now.g a.self.now.kind a.self.now.image.now a.block a.level c.in-Ok.header)
    → c.in-Ok.header.body + c.in-Ok.header.numrecs * c.record_len.result ≤ c.args.self.now.g.blocksize
ends c k =
    let e = ap (λ x. c.in-Ok.header.numrecs * x) c.record_len.ensures in
    omega (arith, k.leaf c.if-level-eq0.true)

pub returns-in-Err : goal.returns-in-Err
returns-in-Err c =
    let a = c.args in
    let r = c.in-Err.refusal in
    let o = ap (λ v. verdict_outcome v c.stop.result.count) c.stop.ensures in
    let p =
    visit-bad a.places (length a.out.now) a.block a.level a.c (look_in (shape_of a.self.now.g a.self.now.kind) a.self.now.image.now (visit_of a.block a.level))
    a.scratch.now a.out.now (walk_number r) (walk_values r) _
    (look-refused a.self.now.g a.self.now.kind a.self.now.image.now a.block a.level _ _ (sym c.in-Err.ensures)) o in
    record { result_value = p.0; wrote = p.1; beside = beside-refused c.stop.result _ _ _ _ o }

pub overflow_add-from : goal.overflow_add-from
overflow_add-from c = let r = read (goal.at.overflow_add-from c).In-Ok in omega (arith, r.leaf c.if-level-eq0.true)

pub overflow_add-to : goal.overflow_add-to
overflow_add-to c = let r = read (goal.at.overflow_add-to c).In-Ok in omega (arith, ends (goal.at.overflow_add-to c).After-record_len r)

pub slice_bounds-enter-end : goal.slice_bounds-enter-end
slice_bounds-enter-end c =
    let r = read (goal.at.slice_bounds-enter-end c).In-Ok in
    omega (arith, ends (goal.at.slice_bounds-enter-end c).After-record_len r)

pub returns-then-level-eq0 : goal.returns-then-level-eq0
returns-then-level-eq0 c =
    let w = goal.at.returns-then-level-eq0 c in
    let a = c.args in
    let h = c.in-Ok.header in
    let r = read w.In-Ok in
    let sh = shape_of a.self.now.g a.self.now.kind in
    let e =
    look-done a.self.now.g a.self.now.kind a.self.now.image.now a.block a.level h r.found
    ∙ under-leaf sh (block_in a.self.now.g.blocksize a.self.now.image.now a.block) a.level h.numrecs c.if-level-eq0.true
    ∙ ap (good []) (sym (leaf-part a.self.now.image.now a.block a.self.now.g.blocksize h.body (header_len a.self.now.g.version) h.numrecs _ (record_len a.self.now.kind) r.body_is c.record_len.ensures (r.leaf c.if-level-eq0.true))) in
    let p =
    visit-good a.places (length a.out.now) a.block a.level a.c (look_in sh a.self.now.image.now (visit_of a.block a.level)) a.scratch.now a.out.now [] _ _ _ _
    e c.enter.ensures.result_value c.enter.ensures.scratch_after.0 c.enter.ensures.scratch_after.1 in
    record { result_value = p.0; wrote = p.1; beside = siblings w.After-from-siblings c.enter.result r c.enter.ensures.beside }

pub returns : goal.returns
returns c =
    let w = goal.at.returns c in
    let a = c.args in
    let h = c.in-Ok.header in
    let r = read w.In-Ok in
    let sh = shape_of a.self.now.g a.self.now.kind in
    let e = look-done a.self.now.g a.self.now.kind a.self.now.image.now a.block a.level h r.found ∙ under-node sh (block_in a.self.now.g.blocksize a.self.now.image.now a.block) a.level h.numrecs (omega (arith, c.if-level-eq0.false)) in
    let p =
    visit-good a.places (length a.out.now) a.block a.level a.c (look_in sh a.self.now.image.now (visit_of a.block a.level)) a.scratch.now a.out.now _ _ _ _ _
    e c.enter-2.ensures.result_value c.enter-2.ensures.scratch_after.0 c.enter-2.ensures.scratch_after.1 in
    record { result_value = p.0; wrote = p.1; beside = siblings w.After-from-siblings c.enter-2.result r c.enter-2.ensures.beside }
