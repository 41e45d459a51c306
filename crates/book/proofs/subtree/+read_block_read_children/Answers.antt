-- `book::subtree::read_block` and `read_children` meet their contracts.
use Prim.Native.Nat.{ℕ, ◌+◌, ◌-◌, ◌<◌}
use native.Mathlib.Nat.{pos_of_ne-zero}
use native.Mathlib.Omega.{arith}
use mathlib.Core.Path.{sym, ap, ◌∙◌, refl, subst}
use mathlib.Core.List.{List, ◌∷◌, ◌++◌}
use lib.ListN.{length}
use Rattle.std.proofs.lemmas.Result.{err_from_is_err_and}
use Rattle.blocks.specs.Tree.{record_len}
use Rattle.walks.specs.Walk.{Visit, visit_of, Trace, look_in}
use Rattle.walks.specs.Shapes.{shape_of}
use Rattle.walks.specs.Path.{every, due_in}
use Rattle.walks.specs.OneVisit.{verdict_outcome}
use Rattle.walks.specs.Underway.{Walking}
use Rattle.walks.proofs.WalkLaws.{walking-spent, walking-stop}
use Rattle.walks.proofs.PathLaws.{due-none}
use Rattle.book.specs.Inner.Subtree.{Reached}
use Rattle.book.proofs.ReadLaws.{less, look_is, fits_next, leaf-read, node-read, child-next}
use Rattle.book.proofs.subtree.+read_block_read_children.Goals as goal
use Rattle.book.proofs.subtree.+read_block_read_children.Goals.{read_children-After-read_block}

-- ---- a block

pub read_block-returns-then-limits-visits : goal.read_block-returns-then-limits-visits
read_block-returns-then-limits-visits t c = record { reads = λ total o later k. walking-spent k _ later refl c.if-limits-visits.true; fits = tt }

-- it is refused
pub read_block-returns-in-Err : goal.read_block-returns-in-Err
read_block-returns-in-Err t c =
    let told = ap (λ v. verdict_outcome v c.visit-step.result.count) c.in-Err.is in
    record {
      reads = λ total o later k. walking-stop k _ later refl c.if-limits-visits.false _ _ (sym c.visit-step.ensures.result_value ∙ told);
      fits = tt;
    }

-- it is a leaf
pub read_block-returns-then-level-eq0 : goal.read_block-returns-then-level-eq0
read_block-returns-then-level-eq0 t c =
    let a = c.args in
    let v = c.visit-step in
    let n = v.result.count in
    let told = ap (λ v. verdict_outcome v c.visit-step.result.count) c.in_default.is in
    let stepped = sym v.ensures.result_value ∙ told in
    let wrote = rw told at v.ensures.wrote in
    record {
      reads = λ total o later k.
          leaf-read a.tree.now.g a.tree.now.kind a.tree.now.image.now a.block a.level a.limits.blocks (length a.out.now) a.c n stepped later _ _ k
          c.if-limits-visits.false c.ranges.block.fits wrote c.args.tree.now.good c.if-level-eq0.true;
      fits = fits_next a.tree.now.g a.tree.now.kind a.tree.now.image.now a.block a.level a.limits.blocks (length a.out.now) a.c n stepped a.scratch.now _ a.out.now _ c.requires
          v.auto.scratch v.auto.out refl;
    }

-- it is a node
pub read_block-read_children-requires : goal.read_block-read_children-requires
read_block-read_children-requires t c =
    let a = c.args in
    let v = c.visit-step in
    let told = ap (λ v. verdict_outcome v c.visit-step.result.count) c.in_default.is in
    let stepped = sym v.ensures.result_value ∙ told in
    let up : 0 < a.level = pos_of_ne-zero c.if-level-eq0.false in
    let l = look_is a.tree.now.g a.tree.now.kind a.tree.now.image.now a.block a.level a.limits.blocks (length a.out.now) a.c v.result.count stepped c.args.tree.now.good in (
      less c.decreases (omega arith),
      (
        (omega arith, l.inside),
        (
          l.most up,
          fits_next a.tree.now.g a.tree.now.kind a.tree.now.image.now a.block a.level a.limits.blocks (length a.out.now) a.c v.result.count stepped a.scratch.now _ a.out.now _ c.requires
              v.auto.scratch v.auto.out refl,
        ),
      ),
    )

pub read_block-returns : goal.read_block-returns
read_block-returns t c =
    let a = c.args in
    let v = c.visit-step in
    let d = c.read_children in
    let n = v.result.count in
    let look = look_in (shape_of a.tree.now.g a.tree.now.kind) a.tree.now.image.now in
    let told = ap (λ v. verdict_outcome v c.visit-step.result.count) c.in_default.is in
    let stepped = sym v.ensures.result_value ∙ told in
    let wrote = rw told at v.ensures.wrote in
    let up : 0 < a.level = pos_of_ne-zero c.if-level-eq0.false in
    let same = v.auto.out in
    record {
      reads = λ total o later k.
          subst (λ (x : ℕ). Reached look a.limits x (record_len a.tree.now.kind) total o d.new.scratch d.new.out d.result later) same
          (d.ensures.reads total o later
          (subst (λ (x : ℕ). Walking look a.limits.visits a.limits.blocks x (record_len a.tree.now.kind) total o v.new.scratch v.new.out n.visits n.bytes
          (due_in every (shape_of a.tree.now.g a.tree.now.kind) a.tree.now.image.now a.level a.block 0 ++ later)) (sym same)
          (node-read a.tree.now.g a.tree.now.kind a.tree.now.image.now a.block a.level a.limits.blocks (length a.out.now) a.c n stepped later _ _ k
          c.if-limits-visits.false c.ranges.block.fits wrote c.args.tree.now.good up)));
      fits = d.ensures.fits;
    }

-- ---- the children of a node

-- where the walk stands after one more child
stands : (t : ℕ) (c : read_children-After-read_block t) → let a = c.args in let l = c.loop-i in
    (total : Trace) (o : List ℕ) (later : List Visit)
    → Walking (look_in (shape_of a.tree.now.g a.tree.now.kind) a.tree.now.image.now) a.limits.visits a.limits.blocks (length a.out.now) (record_len a.tree.now.kind) total o a.scratch.now a.out.now a.c.visits a.c.bytes (due_in every (shape_of a.tree.now.g a.tree.now.kind) a.tree.now.image.now a.level a.node 0 ++ later)
    → Reached (look_in (shape_of a.tree.now.g a.tree.now.kind) a.tree.now.image.now) a.limits (length a.out.now) (record_len a.tree.now.kind) total o c.read_block.new.scratch c.read_block.new.out c.read_block.result (due_in every (shape_of a.tree.now.g a.tree.now.kind) a.tree.now.image.now a.level a.node (l.i + 1) ++ later)
stands t c total o later k =
    let a = c.args in
    let l = c.loop-i in
    let d = c.read_block in
    let look = look_in (shape_of a.tree.now.g a.tree.now.kind) a.tree.now.image.now in
    let due : (ℕ → List Visit) = due_in every (shape_of a.tree.now.g a.tree.now.kind) a.tree.now.image.now a.level a.node in
    let e = child-next (shape_of a.tree.now.g a.tree.now.kind) a.tree.now.image.now a.node a.level l.i c.child-b.result (omega (arith, c.fan-n.ensures)) (grind (arith, c.child-b.ensures)) in
    let w = rw e at l.invariant.1 total o later k in
    subst (λ (x : ℕ). Reached look a.limits x (record_len a.tree.now.kind) total o d.new.scratch d.new.out d.result (due (l.i + 1) ++ later)) l.auto.out
    (d.ensures.reads total o (due (l.i + 1) ++ later)
    (subst (λ (x : ℕ). Walking look a.limits.visits a.limits.blocks x (record_len a.tree.now.kind) total o l.scratch l.out l.count.visits l.count.bytes (visit_of c.child-b.result (a.level - 1) ∷ (due (l.i + 1) ++ later))) (sym l.auto.out) w))

pub read_children-returns-in_err-count : goal.read_children-returns-in_err-count
read_children-returns-in_err-count t c =
    let p = err_from_is_err_and c.from_residual.result c.from_residual.ensures.1 in
    rw (p.1, p.2)
    (record { reads = λ total o later k. (let h = stands t (goal.at.read_children-returns-in_err-count t c).After-read_block total o later k in rw c.in_err-count.was at h); fits = tt })

pub read_children-loop-i-preserved : goal.read_children-loop-i-preserved
read_children-loop-i-preserved t c =
    (c.in_ok-count.ensures.fits, λ total o later k. (let h = stands t (goal.at.read_children-loop-i-preserved t c).After-read_block total o later k in rw c.in_ok-count.was at h))

pub read_children-returns-clause-reads : goal.read_children-returns-clause-reads
read_children-returns-clause-reads t c total o later k =
    let a = c.args in
    let l = c.loop-i in
    let z = due-none every (shape_of a.tree.now.g a.tree.now.kind) a.tree.now.image.now a.level a.node l.i (omega (arith, c.fan-n.ensures)) in
    let h = l.invariant.1 total o later k in
    rw z at h
