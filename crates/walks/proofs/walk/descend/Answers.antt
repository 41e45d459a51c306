use native.Mathlib.Omega.{arith}
use mathlib.Core.Path.{◌≡◌, refl, sym, ap, ◌∙◌, subst}
use mathlib.Core.Bool.{false}
use mathlib.Core.List.{List, []}
use Prim.Native.Nat.{ℕ, ◌-◌}
use lib.ListN.{length}
use Rattle.std.specs.Prelude.{Ok}
use Rattle.codec.specs.Question.{Outcome, done, refused, none}
use Rattle.blocks.specs.Tree.{record_len}
use Rattle.walks.specs.declared.visit.Count.{Count}
use Rattle.walks.specs.Walk.{Visit, visit_of, Shape, Trace, visits, look_in}
use Rattle.walks.specs.Shapes.{shape_of}
use Rattle.walks.specs.WalkCall.{Report, walk_in}
use Rattle.walks.specs.Links.{leftsib_of, rightsib_of}
use Rattle.walks.specs.Path.{every, due_in, path_of, Opened}
use Rattle.walks.specs.OneVisit.{verdict_outcome, step_outcome, BesideBy, step_of, Wrote}
use Rattle.walks.specs.Underway.{rest_of, Walking}
use Rattle.walks.proofs.WalkLaws.{refused-is, finished-is, walking-spent, walking-stop, walking-ended, walking-seen, walking-read, step_count, end_whole}
use Rattle.walks.proofs.PathLaws.{path-none-left, path-moved}
use Rattle.walks.proofs.DescendLaws.{walking-begin, walking-turn, turn-visits, visits-whole, visits-none, opened-moved}
use Rattle.walks.proofs.LinkLaws.{Chained, chained-start, chained-step, chained-end}
use Rattle.walks.proofs.walk.descend.Goals as goal
use Rattle.walks.proofs.walk.descend.Goals.{After-visit-step, In_default, After-open-low}

-- the step that the visit took
stepped : (c : After-visit-step) → let l = c.loop-visits in let a = c.args in
    step_of a.places (length a.out.now) l.c (look_in (shape_of a.tree.now.g a.tree.now.kind) a.tree.now.image.now (visit_of l.due.block l.due.level)) ≡ step_outcome c.visit-step.result
stepped c =
    let l = c.loop-visits in
    let a = c.args in
    sym (c.visit-step.ensures.result_value ∙ ap (λ (k : ℕ). step_of a.places k l.c (look_in (shape_of a.tree.now.g a.tree.now.kind) a.tree.now.image.now (visit_of l.due.block l.due.level))) l.invariant.walks.size)

-- it read the block
read : (c : In_default) → step_outcome c.visit-step.result ≡ done c.visit-step.result.count
read c = ap (λ v. verdict_outcome v c.visit-step.result.count) c.in_default.is

-- so the walk has come on, and what is due is on the pairs
turned : (c : After-open-low) → step_outcome c.visit-step.result ≡ done c.visit-step.result.count
    → (let l = c.loop-visits in let a = c.args in
    step_of a.places (length a.out.now) l.c (look_in (shape_of a.tree.now.g a.tree.now.kind) a.tree.now.image.now (visit_of l.due.block l.due.level)) ≡ step_outcome c.visit-step.result)
    → let a = c.args in let n = c.visit-step.result.count in let low = c.open-low.result in
    Walking (look_in (shape_of a.tree.now.g a.tree.now.kind) a.tree.now.image.now) a.limit a.places (length a.out.now) (record_len a.tree.now.kind) (walk_in (shape_of a.tree.now.g a.tree.now.kind) a.tree.now.image.now a.root a.levels a.limit a.places (length a.out.now)) a.out.now c.visit-step.new.scratch c.visit-step.new.out n.visits n.bytes (path_of (due_in every (shape_of a.tree.now.g a.tree.now.kind) a.tree.now.image.now) c.open-low.new.pairs low (a.levels - low))
    × Opened (shape_of a.tree.now.g a.tree.now.kind) a.tree.now.image.now c.open-low.new.pairs low a.levels
turned c told s =
    let l = c.loop-visits in
    let a = c.args in
    let n = c.visit-step.result.count in
    let look = look_in (shape_of a.tree.now.g a.tree.now.kind) a.tree.now.image.now in
    let w = visit_of l.due.block l.due.level in
    let wr : Wrote (done n) w (look w) l.c l.scratch c.visit-step.new.scratch l.out c.visit-step.new.out =
    subst (λ (x : Outcome Count). Wrote x w (look w) l.c l.scratch c.visit-step.new.scratch l.out c.visit-step.new.out) told c.visit-step.ensures.wrote in
    let k =
    walking-turn a.tree.now.g a.tree.now.kind a.tree.now.image.now a.levels a.tree.now.good l.stack l.due.block l.due.level l.c l.invariant.walks l.invariant.opened l.invariant.under n _ _ (omega arith) l.invariant.small
    (look w) refl (s ∙ told) wr in
    rw (c.open-low.ensures.0, c.open-low.ensures.1) k

-- and the links have
chained : (c : After-open-low) → c.visit-step.result.verdict ≡ Ok tt → step_outcome c.visit-step.result ≡ done c.visit-step.result.count
    → (let l = c.loop-visits in let a = c.args in
    step_of a.places (length a.out.now) l.c (look_in (shape_of a.tree.now.g a.tree.now.kind) a.tree.now.image.now (visit_of l.due.block l.due.level)) ≡ step_outcome c.visit-step.result)
    → let a = c.args in let n = c.visit-step.result.count in let low = c.open-low.result in
    Chained (leftsib_of a.tree.now.g.blocksize a.tree.now.image.now) (rightsib_of a.tree.now.g.blocksize a.tree.now.image.now) a.levels (visits (walk_in (shape_of a.tree.now.g a.tree.now.kind) a.tree.now.image.now a.root a.levels a.limit a.places (length a.out.now)))
    (visits (rest_of (look_in (shape_of a.tree.now.g a.tree.now.kind) a.tree.now.image.now) a.limit a.places (length a.out.now) n.visits n.bytes (path_of (due_in every (shape_of a.tree.now.g a.tree.now.kind) a.tree.now.image.now) c.open-low.new.pairs low (a.levels - low))))
    c.follow.new.self.held c.follow.new.self.linked
chained c is told s =
    let l = c.loop-visits in
    let a = c.args in
    let n = c.visit-step.result.count in
    let image = a.tree.now.image.now in
    let left : (ℕ → ℕ) = leftsib_of a.tree.now.g.blocksize image in
    let right : (ℕ → ℕ) = rightsib_of a.tree.now.g.blocksize image in
    let beside = subst (λ v. BesideBy v c.visit-step.result.siblings (left l.due.block) (right l.due.block)) is c.visit-step.ensures.beside in
    let t = turn-visits a.tree.now.g a.tree.now.kind image a.levels a.tree.now.good a.limit a.places (length a.out.now) l.stack l.due.block l.due.level l.c l.invariant.opened l.invariant.under n (omega arith)
    (look_in (shape_of a.tree.now.g a.tree.now.kind) image (visit_of l.due.block l.due.level)) refl (s ∙ told) in
    let k =
    chained-step left right a.levels _ _ (visit_of l.due.block l.due.level) l.links.held _ l.links.linked c.follow.new.self.linked _ _ l.invariant.opened.few l.invariant.under beside.0 beside.1
    (rw t at l.invariant.linked) c.follow.ensures in
    rw (c.open-low.ensures.0, c.open-low.ensures.1) k

pub loop-visits-init : goal.loop-visits-init
loop-visits-init c =
    let a = c.args in
    let t = a.tree.now in
    let w = walking-begin (shape_of t.g t.kind) t.image.now a.root a.levels a.limit a.places (record_len t.kind) a.stack.now a.scratch.now a.out.now
    c.requires.least c.requires.most c.requires.deep c.requires.noting in record {
      walks = w.0;
      counted = refl;
      opened = w.1;
      under = omega (arith, c.requires.least);
      small = c.ranges.root.fits;
      linked = rw (c.new-links.ensures.0, c.new-links.ensures.1) (chained-start (leftsib_of t.g.blocksize t.image.now) (rightsib_of t.g.blocksize t.image.now) a.levels _ _ c.requires.most (visits-whole w.0));
    }

-- what was passed is the limit, whatever tells it
told_as : (v p : ℕ) → v ≡ p → (r : Report) → record { outcome = refused 13 none; passed = v } ≡ r → record { outcome = refused 13 none; passed = p } ≡ r
told_as v p n r k = rw n at k

pub returns : goal.returns
returns c =
    let a = c.args in
    let l = c.loop-visits in
    let k = walking-spent l.invariant.walks _ _ refl (omega arith) in
    let e = k ∙ end_whole (record_len a.tree.now.kind) (walk_in (shape_of a.tree.now.g a.tree.now.kind) a.tree.now.image.now a.root a.levels a.limit a.places (length a.out.now)) in
    record { walked_value = told_as l.c.visits _ (omega arith) _ e; left = tt; linked_value = sym (refused-is (record_len a.tree.now.kind) _ _ _ _ _ _ _ false (sym e)) }

pub returns-in-Err : goal.returns-in-Err
returns-in-Err c =
    let a = c.args in
    let told = ap (λ v. verdict_outcome v c.visit-step.result.count) c.in-Err.is in
    let s = stepped (goal.at.returns-in-Err c).After-visit-step in
    let k = walking-stop c.loop-visits.invariant.walks _ _ refl (omega arith) _ _ (s ∙ told) in
    let e =
    rw c.loop-visits.invariant.counted at k
    ∙ end_whole (record_len a.tree.now.kind) (walk_in (shape_of a.tree.now.g a.tree.now.kind) a.tree.now.image.now a.root a.levels a.limit a.places (length a.out.now)) in
    record { walked_value = e; left = tt; linked_value = sym (refused-is (record_len a.tree.now.kind) _ _ _ _ _ _ _ false (sym e)) }

pub visit-step-requires : goal.visit-step-requires
visit-step-requires c =
    let l = c.loop-visits in
    record { noting = l.invariant.walks.noting; stored = omega (arith, l.invariant.walks.stored, l.invariant.walks.size) }

pub advance-requires : goal.advance-requires
advance-requires c =
    let w = goal.at.advance-requires c in
    (turned w.After-open-low (read w.In_default) (stepped w.After-visit-step)).1

pub returns-in_default-advance : goal.returns-in_default-advance
returns-in_default-advance c =
    let w = goal.at.returns-in_default-advance c in
    let a = c.args in
    let n = c.visit-step.result.count in
    let leftsib : (ℕ → ℕ) = leftsib_of a.tree.now.g.blocksize a.tree.now.image.now in
    let rightsib : (ℕ → ℕ) = rightsib_of a.tree.now.g.blocksize a.tree.now.image.now in
    let sh : Shape = shape_of a.tree.now.g a.tree.now.kind in
    let total : Trace = walk_in sh a.tree.now.image.now a.root a.levels a.limit a.places (length a.out.now) in
    let told = read w.In_default in
    let s = stepped w.After-visit-step in
    let t = turned w.After-open-low told s in
    let z = path-none-left every sh a.tree.now.image.now c.open-low.new.pairs c.open-low.result a.levels t.1.within c.in_default-advance.ensures.0 in
    let e = walking-ended t.0 z ∙ end_whole (record_len a.tree.now.kind) total in
    let k = chained w.After-open-low c.in_default.is told s in
    let last : Chained leftsib rightsib a.levels (visits total) [] c.follow.new.self.held c.follow.new.self.linked =
    subst (λ (x : List Visit). Chained leftsib rightsib a.levels (visits total) x c.follow.new.self.held c.follow.new.self.linked)
    (visits-none (look_in sh a.tree.now.image.now) a.limit a.places (length a.out.now) n.visits n.bytes _ z) k in record {
      walked_value = rw c.read_all.ensures e;
      left = rw c.read_all.ensures (walking-seen t.0 z, walking-read t.0 z);
      linked_value = c.all_linked.ensures ∙ chained-end leftsib rightsib a.levels (visits total) c.follow.new.self.held c.follow.new.self.linked last
          ∙ sym (finished-is (record_len a.tree.now.kind) _ _ total _ _ _ false (sym e));
    }

pub loop-visits-preserved : goal.loop-visits-preserved
loop-visits-preserved c =
    let w = goal.at.loop-visits-preserved c in
    let l = c.loop-visits in
    let a = c.args in
    let n = c.visit-step.result.count in
    let sh : Shape = shape_of a.tree.now.g a.tree.now.kind in
    let total : Trace = walk_in sh a.tree.now.image.now a.root a.levels a.limit a.places (length a.out.now) in
    let told = read w.In_default in
    let s = stepped w.After-visit-step in
    let t = turned w.After-open-low told s in
    let links = chained w.After-open-low c.in_default.is told s in
    let b = c.in-Some.next.block in
    let k = c.in-Some.next.level in
    let m = c.in-Some.ensures in
    let q = step_count _ _ _ n _ (s ∙ told) in
    let z = path-moved every sh a.tree.now.image.now c.open-low.new.pairs c.advance.new.pairs b k c.open-low.result a.levels t.1.places t.1.few m in record {
      walks = rw z at t.0;
      counted = omega arith;
      opened = opened-moved sh a.tree.now.image.now c.open-low.new.pairs c.advance.new.pairs b k c.open-low.result a.levels t.1 m;
      under = omega (arith, m.inside);
      small = m.small;
      linked = rw z at links;
    }
