use native.Mathlib.Omega.{arith}
use mathlib.Core.Path.{refl, ap}
use lib.ListN.{length}
use Rattle.blocks.specs.Tree.{record_len}
use Rattle.walks.specs.Shapes.{shape_of}
use Rattle.walks.specs.WalkCall.{walk_in}
use Rattle.walks.specs.Links.{walked_of}
use Rattle.walks.proofs.CallLaws.{visits-within, call-read, call-refused}
use Rattle.walks.proofs.walk.walk_tree.Goals as goal

pub returns-in_default : goal.returns-in_default
returns-in_default c =
    let a = c.args in
    let e = c.descend-end in
    record {
      walks = call-refused (record_len a.tree.now.kind) a.levels (walk_in (shape_of a.tree.now.g a.tree.now.kind) a.tree.now.image.now a.root a.levels a.limit (length a.blocks.now) (length a.out.now)) a.stack.now e.new.stack _ a.scratch.now e.new.scratch _ a.blocks.now _ a.out.now e.new.out
          e.auto.stack e.auto.scratch (c.fill.ensures.after (λ y e. e)) c.wipe.ensures.0
          _ _ _ (ap walked_of c.in_default.is) e.ensures.walked_value e.auto.out c.wipe.ensures.1 c.wipe.ensures.2;
      says = e.ensures.linked_value;
    }

pub finish-requires : goal.finish-requires
finish-requires c =
    let a = c.args in
    let w = visits-within (shape_of a.tree.now.g a.tree.now.kind) a.tree.now.image.now a.root a.levels a.limit (length a.blocks.now) (length a.out.now) (record_len a.tree.now.kind) _ c.in-Ok.ensures.walked_value in
    (omega (arith, c.descend-end.auto.scratch), w)

pub returns : goal.returns
returns c =
    let a = c.args in
    let e = c.descend-end in
    let o = c.in-Ok.ensures in
    record {
      walks = call-read (record_len a.tree.now.kind) a.levels (walk_in (shape_of a.tree.now.g a.tree.now.kind) a.tree.now.image.now a.root a.levels a.limit (length a.blocks.now) (length a.out.now)) a.stack.now e.new.stack _ a.scratch.now e.new.scratch _ a.blocks.now _ a.out.now e.new.out
          e.auto.stack e.auto.scratch (c.fill.ensures.after (λ y e. e)) c.finish.ensures.1
          _ _ refl o.walked_value o.left c.finish.ensures.0;
      says = o.linked_value;
    }
