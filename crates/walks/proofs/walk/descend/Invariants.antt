use mathlib.Core.Path.{◌≡◌}
use mathlib.Core.List.{◌∷◌}
use Prim.Native.Nat.{◌+◌, ◌-◌, ◌<◌, ◌^◌}
use lib.ListN.{length}
use Rattle.blocks.specs.Tree.{record_len}
use Rattle.walks.specs.Walk.{visit_of, visits, look_in}
use Rattle.walks.specs.Shapes.{shape_of}
use Rattle.walks.specs.WalkCall.{walk_in}
use Rattle.walks.specs.Links.{leftsib_of, rightsib_of}
use Rattle.walks.specs.Path.{every, due_in, path_of, Opened}
use Rattle.walks.specs.Underway.{rest_of, Walking}
use Rattle.walks.proofs.LinkLaws.{Chained}
use Rattle.walks.proofs.walk.descend.Given as goal

-- the walk so far; the pairs above the block that is due; that block; the links so far
abbrev pub invariant-loop-visits : goal.invariant-loop-visits
invariant-loop-visits l =
    let sh = shape_of l.tree.g l.tree.kind in
    let image = l.tree.image.now in
    let room = length l.initial.out in
    let total = walk_in sh image l.root l.levels l.limit l.places room in
    let due = visit_of l.due.block l.due.level ∷ path_of (due_in every sh image) l.stack (l.due.level + 1) (l.levels - (l.due.level + 1)) in
    record {
      walks : Walking (look_in sh image) l.limit l.places room (record_len l.tree.kind) total l.initial.out l.scratch l.out l.c.visits l.c.bytes due;
      counted : l.c.visits ≡ l.visits;
      opened : Opened sh image l.stack (l.due.level + 1) l.levels;
      under : l.due.level < l.levels;
      small : l.due.block < 2 ^ 32;
      linked : Chained (leftsib_of l.tree.g.blocksize image) (rightsib_of l.tree.g.blocksize image) l.levels (visits total)
          (visits (rest_of (look_in sh image) l.limit l.places room l.c.visits l.c.bytes due)) l.links.held l.links.linked;
    }
