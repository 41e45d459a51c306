-- An accepted list, built and stored, is returned by the walk.
-- Assumes nothing.
use Prim.Native.Nat.{ℕ, ◌*◌, ◌≤◌}
use mathlib.Core.Bool.{true}
use mathlib.Core.Path.{◌≡◌, refl}
use mathlib.Core.List.{List}
use lib.ListN.{length}
use borrow.Author.Tests.{le-leb, eq-eqb}
use Rattle.codec.specs.Bytes.{IsBytes}
use Rattle.codec.specs.Question.{done}
use Rattle.codec.specs.Accepted.{whole}
use Rattle.blocks.specs.declared.geometry.Geometry.{Geometry}
use Rattle.blocks.specs.declared.kind.TreeKind.{TreeKind}
use Rattle.blocks.specs.declared.kind.TreeKind.TheVariants.{Rmap, Refcount, ByBlock, BySize}
use Rattle.blocks.specs.Tree.{has_tree, record_len}
use Rattle.trees.specs.Plan.{sum}
use Rattle.walks.specs.WalkCall.{Lent}
use Rattle.trees.specs.Build.{plan_of}
use Rattle.trees.specs.BuildCall.{ordered, built_bytes, build_outcome}
use Rattle.walks.specs.Shapes.{shape_of}
use Rattle.trees.specs.RoundTrip.{levels_for}
use Rattle.trees.proofs.BuiltReturned.{stored-returned}
use Rattle.groups.specs.History.{Stored, Returned}

-- version 5 has every tree
has-tree : (kind : TreeKind) (version : ℕ) → version ≡ 5 → has_tree kind version ≡ true
has-tree Rmap version e = eq-eqb version 5 e
has-tree Refcount version e = eq-eqb version 5 e
has-tree ByBlock version e = refl
has-tree BySize version e = refl

module _ (kind : TreeKind) (list : List ℕ) (small : IsBytes list) (length-ok : whole (record_len kind) list ≡ true) (order-ok : ordered kind list ≡ true) where
  built : (g : Geometry) (numbers image : List ℕ) (room : ℕ) (lent : Lent) → Stored kind list g numbers image room lent
      → build_outcome g kind list numbers room ≡ done (built_bytes g kind list numbers)
  unfolding build_outcome
  built g numbers image room lent s =
      let plan : ℕ = sum (plan_of (shape_of g kind) list) in
      let r : plan * g.blocksize ≤ room = rw (← s.planned) s.room_left in
      simp (
        s.geometry,
        has-tree kind g.version s.version,
        length-ok,
        order-ok,
        le-leb (levels_for g kind list) 9 s.levels,
        eq-eqb (length numbers) plan s.planned,
        le-leb (plan * g.blocksize) room r,
      )

  pub returned : Returned kind list
  returned g numbers image room lent s =
      let b = built g numbers image room lent s in
      record {
        built = b;
        walked =
            stored-returned g kind list numbers (built_bytes g kind list numbers) room s.fields small s.numbers_fit b image lent s.places s.limit
            s.long;
      }
