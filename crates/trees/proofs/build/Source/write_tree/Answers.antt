-- `trees::build::Source::write_tree` meets its contract.
use Prim.Native.Nat.{◌-◌, ◌*◌, ◌^◌, ◌<◌}
use mathlib.Core.Path.{◌≡◌, refl}
use native.Mathlib.Omega.{arith}
use lib.ListN.{length, get_or, take, drop, length-take, length-drop}
use Rattle.trees.proofs.TreeWriting.{LeavesFirst, leaves-first}
use borrow.Author.Rules.{rules}
use Rattle.trees.proofs.build.Source.write_tree.Goals as goal

pub bounds-levels-0 : goal.bounds-levels-0
bounds-levels-0 c =
    let uuid_long : length c.args.self.now.g.meta_uuid ≡ 16 = search rules in
    let leaves_at : LeavesFirst c.args.self.now.g c.args.self.now.kind c.args.self.now.list.now c.args.self.now.levels.now c.args.numbers.now c.args.out.now c.args.self.now.given c.args.self.now.laid c.requires (uuid_long) (get_or c.args.self.now.levels.now 0 0) = leaves-first c.args.self.now.g c.args.self.now.kind c.args.self.now.list.now c.args.self.now.levels.now c.args.numbers.now c.args.out.now c.args.self.now.given c.args.self.now.laid c.requires (uuid_long) (get_or c.args.self.now.levels.now 0 0) refl in
    (leaves_at).some_level

pub overflow_mul-far : goal.overflow_mul-far
overflow_mul-far c =
    let out-small : length c.args.out.now < 2 ^ 63 = search rules in
    let uuid_long : length c.args.self.now.g.meta_uuid ≡ 16 = search rules in
    let leaves_at : LeavesFirst c.args.self.now.g c.args.self.now.kind c.args.self.now.list.now c.args.self.now.levels.now c.args.numbers.now c.args.out.now c.args.self.now.given c.args.self.now.laid c.requires (uuid_long) (get_or c.args.self.now.levels.now 0 0) = leaves-first c.args.self.now.g c.args.self.now.kind c.args.self.now.list.now c.args.self.now.levels.now c.args.numbers.now c.args.out.now c.args.self.now.given c.args.self.now.laid c.requires (uuid_long) (get_or c.args.self.now.levels.now 0 0) refl in
    omega (arith, (leaves_at).room, out-small)

pub slice_bounds-write_leaves-end : goal.slice_bounds-write_leaves-end
slice_bounds-write_leaves-end c =
    let uuid_long : length c.args.self.now.g.meta_uuid ≡ 16 = search rules in
    let leaves_at : LeavesFirst c.args.self.now.g c.args.self.now.kind c.args.self.now.list.now c.args.self.now.levels.now c.args.numbers.now c.args.out.now c.args.self.now.given c.args.self.now.laid c.requires (uuid_long) (get_or c.args.self.now.levels.now 0 0) = leaves-first c.args.self.now.g c.args.self.now.kind c.args.self.now.list.now c.args.self.now.levels.now c.args.numbers.now c.args.out.now c.args.self.now.given c.args.self.now.laid c.requires (uuid_long) (get_or c.args.self.now.levels.now 0 0) refl in
    omega (arith, (leaves_at).inside)

pub slice_bounds-write_leaves-end-2 : goal.slice_bounds-write_leaves-end-2
slice_bounds-write_leaves-end-2 c =
    let uuid_long : length c.args.self.now.g.meta_uuid ≡ 16 = search rules in
    let leaves_at : LeavesFirst c.args.self.now.g c.args.self.now.kind c.args.self.now.list.now c.args.self.now.levels.now c.args.numbers.now c.args.out.now c.args.self.now.given c.args.self.now.laid c.requires (uuid_long) (get_or c.args.self.now.levels.now 0 0) = leaves-first c.args.self.now.g c.args.self.now.kind c.args.self.now.list.now c.args.self.now.levels.now c.args.numbers.now c.args.out.now c.args.self.now.given c.args.self.now.laid c.requires (uuid_long) (get_or c.args.self.now.levels.now 0 0) refl in
    omega (arith, (leaves_at).room)

pub write_leaves-requires : goal.write_leaves-requires
write_leaves-requires c =
    let uuid_long : length c.args.self.now.g.meta_uuid ≡ 16 = search rules in
    let leaves_at : LeavesFirst c.args.self.now.g c.args.self.now.kind c.args.self.now.list.now c.args.self.now.levels.now c.args.numbers.now c.args.out.now c.args.self.now.given c.args.self.now.laid c.requires (uuid_long) (get_or c.args.self.now.levels.now 0 0) = leaves-first c.args.self.now.g c.args.self.now.kind c.args.self.now.list.now c.args.self.now.levels.now c.args.numbers.now c.args.out.now c.args.self.now.given c.args.self.now.laid c.requires (uuid_long) (get_or c.args.self.now.levels.now 0 0) refl in
    (leaves_at).leaves-for _ (simp (length-take, length-drop) (omega (arith, (leaves_at).room)))

pub write_levels-requires : goal.write_levels-requires
write_levels-requires c =
    let uuid_long : length c.args.self.now.g.meta_uuid ≡ 16 = search rules in
    let leaves_at : LeavesFirst c.args.self.now.g c.args.self.now.kind c.args.self.now.list.now c.args.self.now.levels.now c.args.numbers.now c.args.out.now c.args.self.now.given c.args.self.now.laid c.requires (uuid_long) (get_or c.args.self.now.levels.now 0 0) = leaves-first c.args.self.now.g c.args.self.now.kind c.args.self.now.list.now c.args.self.now.levels.now c.args.numbers.now c.args.out.now c.args.self.now.given c.args.self.now.laid c.requires (uuid_long) (get_or c.args.self.now.levels.now 0 0) refl in
    (leaves_at).again _ (search rules)

pub returns : goal.returns
returns c =
    let uuid_long : length c.args.self.now.g.meta_uuid ≡ 16 = search rules in
    let leaves_at : LeavesFirst c.args.self.now.g c.args.self.now.kind c.args.self.now.list.now c.args.self.now.levels.now c.args.numbers.now c.args.out.now c.args.self.now.given c.args.self.now.laid c.requires (uuid_long) (get_or c.args.self.now.levels.now 0 0) = leaves-first c.args.self.now.g c.args.self.now.kind c.args.self.now.list.now c.args.self.now.levels.now c.args.numbers.now c.args.out.now c.args.self.now.given c.args.self.now.laid c.requires (uuid_long) (get_or c.args.self.now.levels.now 0 0) refl in
    let far = get_or c.args.self.now.levels.now 0 0 * c.args.self.now.g.blocksize in
    (leaves_at).whole-for (take (far - 0) (drop 0 c.args.out.now)) _ _ (simp (length-take, length-drop) (omega (arith, (leaves_at).room))) c.write_leaves.ensures c.write_levels.ensures
