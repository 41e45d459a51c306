-- `trees::build::Source::write_levels` meets its contract. The invariant is `TreeSo`: the levels up to `level` are written; `round` has what one turn of the loop needs.
use Prim.Native.Nat.{ℕ, suc, ◌+◌, ◌-◌, ◌*◌, ◌^◌, ◌<◌}
use mathlib.Core.Path.{◌≡◌, ap}
use native.Mathlib.Numerals.{add-one}
use native.Mathlib.Omega.{arith}
use lib.ListN.{length, get_or, take, drop, length-take, length-drop}
use Rattle.trees.proofs.TreeWriting.{begun, tree-round, tree-done}
use borrow.Author.Rules.{rules}
use Rattle.trees.proofs.build.Source.write_levels.Goals as goal

pub bounds-levels-0 : goal.bounds-levels-0
bounds-levels-0 c =
    let uuid_long : length c.args.self.now.g.meta_uuid ≡ 16 = search rules in
    let begun-at = begun _ _ _ _ _ _ c.args.self.now.given c.args.self.now.laid c.requires uuid_long in
    begun-at.some_level

pub overflow_sub-level-end : goal.overflow_sub-level-end
overflow_sub-level-end c =
    let uuid_long : length c.args.self.now.g.meta_uuid ≡ 16 = search rules in
    omega (arith, (begun _ _ _ _ _ _ c.args.self.now.given c.args.self.now.laid c.requires uuid_long).some_level)

pub loop-level-init : goal.loop-level-init
loop-level-init c =
    let uuid_long : length c.args.self.now.g.meta_uuid ≡ 16 = search rules in
    let begun-at = begun _ _ _ _ _ _ c.args.self.now.given c.args.self.now.laid c.requires uuid_long in
    begun-at.so

pub overflow_add-end-in-loop-level : goal.overflow_add-end-in-loop-level
overflow_add-end-in-loop-level c =
    let numbers-small : length c.args.numbers.now < 2 ^ 62 = search rules in
    let uuid_long : length c.args.self.now.g.meta_uuid ≡ 16 = search rules in
    let deeper : suc c.loop-level.level < length c.args.self.now.levels.now = omega (arith, c.loop-level-test.true) in
    let round = tree-round _ _ _ _ _ _ c.args.self.now.given c.args.self.now.laid c.requires uuid_long c.loop-level.invariant deeper (ap (λ (x : ℕ). get_or c.args.self.now.levels.now x 0) (add-one c.loop-level.level)) in
    omega (arith, round.blocks-in, numbers-small)

pub overflow_mul-a : goal.overflow_mul-a
overflow_mul-a c =
    let out-small : length c.args.out.now < 2 ^ 63 = search rules in
    let uuid_long : length c.args.self.now.g.meta_uuid ≡ 16 = search rules in
    let deeper : suc c.loop-level.level < length c.args.self.now.levels.now = omega (arith, c.loop-level-test.true) in
    let round = tree-round _ _ _ _ _ _ c.args.self.now.given c.args.self.now.laid c.requires uuid_long c.loop-level.invariant deeper (ap (λ (x : ℕ). get_or c.args.self.now.levels.now x 0) (add-one c.loop-level.level)) in
    omega (arith, round.ahead, round.room, out-small)

pub overflow_mul-e : goal.overflow_mul-e
overflow_mul-e c =
    let out-small : length c.args.out.now < 2 ^ 63 = search rules in
    let uuid_long : length c.args.self.now.g.meta_uuid ≡ 16 = search rules in
    let deeper : suc c.loop-level.level < length c.args.self.now.levels.now = omega (arith, c.loop-level-test.true) in
    let round = tree-round _ _ _ _ _ _ c.args.self.now.given c.args.self.now.laid c.requires uuid_long c.loop-level.invariant deeper (ap (λ (x : ℕ). get_or c.args.self.now.levels.now x 0) (add-one c.loop-level.level)) in
    omega (arith, round.room, out-small)

pub offset_bounds-numbers-low : goal.offset_bounds-numbers-low
offset_bounds-numbers-low c =
    let numbers-small : length c.args.numbers.now < 2 ^ 62 = search rules in
    let uuid_long : length c.args.self.now.g.meta_uuid ≡ 16 = search rules in
    let deeper : suc c.loop-level.level < length c.args.self.now.levels.now = omega (arith, c.loop-level-test.true) in
    let round = tree-round _ _ _ _ _ _ c.args.self.now.given c.args.self.now.laid c.requires uuid_long c.loop-level.invariant deeper (ap (λ (x : ℕ). get_or c.args.self.now.levels.now x 0) (add-one c.loop-level.level)) in
    omega (arith, round.low-in, round.below_in, numbers-small)

pub slice_bounds-write_nodes-count : goal.slice_bounds-write_nodes-count
slice_bounds-write_nodes-count c =
    let uuid_long : length c.args.self.now.g.meta_uuid ≡ 16 = search rules in
    let deeper : suc c.loop-level.level < length c.args.self.now.levels.now = omega (arith, c.loop-level-test.true) in
    let round = tree-round _ _ _ _ _ _ c.args.self.now.given c.args.self.now.laid c.requires uuid_long c.loop-level.invariant deeper (ap (λ (x : ℕ). get_or c.args.self.now.levels.now x 0) (add-one c.loop-level.level)) in
    omega (arith, round.low-in)

pub slice_bounds-write_nodes-start : goal.slice_bounds-write_nodes-start
slice_bounds-write_nodes-start c =
    let uuid_long : length c.args.self.now.g.meta_uuid ≡ 16 = search rules in
    let deeper : suc c.loop-level.level < length c.args.self.now.levels.now = omega (arith, c.loop-level-test.true) in
    let round = tree-round _ _ _ _ _ _ c.args.self.now.given c.args.self.now.laid c.requires uuid_long c.loop-level.invariant deeper (ap (λ (x : ℕ). get_or c.args.self.now.levels.now x 0) (add-one c.loop-level.level)) in
    omega (arith, round.low-in)

pub slice_bounds-write_nodes-end : goal.slice_bounds-write_nodes-end
slice_bounds-write_nodes-end c =
    let uuid_long : length c.args.self.now.g.meta_uuid ≡ 16 = search rules in
    let deeper : suc c.loop-level.level < length c.args.self.now.levels.now = omega (arith, c.loop-level-test.true) in
    let round = tree-round _ _ _ _ _ _ c.args.self.now.given c.args.self.now.laid c.requires uuid_long c.loop-level.invariant deeper (ap (λ (x : ℕ). get_or c.args.self.now.levels.now x 0) (add-one c.loop-level.level)) in
    omega (arith, round.below_in)

pub offset_bounds-numbers-base : goal.offset_bounds-numbers-base
offset_bounds-numbers-base c =
    let numbers-small : length c.args.numbers.now < 2 ^ 62 = search rules in
    let uuid_long : length c.args.self.now.g.meta_uuid ≡ 16 = search rules in
    let deeper : suc c.loop-level.level < length c.args.self.now.levels.now = omega (arith, c.loop-level-test.true) in
    let round = tree-round _ _ _ _ _ _ c.args.self.now.given c.args.self.now.laid c.requires uuid_long c.loop-level.invariant deeper (ap (λ (x : ℕ). get_or c.args.self.now.levels.now x 0) (add-one c.loop-level.level)) in
    omega (arith, round.below_in, numbers-small)

pub slice_bounds-write_nodes-end-in-loop-level : goal.slice_bounds-write_nodes-end-in-loop-level
slice_bounds-write_nodes-end-in-loop-level c =
    let uuid_long : length c.args.self.now.g.meta_uuid ≡ 16 = search rules in
    let deeper : suc c.loop-level.level < length c.args.self.now.levels.now = omega (arith, c.loop-level-test.true) in
    let round = tree-round _ _ _ _ _ _ c.args.self.now.given c.args.self.now.laid c.requires uuid_long c.loop-level.invariant deeper (ap (λ (x : ℕ). get_or c.args.self.now.levels.now x 0) (add-one c.loop-level.level)) in
    omega (arith, round.blocks-in)

pub slice_bounds-write_nodes-count-in-loop-level-2 : goal.slice_bounds-write_nodes-count-in-loop-level-2
slice_bounds-write_nodes-count-in-loop-level-2 c =
    let uuid_long : length c.args.self.now.g.meta_uuid ≡ 16 = search rules in
    let deeper : suc c.loop-level.level < length c.args.self.now.levels.now = omega (arith, c.loop-level-test.true) in
    let round = tree-round _ _ _ _ _ _ c.args.self.now.given c.args.self.now.laid c.requires uuid_long c.loop-level.invariant deeper (ap (λ (x : ℕ). get_or c.args.self.now.levels.now x 0) (add-one c.loop-level.level)) in
    omega (arith, round.ahead)

pub slice_bounds-write_nodes-start-in-loop-level-2 : goal.slice_bounds-write_nodes-start-in-loop-level-2
slice_bounds-write_nodes-start-in-loop-level-2 c =
    let uuid_long : length c.args.self.now.g.meta_uuid ≡ 16 = search rules in
    let deeper : suc c.loop-level.level < length c.args.self.now.levels.now = omega (arith, c.loop-level-test.true) in
    let round = tree-round _ _ _ _ _ _ c.args.self.now.given c.args.self.now.laid c.requires uuid_long c.loop-level.invariant deeper (ap (λ (x : ℕ). get_or c.args.self.now.levels.now x 0) (add-one c.loop-level.level)) in
    omega (arith, round.ahead)

pub slice_bounds-write_nodes-end-in-loop-level-2 : goal.slice_bounds-write_nodes-end-in-loop-level-2
slice_bounds-write_nodes-end-in-loop-level-2 c =
    let uuid_long : length c.args.self.now.g.meta_uuid ≡ 16 = search rules in
    let deeper : suc c.loop-level.level < length c.args.self.now.levels.now = omega (arith, c.loop-level-test.true) in
    let round = tree-round _ _ _ _ _ _ c.args.self.now.given c.args.self.now.laid c.requires uuid_long c.loop-level.invariant deeper (ap (λ (x : ℕ). get_or c.args.self.now.levels.now x 0) (add-one c.loop-level.level)) in
    omega (arith, round.room, c.loop-level.invariant.written.long)

pub write_nodes-requires : goal.write_nodes-requires
write_nodes-requires c =
    let uuid_long : length c.args.self.now.g.meta_uuid ≡ 16 = search rules in
    let deeper : suc c.loop-level.level < length c.args.self.now.levels.now = omega (arith, c.loop-level-test.true) in
    let round = tree-round _ _ _ _ _ _ c.args.self.now.given c.args.self.now.laid c.requires uuid_long c.loop-level.invariant deeper (ap (λ (x : ℕ). get_or c.args.self.now.levels.now x 0) (add-one c.loop-level.level)) in
    round.nodes-for _ (simp (length-take, length-drop) (omega (arith, round.ahead, round.room, c.loop-level.invariant.written.long)))

pub loop-level-preserved : goal.loop-level-preserved
loop-level-preserved c =
    let uuid_long : length c.args.self.now.g.meta_uuid ≡ 16 = search rules in
    let deeper : suc c.loop-level.level < length c.args.self.now.levels.now = omega (arith, c.loop-level-test.true) in
    let round = tree-round _ _ _ _ _ _ c.args.self.now.given c.args.self.now.laid c.requires uuid_long c.loop-level.invariant deeper (ap (λ (x : ℕ). get_or c.args.self.now.levels.now x 0) (add-one c.loop-level.level)) in
    let l = c.loop-level in
    let r = round in
    let size = c.args.self.now.g.blocksize in
    let end = l.base + get_or c.args.self.now.levels.now (l.level + 1) 0 in
    r.next (take (end * size - l.base * size) (drop (l.base * size) l.out)) _ (simp (length-take, length-drop) (omega (arith, r.ahead, r.room, l.invariant.written.long))) c.write_nodes.ensures

pub returns : goal.returns
returns c =
    let uuid_long : length c.args.self.now.g.meta_uuid ≡ 16 = search rules in
    let begun-at = begun _ _ _ _ _ _ c.args.self.now.given c.args.self.now.laid c.requires uuid_long in
    let a = c.args in
    let l = c.loop-level in
    tree-done a.self.now.g a.self.now.kind a.self.now.list.now a.self.now.levels.now a.numbers.now a.out.now l.out l.level l.low l.base begun-at.room l.invariant (omega (arith, c.loop-level-test.false))
