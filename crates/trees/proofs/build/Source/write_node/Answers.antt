-- `trees::build::Source::write_node` meets its contract.
use Prim.Native.Nat.{ℕ, ◌+◌, ◌-◌, ◌*◌, ◌/◌, ◌≤◌}
use mathlib.Core.Path.{◌≡◌, ap, ◌∙◌}
use mathlib.Core.List.{List}
use native.Mathlib.Omega.{arith}
use lib.ListN.{length, length-replicate}
use Rattle.codec.specs.Bytes.{with_bytes}
use Rattle.blocks.specs.Stamp.{stamped}
use Rattle.blocks.proofs.Laws.{blocksize-within}
use Rattle.trees.specs.Build.{keys_of}
use Rattle.trees.specs.BuildCall.{keys_under}
use Rattle.trees.specs.Inner.BuildNeeds.{level_children, pointer_bytes}
use Rattle.trees.proofs.TreeKinds.{header-within}
use Rattle.trees.proofs.NodesWriting.{node-room}
use Rattle.trees.proofs.build.Source.write_node.Goals as goal

-- a write at the same place
moved : (x y bs : List ℕ) (at far : ℕ) → y ≡ with_bytes x at bs → at ≡ far → y ≡ with_bytes x far bs
moved x y bs at far e h = e ∙ ap (λ (k : ℕ). with_bytes x k bs) h

pub overflow_sub-most : goal.overflow_sub-most
overflow_sub-most c =
    let header-in : c.header_len-head.result ≤ c.args.self.now.g.blocksize = omega (arith, c.header_len-head.ensures, header-within c.args.self.now.g c.args.self.now.kind c.args.self.now.given.ok c.args.self.now.given.tree, (blocksize-within c.args.self.now.g c.args.self.now.given.ok).0) in
    omega (arith, header-in)

pub put_all_keys-requires : goal.put_all_keys-requires
put_all_keys-requires c =
    let room = node-room _ _ _ _ _ _ _ _ c.args.self.now.given c.requires c.header_len-head.ensures c.entry_len.ensures c.keys_len-keys.ensures in
    let r = room in
    (c.requires.children, omega (arith, r.keys_in, c.requires.long, ap length (c.fill.ensures.after (λ y e. e)), length-replicate {A = ℕ} (length c.args.b.now) 0))

pub overflow_mul-most : goal.overflow_mul-most
overflow_mul-most c =
    let room = node-room _ _ _ _ _ _ _ _ c.args.self.now.given c.requires c.header_len-head.ensures c.entry_len.ensures c.keys_len-keys.ensures in
    omega (arith, room.room_in)

pub overflow_add-head : goal.overflow_add-head
overflow_add-head c =
    let room = node-room _ _ _ _ _ _ _ _ c.args.self.now.given c.requires c.header_len-head.ensures c.entry_len.ensures c.keys_len-keys.ensures in
    omega (arith, room.pointers-in)

pub put_pointers-requires : goal.put_pointers-requires
put_pointers-requires c =
    let room = node-room _ _ _ _ _ _ _ _ c.args.self.now.given c.requires c.header_len-head.ensures c.entry_len.ensures c.keys_len-keys.ensures in
    omega (arith, room.pointers-in, c.requires.long)

pub overflow_cast-count : goal.overflow_cast-count
overflow_cast-count c =
    let room = node-room _ _ _ _ _ _ _ _ c.args.self.now.given c.requires c.header_len-head.ensures c.entry_len.ensures c.keys_len-keys.ensures in
    omega (arith, room.small)

pub stamp_at-requires : goal.stamp_at-requires
stamp_at-requires c =
    let room = node-room _ _ _ _ _ _ _ _ c.args.self.now.given c.requires c.header_len-head.ensures c.entry_len.ensures c.keys_len-keys.ensures in
    omega (arith, room.header, c.requires.long)

pub returns : goal.returns
returns c =
    let room = node-room _ _ _ _ _ _ _ _ c.args.self.now.given c.requires c.header_len-head.ensures c.entry_len.ensures c.keys_len-keys.ensures in
    let a = c.args in
    let h = c.header_len-head in
    let far = h.result + (a.self.now.g.blocksize - h.result) / c.entry_len.result * c.keys_len-keys.result in
    let cs = level_children a.self.now.kind a.self.now.list.now a.self.now.levels.now a.level a.child a.below.now in
    c.stamp_at.ensures
    ∙ ap (stamped a.self.now.g a.self.now.kind a.place.number (a.level + 1) (length a.below.now) a.place.left a.place.right)
    (moved _ _ (pointer_bytes a.below.now) _ far c.put_pointers.ensures (omega arith)
    ∙ ap (λ (x : List ℕ). with_bytes x far (pointer_bytes a.below.now))
    (c.put_all_keys.ensures ∙ ap (λ (x : List ℕ). with_bytes x h.result (keys_of (keys_under a.self.now.kind) cs)) (c.fill.ensures.after (λ y e. e))))
    ∙ room.made a.place.number (record { left = a.place.left; right = a.place.right })
