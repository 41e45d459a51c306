-- `lookup::children::Search::kept` meets its contract.
use Rattle.std.proofs.Common.{◌≡◌, ℕ, ◌+◌, ◌*◌, List, ap, ◌∙◌, ap₂, arith}
use Rattle.codec.specs.Bytes.{bytes_at, be_of}
use Rattle.blocks.specs.declared.kind.TreeKind.TheVariants as kind
use Rattle.blocks.specs.Tree.{header_len}
use Rattle.walks.specs.Walk.{block_in}
use Rattle.walks.proofs.PathLaws.{in_block, field, small}
use Rattle.lookup.specs.Lookup.{any_between}
use Rattle.lookup.proofs.ChildLaws.{keys-at}
use Rattle.lookup.proofs.children.Search.kept.Goals as goal

pub overflow_mul-from : goal.overflow_mul-from
overflow_mul-from c =
    let inside = keys-at c.args.self.now.tree.g c.args.self.now.tree.good c.requires.1 c.header_len.ensures c.keys_len.ensures in
    omega (arith, inside, small c.args.self.now.tree.g kind.Rmap c.args.self.now.tree.good c.args.block c.ranges.block.fits)

pub overflow_add-from : goal.overflow_add-from
overflow_add-from c =
    let inside = keys-at c.args.self.now.tree.g c.args.self.now.tree.good c.requires.1 c.header_len.ensures c.keys_len.ensures in
    omega (arith, inside, small c.args.self.now.tree.g kind.Rmap c.args.self.now.tree.good c.args.block c.ranges.block.fits)

pub overflow_add-at : goal.overflow_add-at
overflow_add-at c =
    let inside = keys-at c.args.self.now.tree.g c.args.self.now.tree.good c.requires.1 c.header_len.ensures c.keys_len.ensures in
    omega (arith, inside, small c.args.self.now.tree.g kind.Rmap c.args.self.now.tree.good c.args.block c.ranges.block.fits)

pub be32-low-requires : goal.be32-low-requires
be32-low-requires c =
    let inside = keys-at c.args.self.now.tree.g c.args.self.now.tree.good c.requires.1 c.header_len.ensures c.keys_len.ensures in
    omega (arith, inside, c.requires.0, in_block c.args.self.now.tree.image.now c.args.block c.args.self.now.tree.g.blocksize)

pub overflow_add-from-2 : goal.overflow_add-from-2
overflow_add-from-2 c =
    let inside = keys-at c.args.self.now.tree.g c.args.self.now.tree.good c.requires.1 c.header_len.ensures c.keys_len.ensures in
    omega (arith, inside, small c.args.self.now.tree.g kind.Rmap c.args.self.now.tree.good c.args.block c.ranges.block.fits)

pub overflow_add-at-2 : goal.overflow_add-at-2
overflow_add-at-2 c =
    let inside = keys-at c.args.self.now.tree.g c.args.self.now.tree.good c.requires.1 c.header_len.ensures c.keys_len.ensures in
    omega (arith, inside, small c.args.self.now.tree.g kind.Rmap c.args.self.now.tree.good c.args.block c.ranges.block.fits)

pub be32-high-requires : goal.be32-high-requires
be32-high-requires c =
    let inside = keys-at c.args.self.now.tree.g c.args.self.now.tree.good c.requires.1 c.header_len.ensures c.keys_len.ensures in
    omega (arith, inside, c.requires.0, in_block c.args.self.now.tree.image.now c.args.block c.args.self.now.tree.g.blocksize)

pub returns : goal.returns
returns c =
    let from_is : (let a = c.args in c.header_len.result + a.i * c.keys_len.result ≡ header_len a.self.now.tree.g.version + a.i * 40) = rw (c.header_len.ensures, c.keys_len.ensures) in
    let inside = keys-at c.args.self.now.tree.g c.args.self.now.tree.good c.requires.1 c.header_len.ensures c.keys_len.ensures in
    let a = c.args in
    let part : List ℕ = block_in a.self.now.tree.g.blocksize a.self.now.tree.image.now a.block in
    let size : ℕ = a.self.now.tree.g.blocksize in
    let low = c.be32-low.ensures ∙ ap be_of (field a.self.now.tree.image.now a.block size _ 4 (omega (arith, inside))) ∙ ap (λ (x : ℕ). be_of (bytes_at part x 4)) (from_is) in
    let high =
    c.be32-high.ensures ∙ ap be_of (field a.self.now.tree.image.now a.block size _ 4 (omega (arith, inside))) ∙ ap (λ (x : ℕ). be_of (bytes_at part (x + 20) 4)) (from_is) in
    c.any_between.ensures ∙ ap₂ (any_between a.self.now.asked.numbers.now) low high
