-- `walks::tree::TreeImage::fan` meets its contract.
use mathlib.Core.Path.{ap, ◌∙◌}
use native.Mathlib.Omega.{arith}
use Rattle.codec.specs.Bytes.{be_of}
use Rattle.blocks.proofs.Laws.{blocksize-within}
use Rattle.walks.proofs.PathLaws.{in_block, field}
use Rattle.walks.proofs.tree.TreeImage.fan.Goals as goal

pub be16-requires : goal.be16-requires
be16-requires c = let t = c.args.self.now in omega (arith, in_block t.image.now c.args.block t.g.blocksize, (blocksize-within t.g t.good).0)

pub returns : goal.returns
returns c =
    let t = c.args.self.now in
    c.be16.ensures ∙ ap be_of (field t.image.now c.args.block t.g.blocksize 6 2 (omega (arith, (blocksize-within t.g t.good).0)))
