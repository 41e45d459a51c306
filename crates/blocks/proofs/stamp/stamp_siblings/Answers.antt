-- `blocks::stamp::stamp_siblings` meets its contract: two writes, one after the other, are one.
use mathlib.Core.Path.{refl}
use native.Mathlib.Omega.{arith}
use Rattle.codec.specs.Bytes.{be_bytes}
use Rattle.blocks.specs.Offsets.{left_sibling_at, right_sibling_at}
use Rattle.blocks.proofs.Heads.{with_bytes-two}
use Rattle.blocks.proofs.stamp.stamp_siblings.Goals as goal

pub returns : goal.returns
unfolding be_bytes
returns c =
    let a = c.args in
    with_bytes-two a.b.now left_sibling_at (be_bytes 4 a.left.0) (be_bytes 4 a.right.0) _ _ right_sibling_at c.put_be32.ensures c.put_be32-2.ensures refl (omega arith)
