-- `blocks::stamp::stamp_plain` meets its contract: writes, one after the other, are one.
use mathlib.Core.Path.{refl}
use mathlib.Core.List.{◌++◌}
use native.Mathlib.Omega.{arith}
use Rattle.codec.specs.Bytes.{be_bytes}
use Rattle.blocks.proofs.Heads.{with_bytes-two}
use Rattle.blocks.specs.Offsets.{magic_at, level_at, numrecs_at, left_sibling_at}
use Rattle.blocks.specs.Stamp.{siblings}
use Rattle.blocks.proofs.stamp.stamp_plain.Goals as goal

pub returns : goal.returns
unfolding be_bytes
returns c =
    let a = c.args in
    let b = a.b.now in
    let m = be_bytes 4 c.magic.result in
    let l = be_bytes 2 a.level in
    let n = be_bytes 2 a.numrecs in
    let two = with_bytes-two b magic_at m l _ _ level_at c.put_be32.ensures c.put_be16.ensures refl (omega arith) in
    let three = with_bytes-two b magic_at (m ++ l) n _ _ numrecs_at two c.put_be16-2.ensures refl (omega arith) in
    rw (← c.magic.ensures) (with_bytes-two b magic_at (m ++ l ++ n) (siblings a.left.0 a.right.0) _ _ left_sibling_at three c.stamp_siblings.ensures refl (omega arith))
