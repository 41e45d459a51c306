-- `codec::endian::put_array` meets its contract: the part that was lent holds the bytes.
use native.Mathlib.Omega.{arith}
use Rattle.codec.proofs.Stores.{part-put}
use Rattle.codec.proofs.endian.put_array.Goals as goal

pub returns : goal.returns
returns g c =
    let a = c.args in
    part-put a.b.now _ a.bytes.now a.off _ c.copy_from_slice.ensures.after (omega arith)
