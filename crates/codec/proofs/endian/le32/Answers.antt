-- `codec::endian::le32` meets its contract.
use Rattle.codec.proofs.NumberBytes.{low_read-4}
use Rattle.codec.proofs.endian.le32.Goals as goal

pub returns : goal.returns
returns c =
    let a = c.args in
    low_read-4 a.b.now a.off (λ i. (c.type_inv.b i).fits) _ _ c.requires c.array_at.ensures c.from_le_bytes.type_inv c.from_le_bytes.ensures
