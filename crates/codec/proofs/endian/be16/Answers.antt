-- `codec::endian::be16` meets its contract.
use Rattle.codec.proofs.NumberBytes.{read-2}
use Rattle.codec.proofs.endian.be16.Goals as goal

pub returns : goal.returns
returns c =
    let a = c.args in
    read-2 a.b.now a.off (λ i. (c.type_inv.b i).fits) _ _ c.requires c.array_at.ensures c.from_be_bytes.type_inv c.from_be_bytes.ensures
