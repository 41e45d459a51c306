-- `codec::endian::be64` meets its contract.
use Rattle.codec.proofs.NumberBytes.{read-8}
use Rattle.codec.proofs.endian.be64.Goals as goal

pub returns : goal.returns
returns c =
    let a = c.args in
    read-8 a.b.now a.off (λ i. (c.type_inv.b i).fits) _ _ c.requires c.array_at.ensures c.from_be_bytes.type_inv c.from_be_bytes.ensures
