-- `codec::endian::put_le32` meets its contract.
use Rattle.codec.proofs.NumberBytes.{low_first-4}
use Rattle.codec.proofs.endian.put_le32.Goals as goal

pub returns : goal.returns
returns c = cc (low_first-4 c.args.v)
