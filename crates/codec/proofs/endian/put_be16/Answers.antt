-- `codec::endian::put_be16` meets its contract.
use mathlib.Core.Path.{ap, ◌∙◌}
use Rattle.codec.specs.Bytes.{with_bytes}
use Rattle.codec.proofs.NumberBytes.{high_first}
use Rattle.codec.proofs.endian.put_be16.Goals as goal

pub returns : goal.returns
returns c =
    let a = c.args in
    c.put_array.ensures ∙ ap (with_bytes a.b.now a.off) (c.to_be_bytes.ensures ∙ high_first 2 a.v)
