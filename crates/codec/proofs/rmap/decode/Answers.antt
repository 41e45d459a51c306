-- `codec::rmap::decode` meets its contract: each field is read where it lies.
use mathlib.Core.Path.{ap}
use native.Mathlib.Nat.{add-zero}
use native.Mathlib.Omega.{arith}
use Rattle.codec.specs.Records.{rmaps, rmap_widths, rmap_from}
use Rattle.codec.proofs.FieldLists.{fields_read}
use Rattle.codec.proofs.rmap.decode.Goals as goal

pub returns : goal.returns
returns c =
    let a = c.args in
    cc (ap rmap_from (fields_read rmap_widths a.buf.now a.at rmaps.size 0 (omega arith)), add-zero a.at)
