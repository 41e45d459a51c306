-- `codec::free_extent::decode` meets its contract: each field is read where it lies.
use mathlib.Core.Path.{ap}
use native.Mathlib.Nat.{add-zero}
use native.Mathlib.Omega.{arith}
use Rattle.codec.specs.Records.{free_extents, extent_widths, extent_from}
use Rattle.codec.proofs.FieldLists.{fields_read}
use Rattle.codec.proofs.free_extent.decode.Goals as goal

pub returns : goal.returns
returns c =
    let a = c.args in
    cc (ap extent_from (fields_read extent_widths a.buf.now a.at free_extents.size 0 (omega arith)), add-zero a.at)
