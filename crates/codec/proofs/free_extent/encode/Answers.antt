-- `codec::free_extent::encode` meets its contract: the fields are written one after another.
use native.Mathlib.Nat.{add-zero}
use native.Mathlib.Omega.{arith}
use Rattle.codec.specs.Records.{extent_widths, extent_fields}
use Rattle.codec.proofs.FieldLists.{fields-write}
use Rattle.codec.proofs.free_extent.encode.Goals as goal

pub returns : goal.returns
returns c =
    let a = c.args in
    cc (fields-write extent_widths (extent_fields a.e) a.buf.now a.at 0 (omega (arith, c.requires)), add-zero a.at)
