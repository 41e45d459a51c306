-- `codec::rmap::encode` meets its contract: the fields are written one after another.
use native.Mathlib.Nat.{add-zero}
use native.Mathlib.Omega.{arith}
use Rattle.codec.specs.Records.{rmap_widths, rmap_fields}
use Rattle.codec.proofs.FieldLists.{fields-write}
use Rattle.codec.proofs.rmap.encode.Goals as goal

pub returns : goal.returns
returns c =
    let a = c.args in
    cc (fields-write rmap_widths (rmap_fields a.r) a.buf.now a.at 0 (omega (arith, c.requires)), add-zero a.at)
