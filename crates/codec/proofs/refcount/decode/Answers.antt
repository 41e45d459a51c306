-- `codec::refcount::decode` meets its contract: each field is read where it lies.
use mathlib.Core.Path.{ap}
use native.Mathlib.Nat.{add-zero}
use native.Mathlib.Omega.{arith}
use Rattle.codec.specs.Records.{refcounts, refcount_widths, refcount_from}
use Rattle.codec.proofs.FieldLists.{fields_read}
use Rattle.codec.proofs.refcount.decode.Goals as goal

pub returns : goal.returns
returns c =
    let a = c.args in
    cc (ap refcount_from (fields_read refcount_widths a.buf.now a.at refcounts.size 0 (omega arith)), add-zero a.at)
