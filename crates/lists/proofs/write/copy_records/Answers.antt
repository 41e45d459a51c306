-- `lists::write::copy_records` meets its contract.
use mathlib.Core.Path.{refl}
use Rattle.codec.specs.Bytes.{IsBytes}
use Rattle.lists.proofs.Writing.{wrote-between}
use Rattle.lists.proofs.write.copy_records.Goals as goal

pub returns : goal.returns
returns c =
    let a = c.args in
    let p = c.requires in
    let bytes : IsBytes a.old.now = λ i. (c.type_inv.old i).fits in
    wrote-between a.new.now _ a.old.now a.at a.a a.b _ p.a_le_b.0 p.a_le_b.1 refl c.copy.ensures bytes
