-- `lists::write::write_splice` meets its contract.
use native.Mathlib.Omega.{arith}
use Rattle.lists.proofs.Writing.{sizes, between-size, wrote-splice}
use Rattle.lists.proofs.write.write_splice.Goals as goal

pub copy_records-a-requires : goal.copy_records-a-requires
copy_records-a-requires c =
    let a = c.args in
    let z = sizes a.old.now a.p c.requires.splice_good in
    let n = between-size a.old.now 0 a.p.front (omega arith) z.front in
    record { a_le_b = (omega arith, z.front); size_in_bounds = omega (arith, z.size, c.requires.size_in_bounds) }

pub put_part-b-requires : goal.put_part-b-requires
put_part-b-requires c =
    let a = c.args in
    let z = sizes a.old.now a.p c.requires.splice_good in
    let n = between-size a.old.now 0 a.p.front (omega arith) z.front in
    record { from_le_to = z.first; p_in_bounds = omega (arith, z.size, c.requires.size_in_bounds, c.copy_records-a.ensures.next, c.copy_records-a.auto.new) }

pub put_part-c-requires : goal.put_part-c-requires
put_part-c-requires c =
    let a = c.args in
    let z = sizes a.old.now a.p c.requires.splice_good in
    let n = between-size a.old.now 0 a.p.front (omega arith) z.front in
    record { from_le_to = z.second; p_in_bounds = omega (arith, z.size, c.requires.size_in_bounds, c.copy_records-a.ensures.next, c.copy_records-a.auto.new, c.put_part-b.ensures.next, c.put_part-b.auto.new) }

pub copy_records-requires : goal.copy_records-requires
copy_records-requires c =
    let a = c.args in
    let z = sizes a.old.now a.p c.requires.splice_good in
    let n = between-size a.old.now 0 a.p.front (omega arith) z.front in
    record { a_le_b = (z.rest, omega arith); size_in_bounds = omega (arith, z.size, c.requires.size_in_bounds, c.copy_records-a.ensures.next, c.copy_records-a.auto.new, c.put_part-b.ensures.next, c.put_part-b.auto.new, c.put_part-c.ensures.next, c.put_part-c.auto.new) }

pub returns : goal.returns
returns c = wrote-splice c.args.old.now c.args.p _ _ _ _ _ _ _ _ _ c.requires.splice_good c.requires.size_in_bounds c.copy_records-a.ensures c.put_part-b.ensures c.put_part-c.ensures c.copy_records.ensures
