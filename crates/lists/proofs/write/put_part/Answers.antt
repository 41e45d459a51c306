-- `lists::write::put_part` meets its contract.
use native.Mathlib.Omega.{arith}
use Rattle.codec.specs.Records.{records_of, rmaps}
use Rattle.lists.specs.Splice.{between, piece_of}
use Rattle.lists.proofs.Writing.{bytes-append, between-size, wrote_then}
use Rattle.lists.proofs.write.put_part.Goals as goal

pub put_piece-next-requires : goal.put_piece-next-requires
put_piece-next-requires c =
    let a = c.args in
    omega (arith, bytes-append (piece_of a.p.rmap) (between (records_of rmaps a.old.now) a.p.from a.p.to), c.requires.p_in_bounds)

pub copy_records-requires-clause-size_in_bounds : goal.copy_records-requires-clause-size_in_bounds
copy_records-requires-clause-size_in_bounds c =
    let a = c.args in
    let p = c.requires in
    let n = between-size a.old.now a.p.from a.p.to p.from_le_to.0 p.from_le_to.1 in
    let s = bytes-append (piece_of a.p.rmap) (between (records_of rmaps a.old.now) a.p.from a.p.to) in
    omega (arith, p.p_in_bounds, c.put_piece-next.ensures.next, c.put_piece-next.auto.new)

pub returns : goal.returns
returns c =
    let a = c.args in
    let s = bytes-append (piece_of a.p.rmap) (between (records_of rmaps a.old.now) a.p.from a.p.to) in
    wrote_then _ _ _ _ _ _ (piece_of a.p.rmap) (between (records_of rmaps a.old.now) a.p.from a.p.to) (omega (arith, c.requires.p_in_bounds)) c.put_piece-next.ensures c.copy_records.ensures
