-- `lists::unchanged::skip` meets its contract.
use native.Mathlib.Omega.{arith}
use lib.ListN.{length}
use Rattle.codec.specs.Bytes.{IsBytes}
use Rattle.lists.specs.Inner.Passes.{writes_counts}
use Rattle.lists.proofs.CountJoins.{room-pending}
use Rattle.lists.proofs.Staying.{skipped-some}
use Rattle.lists.proofs.unchanged.skip.Goals as goal

pub finish-at-requires-clause-room : goal.finish-at-requires-clause-room
finish-at-requires-clause-room c = let a = c.args in
    let p = c.requires in
    room-pending (writes_counts a.pass) a.w.joiner (length a.new.now) (λ u. omega (arith, p.room u (omega arith)))

pub returns : goal.returns
returns c = let a = c.args in
    let p = c.requires in
    let f = c.finish-at in
    let d = c.decode-r in
    let bytes : IsBytes a.counts.now = λ i. (c.type_inv.counts i).fits in
    skipped-some (writes_counts a.pass) a.w a.counts.now a.i a.j a.new.now _ _ d.result f.result _ c.max.result bytes (omega arith) p.inside (omega arith) (λ u. omega (arith, p.room u (omega arith)))
    d.ensures f.ensures.value f.ensures.after c.put_counts.ensures c.max.ensures
