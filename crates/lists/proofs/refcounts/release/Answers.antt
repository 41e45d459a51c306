-- `lists::refcounts::release` meets its contract, exit by exit.
use Rattle.std.proofs.lemmas.Result.{err_from_is_err_and}
use Rattle.lists.proofs.Releasing.{tells-refused, writable, tells-short, tells-short-free, tells-done}
use Rattle.lists.proofs.refcounts.release.Goals as goal
use Rattle.lists.proofs.refcounts.release.Goals.{then-new-lengths-via-then-new-lengths, then-new-lengths-via-else-new-lengths+then-free-lengths}

pub returns-in_err-lengths : goal.returns-in_err-lengths
returns-in_err-lengths c = let x = c.args in
    let p = err_from_is_err_and c.from_residual.result c.from_residual.ensures.1 in
    rw (p.1, p.2) (tells-refused x.counts.now x.startblock x.blockcount x.new.now x.free.now _ c.in_err-lengths.ensures)

pub returns-then-new-lengths : goal.returns-then-new-lengths
returns-then-new-lengths c = let x = c.args in
    let e = c.in_ok-lengths.ensures in
    elim c.then-new-lengths.branch [
      | then-new-lengths-via-then-new-lengths w ↦ tells-short x.counts.now x.startblock x.blockcount x.new.now x.free.now _ e w.if-new-lengths.true
      | then-new-lengths-via-else-new-lengths+then-free-lengths w ↦ tells-short-free x.counts.now x.startblock x.blockcount x.new.now x.free.now _ e w.if-free-lengths.true
    ]

pub write-requires : goal.write-requires
write-requires c = let x = c.args in
    writable x.counts.now x.startblock x.blockcount x.new.now x.free.now _ c.in_ok-lengths.ensures c.if-new-lengths.false c.if-free-lengths.false

pub returns : goal.returns
returns c = let x = c.args in
    let w = c.write.ensures in
    tells-done x.counts.now x.startblock x.blockcount x.new.now x.free.now _ c.in_ok-lengths.ensures c.if-new-lengths.false c.if-free-lengths.false _ _ w.counts w.extents
