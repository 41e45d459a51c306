use native.Mathlib.Omega.{arith}
use mathlib.Core.Path.{sym}
use mathlib.Core.List.{[]}
use lib.ListN.{length}
use Rattle.codec.proofs.Parts.{with_bytes-one}
use Rattle.walks.proofs.WalkLaws.{step-full, step-no-room, step-next}
use Rattle.walks.proofs.visit.enter.Goals as goal
use Rattle.walks.proofs.visit.enter.Goals.{then-places-visits-via-then-places-visits, then-places-visits-via-else-places-visits+then-out-at}

pub returns-then-places-visits-clause-result_value :
    goal.returns-then-places-visits-clause-result_value
returns-then-places-visits-clause-result_value c =
    let a = c.args in
    rw c.stop.ensures
    (elim c.then-places-visits.branch [
      | then-places-visits-via-then-places-visits w ↦ sym (step-full a.places (length a.out.now) a.c [] a.bytes.now w.if-places-visits.true)
      | then-places-visits-via-else-places-visits+then-out-at w ↦ sym (step-no-room a.places (length a.out.now) a.c [] a.bytes.now w.if-out-at.true)
    ])

pub returns-clause-result_value : goal.returns-clause-result_value
returns-clause-result_value c =
    let a = c.args in
    sym (step-next a.places (length a.out.now) a.c [] a.bytes.now c.if-places-visits.false c.if-out-at.false)

pub returns-clause-scratch_after : goal.returns-clause-scratch_after
returns-clause-scratch_after c =
    let a = c.args in
    (with_bytes-one a.scratch.now a.c.visits a.place (omega arith), c.copy.ensures)
