use Rattle.std.proofs.Common.{arith, sym, ◌∙◌, ap, ℕ, List, ◌<◌, ◌≤◌, ◌+◌, length, drop}
use Rattle.show.specs.Images.{with_pointers}
use Rattle.show.proofs.Storing.{pointers-none, pointers-short, pointers-next}
use Rattle.show.proofs.images.put_pointers.Goals as goal
use Rattle.show.proofs.images.put_pointers.Goals.{then-node-at-via-then-node-at, then-node-at-via-else-node-at+then-node-at-lt4}

pub returns-then-node-at : goal.returns-then-node-at
returns-then-node-at c =
    let l = c.loop-pointer in
    let short : length l.node < l.at + 4 =
    elim c.then-node-at.branch [ then-node-at-via-then-node-at w ↦ omega arith | then-node-at-via-else-node-at+then-node-at-lt4 w ↦ omega arith ] in
    sym (pointers-short l.node l.at _ short) ∙ l.invariant

pub loop-pointer-preserved : goal.loop-pointer-preserved
loop-pointer-preserved c =
    let l = c.loop-pointer in
    let pointers = c.args.pointers.now in
    let more : l.pointer-index < length pointers = omega arith in
    let room : l.at + 4 ≤ length l.node = omega arith in
    ap (λ (node : List ℕ). with_pointers node (l.at + 4) (drop (l.pointer-index + 1) pointers)) c.put_be32.ensures
    ∙ sym (pointers-next l.node l.at pointers l.pointer-index more room)
    ∙ l.invariant

pub returns : goal.returns
returns c =
    let l = c.loop-pointer in
    sym (pointers-none l.node l.at c.args.pointers.now l.pointer-index (omega arith)) ∙ l.invariant
