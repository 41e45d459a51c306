-- `sheets::block::good_header` meets its contract.
use native.Mathlib.Omega.{arith}
use Rattle.std.proofs.lemmas.Bool.Decides.{nat_tests}
use Rattle.codec.proofs.Stores.{bytes_at-is}
use Rattle.sheets.specs.Sheet.{good_header}
use Rattle.sheets.proofs.Deciding.{mark-at}
use Rattle.sheets.proofs.block.good_header.Goals as goal
use Rattle.sheets.proofs.block.good_header.Goals.{then-be32-place, else-be32-place, then-good_count, else-good_count}

pub returns-then-b-mark : goal.returns-then-b-mark
unfolding good_header
returns-then-b-mark c =
    let m = mark-at c.args.b.now (omega arith) in
    let z = bytes_at-is c.args.b.now 11 21 in
    grind (arith, nat_tests, m, z)

pub returns-else-b-mark : goal.returns-else-b-mark
unfolding good_header
returns-else-b-mark c =
    let m = mark-at c.args.b.now (omega arith) in
    elim c.if-be32-place.branch [
      | then-be32-place v ↦ elim c.if-good_count.branch [ then-good_count w ↦ grind (arith, nat_tests, m) | else-good_count w ↦ grind (arith, nat_tests, m) ]
      | else-be32-place v ↦ elim c.if-good_count.branch [ then-good_count w ↦ grind (arith, nat_tests, m) | else-good_count w ↦ grind (arith, nat_tests, m) ]
    ]
