-- `plan_text::text::put_level` meets its contract.
use native.Mathlib.Omega.{arith}
use Rattle.plan_text.proofs.TextLaws.{digits-room, level-room, length-level, level-done}
use Rattle.plan_text.proofs.text.put_level.Goals as goal

pub put_decimal-k-requires : goal.put_decimal-k-requires
put_decimal-k-requires c =
    let d = digits-room c.args.level c.ranges.level.fits in
    omega (arith, c.requires, c.copy.auto.dst)

pub put_line-requires : goal.put_line-requires
put_line-requires c =
    let d = digits-room c.args.level c.ranges.level.fits in
    omega (arith, c.requires, c.put_decimal-k.ensures.value, c.put_decimal-k.auto.out, c.copy.auto.dst)

pub returns : goal.returns
returns c =
    let a = c.args in
    let room = level-room a.level a.blocks c.ranges.level.fits c.ranges.blocks.fits in
    let n = length-level a.level a.blocks in
    let p = c.put_decimal-k in
    let q = c.put_line in record { value = (omega (arith, p.ensures.value, q.ensures.value.0), omega (arith, p.ensures.value, q.ensures.value.0)); out_after = level-done a.out.now a.at a.level a.blocks (omega (arith, c.requires)) _ _ _ _ c.copy.ensures p.ensures.out_after p.ensures.value q.ensures.out_after }
