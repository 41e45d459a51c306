-- `plan_text::text::put_line` meets its contract.
use native.Mathlib.Omega.{arith}
use Rattle.plan_text.proofs.TextLaws.{digits-room, length-line, line-done}
use Rattle.plan_text.proofs.text.put_line.Goals as goal

pub put_decimal-k-requires : goal.put_decimal-k-requires
put_decimal-k-requires c =
    let d = digits-room c.args.n c.ranges.n.fits in
    omega (arith, c.requires, c.copy.auto.dst)

pub bounds-out-k : goal.bounds-out-k
bounds-out-k c =
    let d = digits-room c.args.n c.ranges.n.fits in
    omega (arith, c.requires, c.put_decimal-k.ensures.value, c.put_decimal-k.auto.out, c.copy.auto.dst)

pub overflow_add-result : goal.overflow_add-result
overflow_add-result c =
    let d = digits-room c.args.n c.ranges.n.fits in
    omega (arith, c.requires, c.put_decimal-k.ensures.value)

pub returns : goal.returns
returns c =
    let a = c.args in
    let d = digits-room a.n c.ranges.n.fits in
    let p = c.put_decimal-k in
    let n = length-line a.word.now a.n in record { value = (omega (arith, p.ensures.value), omega (arith, p.ensures.value)); out_after = line-done a.out.now a.word.now a.at a.n (omega (arith, c.requires)) _ _ _ c.copy.ensures p.ensures.out_after p.ensures.value }
