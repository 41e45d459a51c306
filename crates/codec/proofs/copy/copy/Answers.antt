-- `codec::copy::copy` meets its contract.
use borrow.Author.Rules.{rules}
use native.Mathlib.Omega.{arith}
use mathlib.Core.Path.{refl, sym, ◌∙◌}
use Prim.Native.Nat.{◌+◌, ◌<◌}
use lib.ListN.{length, get_or, length-set}
use Rattle.codec.proofs.Stores.{with_bytes-none, copy_more, copy_done}
use Rattle.codec.proofs.copy.copy.Goals as goal

pub loop-i-init : goal.loop-i-init
loop-i-init c = (search rules, refl, sym (with_bytes-none c.args.dst.now c.args.at))

pub loop-i-preserved : goal.loop-i-preserved
loop-i-preserved c =
    let a = c.args in
    let l = c.loop-i in
    let at = a.at + l.i in
    let b = get_or a.src.now l.i 0 in
    let h : a.at + l.i < length a.dst.now = omega arith in
    let k : l.i < length a.src.now = omega arith in (
      omega arith,
      length-set l.dst at b ∙ l.invariant.1,
      copy_more a.dst.now l.dst a.src.now a.at l.i k (omega arith) l.invariant.2,
    )

pub returns : goal.returns
returns c =
    let a = c.args in
    let l = c.loop-i in
    copy_done a.dst.now l.dst a.src.now a.at l.i (omega arith) l.invariant.2
