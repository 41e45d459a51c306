-- `trees::plan::share` meets its contract.
use borrow.Author.Tests.{lt-ltb, le-ltb}
use native.Mathlib.Omega.{arith}
use native.Mathlib.Nat.{div-lt_self, mod-lt, mod-le, add-zero}
use mathlib.Core.Path.{sym}
use Prim.Native.Nat.{◌<◌, ◌%◌}
use Rattle.trees.specs.Plan.{share_of}
use Rattle.trees.proofs.plan.share.Goals as goal

pub overflow_add-result : goal.overflow_add-result
overflow_add-result c =
    let a = c.args in
    let m = mod-lt a.entries c.requires in
    let l = mod-le a.entries a.blocks in
    let more : 1 < a.blocks = omega (arith, m, c.if-i-entries.true) in
    let some : 0 < a.entries = omega (arith, l, c.if-i-entries.true) in
    omega (arith, div-lt_self some more)

pub returns-then-i-entries : goal.returns-then-i-entries
unfolding share_of
returns-then-i-entries c = let a = c.args in rw (lt-ltb a.i (a.entries % a.blocks) (omega (arith, c.if-i-entries.true)))

pub returns : goal.returns
unfolding share_of
returns c = let a = c.args in rw (le-ltb a.i (a.entries % a.blocks) (omega (arith, c.if-i-entries.false))) (sym (add-zero _))
