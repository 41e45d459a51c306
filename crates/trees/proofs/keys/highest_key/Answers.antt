-- `trees::keys::highest_key` meets its contract. The invariant: the greatest of the key so far and of the records from i on is that of all.
use mathlib.Core.Path.{sym, ap, ◌∙◌}
use native.Mathlib.Omega.{arith}
use Rattle.trees.specs.Keys.{high_key, greater}
use Rattle.trees.proofs.KeyLaws.{highest-first, greatest-next, greatest-end}
use Rattle.trees.proofs.keys.highest_key.Goals as goal

pub loop-i-init : goal.loop-i-init
loop-i-init c = let a = c.args in
    (omega arith, omega arith, sym (highest-first a.list.now a.from a.to c.high_key-k.result c.requires.0 c.requires.1 (c.high_key-k.ensures ∙ ap high_key c.decode.ensures)))

pub loop-i-preserved : goal.loop-i-preserved
loop-i-preserved c = let a = c.args in
    let l = c.loop-i in (
      omega arith,
      omega arith,
      sym
          (greatest-next a.list.now l.i a.to l.k c.greater_key-k.result (omega arith) c.requires.1
          (c.greater_key-k.ensures ∙ ap (greater l.k) (c.high_key.ensures ∙ ap high_key c.decode-in-loop-i.ensures)))
          ∙ l.invariant.2,
    )

pub returns : goal.returns
returns c = let a = c.args in
    let l = c.loop-i in
    sym (greatest-end a.list.now l.i a.to l.k (omega arith)) ∙ l.invariant.2
