-- `walks::tree::TreeImage::advance` meets its contract.
use native.Mathlib.Omega.{arith}
use Rattle.walks.proofs.LookLaws.{node-small}
use Rattle.walks.proofs.tree.TreeImage.advance.Goals as goal

pub overflow_add-pairs : goal.overflow_add-pairs
overflow_add-pairs c =
    let l = c.loop-level in
    let t = c.args.self.now in
    let m = c.requires.most l.level (omega arith) (omega arith) in
    let k = rw (← l.invariant.0) at m in
    omega (arith, c.fan-n.ensures, node-small t.g t.kind t.good)
