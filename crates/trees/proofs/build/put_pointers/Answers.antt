-- `trees::build::put_pointers` meets its contract. The invariant: the first i pointers are written.
use Prim.Native.Nat.{ℕ, ◌+◌, ◌*◌}
use mathlib.Core.Path.{◌≡◌, refl, ap, ◌∙◌}
use mathlib.Core.List.{List}
use native.Mathlib.Omega.{arith}
use lib.ListN.{length, get_or, take}
use lib.Seq.{take-length}
use Rattle.codec.specs.Bytes.{with_bytes, be_bytes}
use Rattle.trees.specs.Inner.BuildNeeds.{pointer_bytes}
use Rattle.trees.proofs.NodeWriting.{pointer_none, pointer-next}
use borrow.Author.Rules.{rules}
use Rattle.trees.proofs.build.put_pointers.Goals as goal

pub loop-i-init : goal.loop-i-init
loop-i-init c = (omega arith, refl, pointer_none c.args.b.now c.args.at)

pub loop-i-preserved : goal.loop-i-preserved
loop-i-preserved c =
    let a = c.args in
    let l = c.loop-i in
    let x = be_bytes 4 (get_or a.blocks.now l.i 0) in (
      omega arith,
      search rules,
      c.put_be32.ensures
          ∙ ap (λ (d : List ℕ). with_bytes d (a.at + l.i * 4) x) l.invariant.2
          ∙ pointer-next a.b.now a.blocks.now a.at l.i (omega arith) (omega arith),
    )

pub returns : goal.returns
returns c = let a = c.args in
    let l = c.loop-i in
    let e : l.i ≡ length a.blocks.now = omega arith in
    l.invariant.2 ∙ ap (λ (y : List ℕ). with_bytes a.b.now a.at (pointer_bytes y)) (ap (λ (n : ℕ). take n a.blocks.now) e ∙ take-length a.blocks.now)
