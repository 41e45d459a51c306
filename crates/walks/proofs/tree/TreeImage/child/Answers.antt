-- `walks::tree::TreeImage::child` meets its contract.
use mathlib.Core.Path.{ap, ◌∙◌}
use Prim.Native.Nat.{ℕ, ◌+◌, ◌*◌, ◌≤◌}
use native.Mathlib.Omega.{arith}
use Rattle.codec.specs.Bytes.{bytes_at, be_of}
use Rattle.walks.specs.Walk.{block_in}
use Rattle.walks.proofs.PathLaws.{field, pointer-inside}
use Rattle.walks.proofs.tree.TreeImage.child.Goals as goal

pub returns : goal.returns
returns c =
    let a = c.args in
    let t = a.self.now in
    let inside : t.first + a.i * 4 + 4 ≤ t.g.blocksize = rw t.pointers (pointer-inside t.g t.kind t.good a.i c.requires.1) in
    c.be32.ensures
    ∙ ap be_of (field t.image.now a.block t.g.blocksize _ 4 (omega arith))
    ∙ ap (λ (x : ℕ). be_of (bytes_at (block_in t.g.blocksize t.image.now a.block) (x + a.i * 4) 4)) t.pointers
