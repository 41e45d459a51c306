-- `trees::build::Source::write_leaf` meets its contract.
use Prim.Native.Nat.{ℕ}
use mathlib.Core.Path.{ap, ◌∙◌}
use mathlib.Core.List.{List}
use Rattle.codec.specs.Bytes.{with_bytes}
use Rattle.blocks.specs.Stamp.{stamped}
use Rattle.blocks.specs.Tree.{header_len}
use Rattle.trees.proofs.Writing.{leaf-fresh}
use Rattle.trees.proofs.build.Source.write_leaf.Goals as goal

pub returns : goal.returns
returns c =
    let a = c.args in
    let h = c.header_len-head in
    c.stamp_at.ensures
    ∙ ap (stamped a.self.now.g a.self.now.kind a.place.number 0 a.count a.place.left a.place.right)
    (c.copy.ensures
    ∙ ap (λ (x : List ℕ). with_bytes x h.result a.records.now) (c.fill.ensures.after (λ y e. e))
    ∙ leaf-fresh a.b.now a.records.now a.self.now.g.blocksize (header_len a.self.now.g.version) h.result c.requires.0 h.ensures c.requires.1)
