-- `trees::build::Source::put_keys` meets its contract: of a reverse map by its own keys, of any other kind by the first bytes of the first record.
use mathlib.Core.Path.{sym, ◌∙◌}
use native.Mathlib.Omega.{arith}
use Rattle.trees.proofs.NodeWriting.{rmap-given, keys-rmap, records-in, key_in, key-first}
use Rattle.trees.proofs.build.Source.put_keys.Goals as goal

pub put_rmap_keys-requires : goal.put_rmap_keys-requires
put_rmap_keys-requires c =
    let a = c.args in
    let all = rmap-given a.self.now.kind a.self.now.list.now a.b.now a.from a.to a.at c.requires.0 (sym c.is_overlapping.ensures ∙ c.if-is_overlapping.true) a.self.now.given.keyed c.requires.1 in record { from_lt_to = all.0; rmap_key_len_in_bounds = all.1 }

pub overflow_mul-start : goal.overflow_mul-start
overflow_mul-start c =
    let a = c.args in
    omega (arith, records-in a.self.now.kind a.self.now.list.now a.b.now a.from a.to a.at c.requires.0 c.record_len.result c.record_len.ensures)

pub overflow_add-end : goal.overflow_add-end
overflow_add-end c =
    let a = c.args in
    omega (
      arith,
      key_in a.self.now.kind a.self.now.list.now a.b.now a.from a.to a.at c.requires.0 (sym c.is_overlapping.ensures ∙ c.if-is_overlapping.false)
          c.record_len.result c.keys_len.result c.record_len.ensures c.keys_len.ensures,
    )

pub slice_bounds-copy-end : goal.slice_bounds-copy-end
slice_bounds-copy-end c =
    let a = c.args in
    key_in a.self.now.kind a.self.now.list.now a.b.now a.from a.to a.at c.requires.0 (sym c.is_overlapping.ensures ∙ c.if-is_overlapping.false)
    c.record_len.result c.keys_len.result c.record_len.ensures c.keys_len.ensures

pub returns-then-is_overlapping : goal.returns-then-is_overlapping
returns-then-is_overlapping c =
    let a = c.args in
    keys-rmap a.self.now.kind a.self.now.list.now a.b.now a.from a.to a.at c.requires.0
    (sym c.is_overlapping.ensures ∙ c.if-is_overlapping.true) _ c.put_rmap_keys.ensures

pub returns-else-is_overlapping : goal.returns-else-is_overlapping
returns-else-is_overlapping c =
    let a = c.args in
    key-first a.self.now.kind a.self.now.list.now a.b.now a.from a.to a.at c.requires.0 (sym c.is_overlapping.ensures ∙ c.if-is_overlapping.false)
    c.record_len.result c.keys_len.result c.record_len.ensures c.keys_len.ensures _ c.copy.ensures
