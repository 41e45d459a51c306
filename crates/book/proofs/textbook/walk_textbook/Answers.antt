-- `book::textbook::walk_textbook` meets its contract.
use Prim.Native.Nat.{max}
use mathlib.Core.List.{[]}
use lib.ListN.{length}
use Rattle.std.proofs.lemmas.Result.{err_from_is_err_and}
use Rattle.blocks.specs.Tree.{record_len}
use Rattle.walks.proofs.CallLaws.{untouched}
use Rattle.book.proofs.Same.{textbook-is}
use Rattle.book.proofs.textbook.walk_textbook.Goals as goal

pub returns-in_err-ask_first : goal.returns-in_err-ask_first
returns-in_err-ask_first c =
    let a = c.args in
    let p = err_from_is_err_and c.from_residual.result c.from_residual.ensures.1 in
    rw (p.1, p.2)
    (untouched (record_len a.kind) a.levels _ c.in_err-ask_first.field-0.0 [] a.scratch.now a.blocks.now a.records.now
    (c.in_err-ask_first.ensures (length a.records.now) _))

pub returns : goal.returns
returns c =
    let a = c.args in
    let ready = c.in_ok-ask_first.ensures in
    let t = c.new-tree.ensures in
    let k = c.read_tree.ensures in
    rw (ready.holds (length a.records.now) _, textbook-is a.g a.kind a.image.now a.root.0 a.levels (max a.g.agblocks 64) (length a.blocks.now) (length a.records.now) ready.begun.good)
    (rw (t.0, t.1, t.2) at k)
