-- `free::same::same_extents` meets its contract.
use mathlib.Core.Path.{ap, ap₂, ◌∙◌}
use native.Mathlib.Omega.{arith}
use Rattle.std.proofs.lemmas.Result.{err_from_is_err_and}
use Rattle.codec.proofs.Meaning.{AllHold}
use Rattle.free.specs.declared.order.Order.TheVariants.{ByBlock, BySize}
use Rattle.free.specs.Free.{accepted, list_questions}
use Rattle.free.specs.Inner.Searches.{all_in}
use Rattle.free.proofs.Searching.{chunks-hold}
use Rattle.free.proofs.Answering.{list_held, list-accepted, first-refused, second-refused, said-lengths, said-within}
use Rattle.free.proofs.same.same_extents.Goals as goal

pub returns-in_err-check_order : goal.returns-in_err-check_order
returns-in_err-check_order c =
    let p = err_from_is_err_and c.from_residual.result c.from_residual.ensures.1 in
    let a = c.args in
    rw (p.1, p.2) (first-refused a.by_block.now a.by_size.now _ c.in_err-check_order.ensures)

pub returns-in_err-check_order-2 : goal.returns-in_err-check_order-2
returns-in_err-check_order-2 c =
    let first-held : AllHold (list_questions ByBlock c.args.by_block.now) = list_held ByBlock _ _ c.in_ok-check_order.ensures in
    let p = err_from_is_err_and c.from_residual-in_err-check_order-2.result c.from_residual-in_err-check_order-2.ensures.1 in
    let a = c.args in
    rw (p.1, p.2) (second-refused a.by_block.now a.by_size.now first-held _ c.in_err-check_order-2.ensures)

-- of another length
pub returns-then-by_block-by_size : goal.returns-then-by_block-by_size
returns-then-by_block-by_size c =
    let first-held : AllHold (list_questions ByBlock c.args.by_block.now) = list_held ByBlock _ _ c.in_ok-check_order.ensures in
    let second-held : AllHold (list_questions BySize c.args.by_size.now) = list_held BySize _ _ c.in_ok-check_order-2.ensures in
    let a = c.args in
    said-lengths a.by_block.now a.by_size.now first-held second-held (omega arith)

pub invariant_of-ascending : goal.invariant_of-ascending
invariant_of-ascending c =
    record {
      in_order =
          ap (accepted ByBlock) (chunks-hold c.args.by_block.now c.as_chunks.ensures.front) ∙ list-accepted ByBlock _ (list_held ByBlock _ _ c.in_ok-check_order.ensures);
    }

pub returns : goal.returns
returns c =
    let first-held : AllHold (list_questions ByBlock c.args.by_block.now) = list_held ByBlock _ _ c.in_ok-check_order.ensures in
    let second-held : AllHold (list_questions BySize c.args.by_size.now) = list_held BySize _ _ c.in_ok-check_order-2.ensures in
    let a = c.args in
    said-within a.by_block.now a.by_size.now first-held second-held _ (omega arith)
    (c.has_all.ensures ∙ ap₂ all_in (chunks-hold a.by_size.now c.as_chunks-2.ensures.front) (chunks-hold a.by_block.now c.as_chunks.ensures.front))
