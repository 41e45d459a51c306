-- `lookup::lookup::lookup` meets its contract.
use Rattle.std.proofs.lemmas.Result.{err_from_is_err_and}
use Rattle.lookup.specs.declared.refusal.LookupRefusal.TheVariants as why
use Rattle.lookup.proofs.CallLaws.{untouched}
use Rattle.lookup.proofs.lookup.lookup.Goals as goal

pub returns-in_err-ask_first : goal.returns-in_err-ask_first
returns-in_err-ask_first c =
    let a = c.args in
    let p = err_from_is_err_and c.from_residual.result c.from_residual.ensures.1 in
    rw (p.1, p.2) (untouched a.asked.now _ (why.Walk c.in_err-ask_first.field-0.0) a.stack.now a.answers.now (c.in_err-ask_first.ensures 0 _))
