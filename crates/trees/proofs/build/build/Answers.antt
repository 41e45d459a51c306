-- `trees::build::build` meets its contract.
use mathlib.Core.Path.{sym, ◌∙◌}
use Rattle.std.proofs.lemmas.Result.{err_from_is_err_and}
use Rattle.trees.proofs.BuildLaws.{not-1, not-3, not-list, list-given, has-list}
use Rattle.trees.proofs.build.build.Goals as goal

pub returns-then-not-is_ok : goal.returns-then-not-is_ok
returns-then-not-is_ok c =
    let a = c.args in
    not-1 a.g a.kind a.list.now a.numbers.now a.out.now (sym c.is_ok.ensures ∙ c.if-not-is_ok.true)

pub returns-then-not-is_in : goal.returns-then-not-is_in
returns-then-not-is_in c =
    let a = c.args in
    not-3 a.g a.kind a.list.now a.numbers.now a.out.now (sym c.is_ok.ensures ∙ c.if-not-is_ok.false) (sym c.is_in.ensures ∙ c.if-not-is_in.true)

pub build_planned-requires : goal.build_planned-requires
build_planned-requires c =
    let a = c.args in
    list-given a.g a.kind a.list.now a.numbers.now a.out.now (sym c.is_ok.ensures ∙ c.if-not-is_ok.false) (sym c.is_in.ensures ∙ c.if-not-is_in.false) _ c.in_ok-check_list.ensures

pub returns-in_err-check_list : goal.returns-in_err-check_list
returns-in_err-check_list c =
    let a = c.args in
    let p = err_from_is_err_and c.from_residual.result c.from_residual.ensures.1 in
    rw (p.1, p.2)
    (not-list a.g a.kind a.list.now a.numbers.now a.out.now (sym c.is_ok.ensures ∙ c.if-not-is_ok.false) (sym c.is_in.ensures ∙ c.if-not-is_in.false) _ c.in_err-check_list.ensures)

pub returns : goal.returns
returns c =
    let a = c.args in
    has-list a.g a.kind a.list.now a.numbers.now a.out.now (sym c.is_ok.ensures ∙ c.if-not-is_ok.false) (sym c.is_in.ensures ∙ c.if-not-is_in.false) _ c.in_ok-check_list.ensures _ _ c.build_planned.ensures
