-- `lookup::children::Search::lookup_tree` meets its contract.
use Rattle.std.proofs.Common.{◌≡◌, ℕ, ◌≤◌, List, length, subst, arith, length-append, length-take, length-drop}
use Rattle.codec.specs.Records.{records_of, rmaps}
use Rattle.blocks.specs.declared.kind.TreeKind.TheVariants as kind
use Rattle.walks.specs.Walk.{Trace, records}
use Rattle.walks.specs.Shapes.{shape_of}
use Rattle.lookup.specs.Lookup.{descent_of}
use Rattle.lookup.specs.Inner.Descent.{Added}
use Rattle.lookup.proofs.CallLaws.{begun, summed-part, call-found, call-refused}
use Rattle.lookup.proofs.children.Search.lookup_tree.Goals as goal

pub returns-in-Ok : goal.returns-in-Ok
returns-in-Ok c =
    let a = c.args in
    let n = a.self.now.asked.numbers.now in
    let t : Trace = descent_of n (shape_of a.self.now.tree.g kind.Rmap) a.self.now.tree.image.now a.root a.levels a.limit in
    let start = begun a.answers.now _ (length n) c.requires.room (c.fill.ensures.after (λ y e. e)) in
    let room : length n ≤ length c.descend-end.new.answers = omega (arith, c.descend-end.auto.answers, c.fill.auto.self, length-append {A = ℕ}, length-take {A = ℕ}, length-drop {A = ℕ}, c.requires.room) in
    call-found n t a.stack.now c.descend-end.new.stack _ a.answers.now c.descend-end.new.answers c.descend-end.auto.stack (c.fill-2.ensures.after (λ y e. e))
    c.descend-end.result _ _ c.requires.room c.in-Ok.is c.descend-end.ensures.result_value
    (subst (λ (x : List ℕ). Added c.descend-end.result (records_of rmaps (records t)) n x c.descend-end.new.answers) start c.descend-end.ensures.added)
    (summed-part _ _ _ room c.sum_up.ensures)

pub returns-in-Err : goal.returns-in-Err
returns-in-Err c =
    let a = c.args in
    let n = a.self.now.asked.numbers.now in
    let long : length c.descend-end.new.answers ≡ length a.answers.now = omega (arith, c.descend-end.auto.answers, c.fill.auto.self, length-append {A = ℕ}, length-take {A = ℕ}, length-drop {A = ℕ}, c.requires.room) in
    call-refused n (descent_of n (shape_of a.self.now.tree.g kind.Rmap) a.self.now.tree.image.now a.root a.levels a.limit) a.stack.now c.descend-end.new.stack _ a.answers.now c.descend-end.new.answers c.descend-end.auto.stack (c.fill-2.ensures.after (λ y e. e))
    c.descend-end.result _ _ c.in-Err.is c.descend-end.ensures.result_value long (c.fill-in-Err.ensures.after (λ y e. e))
