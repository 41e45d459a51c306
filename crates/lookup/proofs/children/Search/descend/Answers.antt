-- `lookup::children::Search::descend` meets its contract. The invariant is `Descending`, with the pairs that hold what is due.
use Rattle.std.proofs.Common.{◌≡◌, ℕ, sym, refl, ap, ◌∙◌, arith}
use Rattle.blocks.specs.declared.kind.TreeKind.TheVariants as kind
use Rattle.walks.specs.Walk.{visit_of}
use Rattle.walks.proofs.LookLaws.{look-refused}
use Rattle.codec.specs.Question.{none, refused}
use Rattle.lookup.specs.Answer.{Visited}
use Rattle.lookup.proofs.DescentLaws.{descending-spent, descending-stop, descending-ended, descending-counted, descent-begin, asked-bad, descent-opened}
use Rattle.lookup.proofs.children.Search.descend.Goals as goal

pub loop-passed-init : goal.loop-passed-init
loop-passed-init c =
    let a = c.args in
    let w = descent-begin a.self.now.tree.g c.args.self.now.tree.good a.self.now.tree.image.now a.levels a.limit a.self.now.asked.numbers.now a.root a.stack.now a.answers.now c.requires.ready c.requires.zeroed in
    (w.0, w.1, omega (arith, c.requires.ready.least), c.ranges.root.fits, refl, refl)

pub returns-in-Err-clause-result_value : goal.returns-in-Err-clause-result_value
returns-in-Err-clause-result_value c =
    let l = c.loop-passed in
    let a = c.args in
    let e = look-refused a.self.now.tree.g kind.Rmap a.self.now.tree.image.now l.due.block l.due.level _ _ (sym c.in-Err.ensures.result_value) in
    descending-stop l.invariant.0 _ _ refl c.loop-passed-test.true _ _ (asked-bad a.self.now.tree.g c.args.self.now.tree.good a.self.now.tree.image.now a.levels a.limit a.self.now.asked.numbers.now (visit_of l.due.block l.due.level) _ _ e)

pub next_kept-requires : goal.next_kept-requires
next_kept-requires c =
    let l = c.loop-passed in
    let a = c.args in
    let turned = descent-opened a.self.now.tree.g c.args.self.now.tree.good a.self.now.tree.image.now a.levels a.limit a.self.now.asked.numbers.now l.invariant.0 l.invariant.1 l.invariant.2 c.loop-passed-test.true (sym c.in_default.ensures.result_value) c.read.ensures.answers_after c.open-low.ensures in
    turned.1

pub returns-in_default-next_kept-clause-result_value : goal.returns-in_default-next_kept-clause-result_value
returns-in_default-next_kept-clause-result_value c =
    let l = c.loop-passed in
    let a = c.args in
    let turned = descent-opened a.self.now.tree.g c.args.self.now.tree.good a.self.now.tree.image.now a.levels a.limit a.self.now.asked.numbers.now l.invariant.0 l.invariant.1 l.invariant.2 c.loop-passed-test.true (sym c.in_default.ensures.result_value) c.read.ensures.answers_after c.open-low.ensures in
    descending-ended turned.0 c.in_default-next_kept.ensures

pub returns-in_default-next_kept-clause-added : goal.returns-in_default-next_kept-clause-added
returns-in_default-next_kept-clause-added c =
    let l = c.loop-passed in
    let a = c.args in
    let turned = descent-opened a.self.now.tree.g c.args.self.now.tree.good a.self.now.tree.image.now a.levels a.limit a.self.now.asked.numbers.now l.invariant.0 l.invariant.1 l.invariant.2 c.loop-passed-test.true (sym c.in_default.ensures.result_value) c.read.ensures.answers_after c.open-low.ensures in
    descending-counted turned.0 c.in_default-next_kept.ensures

pub loop-passed-preserved : goal.loop-passed-preserved
loop-passed-preserved c =
    let l = c.loop-passed in
    let a = c.args in
    let turned = descent-opened a.self.now.tree.g c.args.self.now.tree.good a.self.now.tree.image.now a.levels a.limit a.self.now.asked.numbers.now l.invariant.0 l.invariant.1 l.invariant.2 c.loop-passed-test.true (sym c.in_default.ensures.result_value) c.read.ensures.answers_after c.open-low.ensures in
    let v = c.in-Some.ensures in (
      rw v.path at turned.0,
      v.opened,
      omega (arith, v.inside),
      v.small,
      c.next_kept.auto.pairs ∙ c.open-low.auto.pairs ∙ l.invariant.4,
      c.read.auto.answers ∙ l.invariant.5,
    )

pub returns-clause-result_value : goal.returns-clause-result_value
returns-clause-result_value c =
    let l = c.loop-passed in
    let e : c.args.limit ≡ l.passed = omega (arith, c.loop-passed-test.false, l.invariant.0.within) in
    ap (λ (x : ℕ). let r : Visited = record { outcome = refused 13 none; passed = x } in r) e ∙ descending-spent l.invariant.0 _ _ refl c.loop-passed-test.false
