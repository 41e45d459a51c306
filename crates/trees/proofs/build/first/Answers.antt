-- `trees::build::first` meets its contract. The invariant: the record under block `at` of level l is the one asked for.
use Prim.Native.Nat.{ℕ, ◌+◌, ◌-◌, ◌<◌, ◌≤◌}
use mathlib.Core.Path.{◌≡◌, sym, ap, ◌∙◌, subst}
use native.Mathlib.Omega.{arith}
use lib.ListN.{get_or}
use Rattle.trees.specs.Plan.{first_of, start_of}
use Rattle.trees.proofs.Going.{first_step, first-end}
use Rattle.trees.proofs.build.first.Goals as goal

pub start-at-requires : goal.start-at-requires
start-at-requires c =
    let l = c.loop-l in
    let e : l.l - 1 + 1 ≡ l.l = omega (arith, c.loop-l-test.true) in
    rw e (c.requires.0.some l.l l.invariant.2, l.invariant.1)

pub loop-l-preserved : goal.loop-l-preserved
loop-l-preserved c =
    let a = c.args in
    let l = c.loop-l in
    let h : 0 < l.l = c.loop-l-test.true in
    let e : l.l - 1 + 1 ≡ l.l = omega arith in (
      ap (first_of a.records a.levels.now (l.l - 1)) (c.start-at.ensures.0 ∙ ap (λ (x : ℕ). start_of (get_or a.levels.now (l.l - 1) 0) (get_or a.levels.now x 0) l.at) e) ∙ sym (first_step a.records a.levels.now l.l l.at h) ∙ l.invariant.0,
      c.start-at.ensures.1,
      omega (arith, l.invariant.2),
    )

pub start-requires : goal.start-requires
start-requires c =
    let l = c.loop-l in
    let z : l.l ≡ 0 = omega (arith, c.loop-l-test.false) in
    (c.requires.0.some 0 (omega arith), subst (λ (x : ℕ). l.at ≤ get_or c.args.levels.now x 0) z l.invariant.1)

pub returns : goal.returns
returns c =
    let a = c.args in
    let l = c.loop-l in
    let z : l.l ≡ 0 = omega (arith, c.loop-l-test.false) in
    (c.start.ensures.0 ∙ first-end a.records a.levels.now l.l l.at z ∙ l.invariant.0, c.start.ensures.1)
