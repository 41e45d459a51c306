use native.Mathlib.Omega.{arith}
use mathlib.Core.Path.{refl, sym, ap, ◌∙◌}
use mathlib.Core.List.{List}
use Prim.Native.Nat.{ℕ, ◌+◌, ◌≤◌}
use lib.ListN.{length, length-append}
use Rattle.walks.specs.Walk.{at_level, by_level}
use Rattle.walks.specs.OneVisit.{seen_of}
use Rattle.codec.specs.Bytes.{with_bytes}
use Rattle.codec.proofs.Stores.{with_bytes-none, with_bytes-then}
use Rattle.walks.proofs.LevelLaws.{by-level-length, by-level-more, seen-length}
use Rattle.walks.proofs.by_level.order.Goals as goal

pub loop-level-init : goal.loop-level-init
unfolding by_level
loop-level-init c = (refl, sym (with_bytes-none c.args.list.now 0))

pub gather-at-requires : goal.gather-at-requires
gather-at-requires c =
    let l = c.loop-level in
    let a = c.args in
    let seen = seen_of a.seen.now in
    let e = ap length (by-level-more l.level seen) ∙ length-append (by_level l.level seen) (at_level l.level seen) in
    omega (arith, e, by-level-length (l.level + 1) seen, seen-length a.seen.now)

pub loop-level-preserved : goal.loop-level-preserved
loop-level-preserved c =
    let l = c.loop-level in
    let a = c.args in
    let seen = seen_of a.seen.now in
    let m = by-level-more l.level seen in
    let e = ap length m ∙ length-append (by_level l.level seen) (at_level l.level seen) in
    let q : l.at ≤ length a.list.now = omega (arith, by-level-length l.level seen, seen-length a.seen.now) in (
      omega (arith, c.gather-at.ensures.0, e),
      c.gather-at.ensures.1
          ∙ ap (λ (x : List ℕ). with_bytes x l.at (at_level l.level seen)) l.invariant.1
          ∙ with_bytes-then a.list.now (by_level l.level seen) (at_level l.level seen) 0 l.at (omega (arith, l.invariant.0)) q
          ∙ ap (with_bytes a.list.now 0) (sym m),
    )
