use native.Mathlib.Omega.{arith}
use mathlib.Core.Path.{◌≡◌, sym, ap, ◌∙◌}
use mathlib.Core.List.{List, [], ◌∷◌, ◌++◌, append-nil}
use Prim.Native.Nat.{ℕ, ◌+◌, ◌/◌, ◌%◌, ◌^◌, ◌<◌}
use lib.ListN.{length, get_or, take, length-append}
use Rattle.std.proofs.lemmas.List.{take_all}
use Rattle.walks.specs.Walk.{at_level}
use Rattle.walks.specs.OneVisit.{seen_of}
use Rattle.walks.specs.Inner.WalkState.{level_in}
use Rattle.codec.specs.Bytes.{with_bytes}
use Rattle.codec.proofs.Stores.{with_bytes-none, with_bytes-more}
use Rattle.walks.proofs.LevelLaws.{levels-more, levels-within, level-this, level-other}
use Rattle.walks.proofs.by_level.gather.Goals as goal
use Rattle.walks.proofs.by_level.gather.Goals.{then-place-level, else-place-level, Then-place-level}

pub loop-place-init : goal.loop-place-init
unfolding at_level seen_of
loop-place-init c =
    let a = c.args in
    (omega arith, sym (with_bytes-none a.list.now a.at))

-- one block more, and how many there are then
more : (level : ℕ) (s : List ℕ) (i : ℕ) → i < length s → get_or s i 0 / 2 ^ 32 ≡ level → level_in level (take (i + 1) s) ≡ level_in level (take i s) ++ get_or s i 0 % 2 ^ 32 ∷ []
more level s i h e = levels-more level s i h ∙ ap (λ (l : List ℕ). level_in level (take i s) ++ l) (level-this level (get_or s i 0) e)

-- a place of the list is left for it
room : (c : Then-place-level) → c.loop-place.k < length c.args.list.now
room c =
    let a = c.args in
    let i = c.loop-place.place-index in
    let m = more a.level a.seen.now i (omega arith) c.if-place-level.true in
    omega (arith, ap length m ∙ length-append (level_in a.level (take i a.seen.now)) _, levels-within a.level a.seen.now (i + 1), c.requires)

pub offset_bounds-list-k : goal.offset_bounds-list-k
offset_bounds-list-k c = let h = room (goal.at.offset_bounds-list-k c).Then-place-level in omega arith

pub bounds-list-k : goal.bounds-list-k
bounds-list-k c = let h = room (goal.at.bounds-list-k c).Then-place-level in omega arith

pub overflow_add-k : goal.overflow_add-k
overflow_add-k c = let h = room (goal.at.overflow_add-k c).Then-place-level in omega arith

pub loop-place-preserved : goal.loop-place-preserved
loop-place-preserved c =
    let l = c.loop-place in
    let a = c.args in
    let i = l.place-index in
    let place = get_or a.seen.now i 0 in
    let so = level_in a.level (take i a.seen.now) in
    elim c.if-place-level.branch [
      | then-place-level w ↦ (
          let m = more a.level a.seen.now i (omega arith) w.if-place-level.true in
          let n = ap length m ∙ length-append so _ in
          let h : l.k < length a.list.now = omega (arith, n, levels-within a.level a.seen.now (i + 1), c.requires) in (
            omega (arith, w.k-is, n),
            w.list-is
                ∙ with_bytes-more a.list.now l.list so a.at l.k (place % 2 ^ 32) l.invariant.0 h l.invariant.1
                ∙ ap (with_bytes a.list.now a.at) (sym m),
          ))
      | else-place-level w ↦ (
          let m : level_in a.level (take (i + 1) a.seen.now) ≡ so =
          levels-more a.level a.seen.now i (omega arith) ∙ ap (λ (x : List ℕ). so ++ x) (level-other a.level place w.if-place-level.false) ∙ append-nil so in
          rw (m, w.k-is, w.list-is) l.invariant)
    ]

pub returns : goal.returns
returns c =
    let l = c.loop-place in
    let w = c.args.seen.now in
    let e : take l.place-index w ≡ w = take_all l.place-index w (omega arith) in
    rw e at l.invariant
