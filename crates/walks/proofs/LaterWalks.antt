-- Unless 30 refused it, a walk comes to the same under every higher sequence number.
-- Assumes nothing.
use Prim.Native.Nat.{ℕ, zero, suc, ◌+◌, ◌-◌, ◌*◌, ◌≤◌, max}
use mathlib.Core.Path.{◌≡◌, refl, sym, ap, ◌∙◌, subst}
use mathlib.Core.Bool.{Bool, true, false, cond}
use mathlib.Core.Logic.{◌⊎◌, ⊎_elim, inl, inr}
use mathlib.Core.List.{List, [], ◌∷◌}
use lib.Dec.{leb}
use lib.ListN.{length}
use Rattle.codec.specs.Question.{Values, none, Outcome, done, refused, Question, answer, map_outcome}
use Rattle.blocks.specs.declared.geometry.Geometry.{Geometry}
use Rattle.blocks.specs.declared.kind.TreeKind.{TreeKind}
use Rattle.blocks.specs.declared.check.Header.{Header}
use Rattle.blocks.specs.Geometry.{with_lsn}
use Rattle.blocks.specs.Check.{check_block}
use Rattle.blocks.proofs.Later.{later-geometry, later-check}
use Rattle.walks.specs.Walk.{Visit, visit_of, Look, Trace, finished, spent, failed, met, run, fit, ending, block_in, under, look_of, look_in}
use Rattle.walks.specs.WalkCall.{walk_in, walk_questions}
use Rattle.walks.specs.Shapes.{numrecs_of, shape_of}
use Rattle.walks.specs.Later.{NoneNewer, EveryLaterWalk}
use Rattle.walks.proofs.Following.{OutLook, OutEnd, Follows, run-follows, fit-follows, follows_same}

-- a refusal by 30
abbrev pub Newer : ℕ → Values → Type 0
Newer k v = k ≡ 30

module _ (g : Geometry) (n : ℕ) (higher : g.last_lsn ≤ n) (kind : TreeKind) (image : List ℕ) where
  -- what is under a block does not go by the number
  under-later : (part : List ℕ) (level k : ℕ) → under (shape_of (with_lsn g n) kind) part level k ≡ under (shape_of g kind) part level k
  unfolding under
  under-later part zero k = refl
  under-later part (suc level) k = refl

  pub look-later : (v : Visit) → (look_in (shape_of (with_lsn g n) kind) image v ≡ look_in (shape_of g kind) image v) ⊎ OutLook Newer (look_in (shape_of g kind) image v)
  unfolding look_in
  look-later v =
      go (leb ((v.block + 1) * g.blocksize) (length image)) (check_block g kind v.block v.level part) (check_block (with_lsn g n) kind v.block v.level part)
      (later-check g n higher kind v.block v.level part)
    where
      part : List ℕ
      part = block_in g.blocksize image v.block

      found : Outcome Header → Look
      found o = look_of (map_outcome (under (shape_of g kind) part v.level) (numrecs_of o))

      same : (o : Outcome Header) → look_of (map_outcome (under (shape_of (with_lsn g n) kind) part v.level) (numrecs_of o)) ≡ found o
      same (done h) = under-later part v.level h.numrecs
      same (refused k x) = refl

      go : (t : Bool) (o o' : Outcome Header) → (o' ≡ o) ⊎ ((x : Values) × (o ≡ refused 30 x))
          → (look_of (cond t (map_outcome (under (shape_of (with_lsn g n) kind) part v.level) (numrecs_of o')) (refused 14 none))
          ≡ look_of (cond t (map_outcome (under (shape_of g kind) part v.level) (numrecs_of o)) (refused 14 none)))
          ⊎ OutLook Newer (look_of (cond t (map_outcome (under (shape_of g kind) part v.level) (numrecs_of o)) (refused 14 none)))
      go true o o' (inl e) = inl (same o' ∙ ap found e)
      go true o o' (inr q) = inr (subst (λ (p : Outcome Header). OutLook Newer (found p)) (sym q.1) refl)
      go false o o' c = inl refl

-- what follows a walk that 30 did not refuse is that walk
known_same : (t u : Trace) → Follows Newer t u → NoneNewer (done t) → u ≡ t
known_same t u f h = ⊎_elim (λ e. e) (λ o. absurd (go (ending t) refl o)) (follows_same Newer t u f)
  where
    go : (s : Trace) → ending t ≡ s → OutEnd Newer s → ⊥
    go finished e o = o
    go spent e o = o
    go (failed k x) e o = h x (e ∙ ap (λ (j : ℕ). failed j x) o)
    go (met v b s) e o = o

-- a walk that came to its end was not refused
pub finished-known : (t : Trace) → ending t ≡ finished → NoneNewer (done t)
finished-known t e = λ v h. cc

-- where questions come before it
pub asked-same : (qs : List Question) (t u : Trace) → Follows Newer t u → NoneNewer (answer qs (done t)) → answer qs (done u) ≡ answer qs (done t)
asked-same [] t u f h = ap done (known_same t u f h)
asked-same (q ∷ qs) t u f h = go q.holds (asked-same qs t u f) h
  where
    go : (b : Bool) → (NoneNewer (answer qs (done t)) → answer qs (done u) ≡ answer qs (done t))
        → NoneNewer (cond b (answer qs (done t)) (refused q.number q.values))
        → cond b (answer qs (done u)) (refused q.number q.values) ≡ cond b (answer qs (done t)) (refused q.number q.values)
    go true later i = later i
    go false later i = refl

pub every-later-walk : EveryLaterWalk
unfolding walk_in
every-later-walk g kind image root levels m n higher h =
    let limit : ℕ = max g.agblocks 64 in
    let due : List Visit = visit_of root (levels - 1) ∷ [] in
    let here : Trace = run (look_in (shape_of g kind) image) limit due in
    let there : Trace = run (look_in (shape_of (with_lsn g n) kind) image) limit due in
    rw (later-geometry g n)
    (asked-same (walk_questions g levels m) (fit m.blocks m.bytes here) (fit m.blocks m.bytes there)
    (fit-follows Newer m.blocks m.bytes here there
    (run-follows Newer (look_in (shape_of g kind) image) (look_in (shape_of (with_lsn g n) kind) image) (look-later g n higher kind image) limit due))
    h)
