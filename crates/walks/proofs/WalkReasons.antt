-- Why a walk ends as it does: each block that was read had passed 13, its own look and 15; the block that was refused failed the question of
-- that number, and had passed those before it; and 13 refuses only where the visits are used up.
-- Assumes nothing.
use Prim.Native.Nat.{ℕ, zero, suc, ◌+◌, ◌-◌, ◌≤◌, ◌<◌, max}
use native.Mathlib.Omega.{arith}
use mathlib.Core.Path.{◌≡◌, refl, ap₂, subst}
use mathlib.Core.Logic.{◌⊎◌, inl, inr}
use mathlib.Core.Bool.{Bool, true, false, cond, ◌&&◌}
use mathlib.Core.List.{List, [], ◌∷◌, ◌++◌}
use lib.ListN.{length}
use lib.Dec.{ltb, leb}
use borrow.Author.Tests.{ltb-true, ltb-false, leb-true, leb-false}
use Rattle.codec.specs.Question.{Values, none, done}
use Rattle.codec.proofs.Meaning.{done-means}
use Rattle.blocks.specs.declared.geometry.Geometry.{Geometry}
use Rattle.blocks.specs.declared.kind.TreeKind.{TreeKind}
use Rattle.walks.specs.Walk.{Visit, visit_of, Look, bad, good, Trace, finished, spent, failed, met, after, run, fit, look_in}
use Rattle.walks.specs.Shapes.{shape_of}
use Rattle.walks.specs.WalkCall.{Lent, walk_questions, walk_of, walk_in}

module _ (look : Visit → Look) (limit places room : ℕ) where
  -- a block that is refused after v blocks and b bytes: by its look, or by 15
  abbrev pub Refuses : ℕ → ℕ → ℕ → Values → Visit → Type 0
  Refuses v b n x y =
      (look y ≡ bad n x) ⊎ ((n ≡ 15) × ((below : List Visit) × (bytes : List ℕ) × (look y ≡ good below bytes) × ((places ≤ v) ⊎ (room < b + length bytes))))

  -- the walk that goes on after v blocks and b bytes
  abbrev pub Because : ℕ → ℕ → Trace → Type 0
  Because v b finished = Unit {0}
  Because v b spent = v ≡ limit
  Because v b (failed n x) = (v < limit) × ((y : Visit) × Refuses v b n x y)
  Because v b (met y bytes t) =
      (v < limit) × (v < places) × (b + length bytes ≤ room) × ((below : List Visit) × (look y ≡ good below bytes)) × Because (v + 1) (b + length bytes) t

  good-because : (v b : ℕ) (y : Visit) (below : List Visit) (bytes : List ℕ) (t : Trace) (f g : Bool) → v < limit → v ≤ places → b ≤ room → look y ≡ good below bytes
      → ltb 0 (places - v) ≡ f → leb (length bytes) (room - b) ≡ g
      → (v < places → b + length bytes ≤ room → Because (v + 1) (b + length bytes) t)
      → Because v b (cond (f && g) (met y bytes t) (failed 15 none))
  good-because v b y below bytes t true true h p q e i j later =
      let k : v < places = omega (arith, ltb-true 0 (places - v) i) in
      let l : b + length bytes ≤ room = omega (arith, leb-true (length bytes) (room - b) j) in
      (h, k, l, (below, e), later k l)
  good-because v b y below bytes t true false h p q e i j later =
      (h, (y, inr (refl, (below, bytes, e, inr (omega (arith, leb-false (length bytes) (room - b) j))))))
  good-because v b y below bytes t false g h p q e i j later =
      (h, (y, inr (refl, (below, bytes, e, inl (omega (arith, ltb-false 0 (places - v) i))))))

  after-because : (n v b : ℕ) (y : Visit) (due : List Visit) (l : Look) → look y ≡ l → v < limit → v ≤ places → b ≤ room
      → ((below : List Visit) (bytes : List ℕ) → v < places → b + length bytes ≤ room → Because (v + 1) (b + length bytes) (fit (places - (v + 1)) (room - (b + length bytes)) (run look n (below ++ due))))
      → Because v b (fit (places - v) (room - b) (after y (λ below. run look n (below ++ due)) l))
  unfolding fit
  after-because n v b y due (bad m x) e h p q later = (h, (y, inl e))
  after-because n v b y due (good below bytes) e h p q later =
      let i : places - v - 1 ≡ places - (v + 1) = omega arith in
      let j : room - b - length bytes ≡ room - (b + length bytes) = omega arith in
      good-because v b y below bytes (fit (places - v - 1) (room - b - length bytes) (run look n (below ++ due))) (ltb 0 (places - v)) (leb (length bytes) (room - b)) h p q e refl refl
      (λ k l. rw (i, j) (later below bytes k l))

  pub run-because : (n v b : ℕ) (due : List Visit) → v + n ≡ limit → v ≤ places → b ≤ room → Because v b (fit (places - v) (room - b) (run look n due))
  unfolding run fit
  run-because zero v b [] e p q = tt
  run-because zero v b (y ∷ due) e p q = omega arith
  run-because (suc n) v b [] e p q = tt
  run-because (suc n) v b (y ∷ due) e p q =
      after-because n v b y due (look y) refl (omega arith) p q
      (λ below bytes k l. run-because n (v + 1) (b + length bytes) (below ++ due) (omega arith) (omega arith) l)

walk-in-because : (g : Geometry) (kind : TreeKind) (image : List ℕ) (root levels limit places room : ℕ)
    → Because (look_in (shape_of g kind) image) limit places room 0 0 (walk_in (shape_of g kind) image root levels limit places room)
unfolding walk_in
walk-in-because g kind image root levels limit places room =
    let look = look_in (shape_of g kind) image in
    let i : places - 0 ≡ places = omega arith in
    let j : room - 0 ≡ room = omega arith in
    subst (λ (t : Trace). Because look limit places room 0 0 t) (ap₂ (λ (m n : ℕ). fit m n (run look limit (visit_of root (levels - 1) ∷ []))) i j)
    (run-because look limit places room limit 0 0 (visit_of root (levels - 1) ∷ []) (omega arith) (omega arith) (omega arith))

-- of every call that 1, 11 and 12 let through
pub walk-because : (g : Geometry) (kind : TreeKind) (image : List ℕ) (root levels : ℕ) (m : Lent) (t : Trace) → walk_of g kind image root levels m ≡ done t
    → Because (look_in (shape_of g kind) image) (max g.agblocks 64) m.blocks m.bytes 0 0 t
walk-because g kind image root levels m t e =
    let k = done-means (walk_questions g levels m) (walk_in (shape_of g kind) image root levels (max g.agblocks 64) m.blocks m.bytes) t e in
    subst (Because (look_in (shape_of g kind) image) (max g.agblocks 64) m.blocks m.bytes 0 0) k.1
    (walk-in-because g kind image root levels (max g.agblocks 64) m.blocks m.bytes)
