-- One visit of a walk: where it is noted, what it comes to, and what it leaves in the level scratch and the record list.
-- Assumes nothing.
use Rattle.std.specs.Prelude.{ℕ, ◌+◌, ◌-◌, ◌*◌, ◌/◌, ◌%◌, ◌^◌, ◌≤◌, ◌≡◌, List, [], ◌∷◌, ◌&&◌, length, ltb, leb, Result, Ok, Err}
use Rattle.codec.specs.Bytes.{with_bytes}
use Rattle.codec.specs.Question.{Outcome, done, refused, ask, answer}
use Rattle.walks.specs.declared.visit.Count.{Count}
use Rattle.walks.specs.declared.visit.Siblings.{Siblings}
use Rattle.walks.specs.declared.visit.Step.{Step}
use Rattle.walks.specs.declared.refusal.WalkRefusal.{WalkRefusal}
use Rattle.walks.specs.Walk.{Visit, visit_of, Look, bad, good, bytes_found}
use Rattle.walks.specs.WalkAnswer.{walk_number, walk_values}

-- a visit in one place of the level scratch, and back
abbrev pub level_step : ℕ
level_step = 2 ^ 32

abbrev pub place_of : Visit → ℕ
place_of v = v.level * level_step + v.block

abbrev pub visit_at : ℕ → Visit
visit_at p = visit_of (p % level_step) (p / level_step)

unfoldable pub seen_of : List ℕ → List Visit
seen_of [] = []
seen_of (p ∷ ps) = visit_at p ∷ seen_of ps

-- the counts after a block was read
abbrev pub next_of : Count → List ℕ → Count
next_of c bytes = record { visits = c.visits + 1; bytes = c.bytes + length bytes }

-- what became of a block: the counts after it, or its refusal
abbrev pub verdict_outcome : Result (Unit {0}) WalkRefusal → Count → Outcome Count
verdict_outcome (Ok u) c = done c
verdict_outcome (Err r) c = refused (walk_number r) (walk_values r)

abbrev pub step_outcome : Step → Outcome Count
step_outcome s = verdict_outcome s.verdict s.count

-- the siblings that a visit hands back, where the block was read
abbrev pub BesideBy : Result (Unit {0}) WalkRefusal → Siblings → ℕ → ℕ → Type 0
BesideBy (Ok u) s left right = (s.left ≡ left) × (s.right ≡ right)
BesideBy (Err r) s left right = Unit {0}

abbrev pub Beside : Step → ℕ → ℕ → Type 0
Beside s left right = BesideBy s.verdict s.siblings left right

-- the counts after a look at a block, or its refusal: 15 asks about the places of the block list and the bytes of the record list
unfoldable pub step_of : ℕ → ℕ → Count → Look → Outcome Count
step_of places room c (bad n x) = refused n x
step_of places room c (good below bytes) =
    answer (ask 15 (ltb c.visits places && leb (length bytes) (room - c.bytes)) ∷ []) (done (next_of c bytes))

-- what a visit asks of the lent memory: a place of the level scratch for each of the block list's
pub record Fitting (scratch out : List ℕ) (places : ℕ) (c : Count) : Type 0 where
  pub noting : places ≤ length scratch
  pub stored : c.bytes ≤ length out

-- l with xs put at a place where the visit was accepted, else l as it was
abbrev pub onward : Outcome Count → List ℕ → ℕ → List ℕ → List ℕ
onward (done m) l at xs = with_bytes l at xs
onward (refused n x) l at xs = l

-- what a visit leaves in the level scratch and the record list
pub record Wrote (o : Outcome Count) (v : Visit) (l : Look) (c : Count) (scratch scratch' out out' : List ℕ) : Type 0 where
  pub noted : scratch' ≡ onward o scratch c.visits (place_of v ∷ [])
  pub copied : out' ≡ onward o out c.bytes (bytes_found l)
