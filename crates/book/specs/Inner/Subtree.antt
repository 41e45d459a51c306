-- What the two routines of the textbook walk promise each other.
-- Assumes nothing.
use Rattle.std.specs.Prelude.{ℕ, ◌≡◌, List, ◌++◌, length, Result, Ok, Err}
use Rattle.codec.specs.Question.{refused}
use Rattle.walks.specs.declared.visit.Count.{Count}
use Rattle.walks.specs.declared.refusal.StoppedWalk.{StoppedWalk}
use Rattle.walks.specs.Walk.{Visit, Look, Trace}
use Rattle.walks.specs.WalkAnswer.{walk_number, walk_values}
use Rattle.walks.specs.OneVisit.{Fitting}
use Rattle.walks.specs.Underway.{end_of, Walking}
use Rattle.book.specs.declared.subtree.Limits.{Limits}

-- where a walk under way stands after some of its blocks: it goes on with what is due later, from these counts, or this refusal was its end, after these visits
abbrev pub Reached : (Visit → Look) → Limits → (room w : ℕ) → Trace → (out₀ scratch out : List ℕ) → Result Count StoppedWalk → List Visit → Type 0
Reached look l room w total out₀ scratch out (Ok c) later = Walking look l.visits l.blocks room w total out₀ scratch out c.visits c.bytes later
Reached look l room w total out₀ scratch out (Err s) later =
    record { outcome = refused (walk_number s.refusal) (walk_values s.refusal); passed = s.visits } ≡ end_of w 0 0 total

-- some blocks that are due, and all below them: from every walk under way that has them due first, whatever is due later, to where it then stands
abbrev pub Reads : (Visit → Look) → Limits → (w : ℕ) → (due : List Visit) → Count → Result Count StoppedWalk → (scratch scratch' out out' : List ℕ) → Type 0
Reads look l w due c r scratch scratch' out out' =
    (total : Trace) (out₀ : List ℕ) (later : List Visit)
    → Walking look l.visits l.blocks (length out) w total out₀ scratch out c.visits c.bytes (due ++ later)
    → Reached look l (length out) w total out₀ scratch' out' r later

-- the counts still fit the lent memory
abbrev pub Fits : Result Count StoppedWalk → (scratch out : List ℕ) → ℕ → Type 0
Fits (Ok c) scratch out places = Fitting scratch out places c
Fits (Err s) scratch out places = Unit {0}
