-- What a call of the walk comes to: its answer, and what each of the four lent slices holds afterwards.
-- Assumes nothing.
use Rattle.std.specs.Prelude.{ℕ, ◌+◌, ◌-◌, ◌/◌, max, List, [], ◌∷◌, ◌&&◌, length, leb}
use Rattle.codec.specs.Bytes.{with_bytes}
use Rattle.codec.specs.Question.{none, Outcome, done, refused, Question, ask, answer}
use Rattle.blocks.specs.declared.geometry.Geometry.{Geometry}
use Rattle.blocks.specs.declared.kind.TreeKind.{TreeKind}
use Rattle.blocks.specs.Geometry.{geometry_ok}
use Rattle.walks.specs.Shapes.{shape_of}
use Rattle.walks.specs.Walk.{visit_of, Trace, finished, spent, failed, met, run, fit, visits, records, by_level, Shape, look_in}
use Rattle.walks.specs.Memory.{zeros}

-- the counts of a finished walk: its visits, which are the blocks of the block list, its records, and their bytes
pub record Counts : Type 0 where
  pub visits : ℕ
  pub records : ℕ
  pub bytes : ℕ

-- the answer: the counts or the refusal, and how many blocks passed 13
pub record Report : Type 0 where
  pub outcome : Outcome Counts
  pub passed : ℕ

-- the report of a walk that read so many blocks and bytes, for records of w bytes, by how it ended: 13 refuses where a block is due and
-- no visits are left; a block that is refused had passed 13
unfoldable pub report_of : ℕ → ℕ → ℕ → Trace → Report
report_of w v b finished = record { outcome = done (record { visits = v; records = b / w; bytes = b }); passed = v }
report_of w v b spent = record { outcome = refused 13 none; passed = v }
report_of w v b (failed n x) = record { outcome = refused n x; passed = v + 1 }
report_of w v b (met _ _ t) = report_of w v b t

-- x where a walk finished, else y
abbrev pub if_finished : {A : Type 0} → Trace → A → A → A
if_finished finished x y = x
if_finished spent x y = y
if_finished (failed n v) x y = y
if_finished (met v b t) x y = if_finished t x y

-- the sizes of what is lent: places of the stack, of the level scratch and of the block list, and bytes of the record list
pub record Lent : Type 0 where
  pub stack : ℕ
  pub scratch : ℕ
  pub blocks : ℕ
  pub bytes : ℕ

abbrev pub lent : List ℕ → List ℕ → List ℕ → List ℕ → Lent
lent stack scratch blocks out = record { stack = length stack; scratch = length scratch; blocks = length blocks; bytes = length out }

-- the walk of a tree from its root, of at most limit visits, with lists of so many places and bytes
unfoldable pub walk_in : Shape → List ℕ → ℕ → ℕ → ℕ → ℕ → ℕ → Trace
walk_in s image root levels limit places room = fit places room (run (look_in s image) limit (visit_of root (levels - 1) ∷ []))

-- the places that are needed of a stack: nine pairs, a block and its next child for each level, whatever the levels, the kind and the block size
abbrev pub stack_places : ℕ
stack_places = 18

-- the questions before the first visit, where so many places of the stack are needed: 1, 11 and 12
abbrev pub first_questions : (needed : ℕ) → Geometry → ℕ → Lent → List Question
first_questions needed g levels m =
    ask 1 (geometry_ok g)
    ∷ ask 11 (leb 1 levels && leb levels 9)
    ∷ ask 12 (leb needed m.stack && leb m.blocks m.scratch)
    ∷ []

-- those questions, then the walk, of at most max(agblocks, 64) visits. It goes left to right, depth first: `EveryWalk` of specs/Forest.antt.
abbrev pub walk_with : (needed : ℕ) → Geometry → TreeKind → List ℕ → ℕ → ℕ → Lent → Outcome Trace
walk_with needed g kind image root levels m =
    answer (first_questions needed g levels m)
    (done (walk_in (shape_of g kind) image root levels (max g.agblocks 64) m.blocks m.bytes))

-- 12 asks for nine pairs
abbrev pub walk_questions : Geometry → ℕ → Lent → List Question
walk_questions g levels m = first_questions stack_places g levels m

abbrev pub walk_of : Geometry → TreeKind → List ℕ → ℕ → ℕ → Lent → Outcome Trace
walk_of g kind image root levels m = walk_with stack_places g kind image root levels m

-- the answer; before the first visit no block passed 13
abbrev pub report : ℕ → Outcome Trace → Report
report w (done t) = report_of w (length (visits t)) (length (records t)) t
report w (refused n x) = record { outcome = refused n x; passed = 0 }

-- a scratch afterwards: 1, 11 and 12 touch nothing
abbrev pub scratch_after : Outcome Trace → List ℕ → List ℕ
scratch_after (done t) l = zeros l
scratch_after (refused n x) l = l

-- the block list afterwards: blocks by level, leaves first; zeros where the walk was refused
abbrev pub blocks_after : ℕ → Outcome Trace → List ℕ → List ℕ
blocks_after levels (done t) l = if_finished t (with_bytes l 0 (by_level levels (visits t))) (zeros l)
blocks_after levels (refused n x) l = l

-- the record list afterwards
abbrev pub records_after : Outcome Trace → List ℕ → List ℕ
records_after (done t) l = if_finished t (with_bytes l 0 (records t)) (zeros l)
records_after (refused n x) l = l
