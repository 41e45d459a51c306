-- Many blocks looked up together: one descent of a reverse map from its root that skips each child between whose keys none of the numbers lies, and
-- for each number how many of the records read lie over it.
-- Assumes nothing.
use Rattle.std.specs.Prelude.{ℕ, suc, ◌+◌, ◌-◌, ◌*◌, ◌/◌, max, Bool, true, false, cond, ◌&&◌, ◌||◌, List, [], ◌∷◌, ◌++◌, length, nat_le, nat_lt}
use Rattle.codec.specs.Bytes.{bytes_at, be_of, with_bytes}
use Rattle.codec.specs.Question.{Outcome, done, refused, Question, ask, answer}
use Rattle.codec.specs.Records.{records_of, rmaps}
use Rattle.codec.specs.declared.rmap.Rmap.{Rmap}
use Rattle.blocks.specs.declared.geometry.Geometry.{Geometry}
use Rattle.blocks.specs.declared.kind.TreeKind.TheVariants as kind
use Rattle.walks.specs.Memory.{zeros}
use Rattle.walks.specs.Walk.{Visit, visit_of, Look, bad, good, Trace, run, records, Shape, block_in, look_in}
use Rattle.walks.specs.Shapes.{shape_of}
use Rattle.walks.specs.WalkCall.{Lent, stack_places, first_questions, if_finished}
use Rattle.lists.specs.Holders.{holders}

-- ---- the numbers

-- strictly ascending
unfoldable pub ascending : List ℕ → Bool
ascending [] = true
ascending (a ∷ []) = true
ascending (a ∷ b ∷ more) = nat_lt a b && ascending (b ∷ more)

-- does one of the numbers lie between two others, both included?
unfoldable pub any_between : List ℕ → ℕ → ℕ → Bool
any_between [] low high = false
any_between (a ∷ more) low high = (nat_le low a && nat_le a high) || any_between more low high

-- each number with how many of the records lie over it
unfoldable pub tallies : List Rmap → List ℕ → List ℕ
tallies rs [] = []
tallies rs (a ∷ more) = holders rs a ∷ tallies rs more

-- ---- a look that skips children

-- the starts of child i's low and high key; the high key is the second half of its keys
abbrev pub low_start : Shape → List ℕ → ℕ → ℕ
low_start s part i = be_of (bytes_at part (s.header + i * s.keys_length) 4)

abbrev pub high_start : Shape → List ℕ → ℕ → ℕ
high_start s part i = be_of (bytes_at part (s.header + i * s.keys_length + s.keys_length / 2) 4)

-- child i of a node is kept if one of all the numbers lies between the two
abbrev pub keeps : List ℕ → Shape → List ℕ → ℕ → Bool
keeps asked s part i = any_between asked (low_start s part i) (high_start s part i)

-- the children, numbered from i on, without those that are skipped
unfoldable pub kept_from : (ℕ → Bool) → ℕ → List Visit → List Visit
kept_from keep i [] = []
kept_from keep i (v ∷ vs) = cond (keep i) (v ∷ kept_from keep (suc i) vs) (kept_from keep (suc i) vs)

-- what a look finds, without the children that are skipped
abbrev pub without : (ℕ → Bool) → Look → Look
without keep (bad n x) = bad n x
without keep (good below bytes) = good (kept_from keep 0 below) bytes

-- the walk's own look (14, 3 to 8, 30, 9 and 10), without them
unfoldable pub look_asked : List ℕ → Shape → List ℕ → Visit → Look
look_asked asked s image v = without (keeps asked s (block_in s.size image v.block)) (look_in s image v)

-- ---- the call

-- a stack of so many places, and no lists
abbrev pub stack_alone : ℕ → Lent
stack_alone places = record { stack = places; scratch = 0; blocks = 0; bytes = 0 }

-- the walk's own 1, 11 and 12, with no lists lent, and 29: where so many places of the stack are needed, on a stack of so many, with so many for answers
abbrev pub lookup_questions : (needed : ℕ) → Geometry → ℕ → (places : ℕ) → List ℕ → (room : ℕ) → List Question
lookup_questions needed g levels places asked room =
    first_questions needed g levels (stack_alone places) ++ (ask 29 (ascending asked && nat_le (length asked) room) ∷ [])

-- the descent of a tree from its root, of at most limit visits
unfoldable pub descent_of : List ℕ → Shape → List ℕ → ℕ → ℕ → ℕ → Trace
descent_of asked s image root levels limit = run (look_asked asked s image) limit (visit_of root (levels - 1) ∷ [])

-- the questions, then the descent, of at most max(agblocks, 64) visits
abbrev pub lookup_with : (needed : ℕ) → Geometry → List ℕ → ℕ → ℕ → (places : ℕ) → List ℕ → (room : ℕ) → Outcome Trace
lookup_with needed g image root levels places asked room =
    answer (lookup_questions needed g levels places asked room)
    (done (descent_of asked (shape_of g kind.Rmap) image root levels (max g.agblocks 64)))

-- 12 asks for nine pairs, as a walk's does
abbrev pub lookup_of : Geometry → List ℕ → ℕ → ℕ → (places : ℕ) → List ℕ → (room : ℕ) → Outcome Trace
lookup_of g image root levels places asked room = lookup_with stack_places g image root levels places asked room

-- the answers afterwards: one for each number and those past them as they were; zeros where 13 or a later question refused; 1, 11, 12 and 29 touch nothing
abbrev pub answers_after : List ℕ → Outcome Trace → List ℕ → List ℕ
answers_after asked (done t) l = if_finished t (with_bytes l 0 (tallies (records_of rmaps (records t)) asked)) (zeros l)
answers_after asked (refused n x) l = l
