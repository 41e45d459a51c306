-- What the plan program prints, in ASCII.
-- Assumes nothing.
use Rattle.std.specs.Prelude.{ℕ, zero, suc, ◌+◌, ◌/◌, ◌%◌, ◌≤◌, ◌≡◌, cond, List, [], ◌∷◌, ◌++◌, leb, ltb, length, replicate, take}
use Rattle.std.specs.Prelude.{Option, None, Some}
use Rattle.codec.specs.Bytes.{with_bytes}
use Rattle.codec.specs.Question.{Outcome, done, refused}
use Rattle.blocks.specs.declared.geometry.Geometry.{Geometry}
use Rattle.trees.specs.Plan.{sum}
use Rattle.trees.specs.PlanAnswer.{plan_outcome}
use Rattle.plan_text.specs.declared.line.Request.{Request}
use Rattle.plan_text.specs.Line.{request}

-- a number in decimal, with no zero in front; a number has no more digits than it says
unfoldable pub decimal_from : ℕ → ℕ → List ℕ
decimal_from zero n = (48 + n) ∷ []
decimal_from (suc f) n = cond (ltb n 10) ((48 + n) ∷ []) (decimal_from f (n / 10) ++ ((48 + n % 10) ∷ []))

abbrev pub decimal : ℕ → List ℕ
decimal n = decimal_from n n

-- `level `, ` blocks `, `blocks `, `refused`, and a newline
abbrev pub level_word : List ℕ
level_word = 108 ∷ 101 ∷ 118 ∷ 101 ∷ 108 ∷ 32 ∷ []

abbrev pub blocks_word : List ℕ
blocks_word = 98 ∷ 108 ∷ 111 ∷ 99 ∷ 107 ∷ 115 ∷ 32 ∷ []

abbrev pub refused_word : List ℕ
refused_word = 114 ∷ 101 ∷ 102 ∷ 117 ∷ 115 ∷ 101 ∷ 100 ∷ []

abbrev pub newline : List ℕ
newline = 10 ∷ []

-- a word, a number and a newline
unfoldable pub number_line : List ℕ → ℕ → List ℕ
number_line word n = word ++ (decimal n ++ newline)

-- `level 0 blocks 6` and a newline
unfoldable pub level_line : ℕ → ℕ → List ℕ
level_line level blocks = level_word ++ (decimal level ++ number_line (32 ∷ blocks_word) blocks)

-- a line for each level, from a level on
unfoldable pub level_lines : ℕ → List ℕ → List ℕ
level_lines level [] = []
level_lines level (b ∷ bs) = level_line level b ++ level_lines (level + 1) bs

-- each level, then the total: `blocks 7`
unfoldable pub plan_lines : List ℕ → List ℕ
plan_lines levels = level_lines 0 levels ++ number_line blocks_word (sum levels)

-- `refused 16`
abbrev pub refused_line : ℕ → List ℕ
refused_line number = number_line (refused_word ++ (32 ∷ [])) number

-- `refused`
abbrev pub other_line : List ℕ
other_line = refused_word ++ newline

abbrev pub plan_text : Outcome (List ℕ) → List ℕ
plan_text (done levels) = plan_lines levels
plan_text (refused number values) = refused_line number

-- version 5, with agno and agblocks 0
abbrev pub program_geometry : ℕ → Geometry
program_geometry size = record { version = 5; blocksize = size; agblocks = 0; agno = 0; meta_uuid = replicate 16 0; last_lsn = 0 }

abbrev pub reply : Option Request → List ℕ
reply (Some r) = plan_text (plan_outcome (program_geometry r.blocksize) r.kind r.records)
reply None = other_line

-- what the program prints for its input
abbrev pub answer_text : List ℕ → List ℕ
answer_text input = reply (request input)

-- the same put at the start of a buffer: how long it is, and what the buffer then holds. One of less than 640 bytes stays as it was.
abbrev pub answer_length : List ℕ → List ℕ → ℕ
answer_length input out = cond (leb 640 (length out)) (length (answer_text input)) 0

abbrev pub answered : List ℕ → List ℕ → List ℕ
answered input out = cond (leb 640 (length out)) (with_bytes out 0 (answer_text input)) out

-- the first n bytes of an input, 48 or more, print what the whole of it prints: a program that reads no further loses nothing.
-- proofs/LongLines.antt proves it.
abbrev pub CutIsExact : Type 0
CutIsExact = (n : ℕ) (input : List ℕ) → 48 ≤ n → answer_text (take n input) ≡ answer_text input
