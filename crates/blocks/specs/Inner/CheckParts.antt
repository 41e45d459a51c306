-- The block check in parts, as its functions share it out.
-- Assumes nothing.
use Rattle.std.specs.Prelude.{ℕ, List, ◌++◌}
use Rattle.codec.specs.Question.{Outcome, done, answer}
use Rattle.blocks.specs.declared.geometry.Geometry.{Geometry}
use Rattle.blocks.specs.declared.kind.TreeKind.{TreeKind}
use Rattle.blocks.specs.declared.check.Header.{Header}
use Rattle.blocks.specs.Check.{identity_questions, content_questions, header_of}

-- what 9 and 10 come to
abbrev pub content_outcome : Geometry → TreeKind → ℕ → List ℕ → Outcome Header
content_outcome g kind level b = answer (content_questions g kind level b) (done (header_of g kind level b))

-- what 5 to 8, 30, 9 and 10 come to
abbrev pub identity_outcome : Geometry → TreeKind → ℕ → ℕ → List ℕ → Outcome Header
identity_outcome g kind block level b = answer (identity_questions g block b ++ content_questions g kind level b) (done (header_of g kind level b))
