-- What a call leaves in the one output that it is lent.
-- Assumes nothing.
use Rattle.std.specs.Prelude.{ℕ, List}
use Rattle.codec.specs.Bytes.{with_bytes}
use Rattle.codec.specs.Question.{Outcome, done, refused}

-- the bytes of the result from its beginning on, and all else as it was; a refusal writes nothing
abbrev pub out_after : Outcome (List ℕ) → List ℕ → List ℕ
out_after (done bytes) out = with_bytes out 0 bytes
out_after (refused n v) out = out
