-- The number and values of each refusal of an explanation (docs/QUESTIONS.md), and what the calls answer.
-- Assumes nothing.
use Rattle.std.specs.Prelude.{◌≡◌, ◌<◌, ℕ, List, [], Result, Ok, Err}
use Rattle.codec.specs.Question.{Values, none, Outcome, done, refused}
use Rattle.codec.specs.declared.rmap.Rmap.{Rmap}
use Rattle.lists.specs.Answer.{edit_number, edit_values}
use Rattle.reasons.specs.declared.explain.Why.{Why}
use Rattle.reasons.specs.declared.explain.Why.TheVariants.{Free, HeldInMap, HeldInCounts, Staging}
use Rattle.reasons.specs.declared.explain.ExplainRefusal.{ExplainRefusal}
use Rattle.reasons.specs.declared.explain.ExplainRefusal.TheVariants as why
use Rattle.reasons.specs.Why.{deciding_bytes, explain_outcome}

abbrev pub explain_number : ExplainRefusal → ℕ
explain_number (why.Edit r) = edit_number r
explain_number why.NotInExtent = 31

abbrev pub explain_values : ExplainRefusal → Values
explain_values (why.Edit r) = edit_values r
explain_values why.NotInExtent = none

abbrev pub explained_outcome : Result Why ExplainRefusal → Outcome Why
explained_outcome (Ok w) = done w
explained_outcome (Err r) = refused (explain_number r) (explain_values r)

-- ---- the answer as a number, and the part

-- 0 free now, 1 still held, 2 staging
abbrev pub said_of : Why → ℕ
said_of Free = 0
said_of (HeldInMap i) = 1
said_of (HeldInCounts i) = 1
said_of (Staging i) = 2

-- else the number of the question that failed, which is 19 or more
abbrev pub number_said : Outcome Why → ℕ
number_said (done w) = said_of w
number_said (refused n v) = n

-- a refusal hands back an empty part
abbrev pub part_said : List ℕ → List ℕ → Outcome Why → List ℕ
part_said map counts (done w) = deciding_bytes map counts w
part_said map counts (refused n v) = []

-- does the record named stand in its list, of so many records?
abbrev pub Named : Why → (records counts : ℕ) → Type 0
Named Free m c = Unit {0}
Named (HeldInMap i) m c = i < m
Named (HeldInCounts i) m c = i < c
Named (Staging i) m c = i < c

-- what `explain` hands back and says, where the call comes to o
pub record ExplainIs (map counts : List ℕ) (o : Outcome Why) (part : List ℕ) (said : ℕ) : Type 0 where
  pub part_is : part ≡ part_said map counts o
  pub said_is : said ≡ number_said o

abbrev pub Explains : (map counts : List ℕ) → Rmap → ℕ → (part : List ℕ) → (said : ℕ) → Type 0
Explains map counts x b part said = ExplainIs map counts (explain_outcome map counts x b) part said
