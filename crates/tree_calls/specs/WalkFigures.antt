-- What a walk, the link check and the textbook walk say and leave. The third figure of each is the bytes of its records where it is done, and its visits where it is refused.
-- Assumes nothing.
use Rattle.std.specs.Prelude.{ℕ, ◌≡◌, Bool, cond, List, [], ◌∷◌}
use Rattle.codec.specs.Question.{Outcome, done, refused}
use Rattle.walks.specs.Walk.{Trace}
use Rattle.walks.specs.WalkCall.{Counts, Report, report, scratch_after, blocks_after, records_after}
use Rattle.walks.specs.Links.{says_linked}
use Rattle.interface.specs.Interface.{number_of, value_figures}

-- f of the result; of a refusal its two values, then the blocks that passed 13
abbrev pub visit_figures : {A : Type 0} → (A → List ℕ) → Outcome A → ℕ → List ℕ
visit_figures f (done x) passed = f x
visit_figures f (refused n v) passed = value_figures v passed

-- a call that visits blocks, that comes to o and of which so many passed 13, answers r and leaves these figures
pub record TellsVisits {A : Type 0} (f : A → List ℕ) (o : Outcome A) (passed r : ℕ) (said : List ℕ) : Type 0 where
  pub number : r ≡ number_of o
  pub figures : said ≡ visit_figures f o passed

-- a walk: visits, records, their bytes and a fourth figure
abbrev pub walk_figures : ℕ → Counts → List ℕ
walk_figures fourth c = c.visits ∷ c.records ∷ c.bytes ∷ fourth ∷ []

abbrev pub Reports : ℕ → Report → ℕ → List ℕ → Type 0
Reports fourth p r said = TellsVisits (walk_figures fourth) p.outcome p.passed r said

-- the four lent slices after a walk that comes to o, of a tree of so many levels
pub record Leaves (levels : ℕ) (o : Outcome Trace) (stack stack' scratch scratch' blocks blocks' out out' : List ℕ) : Type 0 where
  pub stack_is : stack' ≡ scratch_after o stack
  pub scratch_is : scratch' ≡ scratch_after o scratch
  pub blocks_are : blocks' ≡ blocks_after levels o blocks
  pub records_are : out' ≡ records_after o out

-- a walk that comes to o, of records of w bytes, with a fourth figure
pub record Walks (fourth w levels : ℕ) (o : Outcome Trace) (r : ℕ) (said stack stack' scratch scratch' blocks blocks' out out' : List ℕ) : Type 0 where
  pub answer : Reports fourth (report w o) r said
  pub leaves : Leaves levels o stack stack' scratch scratch' blocks blocks' out out'

-- the walk's is 0
abbrev pub WalkSays : (w levels : ℕ) → Outcome Trace → ℕ → (said stack stack' scratch scratch' blocks blocks' out out' : List ℕ) → Type 0
WalkSays = Walks 0

-- the link check's is 1 where every level is linked, else 0: of an image of blocks of so many bytes
abbrev pub yes_figure : Bool → ℕ
yes_figure so = cond so 1 0

abbrev pub LinkingSays : (size : ℕ) (image : List ℕ) (w levels : ℕ) → Outcome Trace → ℕ
    → (said stack stack' scratch scratch' blocks blocks' out out' : List ℕ) → Type 0
LinkingSays size image w levels o = Walks (yes_figure (says_linked size image levels o)) w levels o

-- the textbook walk's is the walk's, with no stack
abbrev pub TextbookSays : (w levels : ℕ) → Outcome Trace → ℕ → (said scratch scratch' blocks blocks' out out' : List ℕ) → Type 0
TextbookSays w levels o r said = WalkSays w levels o r said [] []
