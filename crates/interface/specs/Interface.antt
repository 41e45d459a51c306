-- What the C interface makes of the numbers it is given, and what it says of an outcome: a number, and four figures.
-- Assumes nothing.
use Rattle.std.specs.Prelude.{ℕ, ◌≡◌, cond, List, [], ◌∷◌, ◌++◌, eqb}
use Rattle.codec.specs.Bytes.{be_bytes}
use Rattle.codec.specs.Question.{Values, none, two, Outcome, done, refused}
use Rattle.codec.specs.declared.rmap.Rmap.{Rmap}
use Rattle.blocks.specs.declared.geometry.Geometry.{Geometry}
use Rattle.blocks.specs.declared.kind.TreeKind.{TreeKind}
use Rattle.blocks.specs.declared.kind.TreeKind.TheVariants as kinds

-- ---- what is given

-- the geometry; the 16 bytes of the UUID are two big-endian numbers, and the last sequence number is one more
abbrev pub geometry_of : ℕ → ℕ → ℕ → ℕ → ℕ → ℕ → ℕ → Geometry
geometry_of version blocksize agblocks agno high low last =
    record { version = version; blocksize = blocksize; agblocks = agblocks; agno = agno; meta_uuid = be_bytes 8 high ++ be_bytes 8 low; last_lsn = last }

-- 0 is the reverse map, 2 free space by block and 3 free space by size; 1, and any other number, the counts
abbrev pub kind_of : ℕ → TreeKind
kind_of n = cond (eqb n 0) kinds.Rmap (cond (eqb n 2) kinds.ByBlock (cond (eqb n 3) kinds.BySize kinds.Refcount))

-- the extent of an edit
abbrev pub extent_of : ℕ → ℕ → ℕ → ℕ → Rmap
extent_of start count owner offset = record { startblock = start; blockcount = count; owner = owner; offset = offset }

-- ---- what is said

-- 0 where the call was done, else the number of the refusal (docs/QUESTIONS.md)
abbrev pub number_of : {A : Type 0} → Outcome A → ℕ
number_of (done x) = 0
number_of (refused n v) = n

-- of a refusal: what was expected, what was found, zeros where there are no such numbers, and a third figure
abbrev pub value_figures : Values → ℕ → List ℕ
value_figures none n = 0 ∷ 0 ∷ n ∷ 0 ∷ []
value_figures (two e f) n = e ∷ f ∷ n ∷ 0 ∷ []

-- f of the result, or the refusal's two values
abbrev pub figures_of : {A : Type 0} → (A → List ℕ) → Outcome A → List ℕ
figures_of f (done x) = f x
figures_of f (refused n v) = value_figures v 0

-- a call that comes to o answers r and leaves these figures
pub record Says {A : Type 0} (f : A → List ℕ) (o : Outcome A) (r : ℕ) (said : List ℕ) : Type 0 where
  pub number : r ≡ number_of o
  pub figures : said ≡ figures_of f o
