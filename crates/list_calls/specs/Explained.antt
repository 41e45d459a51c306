-- What kf_explain said of a block is what kf_let_go of the same extent does with it, whatever that is lent. proofs/SaidSo.antt proves `EverySaidSo`, with an
-- instance.
-- Assumes nothing.
use Rattle.std.specs.Prelude.{ℕ, ◌≡◌, ◌⊎◌, true, false, List, length, get_or, take}
use Rattle.codec.specs.Records.{records_of, free_extents}
use Rattle.codec.specs.declared.rmap.Rmap.{Rmap}
use Rattle.codec.specs.declared.free_extent.FreeExtent.{FreeExtent}
use Rattle.lists.specs.Extent.{lies}
use Rattle.groups.specs.LetGo.{let_go_outcome}
use Rattle.reasons.specs.Why.{explain_outcome}
use Rattle.interface.specs.Interface.{Says}
use Rattle.list_calls.specs.ListCalls.{GroupEditSays}
use Rattle.list_calls.specs.ExplainFigures.{explain_figures}

-- the free extents that a letting go wrote, of which its third figure tells the bytes
abbrev pub free_written : (said free : List ℕ) → List FreeExtent
free_written said free = records_of free_extents (take (get_or said 2 0) free)

-- `state` is what was said of block b; kf_let_go answered r, said these figures and left `free`
pub record SaidSo (state b r : ℕ) (said free : List ℕ) : Type 0 where
  -- free now: the block is among the free extents, unless 26 stops the letting go
  pub free_now : state ≡ 0 → (r ≡ 26) ⊎ ((r ≡ 0) × (lies (free_written said free) b ≡ true))
  -- still held: it is not
  pub still_held : state ≡ 1 → (r ≡ 26) ⊎ ((r ≡ 0) × (lies (free_written said free) b ≡ false))
  -- staging: 25 refuses the letting go
  pub staging : state ≡ 2 → r ≡ 25

-- both calls kept their contracts, and kf_explain answered 0
abbrev pub EverySaidSo : Type 0
EverySaidSo =
    (map counts : List ℕ) (x : Rmap) (b : ℕ) (why : List ℕ) → Says explain_figures (explain_outcome map counts x b) 0 why
    → (r : ℕ) (said kept kept' lowered lowered' free free' : List ℕ)
    → GroupEditSays (let_go_outcome map counts x (length kept) (length lowered) (length free)) r said kept kept' lowered lowered' free free'
    → SaidSo (get_or why 0 0) b r said free'
