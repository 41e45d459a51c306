-- What the answer of an edit of both lists says, and what each call answers and leaves in what was lent.
-- Assumes nothing.
use Rattle.std.specs.Prelude.{ℕ, ◌≡◌, List, [], length, Result, Ok, Err}
use Rattle.codec.specs.Question.{Outcome, done, refused, map_outcome}
use Rattle.codec.specs.Records.{bytes_of, rmaps, refcounts, free_extents}
use Rattle.codec.specs.declared.rmap.Rmap.{Rmap}
use Rattle.codec.specs.declared.refcount.Refcount.{Refcount}
use Rattle.codec.specs.declared.free_extent.FreeExtent.{FreeExtent}
use Rattle.lists.specs.declared.EditRefusal.{EditRefusal}
use Rattle.lists.specs.Edits.{written}
use Rattle.lists.specs.Answer.{edit_number, edit_values}
use Rattle.groups.specs.declared.Sizes.{Sizes}
use Rattle.groups.specs.Joint.{NewLists}
use Rattle.groups.specs.LetGo.{let_go_outcome}
use Rattle.groups.specs.TakeHeld.{take_held_outcome}

abbrev pub group_edited_outcome : Result Sizes EditRefusal → Outcome Sizes
group_edited_outcome (Ok n) = done n
group_edited_outcome (Err r) = refused (edit_number r) (edit_values r)

-- the lengths of the new lists and of the free extents, in bytes
abbrev pub sizes : NewLists → Sizes
sizes g =
    record { map = length (bytes_of rmaps g.map); counts = length (bytes_of refcounts g.counts); free = length (bytes_of free_extents g.free) }

abbrev pub sizes_of : Outcome NewLists → Outcome Sizes
sizes_of o = map_outcome sizes o

-- each list of the result
abbrev pub map_of : Outcome NewLists → Outcome (List Rmap)
map_of o = map_outcome (λ g. g.map) o

abbrev pub counts_of : Outcome NewLists → Outcome (List Refcount)
counts_of o = map_outcome (λ g. g.counts) o

abbrev pub free_of : Outcome NewLists → Outcome (List FreeExtent)
free_of o = map_outcome (λ g. g.free) o

-- ---- the calls, each with what was lent before and after it

-- an edit of both lists that comes to o
pub record GroupEditIs (o : Outcome NewLists) (r : Result Sizes EditRefusal) (map map' counts counts' free free' : List ℕ) : Type 0 where
  pub said : group_edited_outcome r ≡ sizes_of o
  pub map_is : map' ≡ written rmaps map (map_of o)
  pub counts_are : counts' ≡ written refcounts counts (counts_of o)
  pub free_are : free' ≡ written free_extents free (free_of o)

abbrev pub LetsGo : (map counts : List ℕ) → Rmap → Result Sizes EditRefusal → (kept kept' lowered lowered' free free' : List ℕ) → Type 0
LetsGo map counts x r kept kept' lowered lowered' free free' =
    GroupEditIs (let_go_outcome map counts x (length kept) (length lowered) (length free)) r kept kept' lowered lowered' free free'

-- nothing is lent for free extents
abbrev pub TakesHeld : (map counts : List ℕ) → Rmap → Result Sizes EditRefusal → (taken taken' raised raised' : List ℕ) → Type 0
TakesHeld map counts x r taken taken' raised raised' =
    GroupEditIs (take_held_outcome map counts x (length taken) (length raised)) r taken taken' raised raised' [] []
