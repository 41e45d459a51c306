-- The number (docs/QUESTIONS.md) and the values of each refusal of an edit, what each answer says, the lengths in bytes or the number, and what each call of an edit
-- answers and leaves.
-- Assumes nothing.
use Rattle.std.specs.Prelude.{ℕ, ◌≡◌, List, length, Result, Ok, Err}
use Rattle.codec.specs.Question.{Values, none, Outcome, done, refused, map_outcome}
use Rattle.codec.specs.Records.{Kind, bytes_of, rmaps, refcounts, free_extents}
use Rattle.codec.specs.ListRefusal.{list_number}
use Rattle.codec.specs.declared.rmap.Rmap.{Rmap}
use Rattle.lists.specs.declared.EditRefusal.{EditRefusal}
use Rattle.lists.specs.declared.EditRefusal.TheVariants as why
use Rattle.lists.specs.declared.Lengths.{Lengths}
use Rattle.lists.specs.Edits.{insert_outcome, insert_shared_outcome, remove_outcome, Freed, release_outcome, written}

abbrev pub edit_number : EditRefusal → ℕ
edit_number (why.List r) = list_number r
edit_number why.Extent = 22
edit_number why.Overlap = 23
edit_number why.Missing = 24
edit_number why.Staging = 25
edit_number why.Room = 26
edit_number why.Unheld = 27
edit_number why.Owners = 28

-- no question on an edit has values
abbrev pub edit_values : EditRefusal → Values
edit_values r = none

abbrev pub edited_outcome : Result ℕ EditRefusal → Outcome ℕ
edited_outcome (Ok n) = done n
edited_outcome (Err r) = refused (edit_number r) (edit_values r)

abbrev pub released_outcome : Result Lengths EditRefusal → Outcome Lengths
released_outcome (Ok n) = done n
released_outcome (Err r) = refused (edit_number r) (edit_values r)

-- the length of the new list in bytes
abbrev pub length_of : {R : Type 0} → Kind R → Outcome (List R) → Outcome ℕ
length_of k o = map_outcome (λ rs. length (bytes_of k rs)) o

-- both lengths
abbrev pub lengths_of : Outcome Freed → Outcome Lengths
lengths_of o = map_outcome (λ f. record { counts = length (bytes_of refcounts f.counts); free = length (bytes_of free_extents f.free) }) o

-- ---- the calls, each with what was lent before and after it

-- an edit of the reverse map that comes to o
pub record EditIs (o : Outcome (List Rmap)) (r : Result ℕ EditRefusal) (new new' : List ℕ) : Type 0 where
  pub said : edited_outcome r ≡ length_of rmaps o
  pub wrote : new' ≡ written rmaps new o

abbrev pub Inserts : List ℕ → Rmap → Result ℕ EditRefusal → (new new' : List ℕ) → Type 0
Inserts old x r new new' = EditIs (insert_outcome old x (length new)) r new new'

abbrev pub InsertsShared : List ℕ → Rmap → Result ℕ EditRefusal → (new new' : List ℕ) → Type 0
InsertsShared old x r new new' = EditIs (insert_shared_outcome old x (length new)) r new new'

abbrev pub Removes : List ℕ → Rmap → Result ℕ EditRefusal → (new new' : List ℕ) → Type 0
Removes old x r new new' = EditIs (remove_outcome old x (length new)) r new new'

-- a release that comes to o
pub record ReleaseIs (o : Outcome Freed) (r : Result Lengths EditRefusal) (new new' free free' : List ℕ) : Type 0 where
  pub said : released_outcome r ≡ lengths_of o
  pub counts : new' ≡ written refcounts new (map_outcome (λ f. f.counts) o)
  pub extents : free' ≡ written free_extents free (map_outcome (λ f. f.free) o)

abbrev pub Releases : List ℕ → (start count : ℕ) → Result Lengths EditRefusal → (new new' free free' : List ℕ) → Type 0
Releases c start count r new new' free free' = ReleaseIs (release_outcome c start count (length new) (length free)) r new new' free free'
