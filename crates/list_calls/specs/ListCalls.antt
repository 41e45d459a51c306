-- The figures of each edit, and what the calls that edit lists say and leave, each with what was lent before and after it.
-- Assumes nothing.
use Rattle.std.specs.Prelude.{ℕ, ◌≡◌, List, [], ◌∷◌, length}
use Rattle.codec.specs.Output.{out_after}
use Rattle.codec.specs.Question.{Outcome, map_outcome}
use Rattle.codec.specs.Records.{rmaps, refcounts, free_extents}
use Rattle.codec.specs.declared.rmap.Rmap.{Rmap}
use Rattle.lists.specs.Edits.{Freed, written}
use Rattle.lists.specs.Answer.{length_of, lengths_of}
use Rattle.groups.specs.Joint.{NewLists}
use Rattle.groups.specs.Answer.{sizes_of, map_of, counts_of, free_of}
use Rattle.interface.specs.Interface.{Says}
use Rattle.lists.specs.declared.Lengths.{Lengths}
use Rattle.groups.specs.declared.Sizes.{Sizes}

-- of a new list, of the changes of a sheet, and of a sheet: its bytes
abbrev pub length_figures : ℕ → List ℕ
length_figures n = n ∷ 0 ∷ 0 ∷ 0 ∷ []

-- of a release: the bytes of the counts and of the free extents
abbrev pub release_figures : Lengths → List ℕ
release_figures n = n.counts ∷ n.free ∷ 0 ∷ 0 ∷ []

-- of an edit of both lists: the bytes of the reverse map, of the counts and of the free extents; a take has none of these
abbrev pub group_figures : Sizes → List ℕ
group_figures n = n.map ∷ n.counts ∷ n.free ∷ 0 ∷ []

-- an edit of the reverse map that comes to o
pub record EditSays (o : Outcome (List Rmap)) (r : ℕ) (said new new' : List ℕ) : Type 0 where
  pub answer : Says length_figures (length_of rmaps o) r said
  pub wrote : new' ≡ written rmaps new o

-- a release
pub record ReleaseSays (o : Outcome Freed) (r : ℕ) (said new new' free free' : List ℕ) : Type 0 where
  pub answer : Says release_figures (lengths_of o) r said
  pub counts : new' ≡ written refcounts new (map_outcome (λ f. f.counts) o)
  pub extents : free' ≡ written free_extents free (map_outcome (λ f. f.free) o)

-- an edit of both lists; a take lends nothing for free extents
pub record GroupEditSays (o : Outcome NewLists) (r : ℕ) (said map map' counts counts' free free' : List ℕ) : Type 0 where
  pub answer : Says group_figures (sizes_of o) r said
  pub map_is : map' ≡ written rmaps map (map_of o)
  pub counts_are : counts' ≡ written refcounts counts (counts_of o)
  pub free_are : free' ≡ written free_extents free (free_of o)

-- a sheet that is read or written
pub record SheetSays (o : Outcome (List ℕ)) (r : ℕ) (said out out' : List ℕ) : Type 0 where
  pub answer : Says length_figures (map_outcome length o) r said
  pub wrote : out' ≡ out_after o out
