-- An edit of both lists of a group: what it leaves, and what it comes to.
-- Assumes nothing.
use Rattle.std.specs.Prelude.{ℕ, Bool, ◌&&◌, List, [], ◌∷◌, ◌++◌}
use Rattle.codec.specs.Question.{Outcome, done, Question, ask, answer}
use Rattle.codec.specs.Records.{rmaps, refcounts, free_extents}
use Rattle.codec.specs.declared.rmap.Rmap.{Rmap}
use Rattle.codec.specs.declared.refcount.Refcount.{Refcount}
use Rattle.codec.specs.declared.free_extent.FreeExtent.{FreeExtent}
use Rattle.lists.specs.Edits.{fits}

-- the two new lists, and the free extents
pub record NewLists : Type 0 where
  pub map : List Rmap
  pub counts : List Refcount
  pub free : List FreeExtent

-- 26: do both lists and the free extents fit?
abbrev pub fit_all : NewLists → ℕ → ℕ → ℕ → Bool
fit_all g room counts_room free_room = fits rmaps g.map room && (fits refcounts g.counts counts_room && fits free_extents g.free free_room)

-- an edit with these questions that leaves g, 26 asked last of all; the rooms are how many bytes were lent for the new reverse map, the new counts
-- and the free extents
abbrev pub joint_outcome : List Question → NewLists → ℕ → ℕ → ℕ → Outcome NewLists
joint_outcome qs g room counts_room free_room = answer (qs ++ (ask 26 (fit_all g room counts_room free_room) ∷ [])) (done g)
