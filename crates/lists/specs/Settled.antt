-- What a release or a raise leaves besides the owners: every join is made, and staging stays where it was. proofs/Settling.antt proves the two
-- statements at the end, with an instance, and proofs/OnlyCounts.antt shows that with the owners over each block they leave no other list.
-- Assumes nothing.
use Rattle.std.specs.Prelude.{ℕ, ◌≡◌, Bool, false, ◌&&◌, ◌||◌, List, [], ◌∷◌}
use Rattle.codec.specs.Bytes.{IsBytes}
use Rattle.codec.specs.Question.{done}
use Rattle.codec.specs.Records.{records_of, refcounts}
use Rattle.codec.specs.Refcounts.{staging, block}
use Rattle.codec.specs.declared.refcount.Refcount.{Refcount}
use Rattle.lists.specs.Extent.{over}
use Rattle.lists.specs.Release.{continues}
use Rattle.lists.specs.Edits.{Freed, release_outcome}
use Rattle.lists.specs.Raise.{raise_outcome}

-- no record continues the one before it; r stands before the first
abbrev pub PartedFrom : Refcount → List Refcount → Type 0
PartedFrom r [] = Unit {0}
PartedFrom r (s ∷ l) = (continues r s ≡ false) × PartedFrom s l

abbrev pub Parted : List Refcount → Type 0
Parted [] = Unit {0}
Parted (r ∷ l) = PartedFrom r l

-- does a staging record lie over block b?
unfoldable pub staged : List Refcount → ℕ → Bool
staged [] b = false
staged (r ∷ l) b = (staging r && over (block r) r.blockcount b) || staged l b

-- m is what an edit of the counts l leaves
pub record Settled (l m : List Refcount) : Type 0 where
  -- all adjacent equals are joined
  pub joined : Parted m
  -- staging lies over the same blocks
  pub staging : (b : ℕ) → staged m b ≡ staged l b

-- "all adjacent equals in the whole list join": every release and every raise that is done leaves settled counts
abbrev pub EveryRelease : Type 0
EveryRelease =
    (c : List ℕ) (start count room free_room : ℕ) (f : Freed) → IsBytes c → release_outcome c start count room free_room ≡ done f
    → Settled (records_of refcounts c) f.counts

abbrev pub EveryRaise : Type 0
EveryRaise = (c : List ℕ) (start count : ℕ) (m : List Refcount) → IsBytes c → raise_outcome c start count ≡ done m → Settled (records_of refcounts c) m
