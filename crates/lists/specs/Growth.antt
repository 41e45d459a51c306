-- How many records more the new lists have at most. proofs/Growing.antt proves `EveryMapLength` and `EveryCountsLength`, with lists that are as long as
-- that. What room so suffices for the calls is in crates/groups/specs/Room.antt.
-- Assumes nothing.
use Rattle.std.specs.Prelude.{ℕ, ◌+◌, ◌≤◌, min, ◌≡◌, true, cond, List, [], ◌∷◌, length}
use Rattle.codec.specs.Accepted.{end_limit}
use Rattle.codec.specs.Records.{AllStorable, refcounts}
use Rattle.codec.specs.Refcounts.{accepted}
use Rattle.codec.specs.declared.rmap.Rmap.{Rmap}
use Rattle.codec.specs.declared.refcount.Refcount.{Refcount}
use Rattle.lists.specs.declared.splice.Edit.{Edit}
use Rattle.lists.specs.Release.{meets, release, unshared}
use Rattle.lists.specs.Edits.{edited}
use Rattle.lists.specs.Raise.{owners_fit, raise}

-- how many shared records meet the blocks from s up to e
unfoldable pub met : ℕ → ℕ → List Refcount → ℕ
met s e [] = 0
met s e (r ∷ l) = cond (meets s e r) 1 0 + met s e l

-- how many records more a raise leaves at most: two and one for each gap, or one more than shared records are met, whichever is less. The gaps are the
-- runs of `unshared`.
abbrev pub most_raised : List Refcount → (start count : ℕ) → ℕ
most_raised l start count = min (2 + length (unshared l start count)) (met start (start + count) l + 1)

-- a new reverse map has at most one record more
abbrev pub EveryMapLength : Type 0
EveryMapLength = (e : Edit) (x : Rmap) (l : List Rmap) → length (edited e x l) ≤ length l + 1

-- of accepted counts and an extent within the limit
pub record Counted (l : List Refcount) (start count : ℕ) : Type 0 where
  -- a release leaves at most two records more
  pub release : length (release start (start + count) l) ≤ length l + 2
  -- there is at most one gap more than shared records are met
  pub gaps : length (unshared l start count) ≤ met start (start + count) l + 1
  -- and a raise so many
  pub raise : owners_fit start (start + count) l ≡ true → length (raise start (start + count) l) ≤ length l + most_raised l start count

abbrev pub EveryCountsLength : Type 0
EveryCountsLength =
    (l : List Refcount) (start count : ℕ) → AllStorable refcounts l → accepted l ≡ true → start + count ≤ end_limit → Counted l start count
