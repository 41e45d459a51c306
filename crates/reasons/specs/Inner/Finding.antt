-- What one pass over the reverse map promises: the record that a letting go cuts, and the first two records over a block.
-- Assumes nothing.
use Rattle.std.specs.Prelude.{◌≡◌, ◌≤◌, ◌&&◌, ℕ, Bool, true, false, cond, List, nat_lt, Option, Some, None}
use Rattle.codec.specs.Question.{Outcome, done, answer}
use Rattle.codec.specs.Records.{records_of, rmaps}
use Rattle.codec.specs.Rmaps.{accepted}
use Rattle.codec.specs.declared.rmap.Rmap.{Rmap}
use Rattle.lists.specs.declared.splice.Edit.TheVariants.{Remove}
use Rattle.lists.specs.Extent.{over}
use Rattle.lists.specs.RmapEdits.{index_where, note_of, contains, lines_up, cut_at}
use Rattle.lists.specs.Edits.{edit_questions}
use Rattle.reasons.specs.declared.scan.Found.{Found}
use Rattle.reasons.specs.Why.{map_over, index_but}

-- ---- the tests

-- a record over block b that contains x, and one that lines up with it besides
abbrev pub over_contains : Rmap → ℕ → Rmap → Bool
over_contains x b r = map_over b r && contains x r

abbrev pub over_aligned : Rmap → ℕ → Rmap → Bool
over_aligned x b r = map_over b r && (contains x r && lines_up x r)

-- the second record over block b
abbrev pub second_over : ℕ → List Rmap → ℕ
second_over b l = index_but (map_over b) (index_where (map_over b) l) l

-- ---- one pass

-- nothing was found past the list, of n records
abbrev pub Within : ℕ → Found → Type 0
Within n s = (s.aligned ≤ n) × (s.containing ≤ n) × (s.first ≤ n) × (s.second ≤ n)

-- k is what was found in s, and in the record i, which is r
pub record Noted (x : Rmap) (b : ℕ) (r : Rmap) (i n : ℕ) (s k : Found) : Type 0 where
  pub aligned : k.aligned ≡ note_of s.aligned n i (over_aligned x b r)
  pub containing : k.containing ≡ note_of s.containing n i (over_contains x b r)
  pub first : k.first ≡ note_of s.first n i (map_over b r)
  pub second : k.second ≡ note_of s.second n i (map_over b r && nat_lt s.first n)

pub record Finds (x : Rmap) (b : ℕ) (l : List Rmap) (s : Found) : Type 0 where
  pub aligned : s.aligned ≡ index_where (over_aligned x b) l
  pub containing : s.containing ≡ index_where (over_contains x b) l
  pub first : s.first ≡ index_where (map_over b) l
  pub second : s.second ≡ second_over b l

-- nothing is found in a list that is not in order
abbrev pub FoundIs : Rmap → ℕ → List Rmap → Option Found → Type 0
FoundIs x b l None = accepted l ≡ false
FoundIs x b l (Some s) = (accepted l ≡ true) × Finds x b l s

-- ---- the other record

-- the block that is searched by: b where it is one of x, else the first of x
abbrev pub probe : Rmap → ℕ → ℕ
probe x b = cond (over x.startblock x.blockcount b) b x.startblock

-- 19, 20, 22, 24, then the first record over that block other than the one cut
unfoldable pub other_before26 : List ℕ → Rmap → ℕ → Outcome ℕ
other_before26 map x b =
    let m : List Rmap = records_of rmaps map in
    answer (edit_questions Remove map x) (done (index_but (map_over (probe x b)) (cut_at x m) m))
