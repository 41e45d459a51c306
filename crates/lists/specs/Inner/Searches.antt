-- What an edit of a reverse map searches for: which records pass each search, and what one pass over the list finds.
-- Assumes nothing.
use Rattle.std.specs.Prelude.{ℕ, ◌%◌, ◌≡◌, Bool, true, false, ◌&&◌, List, ◌++◌, leb, length, Option, Some, None, Result, Ok, Err}
use Rattle.codec.specs.Question.{Outcome, refused, Question, answer}
use Rattle.codec.specs.Records.{records_of, rmaps}
use Rattle.codec.specs.Rmaps.{end, good, follows, accepted}
use Rattle.codec.specs.declared.rmap.Rmap.{Rmap}
use Rattle.lists.specs.declared.EditRefusal.{EditRefusal}
use Rattle.lists.specs.declared.splice.Edit.{Edit}
use Rattle.lists.specs.declared.splice.Edit.TheVariants.{Insert, InsertShared, Remove}
use Rattle.lists.specs.declared.findings.Hits.{Hits}
use Rattle.lists.specs.declared.findings.Scan.{Scan}
use Rattle.lists.specs.RmapEdits.{index_where, note_of, overlaps, clash, continues, contains, lines_up}
use Rattle.lists.specs.Edits.{map_questions}
use Rattle.lists.specs.Answer.{edit_number, edit_values}

-- where z goes: before the first record that may follow it
abbrev pub seat : Rmap → List Rmap → ℕ
seat z l = index_where (follows z) l

-- what an edit searches for. The place of x in `insert` is found by halves.
unfoldable pub tests : Edit → Rmap → Rmap → Hits
tests Insert x r = record { conflict = overlaps x r; before = false; after = false; aligned = false; containing = false }
tests InsertShared x r = record { conflict = clash x r; before = continues r x; after = continues x r; aligned = false; containing = false }
tests Remove x r = record { conflict = false; before = false; after = false; aligned = contains x r && lines_up x r; containing = contains x r }

-- have x and r a block in common, or do they lie side by side? No other record passes a search.
unfoldable pub touches : Rmap → Rmap → Bool
touches x r = leb x.startblock (end r) && leb r.startblock (end x)

-- k is what was found in s, and in the record i, which passes h
pub record Noted (h : Hits) (i n : ℕ) (s k : Scan) : Type 0 where
  pub conflict : k.conflict ≡ note_of s.conflict n i h.conflict
  pub before : k.before ≡ note_of s.before n i h.before
  pub after : k.after ≡ note_of s.after n i h.after
  pub aligned : k.aligned ≡ note_of s.aligned n i h.aligned
  pub containing : k.containing ≡ note_of s.containing n i h.containing

-- what was found is the first that passes each
pub record Finds (e : Edit) (x : Rmap) (l : List Rmap) (s : Scan) : Type 0 where
  pub conflict : s.conflict ≡ index_where (λ r. (tests e x r).conflict) l
  pub before : s.before ≡ index_where (λ r. (tests e x r).before) l
  pub after : s.after ≡ index_where (λ r. (tests e x r).after) l
  pub aligned : s.aligned ≡ index_where (λ r. (tests e x r).aligned) l
  pub containing : s.containing ≡ index_where (λ r. (tests e x r).containing) l

-- nothing is found in a list that is not in order
abbrev pub ScanIs : Edit → Rmap → List Rmap → Option Scan → Type 0
ScanIs e x l None = accepted l ≡ false
ScanIs e x l (Some s) = (accepted l ≡ true) × Finds e x l s

-- 19, 20 and 22 hold
pub record TakeGood (b : List ℕ) (x : Rmap) : Type 0 where
  pub aligned : length b % rmaps.size ≡ 0
  pub ordered : accepted (records_of rmaps b) ≡ true
  pub extent : good x ≡ true

-- a refusal is that of any questions that begin with those on the list and on the extent
abbrev pub AskedIs : Edit → List ℕ → Rmap → Result Scan EditRefusal → Type 0
AskedIs e b x (Err q) = (qs : List Question) (o : Outcome (List Rmap)) → answer (map_questions b x ++ qs) o ≡ refused (edit_number q) (edit_values q)
AskedIs e b x (Ok s) = TakeGood b x × Finds e x (records_of rmaps b) s
