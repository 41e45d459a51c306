-- Edits of a reverse map in two steps: an edit is prepared, which writes nothing, as a splice, the new list as parts of the old one; the splice is
-- written. Between them a caller asks 26.
-- Assumes nothing.
use Rattle.std.specs.Prelude.{ℕ, ◌+◌, ◌-◌, ◌≤◌, ◌≡◌, List, [], ◌∷◌, ◌++◌, length, take, drop, Option, Some, None, Result, Ok, Err}
use Rattle.codec.specs.Question.{Outcome, done, refused, answer}
use Rattle.codec.specs.Records.{records_of, bytes_of, rmaps}
use Rattle.codec.specs.declared.rmap.Rmap.{Rmap}
use Rattle.lists.specs.declared.EditRefusal.{EditRefusal}
use Rattle.lists.specs.declared.splice.Edit.{Edit}
use Rattle.lists.specs.declared.splice.Part.{Part}
use Rattle.lists.specs.declared.splice.Splice.{Splice}
use Rattle.lists.specs.Edits.{edited, edit_questions}
use Rattle.lists.specs.Answer.{edit_number, edit_values}

-- what an edit comes to but for the question of room
unfoldable pub edit_before26 : Edit → List ℕ → Rmap → Outcome (List Rmap)
edit_before26 e b x = answer (edit_questions e b x) (done (edited e x (records_of rmaps b)))

-- the records from a up to b
abbrev pub between : {R : Type 0} → List R → ℕ → ℕ → List R
between l a b = take (b - a) (drop a l)

-- the record, if there is one
abbrev pub piece_of : Option Rmap → List Rmap
piece_of None = []
piece_of (Some r) = r ∷ []

abbrev pub part_of : List Rmap → Part → List Rmap
part_of l p = piece_of p.rmap ++ between l p.from p.to

-- the new list: the first records of the old one, two parts, and the records of the old one from a place on
unfoldable pub parts_of : List Rmap → ℕ → Part → Part → ℕ → List Rmap
parts_of l front first second rest = take front l ++ part_of l first ++ part_of l second ++ drop rest l

abbrev pub list_of : List Rmap → Splice → List Rmap
list_of l p = parts_of l p.front p.first p.second p.rest

abbrev pub part_count : Part → ℕ
part_count p = length (piece_of p.rmap) + (p.to - p.from)

-- the parts lie in an old list of n records, and the new one has one record more at most
pub record PartsGood (n a : ℕ) (p q : Part) (z : ℕ) : Type 0 where
  pub front : a ≤ n
  pub first : (p.from ≤ p.to) × (p.to ≤ n)
  pub second : (q.from ≤ q.to) × (q.to ≤ n)
  pub rest : z ≤ n
  pub count : a + part_count p + part_count q + (n - z) ≤ n + 1

-- the same of a splice of the list l, and its size is said
pub record SpliceGood (l : List Rmap) (p : Splice) : Type 0 where
  pub parts : PartsGood (length l) p.front p.first p.second p.rest
  pub size : p.size ≡ length (bytes_of rmaps (list_of l p))

-- what a prepared edit comes to: its refusal, or its new list
unfoldable pub prepared_outcome : List Rmap → Result Splice EditRefusal → Outcome (List Rmap)
prepared_outcome l (Err q) = refused (edit_number q) (edit_values q)
prepared_outcome l (Ok p) = done (list_of l p)

abbrev pub PreparedGood : List Rmap → Result Splice EditRefusal → Type 0
PreparedGood l (Err q) = Unit {0}
PreparedGood l (Ok p) = SpliceGood l p

-- p is the edit e of the list b by the extent x, prepared
abbrev pub PreparedIs : Edit → List ℕ → Rmap → Result Splice EditRefusal → Type 0
PreparedIs e b x p = (prepared_outcome (records_of rmaps b) p ≡ edit_before26 e b x) × PreparedGood (records_of rmaps b) p
