-- Blocks taken that others hold already: the edit of the shared counts, as a list of records.
-- Assumes nothing.
use Rattle.std.specs.Prelude.{ℕ, ◌+◌, ◌≤◌, min, max, ◌≡◌, Bool, true, not, cond, ◌&&◌, List, [], ◌∷◌, ◌++◌, leb, length}
use Rattle.codec.specs.Accepted.{end_limit}
use Rattle.codec.specs.Question.{Outcome, done, ask, answer}
use Rattle.codec.specs.Records.{records_of, bytes_of, refcounts}
use Rattle.codec.specs.Refcounts.{max_refcount, staging, accepted}
use Rattle.codec.specs.declared.refcount.Refcount.{Refcount}
use Rattle.lists.specs.Release.{clear, stop, meets, piece, cut_by, join_all}
use Rattle.lists.specs.Edits.{extent_questions}

-- the shared record r with one owner more from s up to e
unfoldable pub raised : ℕ → ℕ → Refcount → List Refcount
raised s e r = cut_by (λ a z n. piece a z (n + 1)) s e r

-- one owner more from a up to e: the blocks that no shared record lies over have one, and get a record of 2. Staging, which stands behind all
-- shared records, stays.
unfoldable pub raise_all : ℕ → ℕ → List Refcount → List Refcount
raise_all a e [] = piece a e 2
raise_all a e (r ∷ l) =
    cond (staging r) (piece a e 2 ++ (r ∷ l)) (piece a (min r.startblock e) 2 ++ (raised a e r ++ raise_all (max a (stop r)) e l))

-- the counts after the blocks from s up to e are taken once more
abbrev pub raise : ℕ → ℕ → List Refcount → List Refcount
raise s e l = join_all (raise_all s e l)

-- does the shared record r meet the blocks from s up to e with 4,294,967,295 owners, the most that its bytes can hold?
unfoldable pub full : ℕ → ℕ → Refcount → Bool
full s e r = leb max_refcount r.refcount && meets s e r

-- 28: has no shared record that meets the blocks from s up to e as many owners already?
unfoldable pub owners_fit : ℕ → ℕ → List Refcount → Bool
owners_fit s e [] = true
owners_fit s e (r ∷ l) = not (full s e r) && owners_fit s e l

-- 19, 21, 22, 25, 28
unfoldable pub raise_outcome : List ℕ → ℕ → ℕ → Outcome (List Refcount)
raise_outcome c start count =
    let l : List Refcount = records_of refcounts c in
    answer (extent_questions c start count ++ (ask 28 (owners_fit start (start + count) l) ∷ [])) (done (raise start (start + count) l))

-- the questions hold that the second step needs, and the new counts fit what was lent
pub record Raisable (l : List Refcount) (start count room : ℕ) : Type 0 where
  pub end : start + count ≤ end_limit
  pub accepted : accepted l ≡ true
  pub clear : clear start (start + count) l ≡ true
  pub owners : owners_fit start (start + count) l ≡ true
  pub counts : length (bytes_of refcounts (raise start (start + count) l)) ≤ room
