-- What makes lent bytes a list that an edit or a build takes: whole records (19), each of them good and in its order (20, 21).
-- Assumes nothing.
use Rattle.std.specs.Prelude.{ℕ, ◌/◌, ◌%◌, ◌^◌, Bool, true, ◌&&◌, List, [], ◌∷◌, eqb, length}
use Rattle.codec.specs.Question.{Outcome, done, ask, answer}
use Rattle.codec.specs.Records.{Kind, records_of}

-- the largest end of an extent
abbrev pub end_limit : ℕ
end_limit = 2 ^ 31

-- 19: is the length a multiple of the record's?
unfoldable pub whole : ℕ → List ℕ → Bool
whole size l = eqb (length l % size) 0

-- is every record good, and may each follow the one before it? q stands before the first.
unfoldable pub in_order : {R : Type 0} → (R → Bool) → (R → R → Bool) → R → List R → Bool
in_order good follows q [] = true
in_order good follows q (r ∷ l) = good r && (follows q r && in_order good follows r l)

-- 19, then the question n, whether the records are good and in order; the result is how many there are
abbrev pub check_list : {R : Type 0} → Kind R → (R → Bool) → (R → R → Bool) → R → ℕ → List ℕ → Outcome ℕ
check_list k good follows q n b =
    answer (ask 19 (whole k.size b) ∷ ask n (in_order good follows q (records_of k b)) ∷ []) (done (length b / k.size))
