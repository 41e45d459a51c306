-- The shared counts as a list: what a record says, and questions 19 and 21.
-- Assumes nothing.
use Rattle.std.specs.Prelude.{ℕ, ◌+◌, ◌-◌, ◌/◌, ◌%◌, ◌^◌, Bool, cond, ◌&&◌, ◌||◌, List, [], ◌∷◌, ltb, leb, eqb, length}
use Rattle.codec.specs.Question.{Outcome, done, ask, answer}
use Rattle.codec.specs.Records.{records_of, refcounts}
use Rattle.codec.specs.Accepted.{end_limit, whole, in_order}
use Rattle.codec.specs.declared.refcount.Refcount.{Refcount}

-- bit 31 of the start marks staging, and the rest is the block
abbrev pub cow_flag : ℕ
cow_flag = 2 ^ 31

unfoldable pub staging : Refcount → Bool
staging r = leb cow_flag r.startblock

abbrev pub block : Refcount → ℕ
block r = r.startblock % cow_flag

-- the most owners that a record can tell of
abbrev pub max_refcount : ℕ
max_refcount = 2 ^ 32 - 1

-- a record lies over the blocks from its block up to its end
abbrev pub end : Refcount → ℕ
end r = block r + r.blockcount

-- an end at most 2,147,483,648, no count 0, shared owners 2 or more, staging owners 1
unfoldable pub good : Refcount → Bool
good r = leb (end r) end_limit && (ltb 0 r.blockcount && cond (staging r) (eqb r.refcount 1) (leb 2 r.refcount))

-- shared before staging, none starting before its predecessor of the same kind ends
unfoldable pub follows : Refcount → Refcount → Bool
follows q r = cond (staging q) (staging r && leb (end q) (block r)) (staging r || leb (end q) (block r))

-- any record may follow this one
abbrev pub least : Refcount
least = record { startblock = 0; blockcount = 0; refcount = 0 }

-- 21
abbrev pub accepted : List Refcount → Bool
accepted l = in_order good follows least l

-- 19, 21; the result is how many records there are
unfoldable pub check_order : List ℕ → Outcome ℕ
check_order b = answer (ask 19 (whole refcounts.size b) ∷ ask 21 (accepted (records_of refcounts b)) ∷ []) (done (length b / refcounts.size))
