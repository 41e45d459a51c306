-- What the steps of an explanation promise one another.
-- Assumes nothing.
use Rattle.std.specs.Prelude.{◌∷◌, ℕ, Bool, cond, List, []}
use Rattle.codec.specs.Question.{none, Outcome, done, refused, ask, answer}
use Rattle.codec.specs.declared.rmap.Rmap.{Rmap}
use Rattle.codec.specs.declared.refcount.Refcount.{Refcount}
use Rattle.lists.specs.declared.EditRefusal.{EditRefusal}
use Rattle.lists.specs.declared.EditRefusal.TheVariants as why
use Rattle.lists.specs.Extent.{over}
use Rattle.lists.specs.RmapEdits.{index_where}
use Rattle.lists.specs.Answer.{edit_number}
use Rattle.reasons.specs.declared.explain.Why.{Why}
use Rattle.reasons.specs.declared.explain.Why.TheVariants.{Staging}
use Rattle.reasons.specs.Why.{shared_over, staged_over, stands, held_of}

-- a staging record over block b, or a shared count
abbrev pub count_over : Bool → ℕ → Refcount → Bool
count_over staging b r = cond staging (staged_over b r) (shared_over b r)

-- 25 and 31 where the extent is not clear of staging records
abbrev pub staged_answer : Rmap → ℕ → List Refcount → Outcome Why
staged_answer x b c =
    let staged : ℕ = index_where (staged_over b) c in
    answer (ask 25 (stands staged c) ∷ ask 31 (over x.startblock x.blockcount b) ∷ []) (done (Staging staged))

-- 31 where it is clear
abbrev pub held_answer : Rmap → (other b : ℕ) → List Rmap → List Refcount → Outcome Why
held_answer x other b m c = answer (ask 31 (over x.startblock x.blockcount b) ∷ []) (done (held_of other b m c))

-- the release of the counts is refused: every refusal but 25 is one of the explanation
abbrev pub counts_answer : Rmap → ℕ → List Refcount → EditRefusal → Outcome Why
counts_answer x b c (why.List r) = refused (edit_number (why.List r)) none
counts_answer x b c why.Extent = refused 22 none
counts_answer x b c why.Overlap = refused 23 none
counts_answer x b c why.Missing = refused 24 none
counts_answer x b c why.Staging = staged_answer x b c
counts_answer x b c why.Room = refused 26 none
counts_answer x b c why.Unheld = refused 27 none
counts_answer x b c why.Owners = refused 28 none
