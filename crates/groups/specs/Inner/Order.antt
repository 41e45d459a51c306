-- The questions of a take of held blocks that come between those of its two halves, the splice of the reverse map and the raise of the counts.
-- Assumes nothing.
use Rattle.std.specs.Prelude.{ℕ, List, [], ◌∷◌}
use Rattle.codec.specs.Question.{none, Outcome, refused, ask, answer}
use Rattle.codec.specs.ListRefusal.{list_number}
use Rattle.codec.specs.declared.rmap.Rmap.{Rmap}
use Rattle.lists.specs.declared.EditRefusal.{EditRefusal}
use Rattle.lists.specs.declared.EditRefusal.TheVariants as why
use Rattle.lists.specs.Held.{held_all}
use Rattle.lists.specs.Edits.{count_questions}
use Rattle.lists.specs.Answer.{edit_number}
use Rattle.groups.specs.Joint.{NewLists}

-- 19 and 21 of the counts, then the refusal
abbrev pub after_counts : List ℕ → EditRefusal → Outcome NewLists
after_counts counts q = answer (count_questions counts) (refused (edit_number q) none)

-- the splice is refused: only what is refused by its list comes before the counts' list
abbrev pub counts_before : List ℕ → EditRefusal → Outcome NewLists
counts_before counts (why.List r) = refused (list_number r) none
counts_before counts why.Extent = after_counts counts why.Extent
counts_before counts why.Overlap = after_counts counts why.Overlap
counts_before counts why.Missing = after_counts counts why.Missing
counts_before counts why.Staging = after_counts counts why.Staging
counts_before counts why.Room = after_counts counts why.Room
counts_before counts why.Unheld = after_counts counts why.Unheld
counts_before counts why.Owners = after_counts counts why.Owners

-- the raise is refused: 27 comes before 28, and after every other
abbrev pub held_before : List Rmap → Rmap → EditRefusal → Outcome NewLists
held_before m x (why.List r) = refused (list_number r) none
held_before m x why.Extent = refused 22 none
held_before m x why.Overlap = refused 23 none
held_before m x why.Missing = refused 24 none
held_before m x why.Staging = refused 25 none
held_before m x why.Room = refused 26 none
held_before m x why.Unheld = refused 27 none
held_before m x why.Owners = answer (ask 27 (held_all m x.startblock x.blockcount) ∷ []) (refused 28 none)
