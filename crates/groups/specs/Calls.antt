-- The changes of a history as calls of `insert`, `take_held` and `let_go`: the contract of each, and the bytes that a caller goes on with.
-- proofs/Calling.antt proves `EveryCall` and `EveryCalls`, at the end: those bytes are the lists of the history, and the bytes that a let go offers
-- are those of its free extents.
-- Assumes nothing.
use Rattle.std.specs.Prelude.{ℕ, ◌≡◌, List, [], ◌∷◌, length, Result, Ok, Err}
use Rattle.std.proofs.Math.ListN as bytes
use Rattle.codec.specs.Question.{Outcome, done, refused}
use Rattle.codec.specs.Records.{bytes_of, RmapFits, free_extents}
use Rattle.codec.specs.declared.rmap.Rmap.{Rmap}
use Rattle.codec.specs.declared.free_extent.FreeExtent.{FreeExtent}
use Rattle.lists.specs.declared.EditRefusal.{EditRefusal}
use Rattle.lists.specs.Answer.{Inserts}
use Rattle.groups.specs.declared.Sizes.{Sizes}
use Rattle.groups.specs.Answer.{LetsGo, TakesHeld}
use Rattle.groups.specs.History.{Lists, Change, take, take_held, let_go, Left, step, after, run}

-- a lent buffer, before a call and after it
pub record Buffer : Type 0 where
  pub entry : List ℕ
  pub exit : List ℕ

-- ---- a call, with its answer and what was lent

pub data Call : Type 0 where
  inserting : (x : Rmap) → RmapFits x → Result ℕ EditRefusal → (new : Buffer) → Call
  taking_held : (x : Rmap) → RmapFits x → Result Sizes EditRefusal → (taken raised : Buffer) → Call
  letting_go : Rmap → Result Sizes EditRefusal → (kept lowered free : Buffer) → Call

-- made with the lists σ it keeps its contract
abbrev pub Promised : Lists → Call → Type 0
Promised σ (inserting x fits r new) = Inserts σ.map x r new.entry new.exit
Promised σ (taking_held x fits r taken raised) = TakesHeld σ.map σ.counts x r taken.entry taken.exit raised.entry raised.exit
Promised σ (letting_go x r kept lowered free) =
    LetsGo σ.map σ.counts x r kept.entry kept.exit lowered.entry lowered.exit free.entry free.exit

-- the change that it is
abbrev pub change_of : Call → Change
change_of (inserting x fits r new) = take x fits (length new.entry)
change_of (taking_held x fits r taken raised) = take_held x fits (length taken.entry) (length raised.entry)
change_of (letting_go x r kept lowered free) = let_go x (length kept.entry) (length lowered.entry) (length free.entry)

-- the first bytes of what was lent, as many as the answer says
abbrev pub front : ℕ → Buffer → List ℕ
front n b = bytes.take n b.exit

abbrev pub lists_of : List ℕ → List ℕ → Lists
lists_of map counts = record { map = map; counts = counts }

-- the lists that a caller goes on with: the new ones where the call was done, the old ones where it was refused
abbrev pub onward : Lists → Call → Lists
onward σ (inserting x fits (Ok n) new) = lists_of (front n new) σ.counts
onward σ (inserting x fits (Err q) new) = σ
onward σ (taking_held x fits (Ok n) map counts) = lists_of (front n.map map) (front n.counts counts)
onward σ (taking_held x fits (Err q) map counts) = σ
onward σ (letting_go x (Ok n) kept lowered free) = lists_of (front n.map kept) (front n.counts lowered)
onward σ (letting_go x (Err q) kept lowered free) = σ

-- the bytes of the free extents that a caller is offered
abbrev pub offered_bytes : Call → List ℕ
offered_bytes (inserting x fits r new) = []
offered_bytes (taking_held x fits r map counts) = []
offered_bytes (letting_go x (Ok n) kept lowered free) = front n.free free
offered_bytes (letting_go x (Err q) kept lowered free) = []

-- the free extents that a change offers
abbrev pub offered : Outcome Left → List FreeExtent
offered (done w) = w.free
offered (refused n v) = []

-- ---- the claims

-- a call that keeps its promise leaves its caller with the lists and the free extents of its change
pub record Tied (σ : Lists) (k : Call) : Type 0 where
  pub lists : onward σ k ≡ after σ (step σ (change_of k))
  pub free : offered_bytes k ≡ bytes_of free_extents (offered (step σ (change_of k)))

abbrev pub EveryCall : Type 0
EveryCall = (σ : Lists) (k : Call) → Promised σ k → Tied σ k

-- calls in a row, each with the lists that the last one left
abbrev pub AllPromised : Lists → List Call → Type 0
AllPromised σ [] = Unit {0}
AllPromised σ (k ∷ ks) = Promised σ k × AllPromised (onward σ k) ks

abbrev pub changes_of : List Call → List Change
changes_of [] = []
changes_of (k ∷ ks) = change_of k ∷ changes_of ks

abbrev pub onwards : Lists → List Call → Lists
onwards σ [] = σ
onwards σ (k ∷ ks) = onwards (onward σ k) ks

-- they leave the caller with the lists of the history, of which `EveryHistory` speaks
abbrev pub EveryCalls : Type 0
EveryCalls = (σ : Lists) (ks : List Call) → AllPromised σ ks → onwards σ ks ≡ run σ (changes_of ks)
