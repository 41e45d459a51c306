-- The bytes that a caller of `insert`, `take_held` and `let_go` goes on with are the lists of the history; from the contracts alone.
-- Assumes nothing.
use Prim.Native.Nat.{ℕ, ◌+◌}
use mathlib.Core.Path.{◌≡◌, refl, sym, ap, ap₂, subst, ◌∙◌}
use mathlib.Core.List.{List, [], ◌∷◌, ◌++◌}
use native.Mathlib.Omega.{arith}
use lib.ListN.{length, replicate}
use lib.ListN as bytes
use Rattle.codec.specs.Bytes as bytes-in
use Rattle.codec.specs.Bytes.{with_bytes}
use Rattle.codec.specs.Question.{Outcome, done, refused, Question, ask, answer, map_outcome}
use Rattle.codec.specs.Accepted as accepted
use Rattle.codec.specs.Rmaps as rmap
use Rattle.codec.specs.Refcounts as refcount
use Rattle.codec.specs.Records as records
use Rattle.codec.specs.Records.{Kind, records_of, bytes_of, RmapFits, rmaps, refcounts, free_extents}
use Rattle.codec.specs.declared.rmap.Rmap.{Rmap}
use Rattle.lists.specs.Extent as blocks
use Rattle.lists.specs.Holders as holding
use Rattle.lists.specs.Held as held
use Rattle.lists.specs.RmapEdits as edits
use Rattle.lists.specs.Release as release
use Rattle.lists.specs.Raise as raise
use Rattle.std.specs.Prelude.{Result, Ok, Err}
use Rattle.lists.specs.declared.EditRefusal.{EditRefusal}
use Rattle.lists.specs.Edits.{insert_outcome, written}
use Rattle.lists.specs.Answer.{EditIs}
use Rattle.lists.proofs.Cases.{split}
use Rattle.lists.proofs.Laws.{written-front}
use Rattle.groups.specs.declared.Sizes.{Sizes}
use Rattle.groups.specs.Joint.{NewLists, fit_all}
use Rattle.groups.specs.LetGo.{let_go_outcome}
use Rattle.groups.specs.TakeHeld.{raising, take_held_questions, take_held_outcome}
use Rattle.groups.specs.Answer.{sizes, sizes_of, free_of, GroupEditIs}
use Rattle.groups.specs.History.{Lists, Accepted, Agreeing, Left, took, changed, step, after, run, Start}
use Rattle.groups.specs.Calls.{Buffer, Call, Tied, inserting, taking_held, letting_go, front, lists_of, onward, offered_bytes, offered, EveryCall, AllPromised, changes_of, onwards, EveryCalls}
use Rattle.groups.proofs.Example.{record_of, free_at, small-fits, none_held, first_lists, shared_lists, last_lists}
use Rattle.groups.proofs.History.{history}

-- the front of a buffer that was written
front-is : {R : Type 0} (k : Kind R) (b : Buffer) (rs : List R) (n : ℕ) → n ≡ length (bytes_of k rs) → b.exit ≡ written k b.entry (done rs) → front n b ≡ bytes_of k rs
front-is k b rs n e f = ap₂ (λ (m : ℕ) (l : List ℕ). bytes.take m l) e f ∙ written-front k b.entry rs

-- ---- one call, whatever it comes to

-- what a call leaves its caller with, where its change comes to o
abbrev Leaves : Lists → Call → Outcome Left → Type 0
Leaves σ k o = (onward σ k ≡ after σ o) × (offered_bytes k ≡ bytes_of free_extents (offered o))

inserted : (σ : Lists) (x : Rmap) (fits : RmapFits x) (r : Result ℕ EditRefusal) (new : Buffer) (o : Outcome (List Rmap)) → EditIs o r new.entry new.exit
    → Leaves σ (inserting x fits r new) (map_outcome (took σ) o)
unfolding after bytes_of
inserted σ x fits (Ok n) new (done rs) p =
    let e : done n ≡ done (length (bytes_of rmaps rs)) = p.said in
    let q : n ≡ length (bytes_of rmaps rs) = cc in
    (ap (λ (l : List ℕ). lists_of l σ.counts) (front-is rmaps new rs n q p.wrote), refl)
inserted σ x fits (Ok n) new (refused m v) p = let e = p.said in let z : ◌≡◌ {A = ℕ} 0 1 = cc in absurd (omega arith)
inserted σ x fits (Err q) new (done rs) p = let e = p.said in let z : ◌≡◌ {A = ℕ} 0 1 = cc in absurd (omega arith)
inserted σ x fits (Err q) new (refused m v) p = (refl, refl)

-- the new lists of an edit of both: an edit that is done hands them on, with the first bytes of what was lent for free extents
both-new : (n : Sizes) (map counts free : Buffer) (g : NewLists)
    → GroupEditIs (done g) (Ok n) map.entry map.exit counts.entry counts.exit free.entry free.exit
    → (lists_of (front n.map map) (front n.counts counts) ≡ (changed g).lists) × (front n.free free ≡ bytes_of free_extents g.free)
both-new n map counts free g p =
    let e : done n ≡ sizes_of (done g) = p.said in
    let q : n ≡ sizes g = cc in (
      ap₂ lists_of (front-is rmaps map g.map n.map (ap (λ (s : Sizes). s.map) q) p.map_is) (front-is refcounts counts g.counts n.counts (ap (λ (s : Sizes). s.counts) q) p.counts_are),
      front-is free_extents free g.free n.free (ap (λ (s : Sizes). s.free) q) p.free_are,
    )

-- nothing was lent for free extents
abbrev unlent : Buffer
unlent = record { entry = []; exit = [] }

-- and nothing is free again
abbrev FreesNone : Outcome NewLists → Type 0
FreesNone o = free_of o ≡ map_outcome (λ g. []) o

frees-none : (qs : List Question) (g : NewLists) → g.free ≡ [] → FreesNone (answer qs (done g))
frees-none [] g e = ap done e
frees-none (q ∷ qs) g e = split q.holds (λ h. rw h (frees-none qs g e)) (λ h. rw h refl)

take-frees-none : (map counts : List ℕ) (x : Rmap) (room counts_room : ℕ) → FreesNone (take_held_outcome map counts x room counts_room)
unfolding take_held_outcome
take-frees-none map counts x room counts_room =
    let g : NewLists = raising x (records_of rmaps map) (records_of refcounts counts) in
    frees-none (take_held_questions map counts x ++ (ask 26 (fit_all g room counts_room 0) ∷ [])) g refl

taken-held : (σ : Lists) (x : Rmap) (fits : RmapFits x) (r : Result Sizes EditRefusal) (map counts : Buffer) (o : Outcome NewLists) → FreesNone o
    → GroupEditIs o r map.entry map.exit counts.entry counts.exit [] []
    → Leaves σ (taking_held x fits r map counts) (map_outcome changed o)
unfolding after bytes_of
taken-held σ x fits (Ok n) map counts (done g) f p =
    let z : g.free ≡ [] = cc in
    ((both-new n map counts unlent g p).0, rw z refl)
taken-held σ x fits (Ok n) map counts (refused m v) f p = let e = p.said in let z : ◌≡◌ {A = ℕ} 0 1 = cc in absurd (omega arith)
taken-held σ x fits (Err q) map counts (done g) f p = let e = p.said in let z : ◌≡◌ {A = ℕ} 0 1 = cc in absurd (omega arith)
taken-held σ x fits (Err q) map counts (refused m v) f p = (refl, refl)

let-gone : (σ : Lists) (x : Rmap) (r : Result Sizes EditRefusal) (kept lowered free : Buffer) (o : Outcome NewLists)
    → GroupEditIs o r kept.entry kept.exit lowered.entry lowered.exit free.entry free.exit
    → Leaves σ (letting_go x r kept lowered free) (map_outcome changed o)
unfolding after bytes_of
let-gone σ x (Ok n) kept lowered free (done g) p = both-new n kept lowered free g p
let-gone σ x (Ok n) kept lowered free (refused m v) p = let e = p.said in let z : ◌≡◌ {A = ℕ} 0 1 = cc in absurd (omega arith)
let-gone σ x (Err q) kept lowered free (done g) p = let e = p.said in let z : ◌≡◌ {A = ℕ} 0 1 = cc in absurd (omega arith)
let-gone σ x (Err q) kept lowered free (refused m v) p = (refl, refl)

-- ---- the claims

pub every_call : EveryCall
unfolding step
every_call σ (inserting x fits r new) p =
    let k = inserted σ x fits r new (insert_outcome σ.map x (length new.entry)) p in
    record { lists = k.0; free = k.1 }
every_call σ (taking_held x fits r map counts) p =
    let o : Outcome NewLists = take_held_outcome σ.map σ.counts x (length map.entry) (length counts.entry) in
    let k = taken-held σ x fits r map counts o (take-frees-none σ.map σ.counts x (length map.entry) (length counts.entry)) p in
    record { lists = k.0; free = k.1 }
every_call σ (letting_go x r kept lowered free) p =
    let k = let-gone σ x r kept lowered free (let_go_outcome σ.map σ.counts x (length kept.entry) (length lowered.entry) (length free.entry)) p in
    record { lists = k.0; free = k.1 }

pub every-calls : EveryCalls
unfolding run
every-calls σ [] h = refl
every-calls σ (k ∷ ks) h = every-calls (onward σ k) ks h.1 ∙ ap (λ (τ : Lists). run τ (changes_of ks)) (every_call σ k h.0).lists

-- so what a caller holds in the end is accepted and agrees, as the history says of its lists
pub callers-lists : (σ : Lists) (ks : List Call) → Start σ → AllPromised σ ks → Accepted (onwards σ ks) × Agreeing (onwards σ ks)
callers-lists σ ks s h =
    let c = history σ (changes_of ks) s in
    subst (λ (τ : Lists). Accepted τ × Agreeing τ) (sym (every-calls σ ks h)) (c.accepted, c.agree)

-- ---- an instance: the example's first, second and fourth change as calls, with buffers of which the last bytes stay

abbrev lent : List ℕ → ℕ → Buffer
lent b n = record { entry = replicate (length b + n) 255; exit = b ++ replicate n 255 }

abbrev first_call : Call
first_call = inserting (record_of 0 4 7 0) (small-fits 0 4 7 0 (omega arith)) (Ok 24) (lent first_lists.map 2)

abbrev second_call : Call
second_call =
    taking_held (record_of 1 2 9 0) (small-fits 1 2 9 0 (omega arith)) (Ok (record { map = 48; counts = 12; free = 0 })) (lent shared_lists.map 1) (lent shared_lists.counts 3)

abbrev fourth_call : Call
fourth_call =
    letting_go (record_of 0 4 7 0) (Ok (record { map = 24; counts = 0; free = 16 })) (lent last_lists.map 0) (lent last_lists.counts 5)
    (lent (bytes_of free_extents (free_at 0 1 ∷ free_at 3 1 ∷ [])) 4)

abbrev calls : List Call
calls = first_call ∷ second_call ∷ fourth_call ∷ []

all-promised : AllPromised none_held calls
unfolding none_held insert_outcome take_held_outcome let_go_outcome bytes-in.be_of bytes-in.be_bytes records.fields_of records.field_bytes records.first_records records.records_of records.bytes_of accepted.whole accepted.in_order rmap.reserved rmap.mapping rmap.exempt rmap.good rmap.key_offset rmap.before rmap.follows refcount.staging refcount.good refcount.follows blocks.over blocks.within blocks.grow blocks.runs holding.holders held.each_block edits.first edits.is_some edits.replace edits.place edits.continues edits.overlaps edits.attach edits.insert_after edits.insert edits.clash edits.behind edits.ahead edits.contains edits.lines_up edits.chosen edits.front edits.later edits.place_later edits.cut_out release.owners release.clear release.piece release.share release.fewer release.clamp release.lowered release.lower_all release.same_kind release.continues release.join_from release.join_all raise.raised raise.raise_all raise.full raise.owners_fit written with_bytes
all-promised = (
  record { said = refl; wrote = refl },
  (
    record { said = refl; map_is = refl; counts_are = refl; free_are = refl },
    (record { said = refl; map_is = refl; counts_are = refl; free_are = refl }, tt),
  ),
)

pub first-tied : Tied none_held first_call
first-tied = every_call none_held first_call all-promised.0

pub calls-run : onwards none_held calls ≡ run none_held (changes_of calls)
calls-run = every-calls none_held calls all-promised
