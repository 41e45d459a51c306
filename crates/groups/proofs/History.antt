-- The history theorem: demand 3 of every list of takes and lets go.
-- Assumes nothing.
use Prim.Native.Nat.{ℕ, ◌+◌, ◌<◌}
use mathlib.Core.Bool.{Bool, true}
use mathlib.Core.Path.{◌≡◌, refl, ap, ◌∙◌, subst}
use mathlib.Core.List.{List, [], ◌∷◌, ◌++◌}
use native.Mathlib.Omega.{arith}
use lib.Dec.{eqb}
use Rattle.codec.specs.Question.{Values, Outcome, done, refused, map_outcome}
use Rattle.codec.specs.Records.{records_of, bytes_of, AllStorable, RmapFits, rmaps, refcounts}
use Rattle.codec.specs.Rmaps as rmap
use Rattle.codec.specs.Refcounts as refcount
use Rattle.codec.specs.declared.rmap.Rmap.{Rmap}
use Rattle.codec.specs.declared.refcount.Refcount.{Refcount}
use Rattle.blocks.specs.declared.kind.TreeKind.TheVariants as kind
use Rattle.codec.proofs.RecordLists.{records_of-bytes_of}
use Rattle.codec.proofs.RecordKinds.{rmaps-lawful, refcounts-lawful}
use Rattle.codec.proofs.ListBytes.{storable-records_of, IsBytes-bytes_of, whole-bytes_of}
use Rattle.lists.specs.Extent.{within, runs, Longest}
use Rattle.lists.specs.Settled.{staged}
use Rattle.lists.specs.Edits.{insert_outcome}
use Rattle.lists.proofs.Counts as C
use Rattle.lists.proofs.Longest.{longest-runs}
use Rattle.lists.proofs.Laws.{Taken, insert-law, insert-unheld}
use Rattle.groups.specs.Joint.{NewLists}
use Rattle.groups.specs.LetGo.{let_go_outcome}
use Rattle.groups.specs.TakeHeld.{take_held_outcome}
use Rattle.groups.specs.History.{Lists, Accepted, Agreeing, held, Change, take, take_held, let_go, Left, took, changed, step, after, covered, taken, gone, run, takes, lets_go, Claim, EveryHistory}
use Rattle.groups.proofs.Agreement.{agree-let_go, agree-take, agree-raise, unshared-unheld}
use Rattle.groups.proofs.Letting.{let_go-law}
use Rattle.groups.proofs.TakingAll.{take_held-law}
use Rattle.groups.proofs.Staging.{let_go-settles, take_held-settles}
use Rattle.groups.proofs.Returning.{returned}
use Rattle.groups.proofs.Example.{none_held, sharing, none-start}

-- ---- from lists to lists

-- does a staging record of the counts lie over block b?
abbrev staged_in : Lists → ℕ → Bool
staged_in σ b = staged (records_of refcounts σ.counts) b

-- τ is σ after changes by which t takes and g lets go covered each block
pub record Kept (σ : Lists) (t g : ℕ → ℕ) (τ : Lists) : Type 0 where
  pub accepted : Accepted τ
  pub agree : Agreeing τ
  pub staging : (b : ℕ) → staged_in τ b ≡ staged_in σ b
  pub sum : (b : ℕ) → held τ b + g b ≡ held σ b + t b

kept_same : (σ : Lists) → Accepted σ → Agreeing σ → Kept σ (λ b. 0) (λ b. 0) σ
kept_same σ h a = record { accepted = h; agree = a; staging = λ b. refl; sum = λ b. refl }

kept_then : (σ τ ρ : Lists) (t g t' g' : ℕ → ℕ) → Kept σ t g τ → Kept τ t' g' ρ → Kept σ (λ b. t b + t' b) (λ b. g b + g' b) ρ
kept_then σ τ ρ t g t' g' h k =
    record { accepted = k.accepted; agree = k.agree; staging = λ b. k.staging b ∙ h.staging b; sum = λ b. omega (arith, h.sum b, k.sum b) }

-- the counts as facts
counts-facts : (σ : Lists) → Accepted σ → C.Accepted (records_of refcounts σ.counts)
counts-facts σ h = C.accepted-facts (records_of refcounts σ.counts) (storable-records_of refcounts refcounts-lawful σ.counts h.counts_bytes) h.counts_order

map_back : (m : List Rmap) → AllStorable rmaps m → records_of rmaps (bytes_of rmaps m) ≡ m
map_back = records_of-bytes_of rmaps rmaps-lawful

pub counts-back : (c : List Refcount) → AllStorable refcounts c → records_of refcounts (bytes_of refcounts c) ≡ c
counts-back = records_of-bytes_of refcounts refcounts-lawful

-- two lists that are accepted and can be stored, as bytes
accepted-lists : (m : List Rmap) (c : List Refcount) → AllStorable rmaps m → AllStorable refcounts c → rmap.accepted m ≡ true → refcount.accepted c ≡ true
    → Accepted (record { map = bytes_of rmaps m; counts = bytes_of refcounts c })
accepted-lists m c sm sc am ac =
    record {
      map_bytes = IsBytes-bytes_of rmaps rmaps-lawful m;
      counts_bytes = IsBytes-bytes_of refcounts refcounts-lawful c;
      map_whole = whole-bytes_of rmaps rmaps-lawful m;
      map_order = rw (map_back m sm) am;
      counts_whole = whole-bytes_of refcounts refcounts-lawful c;
      counts_order = rw (counts-back c sc) ac;
    }

-- ---- a take, by any edit that adds one over the extent

kept-take : (σ : Lists) (x : Rmap) (m : List Rmap) → Accepted σ → Agreeing σ → Taken x (records_of rmaps σ.map) m
    → ((b : ℕ) → 0 < within x.startblock x.blockcount 1 b → held σ b ≡ 0)
    → Kept σ (within x.startblock x.blockcount 1) (λ b. 0) (took σ m).lists
kept-take σ x m h a t f =
    let q : records_of rmaps (bytes_of rmaps m) ≡ m = map_back m t.stored in
    record {
      accepted =
          record {
            map_bytes = IsBytes-bytes_of rmaps rmaps-lawful m;
            counts_bytes = h.counts_bytes;
            map_whole = whole-bytes_of rmaps rmaps-lawful m;
            map_order = rw q t.accepted;
            counts_whole = h.counts_whole;
            counts_order = h.counts_order;
          };
      agree =
          rw q
          (agree-take (records_of rmaps σ.map) m (records_of refcounts σ.counts) x.startblock x.blockcount (counts-facts σ h) a t.held f);
      staging = λ b. refl;
      sum = λ b. rw q (omega (arith, t.held b));
    }

-- ---- a take of held blocks

kept-take_held : (σ : Lists) (x : Rmap) (room counts_room : ℕ) (g : NewLists) → Accepted σ → Agreeing σ → RmapFits x
    → take_held_outcome σ.map σ.counts x room counts_room ≡ done g
    → Kept σ (within x.startblock x.blockcount 1) (λ b. 0) (changed g).lists
kept-take_held σ x room counts_room g h a f e =
    let m : List Rmap = records_of rmaps σ.map in
    let c : List Refcount = records_of refcounts σ.counts in
    let w = take_held-law σ.map σ.counts x room counts_room g h.map_bytes h.counts_bytes f e in
    let p = w.map-after in
    let l = w.counts-after in
    let q : records_of rmaps (bytes_of rmaps g.map) ≡ g.map = map_back g.map p.stored in
    let r : records_of refcounts (bytes_of refcounts g.counts) ≡ g.counts = counts-back g.counts l.stored in
    record {
      accepted = accepted-lists g.map g.counts p.stored l.stored p.accepted l.accepted;
      agree =
          rw (q, r)
          (agree-raise m g.map c x.startblock x.blockcount (counts-facts σ h) a g.counts
          (C.accepted-facts g.counts l.stored l.accepted) l.owned p.held w.all_held);
      staging = λ b. rw r ((take_held-settles σ.map σ.counts x h.counts_bytes room counts_room g e).staging b);
      sum = λ b. rw q (omega (arith, p.held b));
    }

-- ---- a let go

kept-let_go : (σ : Lists) (x : Rmap) (room counts_room free_room : ℕ) (g : NewLists) → Accepted σ → Agreeing σ
    → let_go_outcome σ.map σ.counts x room counts_room free_room ≡ done g
    → Kept σ (λ b. 0) (within x.startblock x.blockcount 1) (changed g).lists
    × (g.free ≡ runs (λ b. eqb (held (changed g).lists b) 0) x.startblock x.blockcount)
kept-let_go σ x room counts_room free_room g h a e =
    let m : List Rmap = records_of rmaps σ.map in
    let c : List Refcount = records_of refcounts σ.counts in
    let w = let_go-law σ.map σ.counts x room counts_room free_room g h.map_bytes h.counts_bytes e in
    let p = w.map-after in
    let l = w.counts-after in
    let q : records_of rmaps (bytes_of rmaps g.map) ≡ g.map = map_back g.map p.stored in
    let r : records_of refcounts (bytes_of refcounts g.counts) ≡ g.counts = counts-back g.counts l.stored in
    let ok : C.Accepted c = counts-facts σ h in (
      record {
        accepted = accepted-lists g.map g.counts p.stored l.stored p.accepted l.accepted;
        agree =
            rw (q, r)
            (agree-let_go m g.map c x.startblock x.blockcount ok a g.counts
            (C.accepted-facts g.counts l.stored l.accepted) l.owned p.held);
        staging = λ b. rw r ((let_go-settles σ.map σ.counts x h.counts_bytes room counts_room free_room g e).staging b);
        sum = λ b. rw q (omega (arith, p.held b));
      },
      rw q (w.free-is ∙ unshared-unheld m g.map c x.startblock x.blockcount ok a p.held),
    )

-- ---- one change

-- what a call came to, under what is left of its result
from-done : {A : Type 0} (f : A → Left) (o : Outcome A) (w : Left) → map_outcome f o ≡ done w → (r : A) × (o ≡ done r) × (f r ≡ w)
from-done f (done r) w e = (r, refl, cc)
from-done f (refused n v) w e = absurd (never e)
  where
    never : refused n v ≡ done w → ⊥
    never e = let z : ◌≡◌ {A = ℕ} 0 1 = cc in omega arith

-- a first take of an extent, whatever it comes to
took-kept : (σ : Lists) (x : Rmap) (room : ℕ) (o : Outcome (List Rmap)) → Accepted σ → Agreeing σ → RmapFits x → insert_outcome σ.map x room ≡ o
    → Kept σ (covered (map_outcome (took σ) o) x) (λ b. 0) (after σ (map_outcome (took σ) o))
unfolding covered after
took-kept σ x room (done m) h a f e = kept-take σ x m h a (insert-law σ.map x room m h.map_bytes f e) (insert-unheld σ.map x room m e)
took-kept σ x room (refused n v) h a f e = kept_same σ h a

held_kept : (σ : Lists) (x : Rmap) (room counts_room : ℕ) (o : Outcome NewLists) → Accepted σ → Agreeing σ → RmapFits x
    → take_held_outcome σ.map σ.counts x room counts_room ≡ o
    → Kept σ (covered (map_outcome changed o) x) (λ b. 0) (after σ (map_outcome changed o))
unfolding covered after
held_kept σ x room counts_room (done g) h a f e = kept-take_held σ x room counts_room g h a f e
held_kept σ x room counts_room (refused n v) h a f e = kept_same σ h a

went-kept : (σ : Lists) (x : Rmap) (room counts_room free_room : ℕ) (o : Outcome NewLists) → Accepted σ → Agreeing σ
    → let_go_outcome σ.map σ.counts x room counts_room free_room ≡ o
    → Kept σ (λ b. 0) (covered (map_outcome changed o) x) (after σ (map_outcome changed o))
unfolding covered after
went-kept σ x room counts_room free_room (done g) h a e = (kept-let_go σ x room counts_room free_room g h a e).0
went-kept σ x room counts_room free_room (refused n v) h a e = kept_same σ h a

pub kept_step : (σ : Lists) (c : Change) → Accepted σ → Agreeing σ → Kept σ (taken c (step σ c)) (gone c (step σ c)) (after σ (step σ c))
unfolding step taken gone
kept_step σ (take x fits room) h a = took-kept σ x room (insert_outcome σ.map x room) h a fits refl
kept_step σ (take_held x fits room counts_room) h a =
    held_kept σ x room counts_room (take_held_outcome σ.map σ.counts x room counts_room) h a fits refl
kept_step σ (let_go x room counts_room free_room) h a =
    went-kept σ x room counts_room free_room (let_go_outcome σ.map σ.counts x room counts_room free_room) h a refl

-- what an accepted let go offers
step-offers : (σ : Lists) (x : Rmap) (room counts_room free_room : ℕ) → Accepted σ → Agreeing σ
    → (w : Left) → step σ (let_go x room counts_room free_room) ≡ done w
    → Longest (λ b. eqb (held w.lists b) 0) x.startblock x.blockcount w.free
unfolding step
step-offers σ x room counts_room free_room h a w e =
    let k = from-done changed (let_go_outcome σ.map σ.counts x room counts_room free_room) w e in
    subst (λ (w : Left). Longest (λ b. eqb (held w.lists b) 0) x.startblock x.blockcount w.free) k.2
    (rw (kept-let_go σ x room counts_room free_room k.0 h a k.1).1
    (longest-runs (λ b. eqb (held (changed k.0).lists b) 0) x.startblock x.blockcount))

-- ---- the whole list

pub kept_run : (σ : Lists) (cs : List Change) → Accepted σ → Agreeing σ → Kept σ (takes σ cs) (lets_go σ cs) (run σ cs)
unfolding run takes lets_go
kept_run σ [] h a = kept_same σ h a
kept_run σ (c ∷ cs) h a =
    let k = kept_step σ c h a in
    let τ : Lists = after σ (step σ c) in
    kept_then σ τ (run τ cs) (taken c (step σ c)) (gone c (step σ c)) (takes τ cs) (lets_go τ cs) k (kept_run τ cs k.accepted k.agree)

run-append : (σ : Lists) (cs ds : List Change) → run σ (cs ++ ds) ≡ run (run σ cs) ds
unfolding run
run-append σ [] ds = refl
run-append σ (c ∷ cs) ds = run-append (after σ (step σ c)) cs ds

refused-same : (σ : Lists) (before : List Change) (c : Change) (n : ℕ) (v : Values) → step (run σ before) c ≡ refused n v
    → run σ (before ++ (c ∷ [])) ≡ run σ before
unfolding run after
refused-same σ before c n v e = run-append σ before (c ∷ []) ∙ ap (after (run σ before)) e

-- ---- the theorem

pub history : EveryHistory
history σ cs s =
    let k = kept_run σ cs s.accepted s.agree in
    record {
      sum = k.sum;
      accepted = k.accepted;
      agree = k.agree;
      staging = k.staging;
      refusals = λ before c h n v e. refused-same σ before c n v e;
      offers =
          λ before x room counts_room free_room h w e. let p = kept_run σ before s.accepted s.agree in
          step-offers (run σ before) x room counts_room free_room p.accepted p.agree w e;
      map_returned = returned kind.Rmap (run σ cs).map k.accepted.map_bytes k.accepted.map_whole k.accepted.map_order;
      counts_returned = returned kind.Refcount (run σ cs).counts k.accepted.counts_bytes k.accepted.counts_whole k.accepted.counts_order;
    }

-- and so of the history with shared blocks
pub sharing-claim : Claim none_held sharing
sharing-claim = history none_held sharing none-start
