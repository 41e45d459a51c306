-- What the edits of the two lists do. From lent bytes to the records of the new list: it is accepted again and can be stored; the records over
-- each block, or the owners recorded over it, before and after; and which blocks are free again.
-- Assumes nothing.
use Prim.Native.Nat.{ℕ, ◌+◌, ◌^◌, ◌≤◌, ◌<◌}
use mathlib.Core.Bool.{Bool, true, cond, ◌&&◌}
use mathlib.Core.Path.{◌≡◌, refl, sym, subst, ◌∙◌}
use mathlib.Core.List.{List}
use native.Mathlib.Omega.{arith}
use lib.Dec.{eqb}
use lib.ListN.{length, take, drop}
use lib.Seq.{take_at}
use Rattle.codec.specs.Bytes.{IsBytes, with_bytes}
use Rattle.codec.specs.Question.{done}
use Rattle.codec.specs.Records.{Kind, records_of, bytes_of, AllStorable, RmapFits, rmaps, refcounts, free_extents}
use Rattle.codec.specs.Rmaps as rmap
use Rattle.codec.specs.Refcounts as refcount
use Rattle.codec.specs.declared.rmap.Rmap.{Rmap}
use Rattle.codec.specs.declared.refcount.Refcount.{Refcount}
use Rattle.codec.specs.declared.free_extent.FreeExtent.{FreeExtent}
use Rattle.codec.proofs.RecordKinds.{rmaps-lawful, refcounts-lawful}
use Rattle.codec.proofs.ListBytes.{storable-records_of}
use Rattle.lists.specs.declared.splice.Edit.TheVariants.{Insert, InsertShared, Remove}
use Rattle.lists.specs.Extent.{over, within, lies, Apart}
use Rattle.lists.specs.Holders.{holders}
use Rattle.lists.specs.Held.{held_none, no_overlap}
use Rattle.lists.specs.RmapEdits.{insert, unclashed, insert_shared, contained, remove}
use Rattle.lists.specs.Release.{owners, release, unshared, fewer}
use Rattle.lists.specs.Edits.{insert_outcome, insert_shared_outcome, remove_outcome, Freed, release_outcome, written}
use Rattle.lists.proofs.Done.{edit-done, release-done}
use Rattle.lists.proofs.RmapOrder.{good-facts, accepted-facts, facts-accepted, acc-insert, acc-insert_shared, acc-remove}
use Rattle.lists.proofs.Holders.{holders-insert, holders-insert_shared, holders-remove}
use Rattle.lists.proofs.Holding.{overlaps-tell, unheld-means}
use Rattle.lists.proofs.Counts as C
use Rattle.lists.proofs.Fits.{storable-insert, storable-insert_shared, storable-remove, storable-release, storable-unshared}
use Rattle.lists.proofs.Longest.{lies-runs, apart-runs}

-- ---- the reverse map

-- m is l with the extent x taken: one record more over each of its blocks, and as many over any other
pub record Taken (x : Rmap) (l m : List Rmap) : Type 0 where
  pub accepted : rmap.accepted m ≡ true
  pub stored : AllStorable rmaps m
  pub held : (b : ℕ) → holders m b ≡ within x.startblock x.blockcount 1 b + holders l b

-- m is l with the extent x given up: one record fewer over each of its blocks, and as many over any other
pub record GivenUp (x : Rmap) (l m : List Rmap) : Type 0 where
  pub accepted : rmap.accepted m ≡ true
  pub stored : AllStorable rmaps m
  pub held : (b : ℕ) → holders m b + within x.startblock x.blockcount 1 b ≡ holders l b

-- an edit that takes every good extent that passes the test
abbrev pub Takes : (Rmap → List Rmap → Bool) → (Rmap → List Rmap → List Rmap) → Type 0
Takes test edit =
    (x : Rmap) (l : List Rmap) → rmap.good x ≡ true → test x l ≡ true → rmap.accepted l ≡ true → RmapFits x → AllStorable rmaps l → Taken x l (edit x l)

-- 23 of `insert`
abbrev unheld : Rmap → List Rmap → Bool
unheld x l = held_none l x.startblock x.blockcount

pub insert-takes : Takes unheld insert
insert-takes x l g e a f s =
    let n : no_overlap x l ≡ true = sym (overlaps-tell x l a g) ∙ e in
    record {
      accepted = facts-accepted (insert x l) (acc-insert x l (good-facts x g) n (accepted-facts l a));
      stored = storable-insert x l (good-facts x g) n (accepted-facts l a) f s;
      held = holders-insert x l;
    }

pub insert_shared-takes : Takes unclashed insert_shared
insert_shared-takes x l g e a f s =
    record {
      accepted = facts-accepted (insert_shared x l) (acc-insert_shared x l (good-facts x g) (accepted-facts l a));
      stored = storable-insert_shared x l (good-facts x g) (accepted-facts l a) f s;
      held = holders-insert_shared x l;
    }

pub remove-gives : (x : Rmap) (l : List Rmap) → rmap.good x ≡ true → contained x l ≡ true → rmap.accepted l ≡ true → AllStorable rmaps l
    → GivenUp x l (remove x l)
remove-gives x l g e a s =
    let n = good-facts x g in
    record {
      accepted = facts-accepted (remove x l) (acc-remove x l n.0 (accepted-facts l a));
      stored = storable-remove x l n.0 (accepted-facts l a) s;
      held = λ b. holders-remove x l b e;
    }

-- ---- the counts

-- m is l with the blocks of an extent let go once, and free is what no shared record covered
pub record LetGo (start count : ℕ) (l m : List Refcount) (free : List FreeExtent) : Type 0 where
  pub accepted : refcount.accepted m ≡ true
  pub stored : AllStorable refcounts m
  pub free-stored : AllStorable free_extents free
  -- one owner fewer over each of its blocks, none where there were two, and as many over any other
  pub owned : (b : ℕ) → owners m b ≡ cond (over start count b) (fewer (owners l b)) (owners l b)
  -- the free extents lie over its blocks without a shared record, and over no other
  pub free-blocks : (b : ℕ) → lies free b ≡ (over start count b && eqb (owners l b) 0)
  -- ascending, each as long as it can be
  pub free-runs : Apart start free

pub release-lets : (start count : ℕ) (l : List Refcount) → start + count ≤ 2 ^ 31 → refcount.accepted l ≡ true → AllStorable refcounts l
    → LetGo start count l (release start (start + count) l) (unshared l start count)
unfolding C.lower over
release-lets start count l h a s =
    let k : C.Accepted l = C.accepted-facts l s a in
    let e : ℕ = start + count in
    record {
      accepted = C.facts-accepted (release start e l) (C.release-from start e l (omega arith) h k);
      stored = storable-release start e l (omega arith) h k s;
      free-stored = storable-unshared l start count h;
      owned = λ b. C.release-owners start e l b (omega arith) h k;
      free-blocks = λ b. lies-runs (λ c. eqb (owners l c) 0) start count b;
      free-runs = apart-runs (λ c. eqb (owners l c) 0) start count;
    }

-- ---- over lent bytes

pub insert-law : (b : List ℕ) (x : Rmap) (room : ℕ) (m : List Rmap) → IsBytes b → RmapFits x → insert_outcome b x room ≡ done m
    → Taken x (records_of rmaps b) m
unfolding insert_outcome
insert-law b x room m h f e =
    let l : List Rmap = records_of rmaps b in
    let q = edit-done Insert b x room m e in
    subst (Taken x l) q.3 (insert-takes x l q.1 q.2 q.0 f (storable-records_of rmaps rmaps-lawful b h))

-- and nobody held a block of the extent
pub insert-unheld : (b : List ℕ) (x : Rmap) (room : ℕ) (m : List Rmap) → insert_outcome b x room ≡ done m
    → (k : ℕ) → 0 < within x.startblock x.blockcount 1 k → holders (records_of rmaps b) k ≡ 0
unfolding insert_outcome
insert-unheld b x room m e k h = unheld-means (records_of rmaps b) x.startblock x.blockcount (edit-done Insert b x room m e).2 k h

pub insert_shared-law : (b : List ℕ) (x : Rmap) (room : ℕ) (m : List Rmap) → IsBytes b → RmapFits x → insert_shared_outcome b x room ≡ done m
    → Taken x (records_of rmaps b) m
unfolding insert_shared_outcome
insert_shared-law b x room m h f e =
    let l : List Rmap = records_of rmaps b in
    let q = edit-done InsertShared b x room m e in
    subst (Taken x l) q.3 (insert_shared-takes x l q.1 q.2 q.0 f (storable-records_of rmaps rmaps-lawful b h))

pub remove-law : (b : List ℕ) (x : Rmap) (room : ℕ) (m : List Rmap) → IsBytes b → remove_outcome b x room ≡ done m
    → GivenUp x (records_of rmaps b) m
unfolding remove_outcome
remove-law b x room m h e =
    let l : List Rmap = records_of rmaps b in
    let q = edit-done Remove b x room m e in
    subst (GivenUp x l) q.3 (remove-gives x l q.1 q.2 q.0 (storable-records_of rmaps rmaps-lawful b h))

pub release-law : (c : List ℕ) (start count room free_room : ℕ) (r : Freed) → IsBytes c → release_outcome c start count room free_room ≡ done r
    → LetGo start count (records_of refcounts c) r.counts r.free
release-law c start count room free_room r h e =
    let l : List Refcount = records_of refcounts c in
    let q = release-done c start count room free_room r e in
    subst (λ (r : Freed). LetGo start count l r.counts r.free) q.2
    (release-lets start count l q.0 q.1 (storable-records_of refcounts refcounts-lawful c h))

-- ---- what was lent for the new list

-- the first bytes, as many as the call says, are those of the new list
pub written-front : {R : Type 0} (k : Kind R) (out : List ℕ) (rs : List R) → take (length (bytes_of k rs)) (written k out (done rs)) ≡ bytes_of k rs
unfolding written with_bytes
written-front k out rs = take_at (bytes_of k rs) (drop (0 + length (bytes_of k rs)) out) (length (bytes_of k rs)) refl
