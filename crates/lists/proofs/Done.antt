-- What an edit that is done says of the list and the extent, and what it leaves.
-- Assumes nothing.
use mathlib.Core.Path.{◌≡◌}
use Prim.Native.Nat.{ℕ, ◌+◌, ◌^◌, ◌≤◌}
use mathlib.Core.Bool.{true, ◌&&◌}
use mathlib.Core.List.{List, [], ◌∷◌, ◌++◌}
use Rattle.codec.specs.Question.{done, ask}
use Rattle.codec.specs.Records.{records_of, rmaps, refcounts, free_extents}
use Rattle.codec.specs.Rmaps as rmap
use Rattle.codec.specs.Refcounts.{accepted}
use Rattle.codec.specs.declared.rmap.Rmap.{Rmap}
use Rattle.codec.specs.declared.refcount.Refcount.{Refcount}
use Rattle.codec.proofs.Meaning.{done-means}
use Rattle.lists.specs.declared.splice.Edit.{Edit}
use Rattle.lists.specs.Edits.{fits, allowed, edited, edit_questions, edit_with_room, extent_questions, Freed, freed, release_outcome}
use Rattle.lists.specs.Raise.{raise, owners_fit, raise_outcome}
use Rattle.lists.proofs.Staged.{good-end}

pub edit-done : (e : Edit) (b : List ℕ) (x : Rmap) (room : ℕ) (m : List Rmap) → edit_with_room e b x room ≡ done m
    → (rmap.accepted (records_of rmaps b) ≡ true) × (rmap.good x ≡ true) × ((allowed e x (records_of rmaps b)).holds ≡ true) × (edited e x (records_of rmaps b) ≡ m)
edit-done e b x room m h =
    let l : List Rmap = edited e x (records_of rmaps b) in
    let k = done-means (edit_questions e b x ++ (ask 26 (fits rmaps l room) ∷ [])) l m h in
    let q = k.0.1 in
    (q.0, q.1.0, q.1.1.0, k.1)

pub release-done : (c : List ℕ) (start count room free_room : ℕ) (r : Freed) → release_outcome c start count room free_room ≡ done r
    → (start + count ≤ 2 ^ 31) × (accepted (records_of refcounts c) ≡ true) × (freed (records_of refcounts c) start count ≡ r)
unfolding release_outcome
release-done c start count room free_room r e =
    let f : Freed = freed (records_of refcounts c) start count in
    let k = done-means (extent_questions c start count ++ (ask 26 (fits refcounts f.counts room && fits free_extents f.free free_room) ∷ [])) f r e in
    let q = k.0 in
    (good-end start count q.1.1.0, q.1.0, k.1)

pub raise-done : (c : List ℕ) (start count : ℕ) (m : List Refcount) → raise_outcome c start count ≡ done m
    → (start + count ≤ 2 ^ 31) × (accepted (records_of refcounts c) ≡ true) × (owners_fit start (start + count) (records_of refcounts c) ≡ true)
    × (raise start (start + count) (records_of refcounts c) ≡ m)
unfolding raise_outcome
raise-done c start count m e =
    let l : List Refcount = records_of refcounts c in
    let k = done-means (extent_questions c start count ++ (ask 28 (owners_fit start (start + count) l) ∷ [])) (raise start (start + count) l) m e in
    let q = k.0 in
    (good-end start count q.1.1.0, q.1.0, q.1.1.1.1.0, k.1)
