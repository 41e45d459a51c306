-- The results of the edits can be stored: each number fits the bytes of its field.
-- Assumes nothing.
use Prim.Native.Nat.{ℕ, zero, suc, ◌+◌, ◌-◌, ◌^◌, ◌≤◌, ◌<◌}
use mathlib.Core.Bool.{Bool, true, cond}
use mathlib.Core.Path.{◌≡◌, refl}
use mathlib.Core.List.{List, [], ◌∷◌, ◌++◌}
use mathlib.Core.Option.{Option, none, some}
use native.Mathlib.Omega.{arith}
use lib.Dec.{ltb, leb, eqb}
use borrow.Author.Tests.{ne_eqb}
use Rattle.codec.specs.Records.{AllStorable, RmapFits, rmaps, RefcountFits, refcounts, free_extents}
use Rattle.codec.specs.Rmaps.{end, file_offset, exempt, before, least}
use Rattle.codec.specs.Refcounts.{staging}
use Rattle.codec.specs.declared.rmap.Rmap.{Rmap}
use Rattle.codec.specs.declared.refcount.Refcount.{Refcount}
use Rattle.codec.specs.declared.free_extent.FreeExtent.{FreeExtent}
use Rattle.lists.specs.Extent.{grow, runs}
use Rattle.lists.specs.RmapEdits.{first, replace, nothing, place, contains, chosen, front, later, place_later, cut_out, remove, continues, joined, attach, insert_after, insert, behind, ahead, share_before, insert_shared}
use Rattle.lists.specs.Held.{no_overlap}
use Rattle.lists.specs.Release as R
use Rattle.lists.proofs.Cases.{split, tests}
use Rattle.lists.proofs.Found.{first_passes, contains-ends, chosen-contains}
use Rattle.lists.proofs.RmapOrder.{Good, After, Accepted, file_end, found, acc-insert, acc-insert_shared, acc-remove}
use Rattle.lists.proofs.Counts as C

-- every element of a list has the property
abbrev pub All : {A : Type 0} → (A → Type 0) → List A → Type 0
All P [] = Unit {0}
All P (a ∷ l) = P a × All P l

pub all_append : {A : Type 0} (P : A → Type 0) (l m : List A) → All P l → All P m → All P (l ++ m)
all_append P [] m h k = k
all_append P (a ∷ l) m h k = (h.0, all_append P l m h.1 k)

-- a property of records that joins keep
module _ (P : Rmap → Type 0) (join : (r s : Rmap) → P r → P (joined r s)) where
  all_first : (p : Rmap → Bool) (l : List Rmap) (w : Rmap) → All P l → first p l ≡ some w → P w
  unfolding first
  all_first p [] w h e = let z : ◌≡◌ {A = ℕ} 0 1 = cc in absurd (omega arith)
  all_first p (r ∷ l) w h e = split (p r) (λ f. let q : r ≡ w = cc in rw (← q) h.0) (λ f. all_first p l w h.1 (rw f at e))

  all-replace : (p : Rmap → Bool) (f : Rmap → List Rmap) → ((r : Rmap) → P r → All P (f r)) → (l : List Rmap) → All P l → All P (replace p f l)
  unfolding replace
  all-replace p f k [] h = tt
  all-replace p f k (r ∷ l) h = split (p r) (λ e. rw e (all_append P (f r) l (k r h.0) h.1)) (λ e. rw e (h.0, all-replace p f k l h.1))

  all-place : (x : Rmap) (l : List Rmap) → P x → All P l → All P (place x l)
  unfolding place
  all-place x [] g h = (g, tt)
  all-place x (r ∷ l) g h = split (before r x) (λ e. rw e (h.0, all-place x l g h.1)) (λ e. rw e (g, h))

  all-attach : (r : Rmap) (l : List Rmap) → P r → All P l → All P (attach r l)
  unfolding attach
  all-attach r [] g h = (g, tt)
  all-attach r (s ∷ l) g h = split (continues r s) (λ e. rw e (join r s g, h.1)) (λ e. rw e (g, h))

  all-insert_after : (x r : Rmap) (l : List Rmap) → P x → P r → All P l → All P (insert_after x r l)
  unfolding insert_after
  all-insert_after x r [] g k h = all-attach r (attach x []) k (all-attach x [] g tt)
  all-insert_after x r (s ∷ l) g k h =
      split (leb s.startblock x.startblock) (λ e. rw e (k, all-insert_after x s l g h.0 h.1)) (λ e. rw e (all-attach r (attach x (s ∷ l)) k (all-attach x (s ∷ l) g h)))

  all_insert : (x : Rmap) (l : List Rmap) → P x → All P l → All P (insert x l)
  unfolding insert
  all_insert x [] g h = all-attach x [] g tt
  all_insert x (r ∷ l) g h = split (leb r.startblock x.startblock) (λ e. rw e (all-insert_after x r l g h.0 h.1)) (λ e. rw e (all-attach x (r ∷ l) g h))

  all-behind : (x : Rmap) (l : List Rmap) (o : Option Rmap) → first (λ r. continues r x) l ≡ o → P x → All P l → P (behind o x)
  unfolding behind
  all-behind x l none e g h = g
  all-behind x l (some r) e g h = join r x (all_first (λ r. continues r x) l r h e)

  all-ahead : (y : Rmap) (o : Option Rmap) → P y → P (ahead o y)
  unfolding ahead
  all-ahead y none g = g
  all-ahead y (some s) g = join y s g

  all-insert_shared : (x : Rmap) (l : List Rmap) → P x → All P l → All P (insert_shared x l)
  all-insert_shared x l g h =
      let y : Rmap = share_before x l in
      let m : List Rmap = replace (λ r. continues r x) nothing l in
      all-place (ahead (first (continues y) m) y) (replace (continues y) nothing m)
      (all-ahead y (first (continues y) m) (all-behind x l (first (λ r. continues r x) l) refl g h))
      (all-replace (continues y) nothing (λ r u. tt) m (all-replace (λ r. continues r x) nothing (λ r u. tt) l h))

-- the owner and the offset fit 8 bytes (the start and the count fit 4 where the list is accepted)
abbrev pub Wide : Rmap → Type 0
Wide r = (r.owner < 2 ^ 64) × (r.offset < 2 ^ 64)

wide-joined : (r s : Rmap) → Wide r → Wide (joined r s)
wide-joined r s h = h

wide-front : (x r : Rmap) → Wide r → All Wide (front x r)
unfolding front
wide-front x r h = split (ltb r.startblock x.startblock) (λ e. rw e (h, tt)) (λ e. rw e tt)

-- the offset that moves on stays within its 54 bits, so the flags stay
wide-later : (x w : Rmap) → contains x w ≡ true → ltb (end x) (end w) ≡ true → 0 < x.blockcount → Good w → Wide w → Wide (later x w)
unfolding later file_end
wide-later x w e f g h k =
    let c = contains-ends x w e in (
      k.0,
      split (exempt w)
          (λ t. rw t k.1)
          (λ t. let v : file_offset w + w.blockcount ≤ 2 ^ 54 = rw t at h.2 in rw t (omega tests)),
    )

wide-cut : (x : Rmap) (l : List Rmap) (w : Rmap) → 0 < x.blockcount → Accepted l → All Wide l → first (chosen x l) l ≡ some w → All Wide (place_later x w (replace (chosen x l) (front x) l))
unfolding place_later
wide-cut x l w n h k e =
    let c : contains x w ≡ true = chosen-contains x l w (first_passes (chosen x l) l w e) in
    let m : All Wide (replace (chosen x l) (front x) l) = all-replace Wide wide-joined (chosen x l) (front x) (wide-front x) l k in
    split (ltb (end x) (end w))
    (λ f. rw f (all-place Wide wide-joined (later x w) (replace (chosen x l) (front x) l) (wide-later x w c f n (found (chosen x l) l w h e).0 (all_first Wide wide-joined (chosen x l) l w k e)) m))
    (λ f. rw f m)

wide-remove : (x : Rmap) (l : List Rmap) → 0 < x.blockcount → Accepted l → All Wide l → All Wide (remove x l)
unfolding cut_out
wide-remove x l n h k = go (first (chosen x l) l) refl
  where
    go : (o : Option Rmap) → first (chosen x l) l ≡ o → All Wide (cut_out x l o)
    go none f = k
    go (some w) f = wide-cut x l w n h k f

-- with 20 all four fields fit
storable-wide : (l : List Rmap) → AllStorable rmaps l → All Wide l
storable-wide [] h = tt
storable-wide (r ∷ l) h = ((h.0.owner, h.0.offset), storable-wide l h.1)

wide-storable : (q : Rmap) (l : List Rmap) → After q l → All Wide l → AllStorable rmaps l
wide-storable q [] h k = tt
wide-storable q (r ∷ l) h k =
    let g = h.0 in
    (record { startblock = omega arith; blockcount = omega arith; owner = k.0.0; offset = k.0.1 }, wide-storable r l h.2 k.1)

pub storable-insert : (x : Rmap) (l : List Rmap) → Good x → no_overlap x l ≡ true → Accepted l → RmapFits x → AllStorable rmaps l → AllStorable rmaps (insert x l)
storable-insert x l g e h f k = wide-storable least (insert x l) (acc-insert x l g e h) (all_insert Wide wide-joined x l (f.owner, f.offset) (storable-wide l k))

pub storable-insert_shared : (x : Rmap) (l : List Rmap) → Good x → Accepted l → RmapFits x → AllStorable rmaps l → AllStorable rmaps (insert_shared x l)
storable-insert_shared x l g h f k =
    wide-storable least (insert_shared x l) (acc-insert_shared x l g h) (all-insert_shared Wide wide-joined x l (f.owner, f.offset) (storable-wide l k))

pub storable-remove : (x : Rmap) (l : List Rmap) → 0 < x.blockcount → Accepted l → AllStorable rmaps l → AllStorable rmaps (remove x l)
storable-remove x l n h k = wide-storable least (remove x l) (acc-remove x l n h) (wide-remove x l n h (storable-wide l k))

-- ---- the counts: owners fit 4 bytes

abbrev pub Narrow : Refcount → Type 0
Narrow r = r.refcount < 2 ^ 32

pub narrow-piece : (a z n : ℕ) → n < 2 ^ 32 → All Narrow (R.piece a z n)
unfolding R.piece
narrow-piece a z n h = split (ltb a z) (λ e. rw e (h, tt)) (λ e. rw e tt)

narrow-middle : (a z n : ℕ) → n < 2 ^ 32 → All Narrow (R.share a z (R.fewer n))
unfolding R.share R.fewer
narrow-middle a z n h = split (leb n 2) (λ e. rw e tt) (λ e. rw (e, ne_eqb (n - 1) 0 (omega tests)) (narrow-piece a z (n - 1) (omega arith)))

narrow-lowered : (s e : ℕ) (r : Refcount) → Narrow r → All Narrow (R.lowered s e r)
unfolding R.lowered
narrow-lowered s e r h =
    let m : List Refcount = R.share (R.clamp r s) (R.clamp r e) (R.fewer r.refcount) in
    let b : List Refcount = R.piece (R.clamp r e) (R.stop r) r.refcount in
    all_append Narrow (R.piece r.startblock (R.clamp r s) r.refcount) (m ++ b) (narrow-piece r.startblock (R.clamp r s) r.refcount h)
    (all_append Narrow m b (narrow-middle (R.clamp r s) (R.clamp r e) r.refcount h) (narrow-piece (R.clamp r e) (R.stop r) r.refcount h))

narrow-lower_all : (s e : ℕ) (l : List Refcount) → All Narrow l → All Narrow (R.lower_all s e l)
unfolding R.lower_all
narrow-lower_all s e [] h = tt
narrow-lower_all s e (r ∷ l) h =
    all_append Narrow (cond (staging r) (r ∷ []) (R.lowered s e r)) (R.lower_all s e l)
    (split (staging r) (λ f. rw f (h.0, tt)) (λ f. rw f (narrow-lowered s e r h.0)))
    (narrow-lower_all s e l h.1)

narrow-join_from : (r : Refcount) (l : List Refcount) → Narrow r → All Narrow l → All Narrow (R.join_from r l)
unfolding R.join_from
narrow-join_from r [] g h = (g, tt)
narrow-join_from r (s ∷ l) g h = split (R.continues r s) (λ e. rw e (narrow-join_from (R.joined r s) l g h.1)) (λ e. rw e (g, narrow-join_from s l h.0 h.1))

pub narrow-join_all : (l : List Refcount) → All Narrow l → All Narrow (R.join_all l)
unfolding R.join_all
narrow-join_all [] h = tt
narrow-join_all (r ∷ l) h = narrow-join_from r l h.0 h.1

pub storable-narrow : (l : List Refcount) → AllStorable refcounts l → All Narrow l
storable-narrow [] h = tt
storable-narrow (r ∷ l) h = (h.0.refcount, storable-narrow l h.1)

narrow-fits : (r : Refcount) → 0 < r.blockcount → C.OfKind r → Narrow r → RefcountFits r
narrow-fits r n (C.shared p q) k = record { startblock = omega arith; blockcount = omega arith; refcount = k }
narrow-fits r n (C.staged p q t) k = record { startblock = omega arith; blockcount = omega arith; refcount = k }

pub narrow-storable : (e : ℕ) (l : List Refcount) → C.From e l → All Narrow l → AllStorable refcounts l
narrow-storable e [] h k = tt
narrow-storable e (r ∷ l) h k = (narrow-fits r h.0.0 h.0.1 k.0, narrow-storable (R.stop r) l h.2 k.1)

pub storable-release : (s e : ℕ) (l : List Refcount) → s ≤ e → e ≤ 2 ^ 31 → C.Accepted l → AllStorable refcounts l → AllStorable refcounts (R.release s e l)
storable-release s e l h t g k =
    narrow-storable 0 (R.release s e l) (C.release-from s e l h t g) (narrow-join_all (R.lower_all s e l) (narrow-lower_all s e l (storable-narrow l k)))

-- ---- free extents lie in the extent

abbrev Inside : ℕ → ℕ → FreeExtent → Type 0
Inside a z f = (a ≤ f.startblock) × (f.startblock + f.blockcount ≤ z)

inside-weaken : (a b z : ℕ) (fs : List FreeExtent) → a ≤ b → All (Inside b z) fs → All (Inside a z) fs
inside-weaken a b z [] h k = tt
inside-weaken a b z (f ∷ fs) h k = ((omega arith, k.0.1), inside-weaken a b z fs h k.1)

inside-grow : (b z : ℕ) (fs : List FreeExtent) → b < z → All (Inside (suc b) z) fs → All (Inside b z) (grow b fs)
unfolding grow
inside-grow b z [] h k = ((omega arith, omega arith), tt)
inside-grow b z (f ∷ fs) h k =
    split (eqb f.startblock (suc b))
    (λ e. rw e ((omega arith, omega (tests, k.0.1)), inside-weaken b (suc b) z fs (omega arith) k.1))
    (λ e. rw e ((omega arith, omega arith), inside-weaken b (suc b) z (f ∷ fs) (omega arith) k))

pub inside-runs : (p : ℕ → Bool) (b n z : ℕ) → b + n ≤ z → All (Inside b z) (runs p b n)
unfolding runs
inside-runs p b zero z h = tt
inside-runs p b (suc n) z h =
    let k : All (Inside (suc b) z) (runs p (suc b) n) = inside-runs p (suc b) n z (omega arith) in
    split (p b) (λ e. rw e (inside-grow b z (runs p (suc b) n) (omega arith) k)) (λ e. rw e (inside-weaken b (suc b) z (runs p (suc b) n) (omega arith) k))

inside-storable : (a z : ℕ) (fs : List FreeExtent) → z ≤ 2 ^ 31 → All (Inside a z) fs → AllStorable free_extents fs
inside-storable a z [] h k = tt
inside-storable a z (f ∷ fs) h k = let g = k.0 in (record { startblock = omega arith; blockcount = omega arith }, inside-storable a z fs h k.1)

pub storable-unshared : (l : List Refcount) (start count : ℕ) → start + count ≤ 2 ^ 31 → AllStorable free_extents (R.unshared l start count)
storable-unshared l start count h =
    inside-storable start (start + count) (R.unshared l start count) h (inside-runs (λ b. eqb (R.owners l b) 0) start count (start + count) (omega arith))
