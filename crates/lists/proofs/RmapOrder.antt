-- Acceptance of a reverse map (20) as facts, and that the three edits keep it.
-- Assumes nothing.
use Prim.Native.Nat.{ℕ, zero, suc, ◌+◌, ◌-◌, ◌^◌, ◌≤◌, ◌<◌}
use mathlib.Core.Bool.{Bool, true, false, not, cond, ◌||◌}
use mathlib.Core.Path.{◌≡◌, refl, ap, ◌∙◌}
use mathlib.Core.List.{List, [], ◌∷◌, ◌++◌}
use mathlib.Core.Option.{Option, none, some}
use native.Mathlib.Omega.{arith}
use lib.Dec.{ltb, leb, eqb}
use lib.ListN.{length, get_or}
use borrow.Author.Tests.{lt-ltb, le-ltb, le-leb, eq-eqb, ne_eqb, eqb-false}
use Rattle.codec.specs.Accepted.{in_order}
use Rattle.codec.specs.Rmaps.{end, file_offset, flags, reserved, mapping, exempt, good, key_offset, before, follows, least, accepted}
use Rattle.codec.specs.declared.rmap.Rmap.{Rmap}
use Rattle.lists.specs.RmapEdits.{first, replace, nothing, place, contains, chosen, front, later, place_later, cut_out, remove, continues, joined, attach, overlaps, insert_after, insert, behind, ahead, share_before, insert_shared}
use Rattle.lists.specs.Held.{no_overlap}
use Rattle.lists.proofs.Cases.{split, tests, conj, and-true, or_l, not-false}
use Rattle.lists.proofs.Found.{first_passes, no-overlap-parts, contains-ends, chosen-contains}

-- ---- the order, over the three numbers of a key

-- a start, an owner and an offset, and then another three that do not come before them
pub data Le (a b c d e f : ℕ) : Type 0 where
  by_start : a < d → Le a b c d e f
  by_owner : a ≡ d → b < e → Le a b c d e f
  by_offset : a ≡ d → b ≡ e → key_offset c ≤ key_offset f → Le a b c d e f

pub le_trans : {a b c d e f g h i : ℕ} → Le a b c d e f → Le d e f g h i → Le a b c g h i
le_trans (by_start p) (by_start q) = by_start (omega arith)
le_trans (by_start p) (by_owner q _) = by_start (omega arith)
le_trans (by_start p) (by_offset q _ _) = by_start (omega arith)
le_trans (by_owner p _) (by_start q) = by_start (omega arith)
le_trans (by_owner p p') (by_owner q q') = by_owner (omega arith) (omega arith)
le_trans (by_owner p p') (by_offset q q' _) = by_owner (omega arith) (omega arith)
le_trans (by_offset p _ _) (by_start q) = by_start (omega arith)
le_trans (by_offset p p' _) (by_owner q q') = by_owner (omega arith) (omega arith)
le_trans (by_offset p p' p'') (by_offset q q' q'') = by_offset (omega arith) (omega arith) (omega arith)

abbrev pub LeR : Rmap → Rmap → Type 0
LeR r s = Le r.startblock r.owner r.offset s.startblock s.owner s.offset

pub before-le : (r s : Rmap) → before r s ≡ true → LeR r s
unfolding before
before-le r s e =
    split (eqb r.startblock s.startblock)
    (λ f. split (eqb r.owner s.owner)
    (λ g. let h : ltb (key_offset r.offset) (key_offset s.offset) ≡ true = rw (f, g) at e in by_offset (omega tests) (omega tests) (omega tests))
    (λ g. let h : ltb r.owner s.owner ≡ true = rw (f, g) at e in by_owner (omega tests) (omega tests)))
    (λ f. let h : ltb r.startblock s.startblock ≡ true = rw f at e in by_start (omega tests))

pub not-before-le : (r s : Rmap) → before s r ≡ false → LeR r s
unfolding before
not-before-le r s e =
    split (eqb s.startblock r.startblock)
    (λ f. split (eqb s.owner r.owner)
    (λ g. let h : ltb (key_offset s.offset) (key_offset r.offset) ≡ false = rw (f, g) at e in by_offset (omega tests) (omega tests) (omega tests))
    (λ g. let h : ltb s.owner r.owner ≡ false = rw (f, g) at e in by_owner (omega tests) (omega (tests, eqb-false s.owner r.owner g))))
    (λ f. let h : ltb s.startblock r.startblock ≡ false = rw f at e in by_start (omega (tests, eqb-false s.startblock r.startblock f)))

pub le-not-before : (r s : Rmap) → LeR r s → before s r ≡ false
unfolding before
le-not-before r s (by_start p) = rw (ne_eqb s.startblock r.startblock (omega arith)) (le-ltb s.startblock r.startblock (omega arith))
le-not-before r s (by_owner p q) =
    rw (eq-eqb s.startblock r.startblock (omega arith), ne_eqb s.owner r.owner (omega arith)) (le-ltb s.owner r.owner (omega arith))
le-not-before r s (by_offset p q t) =
    rw (eq-eqb s.startblock r.startblock (omega arith), eq-eqb s.owner r.owner (omega arith)) (le-ltb (key_offset s.offset) (key_offset r.offset) (omega arith))

-- ---- acceptance as facts

-- where the file offset ends; 0 where there is none
unfoldable pub file_end : Rmap → ℕ
file_end r = cond (exempt r) 0 (file_offset r + r.blockcount)

abbrev pub Good : Rmap → Type 0
Good r = (0 < r.blockcount) × (end r ≤ 2 ^ 31) × (file_end r ≤ 2 ^ 54)

-- what follows a record with this key is good and ascending
abbrev pub Acc : ℕ → ℕ → ℕ → List Rmap → Type 0
Acc a b c [] = Unit {0}
Acc a b c (r ∷ l) = Good r × Le a b c r.startblock r.owner r.offset × Acc r.startblock r.owner r.offset l

abbrev pub After : Rmap → List Rmap → Type 0
After r l = Acc r.startblock r.owner r.offset l

abbrev pub Accepted : List Rmap → Type 0
Accepted l = After least l

pub good-facts : (r : Rmap) → good r ≡ true → Good r
unfolding good file_end
good-facts r e =
    let p : ltb 0 r.blockcount ≡ true = search conj in
    let q : leb (end r) (2 ^ 31) ≡ true = search conj in
    let t : (exempt r || leb (file_offset r + r.blockcount) (2 ^ 54)) ≡ true = search conj in (
      omega tests,
      omega tests,
      split (exempt r) (λ f. rw f (omega arith)) (λ f. let u : leb (file_offset r + r.blockcount) (2 ^ 54) ≡ true = rw f at t in rw f (omega tests)),
    )

pub facts-good : (r : Rmap) → Good r → good r ≡ true
unfolding good file_end
facts-good r h =
    and-true _ _ (lt-ltb 0 r.blockcount h.0)
    (and-true _ _ (le-leb (end r) (2 ^ 31) h.1)
    (split (exempt r)
    (λ f. rw f refl)
    (λ f. let u : file_offset r + r.blockcount ≤ 2 ^ 54 = rw f at h.2 in rw f (le-leb (file_offset r + r.blockcount) (2 ^ 54) u))))

pub after-facts : (q : Rmap) (l : List Rmap) → in_order good follows q l ≡ true → After q l
unfolding in_order follows
after-facts q [] e = tt
after-facts q (r ∷ l) e =
    let p : good r ≡ true = search conj in
    let t : not (before r q) ≡ true = search conj in
    let u : in_order good follows r l ≡ true = search conj in
    (good-facts r p, not-before-le q r (not-false (before r q) t), after-facts r l u)

pub facts-after : (q : Rmap) (l : List Rmap) → After q l → in_order good follows q l ≡ true
unfolding in_order follows
facts-after q [] h = refl
facts-after q (r ∷ l) h = and-true _ _ (facts-good r h.0) (and-true _ _ (ap not (le-not-before q r h.1)) (facts-after r l h.2))

pub accepted-facts : (l : List Rmap) → accepted l ≡ true → Accepted l
accepted-facts l e = after-facts least l e

pub facts-accepted : (l : List Rmap) → Accepted l → accepted l ≡ true
facts-accepted l h = facts-after least l h

-- ---- a list behind a lesser key, and a record put in

pub weaken : {a b c d e f : ℕ} (l : List Rmap) → Le a b c d e f → Acc d e f l → Acc a b c l
weaken [] p h = tt
weaken (r ∷ l) p h = (h.0, le_trans p h.1, h.2)

pub acc-place : {a b c : ℕ} (x : Rmap) (l : List Rmap) → Good x → Le a b c x.startblock x.owner x.offset → Acc a b c l → Acc a b c (place x l)
unfolding place
acc-place x [] g p h = (g, p, tt)
acc-place x (r ∷ l) g p h =
    split (before r x)
    (λ e. rw e (h.0, h.1, acc-place x l g (before-le r x e) h.2))
    (λ e. rw e (g, p, (h.0, not-before-le x r e, h.2)))

-- what stands in the place of a record may be as good
pub acc-replace : (q : Rmap) (p : Rmap → Bool) (f : Rmap → List Rmap)
    → ((q r : Rmap) (m : List Rmap) → p r ≡ true → Good r → LeR q r → After r m → After q (f r ++ m))
    → (l : List Rmap) → After q l → After q (replace p f l)
unfolding replace
acc-replace q p f k [] h = tt
acc-replace q p f k (r ∷ l) h =
    split (p r)
    (λ e. rw e (k q r l e h.0 h.1 h.2))
    (λ e. rw e (h.0, h.1, acc-replace r p f k l h.2))

-- the record found is good, and does not come before the key
pub found : {a b c : ℕ} (p : Rmap → Bool) (l : List Rmap) (w : Rmap) → Acc a b c l → first p l ≡ some w → Good w × Le a b c w.startblock w.owner w.offset
unfolding first
found p [] w h e = let z : ◌≡◌ {A = ℕ} 0 1 = cc in absurd (omega arith)
found p (r ∷ l) w h e =
    split (p r)
    (λ f. let q : r ≡ w = cc in rw (← q) (h.0, h.1))
    (λ f. let t = found p l w h.2 (rw f at e) in (t.0, le_trans h.1 t.1))

-- ---- by index

pub le-start : {a b c d e f : ℕ} → Le a b c d e f → a ≤ d
le-start (by_start p) = omega arith
le-start (by_owner p q) = omega arith
le-start (by_offset p q t) = omega arith

-- d stands for what lies past the end of a list
pub each : {a b c : ℕ} (d : Rmap) (l : List Rmap) (i : ℕ) → Acc a b c l → i < length l
    → Good (get_or l i d) × Le a b c (get_or l i d).startblock (get_or l i d).owner (get_or l i d).offset
each d [] i h k = absurd (omega arith)
each d (r ∷ l) zero h k = (h.0, h.1)
each d (r ∷ l) (suc i) h k = let t = each d l i h.2 (omega arith) in (t.0, le_trans h.1 t.1)

-- a record does not come before one at a lower index
pub ascending : (a b c : ℕ) (d : Rmap) (l : List Rmap) (i j : ℕ) → Acc a b c l → i < j → j < length l → LeR (get_or l i d) (get_or l j d)
ascending a b c d [] i j h p k = absurd (omega arith)
ascending a b c d (r ∷ l) i zero h p k = absurd (omega arith)
ascending a b c d (r ∷ l) zero (suc j) h p k = (each d l j h.2 (omega arith)).1
ascending a b c d (r ∷ l) (suc i) (suc j) h p k = ascending _ _ _ d l i j h.2 (omega arith) (omega arith)

-- ---- remove

pub good-front : (x w : Rmap) → contains x w ≡ true → ltb w.startblock x.startblock ≡ true → 0 < x.blockcount → Good w → Good (record { startblock = w.startblock; blockcount = x.startblock - w.startblock; owner = w.owner; offset = w.offset })
unfolding file_end exempt
good-front x w e f g h =
    let k = contains-ends x w e in (
      omega tests,
      omega tests,
      split (reserved w.owner || mapping (flags w))
          (λ t. rw t (omega arith))
          (λ t. rw t (let u : file_offset w + w.blockcount ≤ 2 ^ 54 = rw t at h.2 in omega tests)),
    )

pub acc-front : (x : Rmap) (l : List Rmap) → 0 < x.blockcount → (q r : Rmap) (m : List Rmap) → chosen x l r ≡ true → Good r → LeR q r → After r m → After q (front x r ++ m)
unfolding front
acc-front x l n q r m e g p h =
    split (ltb r.startblock x.startblock)
    (λ f. rw f (good-front x r (chosen-contains x l r e) f n g, p, h))
    (λ f. rw f (weaken m p h))

pub acc-nothing : (p : Rmap → Bool) (q r : Rmap) (m : List Rmap) → p r ≡ true → Good r → LeR q r → After r m → After q (nothing r ++ m)
acc-nothing p q r m e g u h = weaken m u h

pub exempt-same : (r s : Rmap) → r.owner ≡ s.owner → flags r ≡ flags s → exempt r ≡ exempt s
unfolding exempt
exempt-same r s e f = rw (e, f) refl

-- the file offset moves on within its 54 bits
pub good-later : (x w : Rmap) → contains x w ≡ true → ltb (end x) (end w) ≡ true → 0 < x.blockcount → Good w → Good (later x w)
unfolding file_end later
good-later x w e f g h =
    let k = contains-ends x w e in (
      omega tests,
      omega tests,
      split (exempt w)
          (λ t. rw (exempt-same (later x w) w refl (rw t refl) ∙ t) (omega arith))
          (λ t. split (exempt (later x w))
          (λ u. rw u (omega arith))
          (λ u. rw (u, t) (let v : file_offset w + w.blockcount ≤ 2 ^ 54 = rw t at h.2 in omega tests))),
    )

pub le-later : (x w : Rmap) → 0 < x.blockcount → w.startblock ≤ x.startblock → LeR w (later x w)
unfolding later
le-later x w n h = by_start (omega arith)

pub acc-cut : (x : Rmap) (l : List Rmap) (w : Rmap) → 0 < x.blockcount → Accepted l → first (chosen x l) l ≡ some w → Accepted (place_later x w (replace (chosen x l) (front x) l))
unfolding place_later
acc-cut x l w n h e =
    let t = found (chosen x l) l w h e in
    let c : contains x w ≡ true = chosen-contains x l w (first_passes (chosen x l) l w e) in
    let m : Accepted (replace (chosen x l) (front x) l) = acc-replace least (chosen x l) (front x) (acc-front x l n) l h in
    split (ltb (end x) (end w))
    (λ f. rw f (acc-place (later x w) (replace (chosen x l) (front x) l) (good-later x w c f n t.0) (le_trans t.1 (le-later x w n (contains-ends x w c).0)) m))
    (λ f. rw f m)

pub acc-remove : (x : Rmap) (l : List Rmap) → 0 < x.blockcount → Accepted l → Accepted (remove x l)
unfolding cut_out
acc-remove x l n h = go (first (chosen x l) l) refl
  where
    go : (o : Option Rmap) → first (chosen x l) l ≡ o → Accepted (cut_out x l o)
    go none f = h
    go (some w) f = acc-cut x l w n h f

-- ---- joins

pub good-joined : (r s : Rmap) → continues r s ≡ true → Good r → Good s → Good (joined r s)
unfolding file_end continues exempt
good-joined r s e g h =
    let o : eqb r.owner s.owner ≡ true = search conj in
    let fl : eqb (flags r) (flags s) ≡ true = search conj in
    let a : eqb (end r) s.startblock ≡ true = search conj in
    let b : (reserved r.owner || eqb (file_offset r + r.blockcount) (file_offset s)) ≡ true = search conj in (
      omega arith,
      omega tests,
      split (exempt r)
          (λ t. rw t (omega arith))
          (λ t. let u : exempt s ≡ false = exempt-same s r (omega tests) (omega tests) ∙ t in
          let v : file_offset s + s.blockcount ≤ 2 ^ 54 = rw u at h.2 in
          let c : eqb (file_offset r + r.blockcount) (file_offset s) ≡ true = rw (or_l (reserved r.owner) (mapping (flags r)) t) at b in
          rw t (omega tests)),
    )

pub acc-attach : (q r : Rmap) (l : List Rmap) → After q (r ∷ l) → After q (attach r l)
unfolding attach
acc-attach q r [] h = h
acc-attach q r (s ∷ l) h =
    split (continues r s)
    (λ e. rw e (good-joined r s e h.0 h.2.0, h.1, weaken l h.2.1 h.2.2))
    (λ e. rw e h)

-- ---- insert

-- a record that starts at or before x, and does not overlap it, starts before it
starts-before : (x r : Rmap) → Good x → Good r → r.startblock ≤ x.startblock → overlaps x r ≡ false → r.startblock < x.startblock
unfolding overlaps
starts-before x r g h k e =
    let f : ltb x.startblock (end r) ≡ false = rw (lt-ltb r.startblock (end x) (omega (arith, g.0))) at e in omega (tests, h.0)

acc-insert_after : (q x r : Rmap) (l : List Rmap) → Good x → no_overlap x (r ∷ l) ≡ true → r.startblock ≤ x.startblock → After q (r ∷ l) → After q (insert_after x r l)
unfolding insert_after attach
acc-insert_after q x r [] g e k h =
    let c = starts-before x r g h.0 k (no-overlap-parts x r [] e).0 in acc-attach q r (x ∷ []) (h.0, h.1, (g, by_start c, tt))
acc-insert_after q x r (s ∷ l) g e k h =
    let d = no-overlap-parts x r (s ∷ l) e in
    let c = starts-before x r g h.0 k d.0 in
    split (leb s.startblock x.startblock)
    (λ f. rw f (h.0, h.1, acc-insert_after r x s l g d.1 (omega tests) h.2))
    (λ f. rw f (acc-attach q r (attach x (s ∷ l)) (h.0, h.1, acc-attach r x (s ∷ l) (g, by_start c, (h.2.0, by_start (omega tests), h.2.2)))))

-- every key comes at or after the least
pub le-least : (a b c : ℕ) → Le 0 0 0 a b c
unfolding key_offset
le-least a b c =
    split (ltb 0 a)
    (λ e. by_start (omega tests))
    (λ e. split (ltb 0 b) (λ f. by_owner (omega tests) (omega tests)) (λ f. by_offset (omega tests) (omega tests) (omega arith)))

pub acc-insert : (x : Rmap) (l : List Rmap) → Good x → no_overlap x l ≡ true → Accepted l → Accepted (insert x l)
unfolding insert attach
acc-insert x [] g e h = (g, le-least x.startblock x.owner x.offset, tt)
acc-insert x (r ∷ l) g e h =
    split (leb r.startblock x.startblock)
    (λ t. rw t (acc-insert_after least x r l g e (omega tests) h))
    (λ t. rw t (acc-attach least x (r ∷ l) (g, le-least x.startblock x.owner x.offset, (h.0, by_start (omega tests), h.2))))

-- ---- insert_shared

good-behind : (x : Rmap) (l : List Rmap) (o : Option Rmap) → first (λ r. continues r x) l ≡ o → Good x → Accepted l → Good (behind o x)
unfolding behind
good-behind x l none e g h = g
good-behind x l (some r) e g h = good-joined r x (first_passes (λ r. continues r x) l r e) (found (λ r. continues r x) l r h e).0 g

good-ahead : (y : Rmap) (l : List Rmap) (o : Option Rmap) → first (continues y) l ≡ o → Good y → Accepted l → Good (ahead o y)
unfolding ahead
good-ahead y l none e g h = g
good-ahead y l (some s) e g h = good-joined y s (first_passes (continues y) l s e) g (found (continues y) l s h e).0

pub acc-insert_shared : (x : Rmap) (l : List Rmap) → Good x → Accepted l → Accepted (insert_shared x l)
acc-insert_shared x l g h =
    let y : Rmap = share_before x l in
    let m : List Rmap = replace (λ r. continues r x) nothing l in
    let z : Rmap = ahead (first (continues y) m) y in
    let k : Accepted m = acc-replace least (λ r. continues r x) nothing (acc-nothing (λ r. continues r x)) l h in
    acc-place z (replace (continues y) nothing m)
    (good-ahead y m (first (continues y) m) refl (good-behind x l (first (λ r. continues r x) l) refl g h) k)
    (le-least z.startblock z.owner z.offset)
    (acc-replace least (continues y) nothing (acc-nothing (continues y)) m k)
