-- Laws of joining record by record: one push, and the three of a record that is changed.
-- Assumes nothing.
use Prim.Native.Nat.{ℕ, ◌+◌, ◌-◌, ◌*◌, ◌^◌, ◌≤◌, ◌<◌, min, max}
use native.Mathlib.Omega.{arith}
use mathlib.Core.Path.{◌≡◌, refl, sym, ap, ◌∙◌}
use mathlib.Core.Bool.{Bool, true, false, ◌&&◌, and-false}
use mathlib.Core.List.{List, [], ◌∷◌, ◌++◌, append_assoc, append-nil}
use lib.Dec.{ltb, leb, eqb}
use lib.ListN.{length, length-append}
use borrow.Author.Tests.{lt-ltb, le-ltb, lt-leb, eq-eqb, ne_eqb, eqb-false}
use Rattle.codec.specs.Records.{bytes_of, refcounts}
use Rattle.codec.specs.Refcounts.{block, end}
use Rattle.codec.specs.declared.refcount.Refcount.{Refcount}
use Rattle.codec.proofs.RecordLists.{length-bytes_of, bytes_of-append}
use Rattle.codec.proofs.RecordKinds.{refcounts-lawful}
use Rattle.lists.specs.declared.carried.Joiner.{Joiner}
use Rattle.lists.specs.Release.{stop, piece, clamp, same_kind, continues, joined, join_from, join_all, fewer, share}
use Rattle.lists.specs.Inner.Passes.{put_if, record_of, pending, join_on, goes_on, more, next, fresh, changed, Lies, Fits, Room, Cut, Pushed}
use Rattle.lists.proofs.Cases.{split, tests, conj}
use Rattle.lists.proofs.Counts.{Good, shared, staged, continues-is}
use Rattle.lists.proofs.Puts.{put-nil, put-put}

abbrev W : List Refcount → List ℕ
W l = bytes_of refcounts l

length-W : (l : List Refcount) → length (W l) ≡ length l * 12
length-W l = length-bytes_of refcounts refcounts-lawful l

-- ---- the record that waits

pub finish-none : (w : Bool) (j : Joiner) (out : List ℕ) → j.count ≡ 0 → (j.at ≡ j.at + length (W (pending j))) × (out ≡ put_if w out j.at (W (pending j)))
unfolding pending bytes_of
finish-none w j out h = rw (eq-eqb j.count 0 h) (omega arith, sym (put-nil w out j.at))

pub pending-some : (j : Joiner) → 0 < j.count → pending j ≡ record_of j ∷ []
unfolding pending
pending-some j h = rw (ne_eqb j.count 0 (omega arith)) refl

pub finish-some : (j : Joiner) → 0 < j.count → (j.at + 12 ≡ j.at + length (W (pending j))) × (refcounts.encode (record_of j) ≡ W (pending j))
unfolding pending bytes_of
finish-some j h =
    let q = pending-some j h in
    (omega (arith, length-W (pending j), ap length q), rw q (sym (append-nil (refcounts.encode (record_of j)))))

by_count : {P : Type 0} (j : Joiner) → (j.count ≡ 0 → P) → (0 < j.count → P) → P
by_count j f g = split (eqb j.count 0) (λ q. f (omega tests)) (λ q. g (omega (arith, eqb-false j.count 0 q)))

pub pending-room : (w : Bool) (j : Joiner) (n : ℕ) → Room w j n → w ≡ true → 0 < length (W (pending j)) → j.at + length (W (pending j)) ≤ n
pending-room w j n room u v = by_count j (λ q. absurd (omega (arith, (finish-none w j [] q).0))) (λ q. omega (arith, room u q, (finish-some j q).0))

-- room for what waits, as bytes
pub room-pending : (w : Bool) (j : Joiner) (n : ℕ) → (w ≡ true → j.at + length (W (pending j)) ≤ n) → Room w j n
room-pending w j n h u c = omega (arith, h u, (finish-some j c).0)

pub join_on-nil : (j : Joiner) → join_on j [] ≡ pending j
unfolding join_on pending join_all join_from
join_on-nil j = refl

join_from-some : (r : Refcount) (l : List Refcount) → 1 ≤ length (join_from r l)
unfolding join_from
join_from-some r [] = omega arith
join_from-some r (s ∷ l) = split (continues r s) (λ e. rw e (join_from-some (joined r s) l)) (λ e. rw e (omega arith))

join_on-some : (j : Joiner) (l : List Refcount) → 0 < j.count → 12 ≤ length (W (join_on j l))
join_on-some j l h =
    let q : join_on j l ≡ join_from (record_of j) l = unfold join_on in rw (ne_eqb j.count 0 (omega arith)) refl in
    omega (arith, length-W (join_on j l), ap length q, join_from-some (record_of j) l)

pub room_for : (w : Bool) (j : Joiner) (l : List Refcount) (n : ℕ) → (w ≡ true → j.at + length (W (join_on j l)) ≤ n) → Room w j n
room_for w j l n h u c = omega (arith, h u, join_on-some j l c)

-- records to come never make fewer of those at hand
join_from-more : (r : Refcount) (p l : List Refcount) → length (join_from r p) ≤ length (join_from r (p ++ l))
unfolding join_from
join_from-more r [] l = join_from-some r l
join_from-more r (s ∷ p) l =
    split (continues r s) (λ e. rw e (join_from-more (joined r s) p l)) (λ e. rw e (omega (arith, join_from-more s p l)))

join_all-more : (p l : List Refcount) → length (join_all p) ≤ length (join_all (p ++ l))
unfolding join_all
join_all-more [] l = omega arith
join_all-more (r ∷ p) l = join_from-more r p l

pub join_on-more : (j : Joiner) (p l : List Refcount) → length (W (join_on j p)) ≤ length (W (join_on j (p ++ l)))
unfolding join_on
join_on-more j p l =
    split (eqb j.count 0)
    (λ e. rw e (omega (arith, length-W (join_all p), length-W (join_all (p ++ l)), join_all-more p l)))
    (λ e. rw e (omega (arith, length-W (join_from (record_of j) p), length-W (join_from (record_of j) (p ++ l)), join_from-more (record_of j) p l)))

-- ---- what is pushed

pub share-none : (a z n : ℕ) → z ≤ a → share a z n ≡ []
unfolding share piece
share-none a z n h = rw (le-ltb a z h) (split (eqb n 0) (λ e. rw e refl) (λ e. rw e refl))

pub share-zero : (a z n : ℕ) → n ≡ 0 → share a z n ≡ []
unfolding share
share-zero a z n h = rw (eq-eqb n 0 h) refl

pub share-piece : (a z n : ℕ) → 0 < n → share a z n ≡ piece a z n
unfolding share
share-piece a z n h = rw (ne_eqb n 0 (omega arith)) refl

share-some : (a z n : ℕ) → a < z → 0 < n → share a z n ≡ record { startblock = a; blockcount = z - a; refcount = n } ∷ []
unfolding share piece
share-some a z n h k = rw (ne_eqb n 0 (omega arith), lt-ltb a z h) refl

pub more-some : (n : ℕ) → n < 2 ^ 32 - 1 → n + 1 ≡ more n
unfolding more
more-some n h = rw (lt-leb (2 ^ 32 - 1) n h) refl

-- ---- one push

-- the same finished list
same : (w : Bool) (j k : Joiner) (out : List ℕ) (p : List Refcount) (z : ℕ) → k.at ≡ j.at → Fits k → k.start + k.count ≤ z → ((l : List Refcount) → join_on k l ≡ join_on j (p ++ l)) → Pushed w j out p z k out
same w j k out p z a h b q =
    record {
      fits = h;
      behind = b;
      size = λ l. omega (arith, ap (λ (m : List Refcount). length (W m)) (q l));
      bytes = λ l. ap (λ (n : ℕ). put_if w out n (W (join_on k l))) a ∙ ap (λ (m : List Refcount). put_if w out j.at (W m)) (q l);
    }

pub push-none : (w : Bool) (j : Joiner) (out : List ℕ) (p : List Refcount) (z : ℕ) → Fits j → j.start + j.count ≤ z → p ≡ [] → Pushed w j out p z j out
push-none w j out p z f b e = same w j j out p z refl f b (λ l. rw e refl)

goes-facts : (j : Joiner) (a n : ℕ) → goes_on j a n ≡ true → (0 < j.count) × (j.start + j.count ≡ a) × (j.owners ≡ n)
unfolding goes_on
goes-facts j a n t =
    split (eqb j.count 0)
    (λ e. let z : false ≡ true = rw e at t in absurd (let y : ◌≡◌ {A = ℕ} 0 1 = cc in omega arith))
    (λ e. split (eqb (j.start + j.count) a)
    (λ f. split (eqb j.owners n)
    (λ g. (omega (tests, eqb-false j.count 0 e), omega tests, omega tests))
    (λ g. let z : false ≡ true = rw (e, f, g) at t in absurd (let y : ◌≡◌ {A = ℕ} 0 1 = cc in omega arith)))
    (λ f. let z : false ≡ true = rw (e, f) at t in absurd (let y : ◌≡◌ {A = ℕ} 0 1 = cc in omega arith)))

goes-true : (j : Joiner) (a n : ℕ) → eqb j.count 0 ≡ false → (eqb (j.start + j.count) a && eqb j.owners n) ≡ true → goes_on j a n ≡ true
unfolding goes_on
goes-true j a n p e = rw (p, e) refl

-- places of n owners are fewer than 2^32
pub short : (a z n : ℕ) → Lies a z n → a < z → 0 < n → z - a < 2 ^ 32
short a z n f h k = split (leb n 1) (λ e. let q : n ≡ 1 = omega tests in omega (arith, f.staging q, f.end)) (λ e. omega (arith, f.shared (omega tests)))

-- the record that waits is continued by places of n owners where the pass goes on
lies-good : (r : Refcount) → Lies r.startblock (stop r) r.refcount → 0 < r.blockcount → 0 < r.refcount → Good r
lies-good r f c o = (
  c,
  split (leb r.refcount 1)
      (λ e. let q : r.refcount ≡ 1 = omega tests in staged (f.staging q) f.end q)
      (λ e. shared (f.shared (omega tests)) (omega tests)),
)

abbrev places : ℕ → ℕ → ℕ → Refcount
places a z n = record { startblock = a; blockcount = z - a; refcount = n }

unlike : (j : Joiner) (a z n : ℕ) → eqb j.owners n ≡ false → continues (record_of j) (places a z n) ≡ (eqb (j.start + j.count) a && eqb j.owners n)
unfolding continues
unlike j a z n q =
    rw (q, and-false (eqb (end (record_of j)) (block (places a z n))), and-false (same_kind (record_of j) (places a z n))) (sym (and-false (eqb (j.start + j.count) a)))

goes_on_lem : (j : Joiner) (a z n : ℕ) → a < z → 0 < n → Lies a z n → Lies j.start (j.start + j.count) j.owners → 0 < j.count
    → continues (record_of j) (places a z n) ≡ (eqb (j.start + j.count) a && eqb j.owners n)
goes_on_lem j a z n h o f g c =
    split (eqb j.owners 0)
    (λ e. let q : eqb j.owners n ≡ false = ne_eqb j.owners n (λ u. omega tests) in
    unlike j a z n q)
    (λ e. let q : a + (z - a) ≡ z = omega arith in
    continues-is (record_of j) (places a z n) (lies-good (record_of j) g c (omega (arith, eqb-false j.owners 0 e))) (lies-good (places a z n) (rw q f) (omega arith) o))

module _ (w : Bool) (j : Joiner) (a z n : ℕ) (h : a < z) (o : 0 < n) (lies : Lies a z n) (fits : Fits j) (behind : j.start + j.count ≤ a) where
  pub joined-short : goes_on j a n ≡ true → j.count + (z - a) < 2 ^ 32
  joined-short g =
      let f = goes-facts j a n g in
      let k : Lies j.start z n = record { end = lies.end; owners = lies.owners; shared = lies.shared; staging = λ u. fits.lies.staging (omega arith) } in
      omega (arith, short j.start z n k (omega arith) o)

  pub push-join : (out : List ℕ) → goes_on j a n ≡ true → Pushed w j out (share a z n) z (record { start = j.start; count = j.count + (z - a); owners = n; at = j.at }) out
  push-join out g =
      let f = goes-facts j a n g in
      let q : j.start + (j.count + (z - a)) ≡ z = omega arith in
      let k : Lies j.start z n = record { end = lies.end; owners = lies.owners; shared = lies.shared; staging = λ u. fits.lies.staging (omega arith) } in
      same w j (record { start = j.start; count = j.count + (z - a); owners = n; at = j.at }) out (share a z n) z refl
      (record { lies = rw q k; count = joined-short g; place = fits.place })
      (omega arith)
      (λ l. rw (share-some a z n h o) (step f l))
    where
      step : (0 < j.count) × (j.start + j.count ≡ a) × (j.owners ≡ n) → (l : List Refcount)
          → join_on (record { start = j.start; count = j.count + (z - a); owners = n; at = j.at }) l ≡ join_on j (record { startblock = a; blockcount = z - a; refcount = n } ∷ l)
      step f l =
          unfold join_on join_from in
          rw (ne_eqb (j.count + (z - a)) 0 (omega arith), ne_eqb j.count 0 (omega arith), goes_on_lem j a z n h o lies fits.lies f.0, eq-eqb (j.start + j.count) a f.1, eq-eqb j.owners n f.2, f.2) refl

  pub push-next : (out out' : List ℕ) (at : ℕ) → Room w j (length out) → goes_on j a n ≡ false → at ≡ j.at + length (W (pending j)) → out' ≡ put_if w out j.at (W (pending j))
      → Pushed w j out (share a z n) z (record { start = a; count = z - a; owners = n; at = at }) out'
  push-next out out' at room g e f =
      let q : a + (z - a) ≡ z = omega arith in
      record {
        fits = record { lies = rw q lies; count = short a z n lies h o; place = place };
        behind = omega arith;
        size = λ l. rw (first l, rest l, bytes_of-append refcounts refcounts-lawful) (omega (arith, length-append (W (pending j)) (W (join_from (record { startblock = a; blockcount = z - a; refcount = n }) l))));
        bytes = λ l. rw (first l, rest l, bytes_of-append refcounts refcounts-lawful, f) (put-put w out j.at at (W (pending j)) (W (join_from (record { startblock = a; blockcount = z - a; refcount = n }) l)) roomy e);
      }
    where
      place : at ≤ 12 * a
      place = by_count j (λ q. omega (arith, (finish-none w j out q).0, fits.place)) (λ q. omega (arith, (finish-some j q).0, fits.place))

      roomy : w ≡ true → 0 < length (W (pending j)) → j.at + length (W (pending j)) ≤ length out
      roomy = pending-room w j (length out) room

      first : (l : List Refcount) → join_on (record { start = a; count = z - a; owners = n; at = at }) l ≡ join_from (record { startblock = a; blockcount = z - a; refcount = n }) l
      first l = unfold join_on in rw (ne_eqb (z - a) 0 (omega arith)) refl

      rest : (l : List Refcount) → join_on j (share a z n ++ l) ≡ pending j ++ join_from (record { startblock = a; blockcount = z - a; refcount = n }) l
      rest l = rw (share-some a z n h o) (go (eqb j.count 0) (continues (record_of j) (record { startblock = a; blockcount = z - a; refcount = n })) refl refl)
        where
          go : (s t : Bool) → eqb j.count 0 ≡ s → continues (record_of j) (record { startblock = a; blockcount = z - a; refcount = n }) ≡ t
              → join_on j (record { startblock = a; blockcount = z - a; refcount = n } ∷ l) ≡ pending j ++ join_from (record { startblock = a; blockcount = z - a; refcount = n }) l
          go true t p q = unfold join_on join_all pending in rw p refl
          go false true p q =
              let e : (eqb (j.start + j.count) a && eqb j.owners n) ≡ true = sym (goes_on_lem j a z n h o lies fits.lies (omega (arith, eqb-false j.count 0 p))) ∙ q in
              let y : ◌≡◌ {A = Bool} true false = sym (goes-true j a n p e) ∙ g in
              cc
          go false false p q = unfold join_on join_from pending in rw (p, q) refl

-- ---- one push after another

pub pushed-pushed : (w : Bool) (i j k : Joiner) (out out' out'' : List ℕ) (p q : List Refcount) (y z : ℕ) → Pushed w i out p y j out' → Pushed w j out' q z k out'' → Pushed w i out (p ++ q) z k out''
pushed-pushed w i j k out out' out'' p q y z f g =
    record {
      fits = g.fits;
      behind = g.behind;
      size = λ l. g.size l ∙ f.size (q ++ l) ∙ ap (λ (m : List Refcount). i.at + length (W (join_on i m))) (sym (append_assoc p q l));
      bytes = λ l. g.bytes l ∙ f.bytes (q ++ l) ∙ ap (λ (m : List Refcount). put_if w out i.at (W (join_on i m))) (sym (append_assoc p q l));
    }

-- the room for all of them is room for those after the first
pushed_room : (w : Bool) (j k : Joiner) (out out' : List ℕ) (p l : List Refcount) (z : ℕ) → Pushed w j out p z k out' → length out' ≡ length out
    → (w ≡ true → j.at + length (W (join_on j (p ++ l))) ≤ length out) → w ≡ true → k.at + length (W (join_on k l)) ≤ length out'
pushed_room w j k out out' p l z f n h u = omega (arith, h u, f.size l)

-- ---- a record's parts

lies-part : (a z n b y : ℕ) → Lies a z n → a ≤ b → y ≤ z → Lies b y n
lies-part a z n b y f g h = record { end = omega (arith, f.end); owners = f.owners; shared = λ u. omega (arith, f.shared u); staging = λ u. omega (arith, f.staging u) }

lies_fewer : (a z n b y : ℕ) → Lies a z n → a ≤ b → y ≤ z → Lies b y (fewer n)
unfolding fewer
lies_fewer a z n b y f g h =
    split (leb n 2)
    (λ e. rw e (record { end = omega (arith, f.end); owners = omega arith; shared = λ u. absurd (omega arith); staging = λ u. absurd (omega arith) }))
    (λ e. rw e (record { end = omega (arith, f.end); owners = omega (arith, f.owners); shared = λ u. omega (arith, f.shared (omega tests)); staging = λ u. absurd (omega tests) }))

lies_more : (a z n b y : ℕ) → Lies a z n → 2 ≤ n → a ≤ b → y ≤ z → Lies b y (more n)
unfolding more
lies_more a z n b y f o g h =
    split (leb (2 ^ 32 - 1) n)
    (λ e. rw e (record { end = omega (arith, f.end); owners = f.owners; shared = λ u. omega (arith, f.shared o); staging = λ u. absurd (omega arith) }))
    (λ e. rw e (record { end = omega (arith, f.end); owners = omega tests; shared = λ u. omega (arith, f.shared o); staging = λ u. absurd (omega arith) }))

-- a record that begins below 2^31 is shared
lies-next : (up : Bool) (a z n b y : ℕ) → Lies a z n → 0 < n → a < 2 ^ 31 → a ≤ b → y ≤ z → Lies b y (next up n)
unfolding next
lies-next true a z n b y f o l g h =
    lies_more a z n b y f (split (leb n 1) (λ e. let q : n ≡ 1 = omega tests in omega (arith, f.staging q)) (λ e. omega tests)) g h
lies-next false a z n b y f o l g h = lies_fewer a z n b y f g h

parts : (up : Bool) (s e : ℕ) (r : Refcount) (a z m : ℕ) → 0 < r.refcount → a ≡ max r.startblock (min s (stop r)) → z ≡ max r.startblock (min e (stop r)) → m ≡ next up r.refcount
    → changed up s e r ≡ share r.startblock a r.refcount ++ (share a z m ++ share z (stop r) r.refcount)
unfolding changed clamp
parts up s e r a z m o qa qz qm =
    rw (qm, share-piece r.startblock a r.refcount o, share-piece z (stop r) r.refcount o, qa, qz) refl

-- what a push asks
abbrev pub Asks : Bool → Joiner → (a z n room : ℕ) → Type 0
Asks w j a z n room = Lies a z n × (((a ≤ z) × (j.start + j.count ≤ a)) × (Fits j × Room w j room))

module _ (up w : Bool) (s e : ℕ) (j : Joiner) (r : Refcount) (out : List ℕ) (cut : Cut up w s e j r (length out)) (met : r.startblock < e) (a z m : ℕ)
    (qa : a ≡ max r.startblock (min s (stop r))) (qz : z ≡ max r.startblock (min e (stop r))) (qm : m ≡ next up r.refcount) where
  abbrev front : List Refcount
  front = share r.startblock a r.refcount

  abbrev behind : List Refcount
  behind = share z (stop r) r.refcount

  room-all : w ≡ true → j.at + length (W (join_on j (front ++ (share a z m ++ behind)))) ≤ length out
  room-all u = rw (← parts up s e r a z m cut.owned qa qz qm) (cut.room u)

  pub asks-front : Asks w j r.startblock a r.refcount (length out)
  asks-front =
      let h : s ≤ e = cut.extent in
      (lies-part _ _ _ _ _ cut.lies (omega arith) (omega arith), ((omega arith, cut.behind), (cut.fits, room_for w j (front ++ (share a z m ++ behind)) (length out) room-all)))

  module _ (k : Joiner) (out' : List ℕ) (g : Pushed w j out front a k out') (n : length out' ≡ length out) where
    room-more : w ≡ true → k.at + length (W (join_on k (share a z m ++ behind))) ≤ length out'
    room-more = pushed_room w j k out out' front (share a z m ++ behind) a g n room-all

    pub asks-middle : Asks w k a z m (length out')
    asks-middle =
        let h : s ≤ e = cut.extent in
        let l : e ≤ 2 ^ 31 = cut.end in
        let f : Lies a z (next up r.refcount) = lies-next up _ _ _ _ _ cut.lies cut.owned (omega arith) (omega arith) (omega arith) in
        (rw qm f, ((omega arith, g.behind), (g.fits, room_for w k (share a z m ++ behind) (length out') room-more)))

    module _ (i : Joiner) (out'' : List ℕ) (g' : Pushed w k out' (share a z m) z i out'') (n' : length out'' ≡ length out') where
      pub asks-behind : Asks w i z (stop r) r.refcount (length out'')
      asks-behind =
          (lies-part _ _ _ _ _ cut.lies (omega arith) (omega arith), ((omega arith, g'.behind), (g'.fits, room_for w i behind (length out'') (pushed_room w k i out' out'' (share a z m) behind z g' n' room-more))))

      pub changed-pushed : (last : Joiner) (out''' : List ℕ) → Pushed w i out'' behind (stop r) last out''' → Pushed w j out (changed up s e r) (stop r) last out'''
      changed-pushed last out''' g'' =
          rw (parts up s e r a z m cut.owned qa qz qm)
          (pushed-pushed w j k last out out' out''' front (share a z m ++ behind) a (stop r) g (pushed-pushed w k i last out' out'' out''' (share a z m) behind z (stop r) g' g''))

-- a record that the extent does not meet

pub piece-none : (a n : ℕ) → piece a a n ≡ []
unfolding piece
piece-none a n = rw (le-ltb a a (omega arith)) refl

pub clamp-low : (r : Refcount) (s : ℕ) → s ≤ r.startblock → clamp r s ≡ r.startblock
unfolding clamp
clamp-low r s h = omega arith

pub clamp-high : (r : Refcount) (s : ℕ) → stop r ≤ s → clamp r s ≡ stop r
unfolding clamp
clamp-high r s h = omega arith

module _ (up w : Bool) (s e : ℕ) (j : Joiner) (r : Refcount) (out : List ℕ) (cut : Cut up w s e j r (length out)) (apart : (ltb s (stop r) && ltb r.startblock e) ≡ false) where
  untouched : changed up s e r ≡ share r.startblock (stop r) r.refcount
  unfolding changed
  untouched =
      let h : s ≤ e = cut.extent in
      rw (share-piece r.startblock (stop r) r.refcount cut.owned)
      (split (ltb s (stop r))
      (λ u. let v : ltb r.startblock e ≡ false = rw u at apart in
      rw (clamp-low r s (omega tests), clamp-low r e (omega tests), piece-none r.startblock r.refcount, share-none r.startblock r.startblock (next up r.refcount) (omega arith)) refl)
      (λ u. rw (clamp-high r s (omega tests), clamp-high r e (omega tests), share-none (stop r) (stop r) (next up r.refcount) (omega arith), piece-none (stop r) r.refcount)
      (append-nil (piece r.startblock (stop r) r.refcount))))

  pub asks-whole : Asks w j r.startblock (stop r) r.refcount (length out)
  asks-whole = (cut.lies, ((omega arith, cut.behind), (cut.fits, room_for w j (changed up s e r) (length out) cut.room)))

  pub whole-pushed : (k : Joiner) (out' : List ℕ) → Pushed w j out (share r.startblock (stop r) r.refcount) (stop r) k out' → Pushed w j out (changed up s e r) (stop r) k out'
  whole-pushed k out' g = rw untouched g

module _ (start end s e : ℕ) where
  pub meets-not : end ≤ s → false ≡ (ltb s end && ltb start e)
  meets-not h = rw (le-ltb s end h) refl

  pub meets-by : s < end → ltb start e ≡ (ltb s end && ltb start e)
  meets-by h = rw (lt-ltb s end h) refl

-- a record that lies within the extent

module _ (start end s e : ℕ) where
  pub within-not : start < s → false ≡ (leb s start && leb end e)
  within-not h = rw (lt-leb s start h) refl

module _ (up w : Bool) (s e : ℕ) (j : Joiner) (r : Refcount) (out : List ℕ) (cut : Cut up w s e j r (length out)) (met : r.startblock < e)
    (within : (leb s r.startblock && leb (stop r) e) ≡ true) (m : ℕ) (qm : m ≡ next up r.refcount) where
  changed-whole : changed up s e r ≡ share r.startblock (stop r) m
  unfolding changed
  changed-whole =
      let a : leb s r.startblock ≡ true = search conj in
      let b : leb (stop r) e ≡ true = search conj in
      rw (clamp-low r s (omega tests), clamp-high r e (omega tests), piece-none r.startblock r.refcount, piece-none (stop r) r.refcount, qm)
      (append-nil (share r.startblock (stop r) (next up r.refcount)))

  pub asks-within : Asks w j r.startblock (stop r) m (length out)
  asks-within =
      let l : Lies r.startblock (stop r) (next up r.refcount) = lies-next up _ _ _ _ _ cut.lies cut.owned (omega (arith, met, cut.end)) (omega arith) (omega arith) in
      (rw qm l, ((omega arith, cut.behind), (cut.fits, room_for w j (changed up s e r) (length out) cut.room)))

  pub within-pushed : (k : Joiner) (out' : List ℕ) → Pushed w j out (share r.startblock (stop r) m) (stop r) k out' → Pushed w j out (changed up s e r) (stop r) k out'
  within-pushed k out' g = rw changed-whole g

-- ---- places that no record tells of

module _ (up w : Bool) (j : Joiner) (a z : ℕ) (low : z ≤ 2 ^ 31) (behind : j.start + j.count ≤ a) (fits : Fits j) where
  pub fill_none : (out : List ℕ) → share a z (fresh up) ≡ [] → Pushed w j out (share a z (fresh up)) (max (j.start + j.count) z) j out
  fill_none out e = push-none w j out (share a z (fresh up)) (max (j.start + j.count) z) fits (omega arith) e

  pub asks-fill : (n : ℕ) → a < z → Room w j n → Asks w j a z 2 n
  asks-fill n h room =
      (record { end = omega arith; owners = omega arith; shared = λ u. low; staging = λ u. absurd (omega arith) }, ((omega arith, behind), (fits, room)))

  pub fill-pushed : (k : Joiner) (out out' : List ℕ) → up ≡ true → Pushed w j out (share a z 2) z k out' → Pushed w j out (share a z (fresh up)) (max (j.start + j.count) z) k out'
  unfolding fresh
  fill-pushed k out out' u g = rw u (record { fits = g.fits; behind = omega (arith, g.behind); size = g.size; bytes = g.bytes })

pub fresh-none : (up : Bool) (a z : ℕ) → up ≡ false → share a z (fresh up) ≡ []
unfolding fresh
fresh-none up a z h = rw h (share-zero a z 0 refl)
