-- Shared counts that agree with a reverse map go on agreeing: after a let go, and after a take of blocks that nobody holds.
-- Assumes nothing.
use Prim.Native.Nat.{ℕ, ◌+◌, ◌≤◌, ◌<◌}
use mathlib.Core.Bool.{true, false, not, cond, ◌&&◌}
use mathlib.Core.Path.{◌≡◌, refl, sym, ap, ◌∙◌}
use mathlib.Core.List.{List, [], ◌∷◌}
use native.Mathlib.Omega.{arith}
use native.Mathlib.Nat.{zero-add}
use lib.Dec.{ltb, eqb}
use borrow.Author.Tests.{lt-ltb, le-ltb, lt-leb, eq-eqb, ne_eqb}
use Rattle.codec.specs.Refcounts.{staging}
use Rattle.codec.specs.declared.rmap.Rmap.{Rmap}
use Rattle.codec.specs.declared.refcount.Refcount.{Refcount}
use Rattle.lists.specs.Extent.{over, within, runs}
use Rattle.lists.specs.Holders.{holders}
use Rattle.lists.specs.Release.{owners, stop, fewer, unshared}
use Rattle.lists.proofs.Cases.{split, tests, conj, not-false, within_in, within-right, over-facts, within-over, within-not}
use Rattle.lists.proofs.Counts.{From, Accepted, owners-left, kind-owners}
use Rattle.lists.proofs.Raising.{another}
use Rattle.lists.proofs.Runs.{runs_same}
use Rattle.groups.specs.History.{shared, Agree}

-- ---- the shared count over a block, and the owners there

-- n from 2 on, and 0 below
unfoldable pub several : ℕ → ℕ
several n = cond (ltb n 2) 0 n

shared-owners : (d : ℕ) (l : List Refcount) (b n : ℕ) → From d l → shared n b l ≡ true → (owners l b ≡ n) × (2 ≤ n)
unfolding shared owners
shared-owners d [] b n h e = let z : ◌≡◌ {A = ℕ} 0 1 = cc in (omega arith, omega arith)
shared-owners d (r ∷ l) b n h e =
    split (not (staging r) && (over r.startblock r.blockcount b && eqb r.refcount n))
    (λ f. let p : not (staging r) ≡ true = search conj in
    let o : over r.startblock r.blockcount b ≡ true = search conj in
    let q : eqb r.refcount n ≡ true = search conj in
    let k = over-facts r.startblock r.blockcount b o in
    let t : staging r ≡ false = not-false (staging r) p in
    let u : 2 ≤ r.refcount = kind-owners r h.0.1 t in
    rw t (omega (tests, within_in r.startblock r.blockcount r.refcount b k.0 k.1, owners-left (stop r) l b h.2 k.1), omega tests))
    (λ f. let k = shared-owners (stop r) l b n h.2 (rw f at e) in
    split (ltb b (stop r))
    (λ g. let z : owners l b ≡ 0 = owners-left (stop r) l b h.2 (omega tests) in (omega arith, omega arith))
    (λ g. let w : within r.startblock r.blockcount r.refcount b ≡ 0 = within-right r.startblock r.blockcount r.refcount b (omega tests) in
    split (staging r) (λ t. rw t (omega arith, omega arith)) (λ t. rw t (omega arith, omega arith))))

owners-shared : (d : ℕ) (l : List Refcount) (b n : ℕ) → From d l → 2 ≤ n → owners l b ≡ n → shared n b l ≡ true
unfolding shared owners
owners-shared d [] b n h k e = absurd (omega arith)
owners-shared d (r ∷ l) b n h k e =
    split (staging r)
    (λ t. let u : 0 + owners l b ≡ n = rw t at e in rw t (owners-shared (stop r) l b n h.2 k (omega arith)))
    (λ t. let u : within r.startblock r.blockcount r.refcount b + owners l b ≡ n = rw t at e in
    split (over r.startblock r.blockcount b)
    (λ o. let z : owners l b ≡ 0 = owners-left (stop r) l b h.2 (over-facts r.startblock r.blockcount b o).1 in
    rw (t, o, eq-eqb r.refcount n (omega (arith, within-over r.startblock r.blockcount r.refcount b o))) refl)
    (λ o. rw (t, o) (owners-shared (stop r) l b n h.2 k (omega (arith, within-not r.startblock r.blockcount r.refcount b o)))))

-- no shared record has a single owner
owners-small : (d : ℕ) (l : List Refcount) (b : ℕ) → From d l → owners l b < 2 → owners l b ≡ 0
unfolding owners
owners-small d [] b h k = refl
owners-small d (r ∷ l) b h k =
    split (staging r)
    (λ t. let u : 0 + owners l b < 2 = rw t at k in rw t (omega (arith, owners-small (stop r) l b h.2 (omega arith))))
    (λ t. let u : within r.startblock r.blockcount r.refcount b + owners l b < 2 = rw t at k in
    split (over r.startblock r.blockcount b)
    (λ o. absurd (omega (arith, within-over r.startblock r.blockcount r.refcount b o, kind-owners r h.0.1 t)))
    (λ o. rw t (omega (arith, within-not r.startblock r.blockcount r.refcount b o, owners-small (stop r) l b h.2 (omega arith)))))

pub several-big : (n : ℕ) → 2 ≤ n → several n ≡ n
unfolding several
several-big n h = rw (le-ltb n 2 h) refl

pub several-small : (n : ℕ) → n < 2 → several n ≡ 0
unfolding several
several-small n h = rw (lt-ltb n 2 h) refl

-- ---- agreement as an equation at each block

pub agree-equation : (m : List Rmap) (c : List Refcount) → Accepted c → Agree m c → (b : ℕ) → owners c b ≡ several (holders m b)
agree-equation m c h a b =
    split (ltb (holders m b) 2)
    (λ e. split (ltb (owners c b) 2)
    (λ f. omega (arith, owners-small 0 c b h (omega tests), several-small (holders m b) (omega tests)))
    (λ f. let k = (a b (owners c b)).0 (owners-shared 0 c b (owners c b) h (omega tests) refl) in absurd (omega tests)))
    (λ e. let k = shared-owners 0 c b (holders m b) h ((a b (holders m b)).1 (omega tests, refl)) in k.0 ∙ sym (several-big (holders m b) (omega tests)))

pub equation-agree : (m : List Rmap) (c : List Refcount) → Accepted c → ((b : ℕ) → owners c b ≡ several (holders m b)) → Agree m c
equation-agree m c h q b n = (to, from)
  where
    to : shared n b c ≡ true → (2 ≤ n) × (holders m b ≡ n)
    to e =
        let k = shared-owners 0 c b n h e in
        split (ltb (holders m b) 2)
        (λ f. absurd (omega (tests, q b, several-small (holders m b) (omega tests))))
        (λ f. (k.1, omega (tests, q b, several-big (holders m b) (omega tests))))

    from : (2 ≤ n) × (holders m b ≡ n) → shared n b c ≡ true
    from k = owners-shared 0 c b n h k.0 (omega (tests, q b, several-big (holders m b) (omega tests)))

-- ---- what a change does to it, at one block

fewer-several : (m : ℕ) → fewer (several (m + 1)) ≡ several m
unfolding fewer several
fewer-several m =
    split (ltb m 2)
    (λ e. split (ltb m 1) (λ f. let q : m ≡ 0 = omega tests in rw q refl) (λ f. let q : m ≡ 1 = omega tests in rw q refl))
    (λ e. rw (e, le-ltb (m + 1) 2 (omega tests), lt-leb (m + 1) 2 (omega tests)) (omega arith))

-- one record fewer over block b, where a release lowers the owners
several-lower : (s c b n m : ℕ) → m + within s c 1 b ≡ n → cond (over s c b) (fewer (several n)) (several n) ≡ several m
several-lower s c b n m h =
    split (over s c b)
    (λ e. let q : n ≡ m + 1 = omega (arith, within-over s c 1 b e) in rw (q, e) (fewer-several m))
    (λ e. let q : n ≡ m = omega (arith, within-not s c 1 b e) in rw (q, e) refl)

-- one record more, where there was none
several-take : (s c b n : ℕ) → (0 < within s c 1 b → n ≡ 0) → several (within s c 1 b + n) ≡ several n
unfolding several
several-take s c b n h =
    split (over s c b)
    (λ e. let w : within s c 1 b ≡ 1 = within-over s c 1 b e in let z : n ≡ 0 = h (omega arith) in rw (w, z) refl)
    (λ e. rw (within-not s c 1 b e, zero-add) refl)

-- one record more over a held block, where a raise adds an owner
several-more : (s c b n : ℕ) → (0 < within s c 1 b → 0 < n) → cond (over s c b) (another (several n)) (several n) ≡ several (within s c 1 b + n)
unfolding another several
several-more s c b n h =
    split (over s c b)
    (λ e. let w : within s c 1 b ≡ 1 = within-over s c 1 b e in
    let p : 0 < n = h (omega arith) in
    split (ltb n 2)
    (λ f. let q : n ≡ 1 = omega tests in rw (w, e, q) refl)
    (λ f. rw (w, e, f, ne_eqb n 0 (omega arith), le-ltb (1 + n) 2 (omega tests)) (omega arith)))
    (λ e. rw (within-not s c 1 b e, e, zero-add) refl)

-- ---- the lists after it

module _ (m n : List Rmap) (c : List Refcount) (start count : ℕ) (ok : Accepted c) (a : Agree m c) where
  -- c is lowered to d, and the map has one record fewer over the extent
  pub agree-let_go : (d : List Refcount) → Accepted d → ((b : ℕ) → owners d b ≡ cond (over start count b) (fewer (owners c b)) (owners c b))
      → ((b : ℕ) → holders n b + within start count 1 b ≡ holders m b) → Agree n d
  agree-let_go d h q k =
      equation-agree n d h
      (λ b. q b
      ∙ ap (λ (o : ℕ). cond (over start count b) (fewer o) o) (agree-equation m c ok a b)
      ∙ several-lower start count b (holders m b) (holders n b) (k b))

  -- c stays, and the map has one record more over blocks that nobody held
  pub agree-take : ((b : ℕ) → holders n b ≡ within start count 1 b + holders m b) → ((b : ℕ) → 0 < within start count 1 b → holders m b ≡ 0) → Agree n c
  agree-take k f =
      equation-agree n c ok (λ b. rw (k b) (agree-equation m c ok a b ∙ sym (several-take start count b (holders m b) (f b))))

  -- c is raised to d, and the map has one record more over blocks that are all held
  pub agree-raise : (d : List Refcount) → Accepted d → ((b : ℕ) → owners d b ≡ cond (over start count b) (another (owners c b)) (owners c b))
      → ((b : ℕ) → holders n b ≡ within start count 1 b + holders m b) → ((b : ℕ) → 0 < within start count 1 b → 0 < holders m b) → Agree n d
  agree-raise d h q k f =
      equation-agree n d h
      (λ b. q b
      ∙ ap (λ (o : ℕ). cond (over start count b) (another o) o) (agree-equation m c ok a b)
      ∙ several-more start count b (holders m b) (f b)
      ∙ ap several (sym (k b)))

  none-several : (k : ℕ) → eqb (several (k + 1)) 0 ≡ eqb k 0
  unfolding several
  none-several k =
      split (ltb (k + 1) 2)
      (λ e. rw (e, eq-eqb k 0 (omega tests)) refl)
      (λ e. rw (e, ne_eqb (k + 1) 0 (omega arith), ne_eqb k 0 (omega tests)) refl)

  -- the blocks of the extent that no shared record covered are those that no record holds afterwards
  pub unshared-unheld : ((b : ℕ) → holders n b + within start count 1 b ≡ holders m b)
      → unshared c start count ≡ runs (λ b. eqb (holders n b) 0) start count
  unshared-unheld k =
      runs_same (λ b. eqb (owners c b) 0) (λ b. eqb (holders n b) 0) start count
      (λ b u v. let q : holders m b ≡ holders n b + 1 = omega (arith, k b, within_in start count 1 b u v) in
      rw (agree-equation m c ok a b, q) (none-several (holders n b)))
