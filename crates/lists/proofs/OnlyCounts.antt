-- Counts that are accepted, with every join made, are told by the owners over each block and by staging: no two such lists say the same. So what
-- a release or a raise leaves is the only list with its owners.
-- Assumes nothing.
use Prim.Native.Nat.{ℕ, ◌+◌, ◌-◌, ◌^◌, ◌≤◌, ◌<◌}
use mathlib.Core.Bool.{true, false}
use mathlib.Core.Path.{◌≡◌, refl, sym, ap, ap₂, ◌∙◌}
use mathlib.Core.List.{List, [], ◌∷◌}
use native.Mathlib.Omega.{arith}
use lib.Dec.{ltb, leb}
use borrow.Author.Tests.{eq-eqb}
use Rattle.codec.specs.Records.{AllStorable, refcounts}
use Rattle.codec.specs.Refcounts.{accepted}
use Rattle.codec.specs.declared.refcount.Refcount.{Refcount}
use Rattle.codec.specs.declared.free_extent.FreeExtent.{FreeExtent}
use Rattle.lists.specs.Release.{owners, stop, continues, release}
use Rattle.lists.specs.Raise.{raise, owners_fit}
use Rattle.lists.specs.Settled.{PartedFrom, Parted, staged, Settled}
use Rattle.lists.proofs.Cases.{split, tests, and-true, within_in, within-right}
use Rattle.lists.proofs.Counts as C
use Rattle.lists.proofs.Counts.{OfKind, Good, From, continues-is, at, at_left, owners-at, weaken, accepted-facts}
use Rattle.lists.proofs.Raising.{kind-some, Lifted, raise-lifts}
use Rattle.lists.proofs.Laws.{LetGo, release-lets}
use Rattle.lists.proofs.Settling.{staged-at, release-settles, raise-settles, count_of}

-- ---- the places of a list

at_first : (d : ℕ) (r : Refcount) (l : List Refcount) (b : ℕ) → From d (r ∷ l) → r.startblock ≤ b → b < stop r → at (r ∷ l) b ≡ r.refcount
unfolding at
at_first d r l b h p q = omega (arith, within_in r.startblock r.blockcount r.refcount b p q, at_left (stop r) l b h.2 q)

at-behind : (r : Refcount) (l : List Refcount) (b : ℕ) → stop r ≤ b → at (r ∷ l) b ≡ at l b
unfolding at
at-behind r l b p = omega (arith, within-right r.startblock r.blockcount r.refcount b p)

at_none : (b : ℕ) → at [] b ≡ 0
unfolding at
at_none b = refl

-- where r stops, no record goes on with as many owners
stops : (r : Refcount) (l : List Refcount) → Good r → From (stop r) l → PartedFrom r l → at l (stop r) ≡ r.refcount → ⊥
stops r [] g h p e = omega (arith, at_none (stop r), kind-some r g.1)
stops r (q ∷ l) g h p e =
    split (leb q.startblock (stop r))
    (λ t. let a : stop r ≡ q.startblock = omega (tests, h.1) in
    let o : r.refcount ≡ q.refcount = omega (arith, at_first (stop r) q l (stop r) h (omega arith) (omega (arith, h.0.0))) in
    unlike a o p.0)
    (λ t. omega (tests, at_left q.startblock (q ∷ l) (stop r) (h.0, omega arith, h.2) (omega tests), kind-some r g.1))
  where
    unlike : stop r ≡ q.startblock → r.refcount ≡ q.refcount → continues r q ≡ false → ⊥
    unlike a o f =
        let t : continues r q ≡ true = continues-is r q g h.0 ∙ and-true _ _ (eq-eqb (stop r) q.startblock a) (eq-eqb r.refcount q.refcount o) in
        let z : ◌≡◌ {A = ℕ} 0 1 = cc in
        omega arith

-- ---- two lists with the same owners at each place begin with the same record

module _ (d : ℕ) (r s : Refcount) (l m : List Refcount) (h : From d (r ∷ l)) (k : From d (s ∷ m)) (e : (b : ℕ) → at (r ∷ l) b ≡ at (s ∷ m) b) where
  start-most : s.startblock ≤ r.startblock
  start-most =
      split (leb s.startblock r.startblock) (λ t. omega tests)
      (λ t. absurd (omega (
        arith,
        at_first d r l r.startblock h (omega arith) (omega (arith, h.0.0)),
        at_left s.startblock (s ∷ m) r.startblock (k.0, omega arith, k.2) (omega tests),
        e r.startblock,
        kind-some r h.0.1,
      )))

  same-owners : r.startblock ≡ s.startblock → r.refcount ≡ s.refcount
  same-owners a =
      omega (
        arith,
        at_first d r l r.startblock h (omega arith) (omega (arith, h.0.0)),
        at_first d s m r.startblock k (omega arith) (omega (arith, k.0.0)),
        e r.startblock,
      )

  end-least : r.startblock ≡ s.startblock → PartedFrom r l → stop s ≤ stop r
  end-least a p =
      split (leb (stop s) (stop r)) (λ t. omega tests)
      (λ t. absurd (stops r l h.0 h.2 p
      (sym (at-behind r l (stop r) (omega arith)) ∙ e (stop r) ∙ at_first d s m (stop r) k (omega arith) (omega tests) ∙ sym (same-owners a))))

parted-rest : (r : Refcount) (l : List Refcount) → PartedFrom r l → Parted l
parted-rest r [] p = tt
parted-rest r (s ∷ l) p = p.1

only : (d : ℕ) (l m : List Refcount) → From d l → From d m → Parted l → Parted m → ((b : ℕ) → at l b ≡ at m b) → l ≡ m
only d [] [] h k p q e = refl
only d [] (s ∷ m) h k p q e =
    absurd (omega (arith, at_first d s m s.startblock k (omega arith) (omega (arith, k.0.0)), e s.startblock, at_none s.startblock, kind-some s k.0.1))
only d (r ∷ l) [] h k p q e =
    absurd (omega (arith, at_first d r l r.startblock h (omega arith) (omega (arith, h.0.0)), e r.startblock, at_none r.startblock, kind-some r h.0.1))
only d (r ∷ l) (s ∷ m) h k p q e =
    let a : r.startblock ≡ s.startblock = omega (arith, start-most d r s l m h k e, start-most d s r m l k h (λ b. sym (e b))) in
    let o : r.refcount ≡ s.refcount = same-owners d r s l m h k e a in
    let z : stop r ≡ stop s = omega (arith, end-least d r s l m h k e a p, end-least d s r m l k h (λ b. sym (e b)) (sym a) q) in
    let c : r.blockcount ≡ s.blockcount = omega arith in
    let t : r ≡ s = ap (λ (x : ℕ). count_of x r.blockcount r.refcount) a ∙ ap (λ (x : ℕ). count_of s.startblock x r.refcount) c ∙ ap (count_of s.startblock s.blockcount) o in
    ap₂ (λ (x : Refcount) (y : List Refcount). x ∷ y) t
    (only (stop r) l m h.2 (weaken (stop r) (stop s) m (omega arith) k.2) (parted-rest r l p) (parted-rest s m q)
    (λ b. split (leb (stop r) b)
    (λ f. sym (at-behind r l b (omega tests)) ∙ e b ∙ at-behind s m b (omega tests))
    (λ f. at_left (stop r) l b h.2 (omega tests) ∙ sym (at_left (stop s) m b k.2 (omega tests)))))

-- ---- by owners and staging

-- from 2^31 on a place has one owner at most
high-kind : (r : Refcount) (b : ℕ) → OfKind r → 2 ^ 31 ≤ b → r.startblock ≤ b → b < stop r → r.refcount ≡ 1
high-kind r b (C.shared p q) h u v = absurd (omega arith)
high-kind r b (C.staged p q t) h u v = t

at_high : (d : ℕ) (l : List Refcount) (b : ℕ) → From d l → 2 ^ 31 ≤ b → at l b ≤ 1
at_high d [] b h p = omega (arith, at_none b)
at_high d (r ∷ l) b h p =
    split (leb (stop r) b)
    (λ e. omega (arith, at-behind r l b (omega tests), at_high (stop r) l b h.2 p))
    (λ e. split (leb r.startblock b)
    (λ f. omega (arith, at_first d r l b h (omega tests) (omega tests), high-kind r b h.0.1 p (omega tests) (omega tests)))
    (λ f. omega (arith, at_left r.startblock (r ∷ l) b (h.0, omega arith, h.2) (omega tests))))

one-or-none : (x y : ℕ) → x ≤ 1 → y ≤ 1 → ltb 0 x ≡ ltb 0 y → x ≡ y
one-or-none x y h k e =
    split (ltb 0 x)
    (λ f. let g : ltb 0 y ≡ true = sym e ∙ f in omega tests)
    (λ f. let g : ltb 0 y ≡ false = sym e ∙ f in omega tests)

pub counts-only : (l m : List Refcount) → AllStorable refcounts l → AllStorable refcounts m → accepted l ≡ true → accepted m ≡ true → Parted l → Parted m
    → ((b : ℕ) → owners l b ≡ owners m b) → ((b : ℕ) → staged l b ≡ staged m b) → l ≡ m
counts-only l m sl sm al am pl pm o t =
    only 0 l m hl hm pl pm
    (λ b. split (ltb b (2 ^ 31))
    (λ f. let p : b < 2 ^ 31 = omega tests in sym (owners-at l b p) ∙ o b ∙ owners-at m b p)
    (λ f. let p : 2 ^ 31 ≤ b = omega tests in
    let q : 2 ^ 31 + (b - 2 ^ 31) ≡ b = omega arith in
    one-or-none (at l b) (at m b) (at_high 0 l b hl p) (at_high 0 m b hm p)
    (ap (λ (x : ℕ). ltb 0 (at l x)) (sym q) ∙ sym (staged-at 0 l (b - 2 ^ 31) hl) ∙ t (b - 2 ^ 31) ∙ staged-at 0 m (b - 2 ^ 31) hm ∙ ap (λ (x : ℕ). ltb 0 (at m x)) q)))
  where
    hl : C.Accepted l
    hl = accepted-facts l sl al

    hm : C.Accepted m
    hm = accepted-facts m sm am

-- ---- so what each edit does tells its list

module _ (start count : ℕ) (l m : List Refcount) (end : start + count ≤ 2 ^ 31) (order : accepted l ≡ true) (stored : AllStorable refcounts l) (settled : Settled l m) where
  pub release-only : (free : List FreeExtent) → LetGo start count l m free → m ≡ release start (start + count) l
  release-only free g =
      let n = release-lets start count l end order stored in
      let t = release-settles start count l end order stored in
      counts-only m (release start (start + count) l) g.stored n.stored g.accepted n.accepted settled.joined t.joined (λ b. g.owned b ∙ sym (n.owned b)) (λ b. settled.staging b ∙ sym (t.staging b))

  pub raise-only : owners_fit start (start + count) l ≡ true → Lifted start count l m → m ≡ raise start (start + count) l
  raise-only fit g =
      let n = raise-lifts start count l end order fit stored in
      let t = raise-settles start count l end order stored in
      counts-only m (raise start (start + count) l) g.stored n.stored g.accepted n.accepted settled.joined t.joined (λ b. g.owned b ∙ sym (n.owned b)) (λ b. settled.staging b ∙ sym (t.staging b))
