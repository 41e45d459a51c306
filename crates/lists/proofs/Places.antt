-- Questions 21 and 25 on the line of starts as stored, where a place is one number: shared records lie below 2^31, staging ones from there on.
-- For records that bytes can hold these tests are those of document 01's words, which go by block and kind.
-- Assumes nothing.
use Prim.Native.Nat.{ℕ, ◌+◌, ◌^◌, ◌≤◌, ◌<◌}
use mathlib.Core.Bool.{Bool, true, false, not, cond, ◌&&◌}
use mathlib.Core.Path.{◌≡◌, refl, sym, ◌∙◌}
use mathlib.Core.List.{List, [], ◌∷◌}
use native.Mathlib.Omega.{arith}
use lib.Dec.{ltb, leb, eqb}
use borrow.Author.Tests.{lt-ltb, le-leb, lt-leb}
use Rattle.codec.specs.Records.{AllStorable, refcounts}
use Rattle.codec.specs.Accepted.{in_order}
use Rattle.codec.specs.Refcounts.{staging, block, end, good, follows, least, accepted}
use Rattle.codec.specs.declared.refcount.Refcount.{Refcount}
use Rattle.lists.specs.Release.{stop, clear}
use Rattle.lists.proofs.Cases.{split, tests, conj}

-- a shared record stops by 2^31 and has 2 owners or more; a staging one stops by twice that and has 1
unfoldable pub good_kind : Refcount → Bool
good_kind r = cond (staging r) (eqb r.refcount 1 && leb (stop r) (2 ^ 32)) (leb 2 r.refcount && leb (stop r) (2 ^ 31))

abbrev pub good_place : Refcount → Bool
good_place r = ltb 0 r.blockcount && good_kind r

-- is each record good, and does none start before e or before its predecessor stops?
unfoldable pub accepted_from : ℕ → List Refcount → Bool
accepted_from e [] = true
accepted_from e (r ∷ l) = good_place r && (leb e r.startblock && accepted_from (stop r) l)

-- are the blocks from s up to e clear of staging records?
unfoldable pub clear_of : ℕ → ℕ → List Refcount → Bool
clear_of s e [] = true
clear_of s e (r ∷ l) = not (staging r && (ltb r.startblock (e + 2 ^ 31) && ltb (s + 2 ^ 31) (stop r))) && clear_of s e l

-- each start fits its bytes
abbrev pub Short : List Refcount → Type 0
Short [] = Unit {0}
Short (r ∷ l) = (r.startblock < 2 ^ 32) × Short l

pub storable-short : (l : List Refcount) → AllStorable refcounts l → Short l
storable-short [] h = tt
storable-short (r ∷ l) h = (h.0.startblock, storable-short l h.1)

-- ---- two tests that say the same

leb-same : (a b c d : ℕ) → (a ≤ b → c ≤ d) → (c ≤ d → a ≤ b) → leb a b ≡ leb c d
leb-same a b c d f g =
    split (leb a b)
    (λ e. e ∙ sym (le-leb c d (f (omega tests))))
    (λ e. split (leb c d) (λ h. let k = g (omega tests) in absurd (omega tests)) (λ h. e ∙ sym h))

ltb-same : (a b c d : ℕ) → (a < b → c < d) → (c < d → a < b) → ltb a b ≡ ltb c d
ltb-same a b c d f g =
    split (ltb a b)
    (λ e. e ∙ sym (lt-ltb c d (f (omega tests))))
    (λ e. split (ltb c d) (λ h. let k = g (omega tests) in absurd (omega tests)) (λ h. e ∙ sym h))

and-turn : (a b c : Bool) → (a && (b && c)) ≡ (b && (c && a))
and-turn true true true = refl
and-turn true true false = refl
and-turn true false true = refl
and-turn true false false = refl
and-turn false true true = refl
and-turn false true false = refl
and-turn false false true = refl
and-turn false false false = refl

-- ---- 21

pub good-place : (r : Refcount) → r.startblock < 2 ^ 32 → good r ≡ good_place r
unfolding good good_kind staging
good-place r h =
    split (leb (2 ^ 31) r.startblock)
    (λ e. rw (e, leb-same (end r) (2 ^ 31) (stop r) (2 ^ 32) (λ u. omega tests) (λ u. omega tests))
    (and-turn (leb (stop r) (2 ^ 32)) (ltb 0 r.blockcount) (eqb r.refcount 1)))
    (λ e. rw (e, leb-same (end r) (2 ^ 31) (stop r) (2 ^ 31) (λ u. omega tests) (λ u. omega tests))
    (and-turn (leb (stop r) (2 ^ 31)) (ltb 0 r.blockcount) (leb 2 r.refcount)))

-- behind a good record q
pub follows-place : (q r : Refcount) → good_place q ≡ true → q.startblock < 2 ^ 32 → r.startblock < 2 ^ 32 → follows q r ≡ leb (stop q) r.startblock
unfolding follows good_kind staging
follows-place q r g h k =
    split (leb (2 ^ 31) q.startblock)
    (λ e. split (leb (2 ^ 31) r.startblock)
    (λ f. rw (e, f) (leb-same (end q) (block r) (stop q) r.startblock (λ u. omega tests) (λ u. omega tests)))
    (λ f. rw (e, f) (sym (lt-leb (stop q) r.startblock (omega tests)))))
    (λ e. split (leb (2 ^ 31) r.startblock)
    (λ f. let kg : good_kind q ≡ true = search conj in
    let g' : (leb 2 q.refcount && leb (stop q) (2 ^ 31)) ≡ true = rw e at kg in
    let c : leb (stop q) (2 ^ 31) ≡ true = search conj in
    rw (e, f) (sym (le-leb (stop q) r.startblock (omega tests))))
    (λ f. rw (e, f) (leb-same (end q) (block r) (stop q) r.startblock (λ u. omega tests) (λ u. omega tests))))

pub after-place : (q : Refcount) (l : List Refcount) → good_place q ≡ true → q.startblock < 2 ^ 32 → Short l
    → in_order good follows q l ≡ accepted_from (stop q) l
unfolding in_order accepted_from
after-place q [] g h k = refl
after-place q (r ∷ l) g h k =
    split (good_place r)
    (λ e. rw (good-place r k.0, follows-place q r g h k.0, after-place r l e k.0 k.1) refl)
    (λ e. rw (good-place r k.0, e) refl)

-- any record follows the least
pub follows-least : (r : Refcount) → follows least r ≡ true
unfolding follows staging
follows-least r = split (leb (2 ^ 31) r.startblock) (λ e. rw e refl) (λ e. rw e (le-leb 0 (block r) (omega arith)))

pub accepted-place : (l : List Refcount) → Short l → accepted l ≡ accepted_from 0 l
unfolding in_order accepted_from
accepted-place [] h = refl
accepted-place (r ∷ l) h =
    split (good_place r)
    (λ e. rw (good-place r h.0, follows-least r, after-place r l e h.0 h.1, le-leb 0 r.startblock (omega arith)) refl)
    (λ e. rw (good-place r h.0, e) refl)

-- ---- 25

pub clear-place : (s e : ℕ) (l : List Refcount) → Short l → clear s e l ≡ clear_of s e l
unfolding clear clear_of staging
clear-place s e [] h = refl
clear-place s e (r ∷ l) h =
    split (leb (2 ^ 31) r.startblock)
    (λ f. rw (
      f,
      ltb-same (block r) e r.startblock (e + 2 ^ 31) (λ u. omega tests) (λ u. omega tests),
      ltb-same s (end r) (s + 2 ^ 31) (stop r) (λ u. omega tests) (λ u. omega tests),
      clear-place s e l h.1,
    ) refl)
    (λ f. rw (f, clear-place s e l h.1) refl)
