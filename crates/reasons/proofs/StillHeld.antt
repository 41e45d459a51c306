-- `EveryHolder`: in lists that agree, a block said to be free has no holder left, and for one still held another record is named.
-- Assumes nothing.
use Rattle.std.proofs.Common.{◌≡◌, ◌+◌, ◌<◌, ◌≤◌, ◌∷◌, ◌∙◌, ℕ, zero, suc, Bool, true, false, cond, not, eqb, ltb, List, [], length, refl, ap, subst, arith, eqb-true}
use borrow.Author.Tests.{eqb-false}
use Rattle.codec.specs.Records.{records_of, rmaps, refcounts}
use Rattle.codec.specs.Refcounts as refcount
use Rattle.codec.specs.declared.rmap.Rmap.{Rmap}
use Rattle.codec.specs.declared.refcount.Refcount.{Refcount}
use Rattle.codec.proofs.Meaning.{AllHold, done-means}
use Rattle.codec.proofs.RecordKinds.{refcounts-lawful}
use Rattle.codec.proofs.ListBytes.{storable-records_of}
use Rattle.lists.specs.Extent.{over, within}
use Rattle.lists.specs.Holders.{holders}
use Rattle.lists.specs.RmapEdits.{index_where, cut_at, remove}
use Rattle.lists.specs.Release.{owners}
use Rattle.lists.proofs.Cases.{split, tests, within-over, within-not}
use Rattle.lists.proofs.Counts as C
use Rattle.lists.proofs.Holders.{holders-remove}
use Rattle.groups.proofs.Agreement.{several, several-big, several-small, agree-equation}
use Rattle.reasons.specs.declared.explain.Why.{Why}
use Rattle.reasons.specs.declared.explain.Why.TheVariants.{Free, HeldInMap, HeldInCounts, Staging}
use Rattle.reasons.specs.Why.{map_over, shared_over, staged_over, index_but, stands, held_of, why_of, why_questions, explain_outcome}
use Rattle.reasons.specs.Claims.{HeldAfter, EveryHolder}
use Rattle.reasons.proofs.Explaining.{owners-place}

one-most : (r : Rmap) (b : ℕ) → within r.startblock r.blockcount 1 b ≤ 1
one-most r b =
    split (over r.startblock r.blockcount b)
    (λ e. omega (arith, within-over r.startblock r.blockcount 1 b e))
    (λ e. omega (arith, within-not r.startblock r.blockcount 1 b e))

-- where no record over b is found there is none, and where none but the k-th is found there is one at most
place_none : (l : List Rmap) (b : ℕ) → length l ≤ index_where (map_over b) l → holders l b ≡ 0
unfolding index_where holders
place_none [] b h = refl
place_none (r ∷ l) b h =
    split (map_over b r)
    (λ e. let k : suc (length l) ≤ 0 = rw e at h in absurd (omega arith))
    (λ e. let k : suc (length l) ≤ suc (index_where (map_over b) l) = rw e at h in omega (arith, within-not r.startblock r.blockcount 1 b e, place_none l b (omega arith)))

but-none : (k : ℕ) (l : List Rmap) (b : ℕ) → length l ≤ index_but (map_over b) k l → holders l b ≤ 1
unfolding index_but holders
but-none k [] b h = omega arith
but-none zero (r ∷ l) b h = omega (arith, one-most r b, place_none l b (omega arith))
but-none (suc k) (r ∷ l) b h =
    split (map_over b r)
    (λ e. let q : suc (length l) ≤ 0 = rw e at h in absurd (omega arith))
    (λ e. let q : suc (length l) ≤ suc (index_but (map_over b) k l) = rw e at h in omega (arith, within-not r.startblock r.blockcount 1 b e, but-none k l b (omega arith)))

pub every-holder : EveryHolder
unfolding explain_outcome why_of held_of
every-holder σ x b w a g h = subst (λ (w : Why). HeldAfter w n) k.1 (by-staging (stands (index_where (staged_over b) c) c))
  where
    m : List Rmap
    m = records_of rmaps σ.map

    c : List Refcount
    c = records_of refcounts σ.counts

    n : ℕ
    n = holders (remove x m) b

    j : ℕ
    j = index_where (shared_over b) c

    o : ℕ
    o = index_but (map_over b) (cut_at x m) m

    k : AllHold (why_questions σ.map σ.counts x b) × (why_of x b m c ≡ w)
    k = done-means (why_questions σ.map σ.counts x b) (why_of x b m c) w h

    one : n + 1 ≡ holders m b
    one = omega (arith, holders-remove x m b k.0.1.1.1.0, within-over x.startblock x.blockcount 1 b k.0.1.1.1.1.1.1.1.0)

    told : owners c b ≡ several (holders m b)
    told = agree-equation m c (C.accepted-facts c (storable-records_of refcounts refcounts-lawful σ.counts a.counts_bytes) a.counts_order) g b

    placed : eqb (owners c b) 0 ≡ not (stands j c)
    placed = owners-place refcount.least c b a.counts_order

    two : stands j c ≡ true → 2 ≤ holders m b
    two e =
        split (ltb (holders m b) 2)
        (λ f. absurd (eqb-false (owners c b) 0 (placed ∙ ap not e) (told ∙ several-small (holders m b) (omega tests))))
        (λ f. omega tests)

    few : stands j c ≡ false → holders m b < 2
    few e =
        split (ltb (holders m b) 2)
        (λ f. omega tests)
        (λ f. absurd (omega (tests, eqb-true (owners c b) 0 (placed ∙ ap not e), told, several-big (holders m b) (omega tests))))

    by_map : stands j c ≡ true → (t : Bool) → stands o m ≡ t → HeldAfter (cond t (HeldInMap o) (HeldInCounts j)) n
    by_map e true f = omega (arith, one, two e)
    by_map e false f = omega (tests, two e, but-none (cut_at x m) m b (omega tests))

    by-shared : (t : Bool) → stands j c ≡ t → HeldAfter (cond t (cond (stands o m) (HeldInMap o) (HeldInCounts j)) Free) n
    by-shared true e = by_map e (stands o m) refl
    by-shared false e = omega (arith, one, few e)

    by-staging : (t : Bool) → HeldAfter (cond t (Staging (index_where (staged_over b) c)) (cond (stands j c) (cond (stands o m) (HeldInMap o) (HeldInCounts j)) Free)) n
    by-staging true = tt
    by-staging false = by-shared (stands j c) refl
