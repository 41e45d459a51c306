-- Laws of a call of the lookup: what it leaves, finished or refused.
-- Assumes nothing.
use Rattle.std.proofs.Common.{◌≡◌, ℕ, zero, suc, ◌+◌, ◌<◌, ◌≤◌, true, ◌&&◌, leb, List, ◌++◌, length, get_or, take, drop, replicate, sym, refl, ap, ◌∙◌, subst, arith, length-take-le, leb-true}
use lib.ListN.{length-replicate}
use Rattle.std.specs.Prelude.{Result, Ok, Err}
use Rattle.codec.specs.Bytes.{with_bytes}
use Rattle.codec.specs.Question.{Values, Outcome, done, refused}
use Rattle.codec.specs.Records.{records_of, rmaps}
use Rattle.codec.specs.declared.rmap.Rmap.{Rmap}
use Rattle.codec.proofs.Parts.{length-with_bytes}
use Rattle.codec.proofs.Stores.{with_bytes-is}
use Rattle.walks.specs.Walk.{Trace, finished, spent, failed, met, records}
use Rattle.walks.specs.Memory.{zeros}
use Rattle.walks.specs.WalkCall.{if_finished}
use Rattle.lookup.specs.declared.lookup.LookedUp.{LookedUp}
use Rattle.lookup.specs.declared.refusal.StoppedLookup.{StoppedLookup}
use Rattle.lookup.specs.declared.refusal.LookupRefusal.{LookupRefusal}
use Rattle.lookup.specs.Lookup.{ascending, tallies}
use Rattle.lookup.specs.Inner.Tally.{tallied, sums, summed}
use Rattle.lookup.specs.Inner.Descent.{Zeroed, Added}
use Rattle.lookup.specs.Answer.{lookup_number, lookup_values, Visited, looked_up_report, visits_report, LookupIs}
use Rattle.lists.proofs.Cases.{and_l, and_r}
use Rattle.lookup.proofs.TallyLaws.{tallied-start}
use Rattle.lookup.proofs.SumLaws.{sums-length, zero-summed}
use Rattle.lookup.proofs.DescentLaws.{report_from, report-is}

-- a count of visits is a finished descent's, and a refusal is not
from-finished : {A : Type 0} (v n p : ℕ) (t : Trace) (x y : A) → report_from v t ≡ record { outcome = done n; passed = p } → if_finished t x y ≡ x
unfolding report_from
from-finished v n p finished x y e = refl
from-finished v n p spent x y e = let z : ◌≡◌ {A = ℕ} 0 1 = cc (ap (λ (r : Visited). r.outcome) e) in absurd (omega arith)
from-finished v n p (failed m u) x y e = let z : ◌≡◌ {A = ℕ} 0 1 = cc (ap (λ (r : Visited). r.outcome) e) in absurd (omega arith)
from-finished v n p (met u b t) x y e = from-finished (v + 1) n p t x y e

from-refused : {A : Type 0} (v n p : ℕ) (w : Values) (t : Trace) (x y : A) → report_from v t ≡ record { outcome = refused n w; passed = p } → if_finished t x y ≡ y
unfolding report_from
from-refused v n p w finished x y e = let z : ◌≡◌ {A = ℕ} 0 1 = cc (ap (λ (r : Visited). r.outcome) e) in absurd (omega arith)
from-refused v n p w spent x y e = refl
from-refused v n p w (failed m u) x y e = refl
from-refused v n p w (met u b t) x y e = from-refused (v + 1) n p w t x y e

-- ---- zeros before the descent

zeros-front : (n : ℕ) (xs : List ℕ) (i : ℕ) → i < n → get_or (replicate n 0 ++ xs) i 0 ≡ 0
zeros-front zero xs i h = absurd (omega arith)
zeros-front (suc n) xs zero h = refl
zeros-front (suc n) xs (suc i) h = zeros-front n xs i (omega arith)

pub zeroed_start : (asked l : List ℕ) → Zeroed asked (with_bytes l 0 (replicate (length asked) 0))
zeroed_start asked l i h =
    ap (λ (x : List ℕ). get_or x i 0) (with_bytes-is l 0 (replicate (length asked) 0)) ∙ zeros-front (length asked) (drop (0 + length (replicate {A = ℕ} (length asked) 0)) l) i h

-- the first n places zero, the others as they were
pub begun : (l m : List ℕ) (n : ℕ) → n ≤ length l → m ≡ zeros (take n l) → m ++ drop n l ≡ with_bytes l 0 (replicate n 0)
begun l m n h e =
    let k : length (take n l) ≡ n = length-take-le n l h in
    let q : n ≡ 0 + length (replicate {A = ℕ} n 0) = omega (arith, length-replicate {A = ℕ} n 0) in
    ap (λ (x : List ℕ). x ++ drop n l) (e ∙ ap (λ (x : ℕ). replicate x 0) k)
    ∙ ap (λ (x : ℕ). replicate n 0 ++ drop x l) q
    ∙ sym (with_bytes-is l 0 (replicate n 0))

-- the first n places summed by themselves
pub summed-part : (l m : List ℕ) (n : ℕ) → n ≤ length l → m ≡ sums 0 (take n l) → m ++ drop n l ≡ summed n l
summed-part l m n h e =
    let y : List ℕ = sums 0 (take n l) in
    let q : n ≡ 0 + length y = omega (arith, sums-length 0 (take n l), length-take-le n l h) in
    ap (λ (x : List ℕ). x ++ drop n l) e ∙ ap (λ (x : ℕ). y ++ drop x l) q ∙ sym (with_bytes-is l 0 y)

-- ---- after it

module _ (asked : List ℕ) (t : Trace) (stack stack₁ stack' answers answers₁ : List ℕ) (ls : length stack₁ ≡ length stack) (zs : stack' ≡ zeros stack₁) where
  pub call-found : (r : Result LookedUp StoppedLookup) (v : LookedUp) (answers' : List ℕ) → length asked ≤ length answers → r ≡ Ok v → looked_up_report r ≡ visits_report (done t)
      → Added r (records_of rmaps (records t)) asked (with_bytes answers 0 (replicate (length asked) 0)) answers₁ → answers' ≡ summed (length asked) answers₁
      → LookupIs asked (done t) r stack stack' answers answers'
  call-found r v answers' room q e c u =
      let rs : List Rmap = records_of rmaps (records t) in
      let start : List ℕ = with_bytes answers 0 (replicate (length asked) 0) in
      let c' : summed (length asked) answers₁ ≡ tallied rs asked (summed (length asked) start) = subst (λ (x : Result LookedUp StoppedLookup). Added x rs asked start answers₁) q c in
      let long : length start ≡ length answers = length-with_bytes answers 0 (replicate (length asked) 0) (omega (arith, length-replicate {A = ℕ} (length asked) 0)) in
      record {
        answer = e;
        stack_is = zs ∙ ap (λ (k : ℕ). replicate k 0) ls;
        answers_are =
            u
            ∙ c'
            ∙ ap (tallied rs asked) (zero-summed (length asked) start (omega (arith, long)) (zeroed_start asked answers))
            ∙ tallied-start rs asked answers
            ∙ sym (from-finished 0 v.visits v.visits t (with_bytes answers 0 (tallies rs asked)) (zeros answers) (sym (report-is t) ∙ sym e ∙ ap looked_up_report q));
      }

  pub call-refused : (r : Result LookedUp StoppedLookup) (s : StoppedLookup) (answers' : List ℕ) → r ≡ Err s → looked_up_report r ≡ visits_report (done t) → length answers₁ ≡ length answers → answers' ≡ zeros answers₁
      → LookupIs asked (done t) r stack stack' answers answers'
  call-refused r s answers' q e la za =
      record {
        answer = e;
        stack_is = zs ∙ ap (λ (k : ℕ). replicate k 0) ls;
        answers_are =
            za
            ∙ ap (λ (k : ℕ). replicate k 0) la
            ∙ sym (from-refused 0 (lookup_number s.refusal) s.visits (lookup_values s.refusal) t (with_bytes answers 0 (tallies (records_of rmaps (records t)) asked)) (zeros answers) (sym (report-is t) ∙ sym e ∙ ap looked_up_report q));
      }

-- a call that 1, 11, 12 or 29 refuses touches nothing
pub untouched : (asked : List ℕ) (o : Outcome Trace) (f : LookupRefusal) (stack answers : List ℕ) → o ≡ refused (lookup_number f) (lookup_values f) → LookupIs asked o (Err (record { refusal = f; visits = 0 })) stack stack answers answers
untouched asked o f stack answers e = rw e (record { answer = refl; stack_is = refl; answers_are = refl })

-- what 29 asks
pub may-means : (asked : List ℕ) (n : ℕ) → (ascending asked && leb (length asked) n) ≡ true → (ascending asked ≡ true) × (length asked ≤ n)
may-means asked n e = (and_l (ascending asked) (leb (length asked) n) e, leb-true (length asked) n (and_r (ascending asked) (leb (length asked) n) e))
