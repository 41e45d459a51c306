-- Laws of a call of the walk: what it leaves, finished or refused.
-- Assumes nothing.
use Prim.Native.Nat.{ℕ, ◌-◌, ◌≤◌}
use native.Mathlib.Omega.{arith}
use mathlib.Core.Path.{◌≡◌, refl, sym, ap, ◌∙◌, subst}
use mathlib.Core.List.{List, [], ◌∷◌}
use lib.ListN.{length, take, replicate}
use Rattle.std.specs.Prelude.{Result, Ok, Err}
use Rattle.codec.specs.Bytes.{with_bytes}
use Rattle.codec.specs.Question.{Outcome, done, refused}
use Rattle.walks.specs.declared.walk.Walked.{Walked}
use Rattle.walks.specs.declared.refusal.StoppedWalk.{StoppedWalk}
use Rattle.walks.specs.declared.refusal.WalkRefusal.{WalkRefusal}
use Rattle.walks.specs.Memory.{zeros}
use Rattle.walks.specs.Walk.{Visit, visit_of, Trace, finished, spent, failed, met, run, visits, records, by_level, Shape, look_in}
use Rattle.walks.specs.OneVisit.{seen_of}
use Rattle.walks.specs.Inner.WalkState.{Leaves}
use Rattle.walks.specs.WalkCall.{Counts, Report, report_of, report, walk_in}
use Rattle.walks.specs.WalkAnswer.{walk_number, walk_values, walked_report, WalkIs}
use Rattle.walks.specs.Links.{says_linked, LinkingIs}
use Rattle.walks.proofs.RunLaws.{fit_length}
use Rattle.walks.proofs.WalkLaws.{finished-is, refused-is}

-- the visits that a finished walk reports are the blocks that it read
passed_is : (w v b : ℕ) (t : Trace) (k : Counts) (p : ℕ) → report_of w v b t ≡ record { outcome = done k; passed = p } → p ≡ v
unfolding report_of
passed_is w v b finished k p e = sym (ap (λ (r : Report). r.passed) e)
passed_is w v b spent k p e = cc (ap (λ (r : Report). r.outcome) e)
passed_is w v b (failed n u) k p e = cc (ap (λ (r : Report). r.outcome) e)
passed_is w v b (met x bytes t) k p e = passed_is w v b t k p e

walk-few : (s : Shape) (image : List ℕ) (root levels limit places room : ℕ) → length (visits (walk_in s image root levels limit places room)) ≤ places
unfolding walk_in
walk-few s image root levels limit places room = fit_length places room (run (look_in s image) limit (visit_of root (levels - 1) ∷ []))

pub visits-within : (s : Shape) (image : List ℕ) (root levels limit places room w : ℕ) (r : Walked)
    → walked_report (Ok r) ≡ report w (done (walk_in s image root levels limit places room)) → r.visits ≤ places
visits-within s image root levels limit places room w r e =
    let t = walk_in s image root levels limit places room in
    let p : r.visits ≡ length (visits t) = passed_is w (length (visits t)) (length (records t)) t _ r.visits (sym e) in
    omega (arith, walk-few s image root levels limit places room)

module _ (w levels : ℕ) (t : Trace) (stack stack₁ stack' scratch scratch₁ scratch' blocks blocks' out out₁ : List ℕ)
    (ls : length stack₁ ≡ length stack) (lc : length scratch₁ ≡ length scratch) (zs : stack' ≡ zeros stack₁) (zc : scratch' ≡ zeros scratch₁) where
  pub call-read : (r : Result Walked StoppedWalk) (a : Walked) → r ≡ Ok a → walked_report (Ok a) ≡ report w (done t) → Leaves (Ok a) t scratch₁ out out₁
      → blocks' ≡ with_bytes blocks 0 (by_level levels (seen_of (take a.visits scratch₁)))
      → WalkIs w levels (done t) r stack stack' scratch scratch' blocks blocks' out out₁
  call-read r a q e f g =
      subst (λ (x : Result Walked StoppedWalk). WalkIs w levels (done t) x stack stack' scratch scratch' blocks blocks' out out₁) (sym q)
      (record {
        answer = e;
        stack_is = zs ∙ ap (λ (k : ℕ). replicate k 0) ls;
        scratch_is = zc ∙ ap (λ (k : ℕ). replicate k 0) lc;
        blocks_are =
            g
            ∙ ap (λ (vs : List Visit). with_bytes blocks 0 (by_level levels vs)) f.0
            ∙ sym (finished-is w (length (visits t)) (length (records t)) t _ _ (with_bytes blocks 0 (by_level levels (visits t))) (zeros blocks) (sym e));
        records_are = f.1 ∙ sym (finished-is w (length (visits t)) (length (records t)) t _ _ (with_bytes out 0 (records t)) (zeros out) (sym e));
      })

  pub call-refused : (r : Result Walked StoppedWalk) (s : StoppedWalk) (out' : List ℕ) → r ≡ Err s → walked_report r ≡ report w (done t) → length out₁ ≡ length out
      → blocks' ≡ zeros blocks → out' ≡ zeros out₁ → WalkIs w levels (done t) r stack stack' scratch scratch' blocks blocks' out out'
  call-refused r s out' q e lo zb zo =
      let u : report w (done t) ≡ record { outcome = refused (walk_number s.refusal) (walk_values s.refusal); passed = s.visits } = sym e ∙ ap walked_report q in
      record {
        answer = e;
        stack_is = zs ∙ ap (λ (k : ℕ). replicate k 0) ls;
        scratch_is = zc ∙ ap (λ (k : ℕ). replicate k 0) lc;
        blocks_are = zb ∙ sym (refused-is w (length (visits t)) (length (records t)) t _ _ _ (with_bytes blocks 0 (by_level levels (visits t))) (zeros blocks) u);
        records_are =
            zo
            ∙ ap (λ (k : ℕ). replicate k 0) lo
            ∙ sym (refused-is w (length (visits t)) (length (records t)) t _ _ _ (with_bytes out 0 (records t)) (zeros out) u);
      }

-- a call that 1, 11 or 12 refuses touches nothing
pub untouched : (w levels : ℕ) (o : Outcome Trace) (f : WalkRefusal) (stack scratch blocks out : List ℕ) → o ≡ refused (walk_number f) (walk_values f)
    → WalkIs w levels o (Err (record { refusal = f; visits = 0 })) stack stack scratch scratch blocks blocks out out
untouched w levels o f stack scratch blocks out e = rw e (record { answer = refl; stack_is = refl; scratch_is = refl; blocks_are = refl; records_are = refl })

-- and says no
pub untouched-linking : (size w : ℕ) (image : List ℕ) (levels : ℕ) (o : Outcome Trace) (f : WalkRefusal) (stack scratch blocks out : List ℕ)
    → o ≡ refused (walk_number f) (walk_values f)
    → LinkingIs size w image levels o (Err (record { refusal = f; visits = 0 })) stack stack scratch scratch blocks blocks out out
untouched-linking size w image levels o f stack scratch blocks out e =
    record { walks = untouched w levels o f stack scratch blocks out e; says = sym (ap (says_linked size image levels) e) }
