-- What a prepared edit says to a caller that asks more questions after those of the edit.
-- Assumes nothing.
use Prim.Native.Nat.{ℕ}
use native.Mathlib.Omega.{arith}
use mathlib.Core.Path.{◌≡◌, refl, ap, ◌∙◌}
use mathlib.Core.List.{List, [], ◌∷◌, ◌++◌}
use lib.ListN.{length}
use Rattle.codec.specs.Question.{none, Values, Outcome, done, refused, Question, answer}
use Rattle.codec.specs.Records.{records_of, bytes_of, rmaps}
use Rattle.codec.specs.declared.rmap.Rmap.{Rmap}
use Rattle.lists.specs.declared.EditRefusal.{EditRefusal}
use Rattle.lists.specs.declared.splice.Edit.{Edit}
use Rattle.lists.specs.declared.splice.Splice.{Splice}
use Rattle.std.specs.Prelude.{Ok, Err}
use Rattle.lists.specs.Edits.{edited, edit_questions}
use Rattle.lists.specs.Answer.{edit_number}
use Rattle.lists.specs.Splice.{edit_before26, list_of, PreparedIs, prepared_outcome}
use Rattle.lists.proofs.Cases.{split}

-- ---- questions after others

module _ {A B : Type 0} (ts : List Question) (o : Outcome B) where
  pub refused-before : (qs : List Question) (r : A) (n : ℕ) (v : Values) → refused n v ≡ answer qs (done r) → answer (qs ++ ts) o ≡ refused n v
  refused-before [] r n v h = let z : ◌≡◌ {A = ℕ} 0 1 = cc in absurd (omega arith)
  refused-before (q ∷ qs) r n v h = split q.holds (λ e. rw e (refused-before qs r n v (rw e at h))) (λ e. rw e (let k : refused n v ≡ refused q.number q.values = rw e at h in cc))

  pub done-before : (qs : List Question) (r s : A) → done s ≡ answer qs (done r) → (answer (qs ++ ts) o ≡ answer ts o) × (s ≡ r)
  done-before [] r s h = (refl, cc)
  done-before (q ∷ qs) r s h = split q.holds (λ e. rw e (done-before qs r s (rw e at h))) (λ e. let z : ◌≡◌ {A = ℕ} 0 1 = never (rw e at h) in absurd (omega arith))
    where
      never : {n : ℕ} {v : Values} → done s ≡ refused n v → ◌≡◌ {A = ℕ} 0 1
      never f = cc

module _ {B : Type 0} (e : Edit) (b : List ℕ) (x : Rmap) (ts : List Question) (o : Outcome B) where
  -- a refused edit is the refusal of whatever is asked after it
  pub refused-means : (q : EditRefusal) → PreparedIs e b x (Err q) → answer (edit_questions e b x ++ ts) o ≡ refused (edit_number q) none
  unfolding prepared_outcome edit_before26
  refused-means q h = refused-before ts o (edit_questions e b x) (edited e x (records_of rmaps b)) (edit_number q) none h.0

  -- a splice that is ready leaves what is asked after it, and is that of the new list
  pub record Means (p : Splice) : Type 0 where
    pub asked : answer (edit_questions e b x ++ ts) o ≡ answer ts o
    pub list : list_of (records_of rmaps b) p ≡ edited e x (records_of rmaps b)
    pub size : p.size ≡ length (bytes_of rmaps (edited e x (records_of rmaps b)))

  pub ready-means : (p : Splice) → PreparedIs e b x (Ok p) → Means p
  unfolding prepared_outcome edit_before26
  ready-means p h =
      let k = done-before ts o (edit_questions e b x) (edited e x (records_of rmaps b)) (list_of (records_of rmaps b) p) h.0 in
      record { asked = k.0; list = k.1; size = h.1.size ∙ ap (λ (l : List Rmap). length (bytes_of rmaps l)) k.1 }
