-- What an answer to questions in order means: a refusal names a question that failed with all before it held, and a
-- result is given only where all held.
use Prim.Native.Nat.{ℕ}
use mathlib.Core.Path.{◌≡◌, refl, ap, sym}
use mathlib.Core.Bool.{Bool, true, false, cond}
use mathlib.Core.List.{List, [], ◌∷◌, ◌++◌}
use native.Mathlib.Omega.{arith}
use Rattle.codec.specs.Question.{Values, done, refused, Question, answer}

abbrev pub AllHold : List Question → Type 0
AllHold [] = Unit {0}
AllHold (q ∷ qs) = (q.holds ≡ true) × AllHold qs

-- the question that failed, with those before it and after it
pub record Failed (qs : List Question) (n : ℕ) (v : Values) : Type 0 where
  pub before : List Question
  pub question : Question
  pub after : List Question
  pub stands : qs ≡ before ++ (question ∷ after)
  pub held : AllHold before
  pub failed : question.holds ≡ false
  pub number : question.number ≡ n
  pub values : question.values ≡ v

more : (q : Question) (qs : List Question) (n : ℕ) (v : Values) → q.holds ≡ true → Failed qs n v → Failed (q ∷ qs) n v
more q qs n v h f =
    record {
      before = q ∷ f.before;
      question = f.question;
      after = f.after;
      stands = ap (λ (l : List Question). q ∷ l) f.stands;
      held = (h, f.held);
      failed = f.failed;
      number = f.number;
      values = f.values;
    }

pub never : {A : Type 0} (x : A) (n : ℕ) (v : Values) → done x ≡ refused n v → ⊥
never x n v e = let z : ◌≡◌ {A = ℕ} 0 1 = cc in omega arith

pub refused-means : {A : Type 0} (qs : List Question) (x : A) (n : ℕ) (v : Values) → answer qs (done x) ≡ refused n v → Failed qs n v
refused-means [] x n v e = absurd (never x n v e)
refused-means {A} (q ∷ qs) x n v e = go q.holds refl (refused-means qs x n v) e
  where
    go : (t : Bool) → q.holds ≡ t → (answer qs (done x) ≡ refused n v → Failed qs n v) → cond t (answer qs (done x)) (refused q.number q.values) ≡ refused n v → Failed (q ∷ qs) n v
    go true h later f = more q qs n v h (later f)
    go false h later f = record { before = []; question = q; after = qs; stands = refl; held = tt; failed = h; number = cc; values = cc }

pub done-means : {A : Type 0} (qs : List Question) (x y : A) → answer qs (done x) ≡ done y → AllHold qs × (x ≡ y)
done-means [] x y e = (tt, cc)
done-means {A} (q ∷ qs) x y e = go q.holds refl (done-means qs x y) e
  where
    go : (t : Bool) → q.holds ≡ t → (answer qs (done x) ≡ done y → AllHold qs × (x ≡ y)) → cond t (answer qs (done x)) (refused q.number q.values) ≡ done y → AllHold (q ∷ qs) × (x ≡ y)
    go true h later f = ((h, (later f).0), (later f).1)
    go false h later f = absurd (never y q.number q.values (sym f))
