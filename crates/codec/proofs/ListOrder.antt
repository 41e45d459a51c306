-- Laws of a check along the records of a list, once for every kind of record: what one record more decides, and the answer at each exit.
-- Assumes nothing.
use Prim.Native.Nat.{ℕ, ◌+◌, ◌*◌, ◌/◌, ◌%◌, ◌≤◌, ◌<◌}
use native.Mathlib.Numerals.{add-one}
use mathlib.Core.Path.{◌≡◌, refl, sym, ◌∙◌}
use mathlib.Core.Bool.{Bool, true, false, ◌&&◌}
use mathlib.Core.List.{List, [], ◌∷◌}
use native.Mathlib.Omega.{arith}
use lib.ListN.{length, drop, drop_of_length-le}
use borrow.Author.Tests.{eq-eqb, ne_eqb}
use Rattle.codec.specs.Bytes.{bytes_at}
use Rattle.codec.specs.Question.{none, Outcome, done, refused, ask, answer}
use Rattle.codec.specs.Records.{Kind, records_of}
use Rattle.codec.specs.Accepted.{whole, in_order}
use Rattle.codec.proofs.RecordLists.{records_of-next, length-records_of}

module _ {R : Type 0} (k : Kind R) (good : R → Bool) (follows : R → R → Bool) (l : List ℕ) (i : ℕ) (q : R) where
  module _ (x : R) (inside : i < length l / k.size) (read : x ≡ k.decode (bytes_at l (i * k.size) k.size)) where
    order-step : in_order good follows q (drop i (records_of k l)) ≡ (good x && (follows q x && in_order good follows x (drop (i + 1) (records_of k l))))
    unfolding in_order
    order-step = rw (read, add-one, records_of-next k l i inside)

    pub order-bad : good x ≡ false → in_order good follows q (drop i (records_of k l)) ≡ false
    order-bad b = order-step ∙ simp b

    pub order-low : good x ≡ true → follows q x ≡ false → in_order good follows q (drop i (records_of k l)) ≡ false
    order-low b f = order-step ∙ simp (b, f)

    pub order-pass : good x ≡ true → follows q x ≡ true → in_order good follows q (drop i (records_of k l)) ≡ in_order good follows x (drop (i + 1) (records_of k l))
    order-pass b f = order-step ∙ simp (b, f)

  pub order-end : length l / k.size ≤ i → in_order good follows q (drop i (records_of k l)) ≡ true
  unfolding in_order
  order-end h = rw (drop_of_length-le (records_of k l) {i = i} (rw (length-records_of k l) h))

-- ---- a loop that reads one record after another

-- the records before the i-th passed: those from there on, behind q, decide as the whole list
pub record Passed {R : Type 0} (k : Kind R) (good : R → Bool) (follows : R → R → Bool) (least : R) (l : List ℕ) (i : ℕ) (q : R) : Type 0 where
  pub within : i ≤ length l / k.size
  pub rest : in_order good follows least (records_of k l) ≡ in_order good follows q (drop i (records_of k l))

pub none_passed : {R : Type 0} {k : Kind R} {good : R → Bool} {follows : R → R → Bool} {least : R} {l : List ℕ} → Passed k good follows least l 0 least
none_passed = record { within = omega arith; rest = refl }

module _
    {R : Type 0} {k : Kind R} {good : R → Bool} {follows : R → R → Bool} {least : R} {l : List ℕ} {i : ℕ} {q : R}
    (p : Passed k good follows least l i q)
  where
    module _ {x : R} (inside : i < length l / k.size) (read : x ≡ k.decode (bytes_at l (i * k.size) k.size)) where
      pub stops-bad : good x ≡ false → false ≡ in_order good follows least (records_of k l)
      stops-bad b = sym (p.rest ∙ order-bad k good follows l i q x inside read b)

      module _ (b : good x ≡ true) where
        pub stops-low : follows q x ≡ false → false ≡ in_order good follows least (records_of k l)
        stops-low f = sym (p.rest ∙ order-low k good follows l i q x inside read b f)

        pub passes : follows q x ≡ true → Passed k good follows least l (i + 1) x
        passes f = record { within = omega arith; rest = p.rest ∙ order-pass k good follows l i q x inside read b f }

    pub all-passed : length l / k.size ≤ i → true ≡ in_order good follows least (records_of k l)
    all-passed h = sym (p.rest ∙ order-end k good follows l i q h)

-- ---- 19, then one question more

module _ (size n : ℕ) (b : List ℕ) (t : Bool) where
  abbrev pub asked : Outcome ℕ
  asked = answer (ask 19 (whole size b) ∷ ask n t ∷ []) (done (length b / size))

  pub asked-length : (length b % size ≡ 0 → ⊥) → refused 19 none ≡ asked
  unfolding whole
  asked-length h = rw (ne_eqb (length b % size) 0 h)

  module _ (h : length b % size ≡ 0) where
    pub asked-order : t ≡ false → refused n none ≡ asked
    unfolding whole
    asked-order f = rw (eq-eqb (length b % size) 0 h, f)

    pub asked-done : t ≡ true → done (length b / size) ≡ asked
    unfolding whole
    asked-done f = rw (eq-eqb (length b % size) 0 h, f)
