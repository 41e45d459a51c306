-- The exits of the first step of a release or a raise, in the order of its questions.
-- Assumes nothing.
use Prim.Native.Nat.{ℕ, ◌+◌, ◌%◌}
use mathlib.Core.Path.{◌≡◌, refl, ◌∙◌}
use mathlib.Core.Bool.{Bool, true, false}
use mathlib.Core.List.{List}
use lib.ListN.{length}
use borrow.Author.Tests.{eq-eqb, ne_eqb}
use Rattle.codec.specs.Question.{none, Outcome, done, refused, map_outcome}
use Rattle.codec.specs.Records.{records_of, refcounts}
use Rattle.codec.specs.Accepted.{whole}
use Rattle.codec.specs.Refcounts.{accepted, check_order}
use Rattle.codec.specs.declared.refcount.Refcount.{Refcount}
use Rattle.lists.specs.declared.Lengths.{Lengths}
use Rattle.lists.specs.Extent.{good_extent}
use Rattle.lists.specs.Release.{clear}
use Rattle.lists.specs.Raise.{owners_fit, raise_outcome}
use Rattle.lists.specs.Answer.{length_of, lengths_of}
use Rattle.lists.specs.Steps.{measure_outcome}
use Rattle.lists.specs.Inner.Passes.{pass_outcome, measured_outcome}
use Rattle.lists.proofs.Cases.{split}

module _ (up : Bool) (b : List ℕ) (start count : ℕ) where
  abbrev l : List Refcount
  l = records_of refcounts b

  pub measured-length : (length b % 12 ≡ 0 → ⊥) → refused 19 none ≡ lengths_of (measured_outcome up b start count)
  unfolding measured_outcome whole
  measured-length h = rw (ne_eqb (length b % 12) 0 h) refl

  pub measured-pass : (o : Outcome Lengths) → length b % 12 ≡ 0 → good_extent start count ≡ true → o ≡ lengths_of (pass_outcome up l start count) → o ≡ lengths_of (measured_outcome up b start count)
  unfolding measured_outcome pass_outcome whole
  measured-pass o h g e = e ∙ rw (eq-eqb (length b % 12) 0 h, g) refl

  module _ (g : good_extent start count ≡ false) where
    -- 19 and 21 come before 22
    pub measured-list : (n : ℕ) → refused n none ≡ check_order b → refused n none ≡ lengths_of (measured_outcome up b start count)
    unfolding measured_outcome check_order
    measured-list n e = go (whole 12 b) (accepted l) refl refl
      where
        go : (t u : Bool) → whole 12 b ≡ t → accepted l ≡ u → refused n none ≡ lengths_of (measured_outcome up b start count)
        go false u p q = let k : n ≡ 19 = (let f : ◌≡◌ {A = Outcome ℕ} (refused n none) (refused 19 none) = rw p at e in cc) in rw (p, k) refl
        go true false p q = let k : n ≡ 21 = (let f : ◌≡◌ {A = Outcome ℕ} (refused n none) (refused 21 none) = rw (p, q) at e in cc) in rw (p, q, k) refl
        go true true p q = let f : ◌≡◌ {A = Outcome ℕ} (refused n none) (done _) = rw (p, q) at e in cc

    pub measured-extent : (n : ℕ) → done n ≡ check_order b → refused 22 none ≡ lengths_of (measured_outcome up b start count)
    unfolding measured_outcome check_order
    measured-extent n e = go (whole 12 b) (accepted l) refl refl
      where
        go : (t u : Bool) → whole 12 b ≡ t → accepted l ≡ u → refused 22 none ≡ lengths_of (measured_outcome up b start count)
        go false u p q = let f : ◌≡◌ {A = Outcome ℕ} (done n) (refused 19 none) = rw p at e in cc
        go true false p q = let f : ◌≡◌ {A = Outcome ℕ} (done n) (refused 21 none) = rw (p, q) at e in cc
        go true true p q = rw (p, q, g) refl

-- ---- what it comes to: a release asks no 28, and a raise frees nothing

module _ (b : List ℕ) (start count : ℕ) where
  pub measured-lower : measured_outcome false b start count ≡ measure_outcome b start count
  unfolding measured_outcome measure_outcome
  measured-lower =
      split (whole 12 b)
      (λ p. split (accepted (records_of refcounts b))
      (λ q. split (good_extent start count)
      (λ g. split (clear start (start + count) (records_of refcounts b)) (λ k. rw (p, q, g, k) refl) (λ k. rw (p, q, g, k) refl))
      (λ g. rw (p, q, g) refl))
      (λ q. rw (p, q) refl))
      (λ p. rw p refl)

  pub measured-raise : map_outcome (λ (n : Lengths). n.counts) (lengths_of (measured_outcome true b start count)) ≡ length_of refcounts (raise_outcome b start count)
  unfolding measured_outcome raise_outcome
  measured-raise =
      split (whole 12 b)
      (λ p. split (accepted (records_of refcounts b))
      (λ q. split (good_extent start count)
      (λ g. split (clear start (start + count) (records_of refcounts b))
      (λ k. split (owners_fit start (start + count) (records_of refcounts b)) (λ f. rw (p, q, g, k, f) refl) (λ f. rw (p, q, g, k, f) refl))
      (λ k. rw (p, q, g, k) refl))
      (λ g. rw (p, q, g) refl))
      (λ q. rw (p, q) refl))
      (λ p. rw p refl)
