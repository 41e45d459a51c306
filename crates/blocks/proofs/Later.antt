-- A block under a higher sequence number: unless 30 refuses it, its check comes to the same.
-- Assumes nothing.
use Prim.Native.Nat.{ℕ, ◌≤◌}
use mathlib.Core.Path.{◌≡◌, refl, sym, ap, subst}
use mathlib.Core.Bool.{Bool, true, false, cond}
use mathlib.Core.Logic.{◌⊎◌, inl, inr}
use mathlib.Core.List.{List, [], ◌∷◌, ◌++◌}
use native.Mathlib.Omega.{arith}
use borrow.Author.Tests.{leb-true, le-leb, eqb-true}
use lib.Dec.{leb, eqb}
use lib.ListN.{length}
use Rattle.codec.specs.Bytes.{bytes_at, be_of}
use Rattle.codec.specs.Question.{Values, Outcome, done, refused, Question, ask, ask_equal, ask_most, answer}
use Rattle.blocks.specs.declared.geometry.Geometry.{Geometry}
use Rattle.blocks.specs.declared.kind.TreeKind.{TreeKind}
use Rattle.blocks.specs.declared.check.Header.{Header}
use Rattle.blocks.specs.Offsets.{magic_at, lsn_at}
use Rattle.blocks.specs.Geometry.{geometry_ok, with_lsn}
use Rattle.blocks.specs.Tree.{header_len, has_tree, magic_of}
use Rattle.blocks.specs.Check.{identity_questions, content_questions, header_of, check_block}

-- ---- questions of which one is replaced

-- does the first question of a number hold?
abbrev holds_of : ℕ → List Question → Bool
holds_of k [] = true
holds_of k (q ∷ qs) = cond (eqb q.number k) q.holds (holds_of k qs)

-- the questions with another one of its number
abbrev replaced : Question → List Question → List Question
replaced r [] = []
replaced r (q ∷ qs) = cond (eqb q.number r.number) r q ∷ replaced r qs

-- where that holds if the one replaced does, only a refusal by the one replaced can come to something else
answer-replaced : {A : Type 0} (r : Question) (qs : List Question) (o : Outcome A) → (holds_of r.number qs ≡ true → r.holds ≡ true)
    → (answer (replaced r qs) o ≡ answer qs o) ⊎ ((v : Values) × (answer qs o ≡ refused r.number v))
answer-replaced r [] o w = inl refl
answer-replaced {A} r (q ∷ qs) o w = go (eqb q.number r.number) refl q.holds refl (answer-replaced r qs o) w
  where
    go : (same : Bool) → eqb q.number r.number ≡ same → (t : Bool) → q.holds ≡ t
        → ((holds_of r.number qs ≡ true → r.holds ≡ true) → (answer (replaced r qs) o ≡ answer qs o) ⊎ ((v : Values) × (answer qs o ≡ refused r.number v)))
        → (cond same q.holds (holds_of r.number qs) ≡ true → r.holds ≡ true)
        → (answer (cond same r q ∷ replaced r qs) o ≡ cond t (answer qs o) (refused q.number q.values))
        ⊎ ((v : Values) × (cond t (answer qs o) (refused q.number q.values) ≡ refused r.number v))
    go true e true h later w' =
        subst (λ (t : Bool). (cond t (answer (replaced r qs) o) (refused r.number r.values) ≡ answer qs o) ⊎ ((v : Values) × (answer qs o ≡ refused r.number v)))
        (sym (w' h)) (later (λ i. w' h))
    go true e false h later w' = inr (q.values, ap (λ (k : ℕ). refused k q.values) (eqb-true q.number r.number e))
    go false e true h later w' = rw h (later w')
    go false e false h later w' = inl (rw h refl)

-- ---- under another number

-- question 1 does not go by the number
pub later-geometry : (g : Geometry) (n : ℕ) → geometry_ok (with_lsn g n) ≡ geometry_ok g
unfolding geometry_ok
later-geometry g n = refl

module _ (g : Geometry) (n : ℕ) (higher : g.last_lsn ≤ n) (kind : TreeKind) (block level : ℕ) (b : List ℕ) where
  -- the questions about a block, where it is known whether the version is 5
  abbrev asked : Geometry → Bool → List Question
  asked h five =
      ask 1 (geometry_ok h)
      ∷ ask 2 (leb (header_len g.version) (length b))
      ∷ ask 3 (has_tree kind g.version)
      ∷ ask_equal 4 (magic_of kind g.version) (be_of (bytes_at b magic_at 4))
      ∷ (cond five (identity_questions h block b) [] ++ content_questions h kind level b)

  -- 30 is the only question that goes by the number
  pub later-check : (check_block (with_lsn g n) kind block level b ≡ check_block g kind block level b)
      ⊎ ((v : Values) × (check_block g kind block level b ≡ refused 30 v))
  unfolding check_block geometry_ok
  later-check = go (eqb g.version 5)
    where
      header : Outcome Header
      header = done (header_of g kind level b)

      lsn : ℕ
      lsn = be_of (bytes_at b lsn_at 8)

      go : (five : Bool) → (answer (asked (with_lsn g n) five) header ≡ answer (asked g five) header) ⊎ ((v : Values) × (answer (asked g five) header ≡ refused 30 v))
      go true = answer-replaced (ask_most 30 n lsn) (asked g true) header (λ h. le-leb lsn n (omega (arith, leb-true lsn g.last_lsn h)))
      go false = inl refl
