-- The questions on two lists one after the other: what each answer comes to.
-- Assumes nothing.
use Prim.Native.Nat.{ℕ, ◌*◌, ◌/◌, ◌%◌}
use native.Mathlib.Nat.{div-add-mod'}
use native.Mathlib.Omega.{arith}
use mathlib.Core.Path.{◌≡◌, refl, sym, ap, ◌∙◌}
use mathlib.Core.Bool.{Bool, true, false, cond}
use mathlib.Core.List.{List, [], ◌∷◌, ◌++◌}
use lib.ListN.{length}
use borrow.Author.Tests.{eqb-true}
use Rattle.codec.specs.Question.{Values, Outcome, done, refused, Question, answer}
use Rattle.codec.specs.Records.{records_of, free_extents}
use Rattle.codec.specs.Accepted.{whole}
use Rattle.codec.specs.ListRefusal.{list_number, list_values}
use Rattle.codec.specs.declared.check.ListRefusal.{ListRefusal}
use Rattle.codec.specs.declared.free_extent.FreeExtent.{FreeExtent}
use Rattle.codec.proofs.Meaning.{AllHold, done-means}
use Rattle.codec.proofs.RecordLists.{length-records_of}
use Rattle.free.specs.declared.order.Order.{Order}
use Rattle.free.specs.declared.order.Order.TheVariants.{ByBlock, BySize}
use Rattle.free.specs.Free.{accepted, list_questions, check_order}
use Rattle.free.specs.Same.{same_extents, same_outcome}
use Rattle.free.specs.Inner.Searches.{all_in}
use Rattle.free.proofs.Sameness.{every-once, not_as_long, all-in-same}

-- ---- questions

answer-append : {A : Type 0} (qs rs : List Question) (o : Outcome A) → answer (qs ++ rs) o ≡ answer qs (answer rs o)
answer-append [] rs o = refl
answer-append (q ∷ qs) rs o = ap (λ (p : Outcome _). cond q.holds p (refused q.number q.values)) (answer-append qs rs o)

held : {A : Type 0} (qs : List Question) (o : Outcome A) → AllHold qs → answer qs o ≡ o
held [] o h = refl
held (q ∷ qs) o h = rw h.0 (held qs o h.1)

-- a refusal is the same whatever all of them would have led to
refuses : {A B : Type 0} (qs : List Question) (x : A) (o : Outcome B) (n : ℕ) (v : Values) → answer qs (done x) ≡ refused n v → answer qs o ≡ refused n v
refuses [] x o n v e = cc
refuses {A} {B} (q ∷ qs) x o n v e = go q.holds (refuses qs x o n v) e
  where
    go : (t : Bool) → (answer qs (done x) ≡ refused n v → answer qs o ≡ refused n v) → cond t (answer qs (done x)) (refused q.number q.values) ≡ refused n v
        → cond t (answer qs o) (refused q.number q.values) ≡ refused n v
    go true later f = later f
    go false later f = cc

-- ---- 19 and 21 on one list

module _ (order : Order) (b : List ℕ) where
  list-refused : (r : ListRefusal) → refused (list_number r) (list_values r) ≡ check_order order b
      → {A : Type 0} (o : Outcome A) → answer (list_questions order b) o ≡ refused (list_number r) (list_values r)
  unfolding check_order
  list-refused r h o = refuses (list_questions order b) (length b / 8) o (list_number r) (list_values r) (sym h)

  pub list_held : (n : ℕ) → done n ≡ check_order order b → AllHold (list_questions order b)
  unfolding check_order
  list_held n h = (done-means (list_questions order b) (length b / 8) n (sym h)).0

pub list-accepted : (order : Order) (b : List ℕ) → AllHold (list_questions order b) → accepted order (records_of free_extents b) ≡ true
list-accepted order b h = h.1.0

whole-extents : (b : List ℕ) → whole 8 b ≡ true → length b ≡ length b / 8 * 8
unfolding whole
whole-extents b e = omega (arith, eqb-true (length b % 8) 0 e, div-add-mod' (length b) 8)

-- ---- and on another

module _ (b s : List ℕ) where
  abbrev l : List FreeExtent
  l = records_of free_extents b

  abbrev m : List FreeExtent
  m = records_of free_extents s

  in-turn : same_outcome b s ≡ answer (list_questions ByBlock b) (answer (list_questions BySize s) (done (same_extents l m)))
  unfolding same_outcome
  in-turn = answer-append (list_questions ByBlock b) (list_questions BySize s) (done (same_extents l m))

  pub first-refused : (r : ListRefusal) → refused (list_number r) (list_values r) ≡ check_order ByBlock b → refused (list_number r) (list_values r) ≡ same_outcome b s
  first-refused r h = sym (in-turn ∙ list-refused ByBlock b r h _)

  module _ (p : AllHold (list_questions ByBlock b)) where
    pub second-refused : (r : ListRefusal) → refused (list_number r) (list_values r) ≡ check_order BySize s → refused (list_number r) (list_values r) ≡ same_outcome b s
    second-refused r h = sym (in-turn ∙ held (list_questions ByBlock b) _ p ∙ list-refused BySize s r h _)

    module _ (q : AllHold (list_questions BySize s)) where
      said : (t : Bool) → t ≡ same_extents l m → done t ≡ same_outcome b s
      said t e = sym (in-turn ∙ held (list_questions ByBlock b) _ p ∙ held (list_questions BySize s) _ q ∙ ap done (sym e))

      -- 19 holds on both, so lists of as many bytes are those of as many extents
      pub said-lengths : (length b ≡ length s → ⊥) → done false ≡ same_outcome b s
      said-lengths h =
          said false
          (sym (not_as_long l m (λ e. h (omega (arith, whole-extents b p.0, whole-extents s q.0, length-records_of free_extents b, length-records_of free_extents s)))))

      pub said-within : (t : Bool) → length b ≡ length s → t ≡ all_in m l → done t ≡ same_outcome b s
      said-within t h e =
          said t
          (e ∙ all-in-same l m (every-once BySize m (list-accepted BySize s q)) (omega (arith, length-records_of free_extents b, length-records_of free_extents s)))
