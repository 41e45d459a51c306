-- The textbook walk is the walk over a stack.
-- Assumes nothing.
use Prim.Native.Nat.{ℕ, zero, suc, ◌-◌, max}
use native.Mathlib.Omega.{arith}
use borrow.Author.Tests.{le-leb}
use mathlib.Core.Path.{◌≡◌, refl, sym, ap, ◌∙◌, subst}
use mathlib.Core.Bool.{Bool, true, false}
use mathlib.Core.List.{List, [], ◌∷◌, ◌++◌, append_assoc, append-nil}
use Rattle.codec.specs.Question.{done, answer}
use Rattle.blocks.specs.declared.geometry.Geometry.{Geometry}
use Rattle.blocks.specs.declared.kind.TreeKind.{TreeKind}
use Rattle.blocks.specs.Geometry.{geometry_ok}
use Rattle.blocks.specs.Tree.{record_len}
use Rattle.walks.specs.Walk.{Visit, visit_of, Look, bad, good, Trace, finished, spent, failed, met, after, run, fit, look_in}
use Rattle.walks.specs.Shapes.{shape_of}
use Rattle.walks.specs.WalkCall.{lent, stack_places, first_questions, walk_in, walk_of}
use Rattle.walks.specs.LargerStack.{on_stack}
use Rattle.walks.proofs.StackLaws.{Below}
use Rattle.walks.proofs.RunLaws.{run_none}
use Rattle.walks.proofs.LookLaws.{look-falls}
use Rattle.walks.proofs.StackSizes.{alike}
use Rattle.book.specs.Textbook.{and_then, read_children, read_block, textbook_in, textbook_of, EveryTextbook, EveryTextbookCall}

-- ---- one walk after another

then_same : (t : Trace) (n : ℕ) (j k : ℕ → Trace) → ((m : ℕ) → j m ≡ k m) → and_then t n j ≡ and_then t n k
unfolding and_then
then_same finished n j k h = h n
then_same spent n j k h = refl
then_same (failed m x) n j k h = refl
then_same (met v b t) n j k h = ap (met v b) (then_same t (n - 1) j k h)

module _ (look : Visit → Look) where
  after_then : (n : ℕ) (v : Visit) (xs ys : List Visit) (l : Look)
      → ((below : List Visit) → run look n (below ++ (xs ++ ys)) ≡ and_then (run look n (below ++ xs)) n (λ m. run look m ys))
      → after v (λ below. run look n (below ++ (xs ++ ys))) l ≡ and_then (after v (λ below. run look n (below ++ xs)) l) (suc n) (λ m. run look m ys)
  unfolding and_then
  after_then n v xs ys (bad k x) h = refl
  after_then n v xs ys (good below b) h = let e : suc n - 1 ≡ n = omega arith in rw e (ap (met v b) (h below))

  -- two lists of blocks are walked one after the other
  run-append : (n : ℕ) (xs ys : List Visit) → run look n (xs ++ ys) ≡ and_then (run look n xs) n (λ m. run look m ys)
  unfolding run and_then
  run-append zero [] ys = refl
  run-append zero (v ∷ xs) ys = refl
  run-append (suc n) [] ys = refl
  run-append (suc n) (v ∷ xs) ys =
      after_then n v xs ys (look v) (λ below. ap (run look n) (sym (append_assoc below xs ys)) ∙ run-append n (below ++ xs) ys)

-- ---- the two routines

-- nothing is below a leaf
none_below : (k : ℕ) (below : List Visit) → Below k below → k ≡ 0 → below ≡ []
none_below k [] b z = refl
none_below k (w ∷ ws) b z = absurd (omega (arith, b.0, z))

-- over every look that finds blocks one level below
module _ (look : Visit → Look) (falls : (v : Visit) (below : List Visit) (bytes : List ℕ) → look v ≡ good below bytes → Below v.level below) where
  children-are : (level : ℕ) → ((n : ℕ) (v : Visit) → v.level ≡ level → read_block look level n v ≡ run look n (v ∷ []))
      → (n : ℕ) (vs : List Visit) → Below (suc level) vs → read_children (read_block look level) n vs ≡ run look n vs
  unfolding read_children
  children-are level block n [] b = sym (run_none look n)
  children-are level block n (v ∷ vs) b =
      let e : v.level ≡ level = omega (arith, b.0) in
      ap (λ (t : Trace). and_then t n (λ m. read_children (read_block look level) m vs)) (block n v e)
      ∙ then_same (run look n (v ∷ [])) n _ _ (λ m. children-are level block m vs b.1)
      ∙ sym (run-append look n (v ∷ []) vs)

  after-leaf : (n : ℕ) (v : Visit) (l : Look) → look v ≡ l → v.level ≡ 0 → after v (λ below. finished) l ≡ after v (λ below. run look n (below ++ [])) l
  after-leaf n v (bad k x) e z = refl
  after-leaf n v (good below b) e z =
      let none : below ≡ [] = none_below v.level below (falls v below b e) z in
      ap (met v b) (sym (ap (λ (d : List Visit). run look n (d ++ [])) none ∙ run_none look n))

  after-node : (level n : ℕ) (v : Visit) (l : Look) → look v ≡ l → v.level ≡ suc level
      → ((vs : List Visit) → Below (suc level) vs → read_children (read_block look level) n vs ≡ run look n vs)
      → after v (λ below. read_children (read_block look level) n below) l ≡ after v (λ below. run look n (below ++ [])) l
  after-node level n v (bad k x) e z h = refl
  after-node level n v (good below b) e z h =
      ap (met v b) (h below (subst (λ (k : ℕ). Below k below) z (falls v below b e)) ∙ ap (run look n) (sym (append-nil below)))

  -- a block of its level by the book is the walk of that block
  pub block-is : (level n : ℕ) (v : Visit) → v.level ≡ level → read_block look level n v ≡ run look n (v ∷ [])
  unfolding read_block run
  block-is zero zero v z = refl
  block-is zero (suc n) v z = after-leaf n v (look v) refl z
  block-is (suc level) zero v z = refl
  block-is (suc level) (suc n) v z = after-node level n v (look v) refl z (children-are level (block-is level) n)

-- ---- a call

pub textbook-is : (g : Geometry) (kind : TreeKind) (image : List ℕ) (root levels limit places room : ℕ) → geometry_ok g ≡ true
    → textbook_in (shape_of g kind) image root levels limit places room ≡ walk_in (shape_of g kind) image root levels limit places room
unfolding textbook_in walk_in
textbook-is g kind image root levels limit places room ok =
    ap (fit places room)
    (block-is (look_in (shape_of g kind) image) (λ v below bytes e. (look-falls g kind image ok v below bytes e).1) (levels - 1) limit (visit_of root (levels - 1)) refl)

pub every-textbook : EveryTextbook
every-textbook g kind image root levels m deep = go (geometry_ok g) refl
  where
    go : (b : Bool) → geometry_ok g ≡ b → textbook_of g kind image root levels (on_stack 0 m) ≡ walk_of g kind image root levels m
    go true ok =
        rw (le-leb stack_places m.stack deep)
        (ap (λ (t : Trace). answer (first_questions 0 g levels (on_stack 0 m)) (done t))
        (textbook-is g kind image root levels (max g.agblocks 64) m.blocks m.bytes ok))
    go false wrong = rw wrong

pub every-textbook-call : EveryTextbookCall
every-textbook-call g kind image root levels stack stack' scratch blocks out deep r r' scratch₁ scratch₂ blocks₁ blocks₂ out₁ out₂ =
    alike (record_len kind) levels _ _ r r' [] [] stack stack' scratch scratch₁ scratch₂ blocks blocks₁ blocks₂ out out₁ out₂
    (every-textbook g kind image root levels (lent stack scratch blocks out) deep)
