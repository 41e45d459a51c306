-- What an accepted block is known to be, for the layers above.
-- Assumes nothing.
use Prim.Native.Nat.{ℕ, ◌+◌, ◌*◌, ◌≤◌, ◌<◌, ◌^◌}
use mathlib.Core.Path.{◌≡◌, ap, sym, subst}
use mathlib.Core.Bool.{true, cond}
use mathlib.Core.List.{List, [], ◌∷◌, ◌++◌}
use native.Mathlib.Omega.{arith}
use borrow.Author.Tests.{leb-true, eqb-true, le-leb}
use lib.Dec.{eqb}
use lib.ListN.{length}
use Rattle.codec.specs.Bytes.{IsBytes, bytes_at, be_of}
use Rattle.codec.specs.Question.{Question, done, answer}
use Rattle.codec.proofs.Meaning.{AllHold, done-means}
use Rattle.codec.proofs.Numbers.{be_of-lt}
use Rattle.codec.proofs.Parts.{length-bytes_at}
use Rattle.codec.proofs.Overwrites.{IsBytes-bytes_at}
use Rattle.blocks.specs.declared.geometry.Geometry.{Geometry}
use Rattle.blocks.specs.declared.kind.TreeKind.{TreeKind}
use Rattle.blocks.specs.declared.check.Header.{Header}
use Rattle.blocks.specs.Offsets.{level_at, numrecs_at}
use Rattle.blocks.specs.Geometry.{geometry_ok}
use Rattle.blocks.specs.Tree.{header_len, has_tree, place_len, capacity}
use Rattle.blocks.specs.Check.{identity_questions, content_questions, tree_questions, block_questions, leftsib_in, rightsib_in, header_of, check_block}
use Rattle.blocks.proofs.Laws.{header-least, places-fit}

pub record Accepted (g : Geometry) (kind : TreeKind) (level : ℕ) (b : List ℕ) (h : Header) : Type 0 where
  pub ok : geometry_ok g ≡ true
  pub tree : has_tree kind g.version ≡ true
  -- the header lies in the block, and says what the block has
  pub long : header_len g.version ≤ length b
  pub says : h ≡ header_of g kind level b
  pub at_level : be_of (bytes_at b level_at 2) ≡ level
  -- its parts
  pub level-is : h.level ≡ level
  pub body_is : h.body ≡ header_len g.version
  pub numrecs-is : h.numrecs ≡ be_of (bytes_at b numrecs_at 2)
  pub leftsib-is : h.leftsib.0 ≡ leftsib_in b
  pub rightsib-is : h.rightsib.0 ≡ rightsib_in b
  pub maxrecs-is : h.maxrecs ≡ capacity kind g.version level (length b)
  -- the records claimed fit
  pub few : h.numrecs ≤ capacity kind g.version level (length b)
  pub places : header_len g.version + h.numrecs * place_len kind level ≤ length b

-- the last of two lists of questions hold where all of both do
hold-last : (xs ys : List Question) → AllHold (xs ++ ys) → AllHold ys
hold-last [] ys h = h
hold-last (x ∷ xs) ys h = hold-last xs ys h.1

module _ (g : Geometry) (kind : TreeKind) (block level : ℕ) (b : List ℕ) where
  pub accepted : (h : Header) → check_block g kind block level b ≡ done h → Accepted g kind level b h
  unfolding check_block
  accepted h e =
      let found = done-means (block_questions g kind block level b) (header_of g kind level b) h e in
      let all : AllHold (block_questions g kind block level b) = found.0 in
      let contents : AllHold (content_questions g kind level b) =
      hold-last (cond (eqb g.version 5) (identity_questions g block b) []) (content_questions g kind level b) all.1.1.1.1 in
      let is : header_of g kind level b ≡ h = found.1 in
      let records : h.numrecs ≡ be_of (bytes_at b numrecs_at 2) = ap (λ (x : Header). x.numrecs) (sym is) in
      let fits : header_len g.version ≤ length b = leb-true _ _ all.1.0 in
      let most : h.numrecs ≤ capacity kind g.version level (length b) = rw records (leb-true _ _ contents.1.0) in
      record {
        ok = all.0;
        tree = all.1.1.0;
        long = fits;
        says = sym is;
        at_level = eqb-true _ _ contents.0;
        level-is = ap (λ (x : Header). x.level) (sym is);
        body_is = ap (λ (x : Header). x.body) (sym is);
        numrecs-is = records;
        leftsib-is = ap (λ (x : Header). x.leftsib.0) (sym is);
        rightsib-is = ap (λ (x : Header). x.rightsib.0) (sym is);
        maxrecs-is = ap (λ (x : Header). x.maxrecs) (sym is);
        few = most;
        places = places-fit kind g.version level (length b) h.numrecs fits most;
      }

  -- the records claimed fit 16 bits
  pub accepted-small : (h : Header) → IsBytes b → check_block g kind block level b ≡ done h → h.numrecs < 2 ^ 16
  accepted-small h bytes e =
      let a = accepted h e in
      let fits : numrecs_at + 2 ≤ length b = omega (arith, a.long, header-least g.version) in
      let lt : be_of (bytes_at b numrecs_at 2) < 256 ^ length (bytes_at b numrecs_at 2) = be_of-lt (bytes_at b numrecs_at 2) (IsBytes-bytes_at b numrecs_at 2 bytes) in
      rw a.numrecs-is (subst (λ (n : ℕ). be_of (bytes_at b numrecs_at 2) < 256 ^ n) (length-bytes_at b numrecs_at 2 fits) lt)

  -- where 1 and 2 hold, 3 to 10 are left
  pub from-three : geometry_ok g ≡ true → header_len g.version ≤ length b
      → check_block g kind block level b ≡ answer (tree_questions g kind block level b) (done (header_of g kind level b))
  unfolding check_block
  from-three good long = rw (good, le-leb _ _ long)
