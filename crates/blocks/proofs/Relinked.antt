-- A block that names other siblings, its check put right: it is asked and answers as before, but for the siblings.
-- Assumes nothing.
use Prim.Native.Nat.{ℕ, ◌+◌, ◌≤◌, ◌<◌, ◌^◌}
use native.Mathlib.Omega.{arith}
use mathlib.Core.Path.{◌≡◌, refl, sym, ap, ◌∙◌, subst}
use mathlib.Core.Bool.{Bool, true, false, cond}
use mathlib.Core.List.{List, [], ◌∷◌, ◌++◌}
use borrow.Author.Tests.{eq-eqb, eqb-true}
use lib.Dec.{eqb}
use lib.ListN.{length, drop}
use Rattle.codec.specs.Bytes.{IsBytes, bytes_at, with_bytes, be_of, be_bytes, le_of, le_bytes}
use Rattle.codec.specs.Question.{Outcome, done, Question, answer, map_outcome}
use Rattle.codec.proofs.Meaning.{AllHold, done-means}
use Rattle.codec.proofs.Parts.{bytes_at-same, bytes_at-before, bytes_at-after, bytes_at-bytes_at, drop-after, length-with_bytes}
use Rattle.codec.proofs.Numbers.{be_of-be_bytes-lt, length-le_bytes}
use Rattle.codec.proofs.FieldLists.{IsBytes-append, IsBytes-be_bytes}
use Rattle.codec.proofs.Overwrites.{IsBytes-with_bytes}
use Rattle.blocks.specs.declared.geometry.Geometry.{Geometry}
use Rattle.blocks.specs.declared.kind.TreeKind.{TreeKind}
use Rattle.blocks.specs.declared.check.Header.{Header}
use Rattle.blocks.specs.Offsets.{magic_at, level_at, numrecs_at, left_sibling_at, blkno_at, lsn_at, uuid_at, owner_at, crc_at, v5_header_len}
use Rattle.blocks.specs.Tree.{header_len}
use Rattle.blocks.specs.Check.{block_crc, identity_questions, content_questions, block_questions, leftsib_in, rightsib_in, header_of, check_block}
use Rattle.blocks.specs.Stamp.{siblings, with_crc, relinked}
use Rattle.blocks.proofs.Laws.{header-least, header-five}
use Rattle.blocks.proofs.Heads.{siblings-length}
use Rattle.blocks.proofs.Stamped.{check-fits, with_crc-length, crc-read}

-- f of what questions come to
map-answer : {A B : Type 0} (f : A → B) (qs : List Question) (x : A) → map_outcome f (answer qs (done x)) ≡ answer qs (done (f x))
map-answer f [] x = refl
map-answer f (q ∷ qs) x = go q.holds (map-answer f qs x)
  where
    go : (t : Bool) → map_outcome f (answer qs (done x)) ≡ answer qs (done (f x))
        → map_outcome f (answer (record { number = q.number; values = q.values; holds = t } ∷ qs) (done x)) ≡ answer (record { number = q.number; values = q.values; holds = t } ∷ qs) (done (f x))
    go true e = e
    go false e = refl

module _ (g : Geometry) (left right : ℕ) (b : List ℕ) (long : header_len g.version ≤ length b) where
  abbrev made : List ℕ
  made = relinked g left right b

  abbrev named : List ℕ
  named = with_bytes b left_sibling_at (siblings left right)

  siblings-fit : left_sibling_at + length (siblings left right) ≤ length b
  siblings-fit = omega (arith, siblings-length left right, header-least g.version)

  named-length : length named ≡ length b
  named-length = length-with_bytes b left_sibling_at (siblings left right) siblings-fit

  long-5 : eqb g.version 5 ≡ true → v5_header_len ≤ length named
  long-5 v = omega (arith, header-five g.version (eqb-true _ _ v), named-length)

  by-version : (P : List ℕ → Type 0) → (eqb g.version 5 ≡ true → P (with_crc named)) → (eqb g.version 5 ≡ false → P named) → P made
  unfolding relinked
  by-version P five four = go (eqb g.version 5) refl
    where
      go : (t : Bool) → eqb g.version 5 ≡ t → P (cond t (with_crc named) named)
      go true v = five v
      go false v = four v

  pub relinked-length : length made ≡ length b
  relinked-length = by-version (λ (l : List ℕ). length l ≡ length b) (λ v. with_crc-length named (long-5 v) ∙ named-length) (λ v. named-length)

  -- what stands after the header is as it was
  pub relinked-body : (n : ℕ) → header_len g.version ≤ n → drop n made ≡ drop n b
  relinked-body n h =
      let plain : drop n named ≡ drop n b = drop-after b left_sibling_at (siblings left right) siblings-fit n (omega (arith, siblings-length left right, header-least g.version)) in
      by-version (λ (l : List ℕ). drop n l ≡ drop n b)
      (λ v.
      let far : v5_header_len ≤ n = omega (arith, header-five g.version (eqb-true _ _ v)) in
      drop-after named crc_at (le_bytes 4 (block_crc named)) (check-fits named (long-5 v)) n (omega (arith, length-le_bytes 4 (block_crc named))) ∙ plain)
      (λ v. plain)

  -- up to the check a field is as in the block before its check was put right
  to-check : (a w : ℕ) → a + w ≤ crc_at → bytes_at made a w ≡ bytes_at named a w
  to-check a w h =
      by-version (λ (l : List ℕ). bytes_at l a w ≡ bytes_at named a w)
      (λ v. bytes_at-before named crc_at (le_bytes 4 (block_crc named)) (check-fits named (long-5 v)) a w h)
      (λ v. refl)

  -- and before and after the siblings as it was
  head-kept : (a w : ℕ) → a + w ≤ left_sibling_at → bytes_at made a w ≡ bytes_at b a w
  head-kept a w h = to-check a w (omega arith) ∙ bytes_at-before b left_sibling_at (siblings left right) siblings-fit a w h

  identity-kept : (a w : ℕ) → blkno_at ≤ a → a + w ≤ crc_at → bytes_at made a w ≡ bytes_at b a w
  identity-kept a w h k =
      to-check a w k ∙ bytes_at-after b left_sibling_at (siblings left right) siblings-fit a w (omega (arith, siblings-length left right))

  -- the siblings are those given
  both_read : bytes_at made left_sibling_at 8 ≡ siblings left right
  both_read =
      to-check left_sibling_at 8 (omega arith)
      ∙ ap (bytes_at named left_sibling_at) (sym (siblings-length left right))
      ∙ bytes_at-same b left_sibling_at (siblings left right) siblings-fit

  pub relinked-left : left < 2 ^ 32 → leftsib_in made ≡ left
  unfolding bytes_at be_bytes
  relinked-left h = ap be_of (sym (bytes_at-bytes_at made left_sibling_at 8 0 4 (omega arith)) ∙ ap (λ (l : List ℕ). bytes_at l 0 4) both_read) ∙ be_of-be_bytes-lt 4 left h

  pub relinked-right : right < 2 ^ 32 → rightsib_in made ≡ right
  unfolding bytes_at be_bytes
  relinked-right h = ap be_of (sym (bytes_at-bytes_at made left_sibling_at 8 4 4 (omega arith)) ∙ ap (λ (l : List ℕ). bytes_at l 4 4) both_read) ∙ be_of-be_bytes-lt 4 right h

  -- ---- the check

  module _ (bytes : IsBytes b) where
    named-bytes : IsBytes named
    named-bytes =
        IsBytes-with_bytes b left_sibling_at (siblings left right) bytes
        (IsBytes-append (be_bytes 4 left) (be_bytes 4 right) (IsBytes-be_bytes 4 left) (IsBytes-be_bytes 4 right))

    crc-right : eqb g.version 5 ≡ true → le_of (bytes_at made crc_at 4) ≡ block_crc made
    unfolding relinked
    crc-right v = rw v (crc-read named (long-5 v) named-bytes)

    module _ (kind : TreeKind) (block : ℕ) where
      -- a block that passed somewhere has its check right
      crc-was : (level : ℕ) (h : Header) → check_block g kind block level b ≡ done h → eqb g.version 5 ≡ true → eqb (le_of (bytes_at b crc_at 4)) (block_crc b) ≡ true
      unfolding check_block
      crc-was level h e v =
          let all : AllHold (block_questions g kind block level b) = (done-means (block_questions g kind block level b) (header_of g kind level b) h e).0 in
          (subst (λ (t : Bool). AllHold (cond t (identity_questions g block b) [] ++ content_questions g kind level b)) v all.1.1.1.1).0

      module _ (l x : ℕ) where
        abbrev asked : List ℕ → Outcome ℕ
        asked c = answer (block_questions g kind block l c) (done x)

        asked-4 : eqb g.version 5 ≡ false → asked made ≡ asked b
        asked-4 v = rw (v, relinked-length, head-kept magic_at 4 (omega arith), head-kept level_at 2 (omega arith), head-kept numrecs_at 2 (omega arith))

        asked-5 : eqb g.version 5 ≡ true → eqb (le_of (bytes_at b crc_at 4)) (block_crc b) ≡ true → asked made ≡ asked b
        asked-5 v was =
            rw (v, eq-eqb _ _ (crc-right v), was, relinked-length, head-kept magic_at 4 (omega arith), identity-kept uuid_at 16 (omega arith) (omega arith), identity-kept owner_at 4 (omega arith) (omega arith), identity-kept blkno_at 8 (omega arith) (omega arith), identity-kept lsn_at 8 (omega arith) (omega arith), head-kept level_at 2 (omega arith), head-kept numrecs_at 2 (omega arith))

      -- each question but the check's own is as it was, so the block has as many records
      pub relinked-checks : (level : ℕ) (h : Header) → check_block g kind block level b ≡ done h
          → (l : ℕ) → map_outcome (λ (x : Header). x.numrecs) (check_block g kind block l made) ≡ map_outcome (λ (x : Header). x.numrecs) (check_block g kind block l b)
      unfolding check_block
      relinked-checks level h e l =
          map-answer (λ (x : Header). x.numrecs) (block_questions g kind block l made) (header_of g kind l made)
          ∙ ap (λ (f : List ℕ). answer (block_questions g kind block l made) (done (be_of f))) (head-kept numrecs_at 2 (omega arith))
          ∙ go (eqb g.version 5) refl
          ∙ sym (map-answer (λ (x : Header). x.numrecs) (block_questions g kind block l b) (header_of g kind l b))
        where
          records : ℕ
          records = be_of (bytes_at b numrecs_at 2)

          go : (t : Bool) → eqb g.version 5 ≡ t → asked l records made ≡ asked l records b
          go true v = asked-5 l records v (crc-was level h e v)
          go false v = asked-4 l records v
