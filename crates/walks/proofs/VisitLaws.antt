-- Laws of one visit: what each way through it comes to.
-- Assumes nothing.
use Prim.Native.Nat.{ℕ, ◌+◌, ◌-◌, ◌*◌, ◌^◌, ◌≤◌, ◌<◌}
use native.Mathlib.Nat.{add-sub_cancel_left}
use mathlib.Core.Path.{◌≡◌, refl, sym, ap, ap₂, ◌∙◌}
use mathlib.Core.Bool.{true}
use mathlib.Core.List.{List, [], ◌∷◌}
use lib.ListN.{length, take, drop}
use Rattle.std.specs.Prelude.{Result, Ok, Err}
use Rattle.codec.specs.Bytes.{bytes_at}
use Rattle.codec.specs.Question.{Values, Outcome, done, refused}
use Rattle.codec.proofs.Stores.{bytes_at-is}
use Rattle.blocks.specs.declared.geometry.Geometry.{Geometry}
use Rattle.blocks.specs.declared.kind.TreeKind.{TreeKind}
use Rattle.blocks.specs.declared.check.Header.{Header}
use Rattle.blocks.specs.Geometry.{geometry_ok}
use Rattle.blocks.specs.Tree.{header_len, record_len}
use Rattle.blocks.proofs.Accepted.{Accepted, accepted}
use Rattle.walks.specs.declared.visit.Count.{Count}
use Rattle.walks.specs.declared.visit.Step.{Step}
use Rattle.walks.specs.declared.visit.Siblings.{Siblings}
use Rattle.walks.specs.declared.refusal.WalkRefusal.{WalkRefusal}
use Rattle.walks.specs.Walk.{Visit, visit_of, Look, bad, good, block_in}
use Rattle.walks.specs.OneVisit.{verdict_outcome, step_outcome, BesideBy, Beside, step_of, onward, Wrote}
use Rattle.walks.specs.Shapes.{shape_of, header_in}
use Rattle.walks.proofs.LookLaws.{header-good, part-long, header-body, leaf-inside}
use Rattle.walks.proofs.PathLaws.{field, small}

-- the part of the image that the code takes is a leaf's records
pub leaf-part : (image : List ℕ) (block size body header n r w : ℕ) → body ≡ header → r ≡ w → header + n * w ≤ size
    → take (block * size + body + n * r - (block * size + body)) (drop (block * size + body) image) ≡ bytes_at (block_in size image block) header (n * w)
leaf-part image block size body header n r w e f h =
    ap (λ (k : ℕ). take k (drop (block * size + body) image)) (add-sub_cancel_left (block * size + body) (n * r))
    ∙ sym (bytes_at-is image (block * size + body) (n * r))
    ∙ ap₂ (λ (b k : ℕ). bytes_at image (block * size + b) (n * k)) e f
    ∙ field image block size header (n * w) h

-- a refused visit hands no siblings back
pub beside-refused : (r : Step) (n : ℕ) (x : Values) (left right : ℕ) → step_outcome r ≡ refused n x → Beside r left right
beside-refused r n x left right e = go r.verdict r.count r.siblings e
  where
    go : (v : Result (Unit {0}) WalkRefusal) (c : Count) (s : Siblings) → verdict_outcome v c ≡ refused n x → BesideBy v s left right
    go (Ok u) c s f = cc
    go (Err w) c s f = tt

-- what a look tells that gave a header
pub record Read (g : Geometry) (kind : TreeKind) (image : List ℕ) (block level : ℕ) (h : Header) : Type 0 where
  pub found : header_in g kind image (visit_of block level) ≡ done h
  pub accepts : Accepted g kind level (block_in g.blocksize image block) h
  pub inside : block * g.blocksize + g.blocksize ≤ length image
  pub near : block * g.blocksize + g.blocksize ≤ 281474976776192
  pub body_is : h.body ≡ header_len g.version
  pub leaf : level ≡ 0 → header_len g.version + h.numrecs * record_len kind ≤ g.blocksize

pub good-read : (g : Geometry) (kind : TreeKind) (image : List ℕ) (block level : ℕ) (h : Header) → geometry_ok g ≡ true → block < 2 ^ 32
    → header_in g kind image (visit_of block level) ≡ done h → Read g kind image block level h
good-read g kind image block level h ok b32 e =
    let part : List ℕ = block_in g.blocksize image block in
    let k = header-good g kind image block level h e in
    let long = part-long (shape_of g kind) image block level k.0 in
    record {
      found = e;
      accepts = accepted g kind block level part h k.1;
      inside = k.0;
      near = small g kind ok block b32;
      body_is = header-body g kind ok block level part h long k.1;
      leaf = leaf-inside g kind ok block level part h long k.1;
    }

step-node : (places room : ℕ) (c : Count) (below : List Visit) (bytes : List ℕ) → step_of places room c (good [] bytes) ≡ step_of places room c (good below bytes)
unfolding step_of
step-node places room c below bytes = refl

module _ (places room block level : ℕ) (c : Count) (l : Look) (scratch out : List ℕ) where
  -- the block is refused: nothing is written
  pub visit-bad : (n : ℕ) (x : Values) (o : Outcome Count) → l ≡ bad n x → o ≡ refused n x
      → (o ≡ step_of places room c l) × Wrote o (visit_of block level) l c scratch scratch out out
  unfolding step_of
  visit-bad n x o e f = rw (e, f) (refl, record { noted = refl; copied = refl })

  -- it is read
  pub visit-good : (below : List Visit) (bytes scratch' out' : List ℕ) (o : Outcome Count) → l ≡ good below bytes → o ≡ step_of places room c (good [] bytes)
      → scratch' ≡ onward o scratch c.visits ((level * 2 ^ 32 + block) ∷ []) → out' ≡ onward o out c.bytes bytes
      → (o ≡ step_of places room c l) × Wrote o (visit_of block level) l c scratch scratch' out out'
  visit-good below bytes scratch' out' o e f noted copied =
      rw e (f ∙ step-node places room c below bytes, record { noted = noted; copied = copied })
