-- Laws of a header written part by part.
-- Assumes nothing.
use Prim.Native.Nat.{ℕ, ◌+◌, ◌-◌, ◌≤◌}
use mathlib.Core.Path.{◌≡◌, refl, ap₂, ◌∙◌}
use mathlib.Core.List.{List, ◌++◌}
use native.Mathlib.Omega.{arith}
use lib.ListN.{length, length-append}
use Rattle.codec.specs.Bytes.{with_bytes, be_bytes}
use Rattle.codec.proofs.Parts.{with_bytes-add}
use Rattle.blocks.specs.declared.geometry.Geometry.{Geometry}
use Rattle.blocks.specs.declared.kind.TreeKind.{TreeKind}
use Rattle.blocks.specs.Offsets.{blkno_at, crc_at, v4_header_len}
use Rattle.blocks.specs.Stamp.{siblings, plain_head, identity_head}

-- two writes, the second right after the first
pub with_bytes-two : (b : List ℕ) (at : ℕ) (s t l m : List ℕ) (n : ℕ) → l ≡ with_bytes b at s → m ≡ with_bytes l n t → n ≡ at + length s → at + length s ≤ length b → m ≡ with_bytes b at (s ++ t)
with_bytes-two b at s t l m n e f g h = f ∙ ap₂ (λ (x : List ℕ) (y : ℕ). with_bytes x y t) e g ∙ with_bytes-add b at s t h

-- ---- the parts' lengths

pub siblings-length : (left right : ℕ) → length (siblings left right) ≡ 8
unfolding be_bytes
siblings-length left right = refl

pub plain-length : (kind : TreeKind) (version level numrecs left right : ℕ) → length (plain_head kind version level numrecs left right) ≡ v4_header_len
unfolding be_bytes
plain-length kind version level numrecs left right = refl

pub identity-length : (g : Geometry) (block : ℕ) → length g.meta_uuid ≡ 16 → length (identity_head g block) ≡ crc_at - blkno_at
unfolding be_bytes
identity-length g block h = simp length-append (omega arith)
