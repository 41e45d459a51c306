-- The three kinds of record meet the laws of RecordLists: a record goes to its bytes and back, and bytes to a record and back.
-- Assumes nothing.
use mathlib.Core.Path.{◌≡◌, refl, ap, ◌∙◌}
use mathlib.Core.List.{List}
use Prim.Native.Nat.{ℕ, ◌<◌}
use native.Mathlib.Omega.{arith}
use Rattle.codec.specs.Records.{Kind, fields_of, field_bytes, rmap_widths, rmap_from, rmap_fields, RmapFits, rmaps, refcount_widths, refcount_from, refcount_fields, RefcountFits, refcounts, extent_widths, extent_from, extent_fields, ExtentFits, free_extents}
use Rattle.codec.proofs.FieldLists.{total, FitAll, length-field_bytes, IsBytes-field_bytes, fields_of-field_bytes, field_bytes-fields_of, fields_of-fit}
use Rattle.codec.proofs.RecordLists.{Lawful}

-- a record of fields: what is left to show is of its fields as numbers
module _ {R : Type 0} (ws : List ℕ) (from : List ℕ → R) (fields : R → List ℕ) (Storable : R → Type 0) where
  abbrev kind : Kind R
  kind = record { size = total ws; decode = λ bs. from (fields_of ws bs); encode = λ r. field_bytes ws (fields r); Storable = Storable }

  pub lawful : 0 < total ws → ((r : R) → Storable r → FitAll ws (fields r)) → ((r : R) → Storable r → from (fields r) ≡ r)
      → ((bs : List ℕ) → FitAll ws (fields_of ws bs) → fields (from (fields_of ws bs)) ≡ fields_of ws bs)
      → ((bs : List ℕ) → FitAll ws (fields_of ws bs) → Storable (from (fields_of ws bs)))
      → Lawful kind
  lawful pos fit back forth storable =
      record {
        size-pos = pos;
        length-encode = λ r. length-field_bytes ws (fields r);
        bytes-encode = λ r. IsBytes-field_bytes ws (fields r);
        decode-encode = λ r h. ap from (fields_of-field_bytes ws (fields r) (fit r h)) ∙ back r h;
        encode-decode = λ bs e h. ap (field_bytes ws) (forth bs (fields_of-fit ws bs e h)) ∙ field_bytes-fields_of ws bs e h;
        storable-decode = λ bs e h. storable bs (fields_of-fit ws bs e h);
      }

pub rmaps-lawful : Lawful rmaps
unfolding fields_of
rmaps-lawful =
    lawful rmap_widths rmap_from rmap_fields RmapFits (omega arith)
    (λ r h. (h.startblock, (h.blockcount, (h.owner, (h.offset, tt)))))
    (λ r h. refl)
    (λ bs f. refl)
    (λ bs f. record { startblock = f.0; blockcount = f.1.0; owner = f.1.1.0; offset = f.1.1.1.0 })

pub free_extents-lawful : Lawful free_extents
unfolding fields_of
free_extents-lawful =
    lawful extent_widths extent_from extent_fields ExtentFits (omega arith)
    (λ e h. (h.startblock, (h.blockcount, tt)))
    (λ e h. refl)
    (λ bs f. refl)
    (λ bs f. record { startblock = f.0; blockcount = f.1.0 })

pub refcounts-lawful : Lawful refcounts
unfolding fields_of
refcounts-lawful =
    lawful refcount_widths refcount_from refcount_fields RefcountFits (omega arith)
    (λ r h. (h.startblock, (h.blockcount, (h.refcount, tt))))
    (λ r h. refl)
    (λ bs f. refl)
    (λ bs f. record { startblock = f.0; blockcount = f.1.0; refcount = f.1.1.0 })
