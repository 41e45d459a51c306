-- Every kind of tree, on each version that has it, is a layout that build and walk can go by.
-- Assumes nothing.
use Prim.Native.Nat.{ℕ, zero, suc, ◌+◌, ◌-◌, ◌*◌, ◌^◌, ◌≤◌, ◌<◌}
use native.Mathlib.Nat.{le-div_iff_mul-le, div-mul-le_self, mul-le-mul_left}
use native.Mathlib.Omega.{arith}
use mathlib.Core.Path.{◌≡◌, refl, sym, ap, ap₂, ◌∙◌, subst}
use mathlib.Core.Bool.{Bool, true, false, cond}
use mathlib.Core.List.{List, [], ◌∷◌}
use lib.ListN.{length, take, length-append, length-take}
use borrow.Author.Tests.{ne_eqb}
use Rattle.codec.specs.Bytes.{IsBytes}
use Rattle.codec.specs.Question.{done}
use Rattle.codec.specs.Records.{records_of, rmaps}
use Rattle.codec.specs.declared.rmap.Rmap.{Rmap}
use Rattle.codec.proofs.FieldLists.{IsBytes-append, IsBytes-take, IsBytes-field_bytes}
use Rattle.blocks.specs.declared.geometry.Geometry.{Geometry}
use Rattle.blocks.specs.declared.kind.TreeKind.{TreeKind}
use Rattle.blocks.specs.Geometry.{geometry_ok, Fits}
use Rattle.blocks.specs.Tree.{header_len, has_tree, overlapping, record_len, keys_len, place_len, capacity as capacity_of}
use Rattle.blocks.specs.Check.{header_says, check_block}
use Rattle.blocks.proofs.Laws.{bounded, overlapping-is, blocksize-within, header-most, place-least}
use Rattle.blocks.proofs.Accepted.{Accepted, accepted}
use Rattle.blocks.proofs.Stamped.{stamped-length, stamped-body, stamped-passes}
use Rattle.walks.specs.Shapes.{numrecs_of}
use Rattle.trees.specs.BlockLayout.{Links, Layout, capacity, Sized, Fresh, Sound}
use Rattle.trees.specs.Keys.{key_bytes, key_widths, lowest, highest, rmap_keys, first_key}
use Rattle.trees.specs.BuildCall.{keys_under, layout_of}
use Rattle.trees.proofs.KeyLaws.{key-length}
use Rattle.trees.proofs.Padding.{padded-length, padded-bytes}

-- ---- every kind is sound

rmap-long : (rs : List Rmap) → length (rmap_keys rs) ≡ 40
unfolding rmap_keys
rmap-long rs = length-append (key_bytes (lowest rs)) (key_bytes (highest rs)) ∙ ap₂ ◌+◌ (key-length (lowest rs)) (key-length (highest rs))

rmap-bytes : (rs : List Rmap) → IsBytes (rmap_keys rs)
unfolding rmap_keys
rmap-bytes rs =
    let low = lowest rs in
    let high = highest rs in
    IsBytes-append (key_bytes low) (key_bytes high)
    (IsBytes-field_bytes key_widths (low.start ∷ low.owner ∷ low.offset ∷ []))
    (IsBytes-field_bytes key_widths (high.start ∷ high.owner ∷ high.offset ∷ []))

first-long : (w : ℕ) (b : List ℕ) → length (first_key w b) ≡ w
unfolding first_key
first-long w b = padded-length w (take w b) (omega (arith, length-take w b))

first-bytes : (w : ℕ) (b : List ℕ) → IsBytes b → IsBytes (first_key w b)
unfolding first_key
first-bytes w b h = padded-bytes w (take w b) (IsBytes-take w b h)

pub keys_long : (kind : TreeKind) (b : List ℕ) → length (keys_under kind b) ≡ keys_len kind
unfolding keys_under
keys_long kind b = go (overlapping kind) refl
  where
    go : (t : Bool) → overlapping kind ≡ t → length (cond t (rmap_keys (records_of rmaps b)) (first_key (keys_len kind) b)) ≡ keys_len kind
    go true e = rmap-long (records_of rmaps b) ∙ ap keys_len (sym (overlapping-is kind e))
    go false e = first-long (keys_len kind) b

keys_bytes : (kind : TreeKind) (b : List ℕ) → IsBytes b → IsBytes (keys_under kind b)
unfolding keys_under
keys_bytes kind b h = go (overlapping kind)
  where
    go : (t : Bool) → IsBytes (cond t (rmap_keys (records_of rmaps b)) (first_key (keys_len kind) b))
    go true = rmap-bytes (records_of rmaps b)
    go false = first-bytes (keys_len kind) b h

pub record_some : (kind : TreeKind) → 0 < record_len kind
record_some kind = omega (arith, (bounded kind).record-least)

module _ (g : Geometry) (kind : TreeKind) (ok : geometry_ok g ≡ true) (tree : has_tree kind g.version ≡ true) where
  abbrev t : Layout
  t = layout_of g kind

  -- a header, of either version, takes at most a ninth of a block
  pub header-within : header_len g.version ≤ 56
  header-within = header-most g.version

  pub room-is : (level len : ℕ) → len ≡ g.blocksize → capacity t.shape level ≡ capacity_of kind g.version level len
  room-is zero len e = rw e refl
  room-is (suc level) len e = rw (e, ne_eqb (suc level) 0 (λ z. omega arith)) refl

  -- a block's records are counted in 16 bits
  pub count_small : (level n : ℕ) → n ≤ capacity t.shape level → n < 2 ^ 16
  count_small level n h =
      let c : ℕ = capacity_of kind g.version level g.blocksize in
      let p : ℕ = place_len kind level in
      let d : c * p ≤ g.blocksize - header_len g.version = div-mul-le_self (g.blocksize - header_len g.version) p in
      omega (arith, room-is level g.blocksize refl, mul-le-mul_left c (place-least kind level), (blocksize-within g ok).1, header-within)

  -- a block has room for its header
  long : (b : List ℕ) → length b ≡ g.blocksize → header_len g.version ≤ length b
  long b e = omega (arith, e, header-within, (blocksize-within g ok).0)

  pub sized : length g.meta_uuid ≡ 16 → Sized t
  sized uuid =
      let of = bounded kind in
      let big : 512 ≤ g.blocksize = (blocksize-within g ok).0 in
      record {
        header_fits = omega (arith, header-within);
        record_some = record_some kind;
        leaf_some = (le-div_iff_mul-le (record_some kind)).1 (omega (arith, header-within, of.record-most));
        node_some = (let p : 0 < keys_len kind + 4 = omega arith in (le-div_iff_mul-le p).1 (omega (arith, header-within)));
        keys_long = keys_long kind;
        stamp_long = λ block level n x b e. stamped-length g kind block level n x.left x.right b uuid (long b e) ∙ e;
      }

  -- a stamped block passes the check, which hands back its neighbours
  stamp-accepted : Fits g → (block level n : ℕ) (x : Links) (b : List ℕ) → Fresh t.shape block level n x b
      → check_block g kind block level (t.stamp block level n x b) ≡ done (header_says g kind level n x.left x.right (length b))
  stamp-accepted fits block level n x b f =
      stamped-passes g kind block level n x.left x.right b fits (long b f.long) f.are_bytes ok tree f.number_fits (omega (arith, f.level_fits))
      (count_small level n f.most) f.left_fits f.right_fits (subst (λ (y : ℕ). n ≤ y) (room-is level (length b) f.long) f.most)

  -- its siblings stand where the check reads them
  stamp-says : Fits g → (block level n : ℕ) (x : Links) (b : List ℕ) → Fresh t.shape block level n x b
      → Accepted g kind level (t.stamp block level n x b) (header_says g kind level n x.left x.right (length b))
  stamp-says fits block level n x b f =
      accepted g kind block level (t.stamp block level n x b) (header_says g kind level n x.left x.right (length b)) (stamp-accepted fits block level n x b f)

  pub sound : Fits g → Sound t
  sound fits =
      let big : 512 ≤ g.blocksize = (blocksize-within g ok).0 in
      record {
        sized = sized fits.uuid_long;
        keys_bytes = keys_bytes kind;
        stamp_body = λ block level n x b e. stamped-body g kind block level n x.left x.right b fits (long b e) (header_len g.version) (omega arith);
        stamp_passes = λ block level n x b f. ap numrecs_of (stamp-accepted fits block level n x b f);
        stamp_left = λ block level n x b f. sym (stamp-says fits block level n x b f).leftsib-is;
        stamp_right = λ block level n x b f. sym (stamp-says fits block level n x b f).rightsib-is;
      }
