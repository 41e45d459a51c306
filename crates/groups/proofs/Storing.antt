-- What the history of Example.antt leaves, one mapping and no counts, built as block 0 of an image of one block, stored and walked back: `Stored` can
-- be met, and the theorem then returns both lists.
-- Assumes nothing.
use Prim.Native.Nat.{ℕ, zero, suc, ◌^◌, ◌<◌}
use mathlib.Core.Path.{◌≡◌, refl, subst}
use mathlib.Core.Bool.{true}
use mathlib.Core.List.{List, [], ◌∷◌}
use native.Mathlib.Omega.{arith}
use lib.ListN.{length, get_or, replicate}
use Rattle.codec.specs.Bytes as bytes
use Rattle.codec.specs.Records as records
use Rattle.blocks.specs.declared.geometry.Geometry.{Geometry}
use Rattle.blocks.specs.declared.kind.TreeKind.{TreeKind}
use Rattle.blocks.specs.declared.kind.TreeKind.TheVariants as kind
use Rattle.blocks.specs.Geometry as sizes
use Rattle.blocks.specs.Geometry.{Fits, with_lsn}
use Rattle.blocks.specs.Tree as headers
use Rattle.trees.specs.Plan as plan
use Rattle.trees.specs.Plan.{sum}
use Rattle.trees.specs.Build.{plan_of, stored}
use Rattle.trees.specs.BuildCall.{built_bytes}
use Rattle.walks.specs.WalkCall.{Lent}
use Rattle.walks.specs.Shapes.{shape_of}
use Rattle.trees.specs.RoundTrip as trip
use Rattle.trees.specs.RoundTrip.{levels_for, LongEnough}
use Rattle.codec.proofs.Overwrites.{IsBytes-zeros}
use Rattle.groups.specs.History.{Lists, Stored, Back, Returned}
use Rattle.groups.proofs.Example.{last_lists, shares}
use Rattle.groups.proofs.History.{sharing-claim}

abbrev geometry : Geometry
geometry = record { version = 5; blocksize = 512; agblocks = 0; agno = 0; meta_uuid = replicate 16 0; last_lsn = 5 }

abbrev image : List ℕ
image = replicate 512 0

zero-fits : (i : ℕ) → get_or (0 ∷ []) i 0 < 2 ^ 32
zero-fits zero = omega arith
zero-fits (suc i) = omega arith

geometry-fits : Fits geometry
geometry-fits = record { agno_fits = omega arith; agblocks_fits = omega arith; uuid_long = refl; uuid_bytes = IsBytes-zeros 16; lsn_fits = omega arith }

image-length : length image ≡ 512
image-length = refl

geometry-good : sizes.geometry_ok geometry ≡ true
unfolding sizes.geometry_ok sizes.is_version sizes.is_block_size
geometry-good = refl

-- a list whose plan is one block
one_block : (kind : TreeKind) (list : List ℕ) (lent : Lent) → levels_for geometry kind list ≡ 1 → 1 ≡ sum (plan_of (shape_of geometry kind) list)
    → LongEnough list (0 ∷ []) lent → Stored kind list geometry (0 ∷ []) image 512 lent
one_block kind list lent e f h =
    record {
      geometry = geometry-good;
      fields = geometry-fits;
      version = refl;
      levels = omega arith;
      numbers_fit = zero-fits;
      planned = f;
      places = (omega (arith, image-length), tt, tt);
      limit = omega arith;
      room_left = omega arith;
      long = h;
    }

abbrev map_lent : Lent
map_lent = record { stack = 18; scratch = 1; blocks = 1; bytes = 24 }

pub map-stored : Stored kind.Rmap last_lists.map geometry (0 ∷ []) image 512 map_lent
unfolding headers.header_len plan.ceil plan.leaves plan.above plan.levels_of plan.sum bytes.be_bytes records.field_bytes records.bytes_of
map-stored =
    one_block kind.Rmap last_lists.map map_lent refl refl (record { stack = omega arith; scratch = omega arith; blocks = omega arith; bytes = omega arith })

-- what was built with 5 comes back under 5 and every higher number
pub map_back : Back kind.Rmap last_lists.map geometry (0 ∷ []) image 512 map_lent
map_back =
    subst (λ (τ : Lists). Returned kind.Rmap τ.map) shares.left sharing-claim.map_returned geometry (0 ∷ []) image 512 map_lent map-stored

abbrev counts_lent : Lent
counts_lent = record { stack = 18; scratch = 1; blocks = 1; bytes = 0 }

-- no counts are left: the tree of none is one leaf without records
pub counts-stored : Stored kind.Refcount [] geometry (0 ∷ []) image 512 counts_lent
unfolding headers.header_len plan.ceil plan.leaves plan.above plan.levels_of plan.sum
counts-stored =
    one_block kind.Refcount [] counts_lent refl refl (record { stack = omega arith; scratch = omega arith; blocks = omega arith; bytes = omega arith })

pub counts-back : Back kind.Refcount [] geometry (0 ∷ []) image 512 counts_lent
counts-back =
    subst (λ (τ : Lists). Returned kind.Refcount τ.counts) shares.left sharing-claim.counts_returned geometry (0 ∷ []) image 512 counts_lent counts-stored

-- and so under 7
pub later-back : trip.Returned (with_lsn geometry 7) kind.Rmap last_lists.map (0 ∷ []) (stored 512 image (0 ∷ []) (built_bytes geometry kind.Rmap last_lists.map (0 ∷ []))) map_lent
later-back = map_back.walked 7 (omega arith)
