-- The starred rows of document 01's worked examples, by computation.
-- Assumes nothing.
use Prim.Native.Nat.{ℕ}
use mathlib.Core.Path.{◌≡◌, refl}
use mathlib.Core.List.{List, [], ◌∷◌}
use lib.ListN.{replicate}
use Rattle.codec.specs.Bytes as bytes
use Rattle.codec.specs.Question.{Outcome, done}
use Rattle.codec.specs.Records as records
use Rattle.codec.specs.Records.{bytes_of, rmaps, refcounts}
use Rattle.codec.specs.Accepted as accepted
use Rattle.codec.specs.Rmaps as rmap
use Rattle.codec.specs.Refcounts as refcount
use Rattle.codec.specs.declared.rmap.Rmap.{Rmap}
use Rattle.codec.specs.declared.refcount.Refcount.{Refcount}
use Rattle.codec.specs.declared.free_extent.FreeExtent.{FreeExtent}
use Rattle.blocks.specs.declared.geometry.Geometry.{Geometry}
use Rattle.blocks.specs.declared.kind.TreeKind.{TreeKind}
use Rattle.blocks.specs.declared.kind.TreeKind.TheVariants as kind
use Rattle.blocks.specs.Geometry as sizes
use Rattle.blocks.specs.Tree as headers
use Rattle.trees.specs.Plan as plan
use Rattle.trees.specs.Plan.{shares}
use Rattle.trees.specs.PlanAnswer.{plan_outcome}
use Rattle.lists.specs.Extent as extent
use Rattle.lists.specs.Holders as holding
use Rattle.lists.specs.Held as held
use Rattle.lists.specs.RmapEdits as edits
use Rattle.lists.specs.Release as release
use Rattle.lists.specs.Edits.{insert_outcome, remove_outcome, release_outcome, Freed}

-- a version 5 geometry of blocks of 4,096 bytes
abbrev geometry : Geometry
geometry = record { version = 5; blocksize = 4096; agblocks = 0; agno = 0; meta_uuid = replicate 16 0; last_lsn = 0 }

-- the blocks of each level, leaves first
abbrev plans : TreeKind → ℕ → Outcome (List ℕ)
plans kind n = plan_outcome geometry kind n

-- start / count / owners
abbrev shared : ℕ → ℕ → ℕ → Refcount
shared s c n = record { startblock = s; blockcount = c; refcount = n }

-- start / count of owner 7, at a file offset
abbrev seven : ℕ → ℕ → ℕ → Rmap
seven s c at = record { startblock = s; blockcount = c; owner = 7; offset = at }

abbrev extent_at : ℕ → ℕ → FreeExtent
extent_at s c = record { startblock = s; blockcount = c }

-- a list of counts, an extent let go, and what is left; with room enough
abbrev lets : List Refcount → ℕ → ℕ → Outcome Freed
lets l s c = release_outcome (bytes_of refcounts l) s c 100 100

abbrev leaves : List Refcount → List FreeExtent → Outcome Freed
leaves l fs = done (record { counts = l; free = fs })

pub table :
    (plans kind.Rmap 0 ≡ done (1 ∷ []))
    × (plans kind.Rmap 168 ≡ done (1 ∷ []))
    × (plans kind.Rmap 169 ≡ done (2 ∷ 1 ∷ []))
    × (plans kind.Rmap 15288 ≡ done (91 ∷ 1 ∷ []))
    × (plans kind.Rmap 15289 ≡ done (92 ∷ 2 ∷ 1 ∷ []))
    × (plans kind.Refcount 336 ≡ done (1 ∷ []))
    × (plans kind.Refcount 337 ≡ done (2 ∷ 1 ∷ []))
    × (shares 1000 6 ≡ 167 ∷ 167 ∷ 167 ∷ 167 ∷ 166 ∷ 166 ∷ [])
    × (lets (shared 100 10 3 ∷ []) 103 4 ≡ leaves (shared 100 3 3 ∷ shared 103 4 2 ∷ shared 107 3 3 ∷ []) [])
    × (lets (shared 100 10 2 ∷ []) 103 4 ≡ leaves (shared 100 3 2 ∷ shared 107 3 2 ∷ []) [])
    × (lets (shared 10 5 2 ∷ []) 8 10 ≡ leaves [] (extent_at 8 2 ∷ extent_at 15 3 ∷ []))
    × (lets (shared 0 4 3 ∷ shared 4 4 2 ∷ []) 0 4 ≡ leaves (shared 0 8 2 ∷ []) [])
    × (insert_outcome (bytes_of rmaps (seven 0 4 0 ∷ [])) (seven 4 4 4) 100 ≡ done (seven 0 8 0 ∷ []))
    × (insert_outcome (bytes_of rmaps (seven 0 4 0 ∷ [])) (seven 4 4 5) 100 ≡ done (seven 0 4 0 ∷ seven 4 4 5 ∷ []))
    × (remove_outcome (bytes_of rmaps (seven 0 8 0 ∷ [])) (seven 2 3 2) 100 ≡ done (seven 0 2 0 ∷ seven 5 3 5 ∷ []))
    × (remove_outcome (bytes_of rmaps (seven 0 8 0 ∷ [])) (seven 2 3 9) 100 ≡ done (seven 0 2 0 ∷ seven 5 3 5 ∷ []))
unfolding sizes.geometry_ok sizes.is_version sizes.is_block_size headers.header_len plan.ceil plan.leaves plan.above plan.levels_of plan.share_of plan.shares_from insert_outcome remove_outcome release_outcome bytes.be_of bytes.be_bytes records.fields_of records.field_bytes records.first_records records.records_of records.bytes_of accepted.whole accepted.in_order rmap.reserved rmap.mapping rmap.exempt rmap.good rmap.key_offset rmap.before rmap.follows refcount.staging refcount.good refcount.follows extent.over extent.within extent.good_extent extent.grow extent.runs holding.holders held.each_block edits.first edits.is_some edits.replace edits.place edits.continues edits.attach edits.insert_after edits.insert edits.contains edits.lines_up edits.chosen edits.front edits.later edits.place_later edits.cut_out release.owners release.clear release.piece release.share release.fewer release.clamp release.lowered release.lower_all release.same_kind release.continues release.join_from release.join_all
table = (refl, refl, refl, refl, refl, refl, refl, refl, refl, refl, refl, refl, refl, refl, refl, refl)
