-- What a look at a block finds: where in the image the records of a leaf lie, and what they add to the answers.
-- Assumes nothing.
use Rattle.std.proofs.Common.{◌≡◌, ℕ, ◌+◌, ◌-◌, ◌*◌, ◌/◌, ◌%◌, ◌<◌, ◌≤◌, true, List, [], length, take, drop, sym, refl, ap, ◌∙◌, arith, length-drop, length-take, length-take-le}
use native.Mathlib.Decide.{ℕ_discrete}
use Rattle.codec.specs.Question.{Values, done, refused}
use Rattle.codec.specs.Records as records
use Rattle.codec.specs.Records.{records_of, rmaps}
use Rattle.blocks.specs.declared.geometry.Geometry.{Geometry}
use Rattle.blocks.specs.declared.kind.TreeKind.TheVariants as kind
use Rattle.blocks.specs.declared.check.Header.{Header}
use Rattle.blocks.specs.Geometry.{geometry_ok}
use Rattle.blocks.specs.Tree.{header_len, capacity}
use Rattle.blocks.specs.Check.{check_block}
use Rattle.blocks.proofs.Laws.{capacity-small}
use Rattle.blocks.proofs.Accepted.{accepted}
use Rattle.walks.specs.Walk.{Visit, visit_of, Look, good, bytes_found, Shape, block_in, pointers, first_pointer, look_in}
use Rattle.walks.specs.Shapes.{shape_of, header_in}
use Rattle.walks.proofs.LookLaws.{look-refused, look-done, header-good, part-long, under-leaf, under-node, header-body, leaf-inside}
use Rattle.walks.proofs.VisitLaws.{leaf-part}
use Rattle.lookup.specs.Inner.Tally.{tallied, Room}
use Rattle.lookup.proofs.TallyLaws.{tallied-none}

-- a good look: what is under the block, whole records and not too many
pub record GoodLook (seen : Look) : Type 0 where
  pub below : List Visit
  pub bytes : List ℕ
  pub is : seen ≡ good below bytes
  pub whole : length bytes % 24 ≡ 0
  pub few : length bytes ≤ 8192 * 24

-- no records add nothing
none-added : (l : Look) (asked answers : List ℕ) → bytes_found l ≡ [] → answers ≡ tallied (records_of rmaps (bytes_found l)) asked answers
unfolding records.records_of records.first_records
none-added l asked answers e = rw e (sym (tallied-none asked answers))

module _ (g : Geometry) (image : List ℕ) (block level : ℕ) (asked answers : List ℕ) where
  abbrev sh : Shape
  sh = shape_of g kind.Rmap

  abbrev seen : Look
  seen = look_in sh image (visit_of block level)

  -- a refused block
  pub refused-adds : (n : ℕ) (x : Values) → header_in g kind.Rmap image (visit_of block level) ≡ refused n x → answers ≡ tallied (records_of rmaps (bytes_found seen)) asked answers
  refused-adds n x e = none-added seen asked answers (ap bytes_found (look-refused g kind.Rmap image block level n x e))

  module _ (ok : geometry_ok g ≡ true) (h : Header) (e : header_in g kind.Rmap image (visit_of block level) ≡ done h) where
    abbrev part : List ℕ
    part = block_in g.blocksize image block

    pub whole : block * g.blocksize + g.blocksize ≤ length image
    whole = (header-good g kind.Rmap image block level h e).0

    checked : check_block g kind.Rmap block level part ≡ done h
    checked = (header-good g kind.Rmap image block level h e).1

    long : length part ≡ g.blocksize
    long = part-long sh image block level whole

    body_is : h.body ≡ header_len g.version
    body_is = header-body g kind.Rmap ok block level part h long checked

    pub records-fit : level ≡ 0 → h.body + h.numrecs * 24 ≤ g.blocksize
    records-fit z = rw body_is (leaf-inside g kind.Rmap ok block level part h long checked z)

    pub few : h.numrecs ≤ 8192
    few =
        let f : h.numrecs ≤ capacity kind.Rmap g.version level g.blocksize = rw (← long) (accepted g kind.Rmap block level part h checked).few in
        omega (arith, capacity-small g kind.Rmap level ok)

    -- where a leaf's records begin, and how they end
    abbrev from : ℕ
    from = block * g.blocksize + h.body

    abbrev found : List ℕ
    found = take (from + h.numrecs * 24 - from) (drop from image)

    pub found-leaf : level ≡ 0 → seen ≡ good [] found
    found-leaf z =
        look-done g kind.Rmap image block level h e
        ∙ under-leaf sh part level h.numrecs z
        ∙ ap (good []) (sym (leaf-part image block g.blocksize h.body (header_len g.version) h.numrecs 24 24 body_is refl
        (leaf-inside g kind.Rmap ok block level part h long checked z)))

    pub found-node : 0 < level → seen ≡ good (pointers part (first_pointer sh) (level - 1) h.numrecs) []
    found-node up = look-done g kind.Rmap image block level h e ∙ under-node sh part level h.numrecs up

    pub node-adds : 0 < level → answers ≡ tallied (records_of rmaps (bytes_found seen)) asked answers
    node-adds up = none-added seen asked answers (ap bytes_found (found-node up))

    pub leaf-adds : level ≡ 0 → (answers' : List ℕ) → answers' ≡ tallied (records_of rmaps found) asked answers → answers' ≡ tallied (records_of rmaps (bytes_found seen)) asked answers
    leaf-adds z answers' w = w ∙ ap (λ (l : Look). tallied (records_of rmaps (bytes_found l)) asked answers) (sym (found-leaf z))

    pub leaf_room : Room 8192 asked answers → Room (length found / 24) asked answers
    leaf_room r i b = omega (arith, r i b, few, length-take (from + h.numrecs * 24 - from) (drop from image))

    found-long : level ≡ 0 → length found ≡ h.numrecs * 24
    found-long z =
        let n : from + h.numrecs * 24 - from ≡ h.numrecs * 24 = omega arith in
        ap (λ (k : ℕ). length (take k (drop from image))) n ∙ length-take-le (h.numrecs * 24) (drop from image) (omega (arith, length-drop from image, whole, records-fit z))

    pub found-records : GoodLook seen
    found-records = elim (ℕ_discrete level 0) [
      | yes z ↦ record { below = []; bytes = found; is = found-leaf z; whole = omega (arith, found-long z); few = omega (arith, found-long z, few) }
      | no z ↦ record { below = pointers part (first_pointer sh) (level - 1) h.numrecs; bytes = []; is = found-node (omega (arith, z)); whole = refl; few = omega arith }
    ]
