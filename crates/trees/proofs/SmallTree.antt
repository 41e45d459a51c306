-- Walks of which `EveryWalk`, `EveryLaterWalk` and `OneLinkWrong` speak: a tree of two leaves and a root, built, stored in an image and walked, also under a higher
-- sequence number; and the same with one link wrong.
-- Assumes nothing.
use Prim.Native.Nat.{ℕ, zero, suc, ◌+◌, ◌^◌, ◌≤◌, ◌<◌}
use native.Mathlib.Omega.{arith}
use mathlib.Core.Path.{◌≡◌, refl, sym, ap, ◌∙◌, subst}
use mathlib.Core.Bool.{true, false}
use mathlib.Core.List.{List, [], ◌∷◌, ◌++◌, append-nil}
use lib.ListN.{length, replicate, length-replicate}
use lib.Seq.{drop-nil}
use Rattle.codec.specs.Bytes as bytes
use Rattle.codec.specs.Bytes.{IsBytes}
use Rattle.codec.specs.Question.{Outcome, done}
use Rattle.codec.specs.Records as records
use Rattle.codec.specs.Records.{bytes_of, refcounts}
use Rattle.codec.specs.Accepted as accepted
use Rattle.codec.specs.Refcounts as refcount
use Rattle.codec.specs.declared.refcount.Refcount.{Refcount}
use Rattle.codec.proofs.ListBytes.{IsBytes-bytes_of}
use Rattle.codec.proofs.Overwrites.{IsBytes-zeros}
use Rattle.codec.proofs.RecordKinds.{refcounts-lawful}
use Rattle.blocks.specs.declared.geometry.Geometry.{Geometry}
use Rattle.blocks.specs.declared.kind.TreeKind.TheVariants as kind
use Rattle.blocks.specs.Geometry as geometry
use Rattle.blocks.specs.Geometry.{among, null_ag_block, Fits, with_lsn}
use Rattle.blocks.specs.Tree as tree
use Rattle.trees.specs.Plan as plan
use Rattle.walks.specs.Walk.{Trace, finished, visits, ending, by_level, visit_of, look_in}
use Rattle.walks.specs.WalkCall.{Report, Lent, walk_of, report, blocks_after}
use Rattle.walks.specs.Links.{rightsib_of, says_linked, relinked_in}
use Rattle.trees.specs.Build.{AreNumbers, Places, stored}
use Rattle.trees.specs.BuildCall.{built_bytes, build_outcome}
use Rattle.walks.specs.Shapes.{shape_of}
use Rattle.trees.specs.RoundTrip.{LongEnough, Returned}
use Rattle.walks.specs.Forest.{ReadTree}
use Rattle.trees.proofs.BuiltReturned.{finished-after, stored-returned}
use Rattle.trees.proofs.BuiltBytes.{built-bytes, stored_bytes}
use Rattle.walks.proofs.FinishedWalks.{every-walk}
use Rattle.walks.proofs.OneLink.{one-link-wrong}
use Rattle.walks.specs.Later.{NoneNewer}
use Rattle.walks.proofs.LaterWalks.{finished-known, every-later-walk}

abbrev pub small : Geometry
small = record { version = 5; blocksize = 512; agblocks = 3; agno = 0; meta_uuid = replicate 16 0; last_lsn = 5 }

pub small-fits : Fits small
small-fits = record { agno_fits = omega arith; agblocks_fits = omega arith; uuid_long = refl; uuid_bytes = IsBytes-zeros 16; lsn_fits = omega arith }

-- n counts of one block each and two owners, on every second block
unfoldable pub counted : ℕ → ℕ → List Refcount
counted b zero = []
counted b (suc n) = record { startblock = b; blockcount = 1; refcount = 2 } ∷ counted (b + 2) n

-- one more than a leaf holds
abbrev pub list : List ℕ
list = bytes_of refcounts (counted 0 39)

list_bytes : IsBytes list
list_bytes = IsBytes-bytes_of refcounts refcounts-lawful (counted 0 39)

abbrev pub numbers : List ℕ
numbers = 0 ∷ 1 ∷ 2 ∷ []

pub small-numbers : AreNumbers numbers
small-numbers zero = omega arith
small-numbers (suc zero) = omega arith
small-numbers (suc (suc zero)) = omega arith
small-numbers (suc (suc (suc i))) = omega arith

built : build_outcome small kind.Refcount list numbers 1536 ≡ done (built_bytes small kind.Refcount list numbers)
unfolding build_outcome counted bytes.be_of bytes.be_bytes records.fields_of records.field_bytes records.first_records records.records_of records.bytes_of accepted.whole accepted.in_order refcount.staging refcount.good refcount.follows geometry.is_version geometry.is_block_size geometry.geometry_ok tree.header_len plan.ceil plan.leaves plan.above plan.levels_of plan.sum
built = refl

-- an image of three blocks, in which the tree is stored
abbrev pub image : List ℕ
image = stored 512 (replicate 1536 0) numbers (built_bytes small kind.Refcount list numbers)

pub small-places : Places 512 (length {A = ℕ} (replicate 1536 0)) numbers
small-places =
    subst (λ (n : ℕ). Places 512 n numbers) (sym (length-replicate {A = ℕ} 1536 0))
    (omega arith, (λ e. omega arith, (λ e. omega arith, tt)), (omega arith, (λ e. omega arith, tt), (omega arith, tt, tt)))

-- what is lent: 12's stack and scratch, and lists as long as needed
abbrev pub room : Lent
room = record { stack = 18; scratch = 3; blocks = 3; bytes = 468 }

long-enough : LongEnough list numbers room
unfolding counted bytes.be_bytes records.field_bytes records.bytes_of
long-enough = record { stack = omega arith; scratch = omega arith; blocks = omega arith; bytes = omega arith }

-- it comes back, under the number that it was built with and any higher one
returned-at : (n : ℕ) → 5 ≤ n → Returned (with_lsn small n) kind.Refcount list numbers image room
returned-at =
    stored-returned small kind.Refcount list numbers (built_bytes small kind.Refcount list numbers) 1536 small-fits list_bytes small-numbers built (replicate 1536 0) room
    small-places (omega arith) long-enough

returned : Returned small kind.Refcount list numbers image room
returned = returned-at 5 (omega arith)

-- the walk from the root, block 2, over two levels answers with counts
pub small-walk : (report 12 (walk_of small kind.Refcount image 2 2 room)).outcome ≡ done (record { visits = 3; records = 39; bytes = 468 })
unfolding counted bytes.be_bytes records.field_bytes records.bytes_of tree.header_len plan.ceil plan.leaves plan.above plan.levels_of
small-walk = ap (λ (p : Report). p.outcome) returned.reported

-- and so it does where the log has come to 7
pub later-walk : (report 12 (walk_of (with_lsn small 7) kind.Refcount image 2 2 room)).outcome ≡ done (record { visits = 3; records = 39; bytes = 468 })
unfolding counted bytes.be_bytes records.field_bytes records.bytes_of tree.header_len plan.ceil plan.leaves plan.above plan.levels_of
later-walk = ap (λ (p : Report). p.outcome) (returned-at 7 (omega arith)).reported

-- the walk that 30 did not refuse under 5 comes to the same under 7
pub later_same : walk_of (with_lsn small 7) kind.Refcount image 2 2 room ≡ walk_of small kind.Refcount image 2 2 room
later_same =
    let f = (every-walk small kind.Refcount image 2 2 room).finishes 12 (record { visits = 3; records = 39; bytes = 468 }) small-walk in
    every-later-walk small kind.Refcount image 2 2 room 7 (omega arith) (subst NoneNewer (sym f.1) (finished-known f.0 f.2))

-- so it read a tree
pub small-read : (t : Trace) × (walk_of small kind.Refcount image 2 2 room ≡ done t) × ReadTree (look_in (shape_of small kind.Refcount) image) (visit_of 2 1) t
small-read =
    let d = every-walk small kind.Refcount image 2 2 room in
    let f = d.finishes 12 (record { visits = 3; records = 39; bytes = 468 }) small-walk in
    (f.0, f.1, d.reads f.0 f.1 f.2)

-- ---- one link wrong

image-bytes : IsBytes image
unfolding geometry.is_version geometry.is_block_size geometry.geometry_ok
image-bytes =
    stored_bytes 512 (replicate 1536 0) numbers (built_bytes small kind.Refcount list numbers) (IsBytes-zeros 1536)
    (built-bytes small kind.Refcount list numbers refl refl small-fits list_bytes)

small-linked : says_linked 512 image 2 (walk_of small kind.Refcount image 2 2 room) ≡ true
unfolding counted bytes.be_bytes records.field_bytes records.bytes_of tree.header_len plan.ceil plan.leaves plan.above plan.levels_of
small-linked = returned.linked

-- bytes put into no list are the list
put-in-none : (l : List ℕ) → bytes.with_bytes [] 0 l ≡ l
unfolding bytes.with_bytes
put-in-none l = ap (λ (x : List ℕ). l ++ x) (drop-nil (0 + length l)) ∙ append-nil l

-- the blocks that the walk gave
small-blocks : (t : Trace) → walk_of small kind.Refcount image 2 2 room ≡ done t → ending t ≡ finished → by_level 2 (visits t) ≡ numbers
unfolding counted bytes.be_bytes records.field_bytes records.bytes_of tree.header_len plan.ceil plan.leaves plan.above plan.levels_of
small-blocks t e f =
    sym (put-in-none (by_level 2 (visits t)))
    ∙ sym (finished-after (bytes.with_bytes [] 0 (by_level 2 (visits t))) [] t f)
    ∙ ap (λ (o : Outcome Trace). blocks_after 2 o []) (sym e)
    ∙ returned.blocks []
    ∙ put-in-none numbers

-- another number
abbrev other : ℕ → ℕ
other zero = 1
other (suc n) = 0

other_differs : (n : ℕ) → other n ≡ n → ⊥
other_differs zero e = omega arith
other_differs (suc n) e = omega arith

other-small : (n : ℕ) → other n < 2 ^ 32
other-small zero = omega arith
other-small (suc n) = omega arith

-- the leaf 0 names another block after it
abbrev pub wrong : List ℕ
wrong = relinked_in small image 0 null_ag_block (other (rightsib_of 512 image 0))

-- the walk reads the same tree, and it is not linked
pub small-wrong : (t : Trace) × (walk_of small kind.Refcount wrong 2 2 room ≡ done t) × (says_linked 512 wrong 2 (done t) ≡ false)
small-wrong =
    let d = every-walk small kind.Refcount image 2 2 room in
    let f = d.finishes 12 (record { visits = 3; records = 39; bytes = 468 }) small-walk in
    let w =
    one-link-wrong small kind.Refcount image 2 2 room f.0 0 null_ag_block (other (rightsib_of 512 image 0)) image-bytes f.1
    (subst (λ (o : Outcome Trace). says_linked 512 image 2 o ≡ true) f.1 small-linked)
    (ap (among 0) (small-blocks f.0 f.1 f.2)) (omega arith) (other-small (rightsib_of 512 image 0))
    (λ l r. other_differs (rightsib_of 512 image 0) r) in
    (f.0, w.0, w.1)
