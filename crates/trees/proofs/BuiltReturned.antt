-- What build built, stored in an image, the walk returns, under every sequence number from the builder's on.
-- Assumes nothing.
use Prim.Native.Nat.{ℕ, ◌-◌, ◌*◌, ◌/◌, ◌%◌, ◌≤◌, max}
use native.Mathlib.Nat.{div-add-mod'}
use native.Mathlib.Omega.{arith}
use mathlib.Core.Path.{◌≡◌, refl, sym, ap, ap₂, ◌∙◌, subst}
use mathlib.Core.Bool.{true, false}
use mathlib.Core.List.{List, [], ◌∷◌}
use lib.ListN.{length}
use borrow.Author.Tests.{le-leb, leb-true, eqb-true}
use Rattle.codec.specs.Bytes.{IsBytes, with_bytes}
use Rattle.codec.specs.Question.{Outcome, done}
use Rattle.codec.specs.Accepted.{whole}
use Rattle.codec.proofs.Meaning.{AllHold, done-means}
use Rattle.blocks.specs.declared.geometry.Geometry.{Geometry}
use Rattle.blocks.specs.declared.kind.TreeKind.{TreeKind}
use Rattle.blocks.specs.Geometry.{geometry_ok, Fits, with_lsn}
use Rattle.blocks.specs.Tree.{has_tree, record_len}
use Rattle.trees.specs.Plan.{sum, levels_of}
use Rattle.walks.specs.Walk.{Shape, Trace, finished, spent, failed, met, visit_of, run, fit, visits, records, ending, by_level, look_in}
use Rattle.walks.specs.WalkCall.{Lent, stack_places, report_of, if_finished, walk_in, report, blocks_after, records_after}
use Rattle.walks.specs.Memory.{zeros}
use Rattle.walks.specs.Links.{leftsib_of, rightsib_of, levels_linked, says_linked}
use Rattle.trees.specs.BlockLayout.{Sound}
use Rattle.trees.specs.Build.{plan_of, build, root_of, AreNumbers, Holds, Places, stored}
use Rattle.walks.specs.Shapes.{shape_of}
use Rattle.trees.specs.BuildCall.{layout_of, build_questions, built_bytes, build_outcome}
use Rattle.trees.specs.RoundTrip.{levels_for, LongEnough, walk_back, Returned, EveryTree}
use Rattle.walks.specs.Later.{NoneNewer}
use Rattle.walks.proofs.LaterWalks.{finished-known, every-later-walk}
use Rattle.trees.proofs.TreeKinds.{sound}
use Rattle.trees.proofs.Stored.{Made, output-length, build-made, held-blocks, stored-held}
use Rattle.trees.proofs.WalkedBack.{Back, built-returned}
use Rattle.trees.proofs.LinkedBack.{built-linked}

-- ---- what a finished walk comes to

finished-report : (w v b : ℕ) (t : Trace) → ending t ≡ finished → report_of w v b t ≡ record { outcome = done (record { visits = v; records = b / w; bytes = b }); passed = v }
unfolding ending report_of
finished-report w v b finished e = refl
finished-report w v b spent e = let z : ◌≡◌ {A = ℕ} 0 1 = cc in absurd (omega arith)
finished-report w v b (failed n x) e = let z : ◌≡◌ {A = ℕ} 0 1 = cc in absurd (omega arith)
finished-report w v b (met x bytes t) e = finished-report w v b t e

pub finished-after : {A : Type 0} (x y : A) (t : Trace) → ending t ≡ finished → if_finished t x y ≡ x
unfolding ending
finished-after x y finished e = refl
finished-after x y spent e = let z : ◌≡◌ {A = ℕ} 0 1 = cc in absurd (omega arith)
finished-after x y (failed n v) e = let z : ◌≡◌ {A = ℕ} 0 1 = cc in absurd (omega arith)
finished-after x y (met v b t) e = finished-after x y t e

-- ---- the round trip

pub whole-records : (w : ℕ) (l : List ℕ) → whole w l ≡ true → length l ≡ length l / w * w
unfolding whole
whole-records w l e = omega (arith, eqb-true (length l % w) 0 e, div-add-mod' (length l) w)

plan-some : (g : Geometry) (kind : TreeKind) (list : List ℕ) → 1 ≤ levels_for g kind list
unfolding levels_of
plan-some g kind list = omega arith

module _
    (g : Geometry) (kind : TreeKind) (list numbers bytes : List ℕ) (room : ℕ)
    (fits : Fits g) (list_bytes : IsBytes list) (small : AreNumbers numbers)
    (built : build_outcome g kind list numbers room ≡ done bytes)
  where
    -- every question of build held, and these are the blocks
    asked : AllHold (build_questions g kind list (length numbers) room) × (built_bytes g kind list numbers ≡ bytes)
    unfolding build_outcome
    asked = done-means (build_questions g kind list (length numbers) room) (built_bytes g kind list numbers) bytes built

    ok : geometry_ok g ≡ true
    ok = asked.0.0

    tree : has_tree kind g.version ≡ true
    tree = asked.0.1.0

    s : Sound (layout_of g kind)
    s = sound g kind ok tree fits

    few : length (plan_of (shape_of g kind) list) ≤ 9
    few = leb-true (length (plan_of (shape_of g kind) list)) 9 asked.0.1.1.1.1.0

    planned : length numbers ≡ sum (plan_of (shape_of g kind) list)
    planned = eqb-true (length numbers) (sum (plan_of (shape_of g kind) list)) asked.0.1.1.1.1.1.0

    made : Made g.blocksize (build (layout_of g kind) numbers list) numbers
    made = build-made (layout_of g kind) s.sized numbers list few planned

    -- as many blocks as numbers
    pub built-length : length bytes ≡ length numbers * g.blocksize
    built-length = ap length (sym asked.1) ∙ output-length g.blocksize (build (layout_of g kind) numbers list) numbers made

    -- what was built is returned from any image that holds it at the numbers given, whatever else the image holds
    pub round_trip : (image : List ℕ) (m : Lent) → Holds g.blocksize image numbers bytes → length numbers ≤ max g.agblocks 64
        → LongEnough list numbers m → (n : ℕ) → g.last_lsn ≤ n → Returned (with_lsn g n) kind list numbers image m
    unfolding walk_in
    round_trip image m held within long n higher =
        let levels : ℕ = levels_for g kind list in
        let limit : ℕ = max g.agblocks 64 in
        let sh : Shape = shape_of g kind in
        let count : ℕ = length list / record_len kind in
        let v : Trace = run (look_in sh image) limit (visit_of (root_of numbers) (levels - 1) ∷ []) in
        let back : Back (plan_of sh list) numbers list v =
        built-returned (layout_of g kind) s image numbers list count limit (whole-records (record_len kind) list asked.0.1.1.0) few planned small list_bytes
        (held-blocks (layout_of g kind) image (build (layout_of g kind) numbers list) numbers made (subst (Holds g.blocksize image numbers) (sym asked.1) held)) within in
        let fit_same : fit m.blocks m.bytes v ≡ v = back.fits m.blocks m.bytes long.blocks long.bytes in
        let some : 1 ≤ levels = plan-some g kind list in
        let first : walk_back g kind list numbers image m ≡ done v =
        rw (ok, le-leb 1 levels some, le-leb levels 9 few, le-leb stack_places m.stack long.stack, le-leb m.blocks m.scratch long.scratch, fit_same) in
        let is : walk_back (with_lsn g n) kind list numbers image m ≡ done v =
        every-later-walk g kind image (root_of numbers) levels m n higher (subst NoneNewer (sym first) (finished-known v back.ended)) ∙ first in
        record {
          reported =
              ap (report (record_len kind)) is
              ∙ ap₂ (λ (x y : ℕ). report_of (record_len kind) x y v) back.visited (ap length back.in_order)
              ∙ finished-report (record_len kind) (length numbers) (length list) v back.ended;
          records = λ l.
              ap (λ (o : Outcome Trace). records_after o l) is
              ∙ finished-after (with_bytes l 0 (records v)) (zeros l) v back.ended
              ∙ ap (with_bytes l 0) back.in_order;
          blocks = λ l.
              ap (λ (o : Outcome Trace). blocks_after levels o l) is
              ∙ finished-after (with_bytes l 0 (by_level levels (visits v))) (zeros l) v back.ended
              ∙ ap (with_bytes l 0) back.visits_by_level;
          linked =
              ap (says_linked g.blocksize image levels) is
              ∙ finished-after (levels_linked (leftsib_of g.blocksize image) (rightsib_of g.blocksize image) levels (visits v)) false v back.ended
              ∙ built-linked (layout_of g kind) s image numbers list count (visits v) (whole-records (record_len kind) list asked.0.1.1.0) few planned small list_bytes
              (held-blocks (layout_of g kind) image (build (layout_of g kind) numbers list) numbers made (subst (Holds g.blocksize image numbers) (sym asked.1) held)) back.tops;
        }

    -- and from any image in which it was stored at distinct numbers
    pub stored-returned : (image : List ℕ) (m : Lent) → Places g.blocksize (length image) numbers → length numbers ≤ max g.agblocks 64
        → LongEnough list numbers m → (n : ℕ) → g.last_lsn ≤ n → Returned (with_lsn g n) kind list numbers (stored g.blocksize image numbers bytes) m
    stored-returned image m places within long n higher =
        round_trip (stored g.blocksize image numbers bytes) m (stored-held g.blocksize image numbers bytes built-length places).0 within long n higher

-- so every tree that build built comes back
pub every-tree : EveryTree
every-tree = stored-returned
