-- A tree that build built is one that every lookup may be made in: the walk accepts it, its records pass 20 and its keys are theirs.
-- Assumes nothing.
use Rattle.std.proofs.Common.{◌≡◌, ℕ, ◌-◌, ◌*◌, ◌/◌, ◌≤◌, max, true, List, [], ◌∷◌, length, sym, ap, ◌∙◌, subst, arith, eqb-true, le-leb, leb-true}
use Rattle.codec.specs.Bytes.{IsBytes}
use Rattle.codec.specs.Question.{done}
use Rattle.codec.specs.Records.{records_of, rmaps}
use Rattle.codec.specs.Rmaps.{accepted}
use Rattle.codec.proofs.Meaning.{AllHold, done-means}
use Rattle.blocks.specs.declared.geometry.Geometry.{Geometry}
use Rattle.blocks.specs.declared.kind.TreeKind.TheVariants as kind
use Rattle.blocks.specs.Geometry.{geometry_ok, with_lsn}
use Rattle.trees.specs.Plan.{sum, leaves, above, levels_of}
use Rattle.trees.specs.BlockLayout.{Sound}
use Rattle.walks.specs.Walk.{visit_of, Trace, run, fit, visits, Shape, per_leaf, per_node, look_in}
use Rattle.walks.specs.Shapes.{shape_of}
use Rattle.walks.specs.WalkCall.{stack_places, walk_in}
use Rattle.trees.specs.Build.{plan_of, build, root_of, AreNumbers, Holds}
use Rattle.trees.specs.BuildCall.{layout_of, build_questions, built_bytes, build_outcome}
use Rattle.trees.specs.RoundTrip.{levels_for}
use Rattle.walks.proofs.Steps.{meet-visits}
use Rattle.trees.proofs.Sharing.{leaves-some, leaves-room, above-shaped}
use Rattle.trees.proofs.BlockBytes.{Held}
use Rattle.trees.proofs.TreeKinds.{sound}
use Rattle.trees.proofs.Stored.{Made, build-made, held-blocks}
use Rattle.trees.proofs.WalkedBack.{Back, built-returned}
use Rattle.trees.proofs.BuiltReturned.{whole-records}
use Rattle.lookup.specs.Claims.{KeysTheirs, Agrees, EveryBuilt, EveryBuiltLookup}
use Rattle.lookup.specs.Lookup.{lookup_of}
use Rattle.lookup.proofs.KeyStarts.{accepted-bounded}
use Rattle.walks.specs.Later.{NoneNewer}
use Rattle.walks.proofs.LaterWalks.{finished-known, every-later-walk}
use Rattle.lookup.proofs.Looked.{every-lookup}
use Rattle.lookup.proofs.LaterLookups.{every-later-lookup}
use Rattle.lookup.proofs.BuiltKeys.{Fine, walked-alone, KeyedWhole, plan-keyed}

module _ (g : Geometry) (ok : geometry_ok g ≡ true) (s : Sound (layout_of g kind.Rmap)) (image : List ℕ) (limit : ℕ) where
  abbrev sh : Shape
  sh = shape_of g kind.Rmap

  built-keyed : (numbers bytes : List ℕ) (n : ℕ) → length bytes ≡ n * 24 → length (plan_of sh bytes) ≤ 9 → length numbers ≡ sum (plan_of sh bytes) → AreNumbers numbers
      → length numbers ≤ limit → IsBytes bytes → Fine bytes → Held (layout_of g kind.Rmap) image (build (layout_of g kind.Rmap) numbers bytes) → KeyedWhole g ok s image limit (length (plan_of sh bytes)) numbers
  unfolding build levels_of sum
  built-keyed numbers bytes n are few long small most bytes-are fine holds =
      let q : length bytes / 24 ≡ n = omega arith in
      let m : ℕ = length bytes / 24 in
      let k : ℕ = leaves (per_leaf sh) m in
      let room : n ≤ k * per_leaf sh = omega (arith, leaves-room (per_leaf sh) m s.sized.leaf_some) in
      plan-keyed g ok s image limit k (above (per_node sh) k 9) numbers bytes n (leaves-some (per_leaf sh) m) room
      (above-shaped (per_node sh) k 9 s.sized.node_some (leaves-some (per_leaf sh) m) (omega arith))
      (omega arith) long small most bytes-are are fine holds

  walk-keys : (numbers : List ℕ) (levels : ℕ) → KeyedWhole g ok s image limit levels numbers
      → KeysTheirs sh image limit (visits (run (look_in sh image) limit (visit_of (root_of numbers) (levels - 1) ∷ [])))
  walk-keys numbers levels k =
      subst (KeysTheirs sh image limit) (sym (ap visits (walked-alone (look_in sh image) limit (visit_of (root_of numbers) (levels - 1)) k.steps k.walked k.short) ∙ meet-visits k.steps)) k.keys

-- every question of build held
build-held : (g : Geometry) (list numbers bytes : List ℕ) (room : ℕ) → build_outcome g kind.Rmap list numbers room ≡ done bytes
    → AllHold (build_questions g kind.Rmap list (length numbers) room) × (built_bytes g kind.Rmap list numbers ≡ bytes)
unfolding build_outcome
build-held g list numbers bytes room e = done-means (build_questions g kind.Rmap list (length numbers) room) (built_bytes g kind.Rmap list numbers) bytes e

some-levels : (g : Geometry) (list : List ℕ) → 1 ≤ levels_for g kind.Rmap list
unfolding levels_of
some-levels g list = omega arith

pub every-built : EveryBuilt
unfolding walk_in
every-built g list numbers bytes image room m st long =
    let a = build-held g list numbers bytes room st.built in
    let sh : Shape = shape_of g kind.Rmap in
    let levels : ℕ = levels_for g kind.Rmap list in
    let limit : ℕ = max g.agblocks 64 in
    let ok : geometry_ok g ≡ true = a.0.0 in
    let s : Sound (layout_of g kind.Rmap) = sound g kind.Rmap ok a.0.1.0 st.fits in
    let records-whole : length list ≡ length list / 24 * 24 = whole-records 24 list a.0.1.1.0 in
    let order : accepted (records_of rmaps list) ≡ true = a.0.1.1.1.0 in
    let few : length (plan_of sh list) ≤ 9 = leb-true (length (plan_of sh list)) 9 a.0.1.1.1.1.0 in
    let planned : length numbers ≡ sum (plan_of sh list) = eqb-true (length numbers) (sum (plan_of sh list)) a.0.1.1.1.1.1.0 in
    let made : Made g.blocksize (build (layout_of g kind.Rmap) numbers list) numbers = build-made (layout_of g kind.Rmap) s.sized numbers list few planned in
    let held : Held (layout_of g kind.Rmap) image (build (layout_of g kind.Rmap) numbers list) =
    held-blocks (layout_of g kind.Rmap) image (build (layout_of g kind.Rmap) numbers list) numbers made (subst (Holds g.blocksize image numbers) (sym a.1) st.held) in
    let v : Trace = run (look_in sh image) limit (visit_of (root_of numbers) (levels - 1) ∷ []) in
    let back : Back (plan_of sh list) numbers list v = built-returned (layout_of g kind.Rmap) s image numbers list (length list / 24) limit records-whole few planned st.small st.list_bytes held st.within in
    let fine : Fine list = (omega arith, accepted-bounded (records_of rmaps list) order) in
    let fit_same : fit m.blocks m.bytes v ≡ v = back.fits m.blocks m.bytes long.blocks long.bytes in
    let some : 1 ≤ levels = some-levels g list in (
      v,
      (
        record {
          walked = rw (ok, le-leb 1 levels some, le-leb levels 9 few, le-leb stack_places m.stack long.stack, le-leb m.blocks m.scratch long.scratch, fit_same);
          ended = back.ended;
          order = ap (λ (l : List ℕ). accepted (records_of rmaps l)) back.in_order ∙ order;
          keys =
              walk-keys g ok s image limit numbers levels
              (built-keyed g ok s image limit numbers list (length list / 24) records-whole few planned st.small st.within st.list_bytes fine held);
        },
        back.in_order,
      ),
    )

pub every-built-lookup : EveryBuiltLookup
every-built-lookup g list numbers bytes image out m places asked room st long q n higher =
    let b = every-built g list numbers bytes image out m st long in
    let levels : ℕ = levels_for g kind.Rmap list in
    let a : Agrees (records_of rmaps list) (visits b.0) asked (lookup_of g image (root_of numbers) levels places asked room) =
    subst (λ (l : List ℕ). Agrees (records_of rmaps l) (visits b.0) asked (lookup_of g image (root_of numbers) levels places asked room)) b.1.1
    (every-lookup g image (root_of numbers) levels m b.0 places asked room b.1.0 q) in
    let same : lookup_of (with_lsn g n) image (root_of numbers) levels places asked room ≡ lookup_of g image (root_of numbers) levels places asked room =
    every-later-lookup g image (root_of numbers) levels places asked room n higher
    (subst NoneNewer (sym a.admitted) (finished-known a.descent a.finishes)) in (
      b.0,
      every-later-walk g kind.Rmap image (root_of numbers) levels m n higher (subst NoneNewer (sym b.1.0.walked) (finished-known b.0 b.1.0.ended))
          ∙ b.1.0.walked,
      b.1.0.ended,
      subst (Agrees (records_of rmaps list) (visits b.0) asked) (sym same) a,
    )
