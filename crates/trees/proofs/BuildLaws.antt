-- The questions of build in order: what each answer comes to, and what the next function is asked.
-- Assumes nothing.
use Prim.Native.Nat.{ℕ, ◌*◌, ◌/◌, ◌≤◌, ◌<◌}
use native.Mathlib.Nat.{le-div_iff_mul-le, div-lt_iff_lt-mul}
use native.Mathlib.Omega.{arith}
use mathlib.Core.Path.{◌≡◌, refl, sym, ap, ◌∙◌, subst}
use mathlib.Core.Bool.{Bool, true, false}
use Rattle.std.specs.Prelude.{Option, Some, None, Result, Ok, Err}
use Rattle.std.specs.Option.{ok_or}
use mathlib.Core.List.{List, [], ◌∷◌}
use lib.Dec.{leb, eqb}
use lib.ListN.{length, take}
use borrow.Author.Tests.{eq-eqb, ne_eqb, le-leb, lt-leb}
use Rattle.codec.specs.Bytes.{with_bytes}
use Rattle.codec.specs.Question.{none, Outcome, done, refused, ask, answer}
use Rattle.codec.specs.Accepted.{whole}
use Rattle.codec.specs.Rmaps as rmap
use Rattle.codec.specs.Refcounts as refcount
use Rattle.free.specs.Free as free
use Rattle.codec.specs.ListRefusal.{list_number, list_outcome}
use Rattle.codec.specs.declared.check.ListRefusal.{ListRefusal}
use Rattle.codec.proofs.Meaning.{done-means}
use Rattle.blocks.specs.declared.geometry.Geometry.{Geometry}
use Rattle.blocks.specs.declared.kind.TreeKind.{TreeKind}
use Rattle.blocks.specs.declared.kind.TreeKind.TheVariants.{Rmap, Refcount, ByBlock, BySize}
use Rattle.blocks.specs.Geometry.{geometry_ok}
use Rattle.blocks.specs.Tree.{has_tree, record_len}
use Rattle.blocks.proofs.Laws.{overlapping-is, blocksize-within}
use Rattle.trees.specs.Plan.{levels_of, sum}
use Rattle.walks.specs.Walk.{per_leaf, per_node}
use Rattle.walks.specs.Shapes.{shape_of}
use Rattle.trees.specs.Inner.LevelPlans.{PlanOf, LevelsAre}
use Rattle.trees.specs.declared.plan.Planned.{Planned}
use Rattle.trees.specs.declared.build.BuildRefusal.TheVariants as why
use Rattle.trees.specs.declared.build.BuildRefusal.{BuildRefusal}
use Rattle.trees.specs.Build.{plan_of, build}
use Rattle.trees.specs.BuildCall.{layout_of, order_number, ordered, built_bytes, build_outcome}
use Rattle.trees.specs.Inner.BuildSteps.{check_list, room_outcome, plan_then_room}
use Rattle.trees.specs.BuildAnswer.{Builds}
use Rattle.trees.specs.Inner.BuildNeeds.{Keyed, Given, Laid, Tree}
use Rattle.trees.proofs.KeyLaws.{accepted-good}
use Rattle.trees.proofs.PlanLaws.{few-most, few-taken, few-inside}
use Rattle.trees.proofs.Stored.{output-length, build-made}
use Rattle.trees.proofs.TreeKinds.{sized}
use Rattle.trees.proofs.BuiltReturned.{whole-records}

-- ---- 17 and 18

module _ (g : Geometry) (kind : TreeKind) (list levels numbers out : List ℕ) (total : ℕ) (gv : Given g kind list) (ld : Laid g kind list levels) (all : total ≡ sum levels) where
  abbrev plan : List ℕ
  plan = plan_of (shape_of g kind) list

  total-is : total ≡ sum plan
  total-is = all ∙ ap sum ld.plan

  pub not-17 : (total ≡ length numbers → ⊥) → Builds (room_outcome g kind list numbers (length out)) (Err why.Blocks) out out
  unfolding room_outcome
  not-17 h =
      let e : eqb (length numbers) (sum plan) ≡ false = ne_eqb (length numbers) (sum plan) (λ x. h (total-is ∙ sym x)) in
      record { outcome = rw e refl; output = rw e refl }

  module _ (h : total ≡ length numbers) where
    has-17 : eqb (length numbers) (sum plan) ≡ true
    has-17 = eq-eqb (length numbers) (sum plan) (sym h ∙ total-is)

    same : sum plan ≡ length numbers
    same = sym total-is ∙ h

    size-some : 0 < g.blocksize
    size-some = omega (arith, (blocksize-within g gv.ok).0)

    pub not-18 : length out / g.blocksize < length numbers → Builds (room_outcome g kind list numbers (length out)) (Err why.Output) out out
    unfolding room_outcome
    not-18 l =
        let e : leb (sum plan * g.blocksize) (length out) ≡ false =
        lt-leb (sum plan * g.blocksize) (length out) (below (omega (arith, same))) in
        record { outcome = rw (has-17, e) refl; output = rw (has-17, e) refl }
      where
        below : length out / g.blocksize < sum plan → length out < sum plan * g.blocksize
        below x = (div-lt_iff_lt-mul size-some).0 x

    module _ (l : length numbers ≤ length out / g.blocksize) where
      pub fits-18 : length numbers * g.blocksize ≤ length out
      fits-18 = (le-div_iff_mul-le size-some).0 l

      pub tree-18 : Tree g levels numbers out
      tree-18 = record { blocks = sym h ∙ all; long = fits-18 }

      pub done-18 : length g.meta_uuid ≡ 16 → (out' : List ℕ) → out' ≡ with_bytes out 0 (built_bytes g kind list numbers)
          → Builds (room_outcome g kind list numbers (length out)) (Ok (length numbers * g.blocksize)) out out'
      unfolding room_outcome
      done-18 uuid out' e =
          let r : leb (sum plan * g.blocksize) (length out) ≡ true = le-leb (sum plan * g.blocksize) (length out) (subst (λ (x : ℕ). x * g.blocksize ≤ length out) (sym same) fits-18) in
          let few : length plan ≤ 9 = subst (λ (x : List ℕ). length x ≤ 9) ld.plan ld.few in
          let long : length (built_bytes g kind list numbers) ≡ length numbers * g.blocksize =
          output-length g.blocksize (build (layout_of g kind) numbers list) numbers
          (build-made (layout_of g kind) (sized g kind gv.ok gv.tree uuid) numbers list few (sym same)) in
          record { outcome = rw (has-17, r) (ap done (sym long)); output = rw (has-17, r) e }

-- ---- 16

module _ (g : Geometry) (kind : TreeKind) (list numbers out : List ℕ) (q : Given g kind list) (v : ℕ) (ve : v ≡ record_len kind) where
  abbrev ls : List ℕ
  ls = plan_of (shape_of g kind) list

  abbrev planned-levels : ℕ → List ℕ
  planned-levels w = levels_of (per_leaf (shape_of g kind)) (per_node (shape_of g kind)) (length list / w)

  module _ (p : Planned) (is : PlanOf (planned-levels v) p) where
    said : PlanOf ls p
    said = subst (λ (w : ℕ). PlanOf (planned-levels w) p) ve is

    pub levels-in : p.levels ≤ length p.blocks
    levels-in = few-inside ls p said

    cut : take p.levels p.blocks ≡ ls
    cut = few-taken ls p said

    pub plan-laid : Laid g kind list (take p.levels p.blocks)
    plan-laid = record { plan = cut; few = rw cut (few-most ls p said) }

    pub plan-all : p.total ≡ sum (take p.levels p.blocks)
    plan-all = said.all ∙ ap sum (sym cut)

    pub has-16 : (r : Result ℕ BuildRefusal) (out' : List ℕ) → Builds (room_outcome g kind list numbers (length out)) r out out' → Builds (plan_then_room g kind list numbers (length out)) r out out'
    unfolding plan_then_room
    has-16 r out' b = rw said.few b

  not_16 : leb (length (planned-levels v)) 9 ≡ false → Builds (plan_then_room g kind list numbers (length out)) (Err why.Levels) out out
  unfolding plan_then_room
  not_16 f = let t : leb (length ls) 9 ≡ false = subst (λ (w : ℕ). leb (length (planned-levels w)) 9 ≡ false) ve f in record { outcome = rw t refl; output = rw t refl }

  -- what the `?` on the plan passes up
  pub refused-16 : (o : Option Planned) (r : BuildRefusal) → LevelsAre (planned-levels v) o → ok_or o why.Levels ≡ Err r
      → Builds (plan_then_room g kind list numbers (length out)) (Err r) out out
  refused-16 (Some p) r is e = cc
  refused-16 None r f e = let z : why.Levels ≡ r = cc in subst (λ (x : BuildRefusal). Builds (plan_then_room g kind list numbers (length out)) (Err x) out out) z (not_16 f)

-- ---- 19, and 20 or 21

abbrev list_answer : {A : Type 0} → TreeKind → List ℕ → Outcome A → Outcome A
list_answer kind list o = answer (ask 19 (whole (record_len kind) list) ∷ ask (order_number kind) (ordered kind list) ∷ []) o

list-is : (kind : TreeKind) (list : List ℕ) → check_list kind list ≡ list_answer kind list (done (length list / record_len kind))
unfolding rmap.check_order refcount.check_order free.check_order
list-is Rmap list = refl
list-is Refcount list = refl
list-is ByBlock list = refl
list-is BySize list = refl

keyed : (kind : TreeKind) (list : List ℕ) → ordered kind list ≡ true → Keyed kind list
keyed kind list e t = accepted-good list (subst (λ (k : TreeKind). ordered k list ≡ true) (overlapping-is kind t) e)

-- a refusal stays the same whatever would come after it
refused-same : {A B : Type 0} (a b : Bool) (k : ℕ) (x : A) (o : Outcome B) (n : ℕ)
    → answer (ask 19 a ∷ ask k b ∷ []) (done x) ≡ refused n none → answer (ask 19 a ∷ ask k b ∷ []) o ≡ refused n none
refused-same true true k x o n e = let z : ◌≡◌ {A = ℕ} 0 1 = cc in absurd (omega arith)
refused-same true false k x o n e = ap (λ (m : ℕ). refused m none) (let z : k ≡ n = cc in z)
refused-same false b k x o n e = ap (λ (m : ℕ). refused m none) (let z : 19 ≡ n = cc in z)

-- ---- the whole

module _ (g : Geometry) (kind : TreeKind) (list numbers out : List ℕ) where
  pub not-1 : geometry_ok g ≡ false → Builds (build_outcome g kind list numbers (length out)) (Err why.BadGeometry) out out
  unfolding build_outcome
  not-1 e = record { outcome = rw e refl; output = rw e refl }

  module _ (ok : geometry_ok g ≡ true) where
    pub not-3 : has_tree kind g.version ≡ false → Builds (build_outcome g kind list numbers (length out)) (Err why.NoTree) out out
    unfolding build_outcome
    not-3 e = record { outcome = rw (ok, e) refl; output = rw (ok, e) refl }

    module _ (tree : has_tree kind g.version ≡ true) where
      then-list : build_outcome g kind list numbers (length out) ≡ list_answer kind list (plan_then_room g kind list numbers (length out))
      unfolding build_outcome plan_then_room room_outcome
      then-list = rw (ok, tree) refl

      pub not-list : (r : ListRefusal) → list_outcome (Err r) ≡ check_list kind list
          → Builds (build_outcome g kind list numbers (length out)) (Err (why.List r)) out out
      not-list r h =
          let o : build_outcome g kind list numbers (length out) ≡ refused (list_number r) none =
          then-list
          ∙ refused-same (whole (record_len kind) list) (ordered kind list) (order_number kind) (length list / record_len kind) (plan_then_room g kind list numbers (length out)) (list_number r)
          (sym (list-is kind list) ∙ sym h) in
          rw o (record { outcome = refl; output = refl })

      module _ (n : ℕ) (h : list_outcome (Ok n) ≡ check_list kind list) where
        held : (whole (record_len kind) list ≡ true) × (ordered kind list ≡ true)
        held =
            let m = done-means (ask 19 (whole (record_len kind) list) ∷ ask (order_number kind) (ordered kind list) ∷ []) (length list / record_len kind) n
            (sym (list-is kind list) ∙ sym h) in
            (m.0.0, m.0.1.0)

        pub list-given : Given g kind list
        list-given = record { ok = ok; tree = tree; whole = sym (whole-records (record_len kind) list held.0); keyed = keyed kind list held.1 }

        pub has-list : (r : Result ℕ BuildRefusal) (out' : List ℕ) → Builds (plan_then_room g kind list numbers (length out)) r out out' → Builds (build_outcome g kind list numbers (length out)) r out out'
        has-list r out' b = rw (then-list, held.0, held.1) b
