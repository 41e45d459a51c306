-- The leaves of a built tree under a walk, and the whole tree over any way to look at a block that shows it.
-- Assumes nothing.
use Prim.Native.Nat.{ℕ, suc, ◌+◌, ◌-◌, ◌*◌, ◌<◌}
use native.Mathlib.Nat.{zero-add, add-mul, zero-mul}
use native.Mathlib.Omega.{arith}
use mathlib.Core.Path.{◌≡◌, refl, sym, ap, ap₂, ◌∙◌, subst}
use mathlib.Core.List.{List, [], ◌∷◌, ◌++◌}
use lib.ListN.{length, take, drop, get_or, take-append-drop, length-drop}
use lib.Seq.{take-add, take_all, length-take-le}
use Rattle.trees.specs.Plan.{sum, shares}
use Rattle.trees.specs.BlockLayout.{Layout}
use Rattle.walks.specs.Walk.{Visit, visit_of, Look, good, at_level, by_level}
use Rattle.trees.specs.Build.{Child, leaf_parts, children_of}
use Rattle.trees.proofs.InStep.{flat, Along}
use Rattle.walks.proofs.Steps.{Step, step_of, visits_in, records_in, level_in, level-this, level-other, Walked, walked_none, walked_block}
use Rattle.trees.proofs.Sharing.{Shaped, shares-length, shares_sum}
use Rattle.trees.proofs.LevelWalk.{numbers_of, numbers-length, numbers-of-children, Rooted, Tops, Level, Whole, AboveSeen, whole}

pub leaf-parts-length : (t : Layout) (counts bytes : List ℕ) → length (leaf_parts t counts bytes) ≡ length counts
unfolding leaf_parts
leaf-parts-length t [] bytes = refl
leaf-parts-length t (c ∷ counts) bytes = ap suc (leaf-parts-length t counts (drop (c * t.shape.record_length) bytes))

module _ (t : Layout) where
  abbrev w : ℕ
  w = t.shape.record_length

  -- the steps of the leaves: each alone
  unfoldable pub leaf_steps : List ℕ → List ℕ → List ℕ → List (List Step)
  leaf_steps [] counts bytes = []
  leaf_steps (n ∷ ns) [] bytes = []
  leaf_steps (n ∷ ns) (c ∷ counts) bytes = (step_of n 0 (take (c * w) bytes) ∷ []) ∷ leaf_steps ns counts (drop (c * w) bytes)

  pub leaf-records : (ns counts bytes : List ℕ) → length ns ≡ length counts → records_in (flat (leaf_steps ns counts bytes)) ≡ take (sum counts * w) bytes
  unfolding leaf_steps flat sum records_in
  leaf-records [] [] bytes h = rw zero-mul
  leaf-records [] (c ∷ counts) bytes h = absurd (omega arith)
  leaf-records (n ∷ ns) [] bytes h = absurd (omega arith)
  leaf-records (n ∷ ns) (c ∷ counts) bytes h =
      ap (λ (l : List ℕ). take (c * w) bytes ++ l) (leaf-records ns counts (drop (c * w) bytes) (omega arith))
      ∙ sym (take-add (c * w) (sum counts * w) bytes)
      ∙ ap (λ (n : ℕ). take n bytes) (sym (add-mul c (sum counts) w))

  pub leaf-count : (ns counts bytes : List ℕ) → length ns ≡ length counts → length (flat (leaf_steps ns counts bytes)) ≡ length ns
  unfolding leaf_steps flat
  leaf-count [] counts bytes h = refl
  leaf-count (n ∷ ns) [] bytes h = absurd (omega arith)
  leaf-count (n ∷ ns) (c ∷ counts) bytes h = ap suc (leaf-count ns counts (drop (c * w) bytes) (omega arith))

  pub leaf-numbers : (ns counts bytes : List ℕ) → length ns ≡ length counts → level_in 0 (flat (leaf_steps ns counts bytes)) ≡ ns
  unfolding leaf_steps flat visits_in at_level
  leaf-numbers [] counts bytes h = refl
  leaf-numbers (n ∷ ns) [] bytes h = absurd (omega arith)
  leaf-numbers (n ∷ ns) (c ∷ counts) bytes h =
      level-this 0 n (take (c * w) bytes) (flat (leaf_steps ns counts (drop (c * w) bytes)))
      ∙ ap (λ (l : List ℕ). n ∷ l) (leaf-numbers ns counts (drop (c * w) bytes) (omega arith))

  pub leaf-high : (j : ℕ) (ns counts bytes : List ℕ) → 0 < j → level_in j (flat (leaf_steps ns counts bytes)) ≡ []
  unfolding leaf_steps flat visits_in at_level
  leaf-high j [] counts bytes h = refl
  leaf-high j (n ∷ ns) [] bytes h = refl
  leaf-high j (n ∷ ns) (c ∷ counts) bytes h =
      level-other j 0 n (take (c * w) bytes) (flat (leaf_steps ns counts (drop (c * w) bytes))) (λ e. omega arith)
      ∙ leaf-high j ns counts (drop (c * w) bytes) h

  module _ (look : Visit → Look) where
    -- each leaf shows its part of the records
    abbrev pub LeavesSeen : List ℕ → List ℕ → List ℕ → Type 0
    LeavesSeen [] counts bytes = Unit {0}
    LeavesSeen (n ∷ ns) [] bytes = Unit {0}
    LeavesSeen (n ∷ ns) (c ∷ counts) bytes = (look (visit_of n 0) ≡ good [] (take (c * w) bytes)) × LeavesSeen ns counts (drop (c * w) bytes)

    pub leaves-walked : (ns counts bytes : List ℕ) → LeavesSeen ns counts bytes → Along (Rooted t look 0) (children_of ns (leaf_parts t counts bytes)) (leaf_steps ns counts bytes)
    unfolding children_of leaf_parts leaf_steps
    leaves-walked [] counts bytes s = tt
    leaves-walked (n ∷ ns) [] bytes s = tt
    leaves-walked (n ∷ ns) (c ∷ counts) bytes s = (walked_block look (visit_of n 0) [] (take (c * w) bytes) [] s.0 (walked_none look), leaves-walked ns counts (drop (c * w) bytes) s.1)

    -- the tree of a plan: the walk of its root, whatever is due after it
    pub record Tree (plan numbers bytes : List ℕ) : Type 0 where
      pub steps : List Step
      pub walked : Walked look (visit_of (get_or numbers (length numbers - 1) 0) (length plan - 1) ∷ []) steps
      pub in_order : records_in steps ≡ bytes
      pub visits_by_level : by_level (length plan) (visits_in steps) ≡ numbers
      pub visited : length steps ≡ length numbers
      pub tops : Tops 0 plan numbers (visits_in steps)

    module _ (p k : ℕ) (ks numbers bytes : List ℕ) (n : ℕ)
        (some : 0 < k) (shaped : Shaped p k ks) (long : length numbers ≡ k + sum ks) (are : length bytes ≡ n * w)
        (leaves-seen : LeavesSeen (take k numbers) (shares n k) bytes)
        (above-seen : AboveSeen t look 0 ks (drop k numbers) (children_of (take k numbers) (leaf_parts t (shares n k) bytes)))
      where
        abbrev ns : List ℕ
        ns = take k numbers

        abbrev counts : List ℕ
        counts = shares n k

        abbrev cs : List Child
        cs = children_of ns (leaf_parts t counts bytes)

        abbrev ts : List (List Step)
        ts = leaf_steps ns counts bytes

        ns-length : length ns ≡ k
        ns-length = length-take-le k numbers (omega arith)

        in_step : length ns ≡ length counts
        in_step = ns-length ∙ sym (shares-length n k 0 k)

        leaves-numbers : numbers_of cs ≡ ns
        leaves-numbers = numbers-of-children ns (leaf_parts t counts bytes) (in_step ∙ sym (leaf-parts-length t counts bytes))

        leaves-length : length cs ≡ k
        leaves-length = sym (numbers-length cs) ∙ ap length leaves-numbers ∙ ns-length

        leaves-level : Level t look 0 cs ts
        leaves-level = record { walked = leaves-walked ns counts bytes leaves-seen; high = λ j h. leaf-high j ns counts bytes h }

        leaves-whole : Whole t look 0 ks (drop k numbers) cs ts
        leaves-whole = whole t look p ks 0 (drop k numbers) cs ts leaves-level (subst (λ (x : ℕ). Shaped p x ks) (sym leaves-length) shaped) (omega (arith, length-drop k numbers)) above-seen

        leaves-in-order : records_in (flat ts) ≡ bytes
        leaves-in-order = leaf-records ns counts bytes in_step ∙ ap (λ (m : ℕ). take (m * w) bytes) (shares_sum n k some) ∙ take_all (n * w) bytes (omega arith)

        leaves-by-level : by_level 1 (visits_in (flat ts)) ≡ ns
        unfolding by_level
        leaves-by-level = leaf-numbers ns counts bytes in_step

        pub tree : Tree (k ∷ ks) numbers bytes
        tree =
            let v : Whole t look 0 ks (drop k numbers) cs ts = leaves-whole in
            let top : 0 + length ks ≡ suc (length ks) - 1 = omega arith in
            let last : length cs + length (drop k numbers) - 1 ≡ length numbers - 1 = omega (arith, leaves-length, length-drop k numbers) in
            let all : numbers_of cs ++ drop k numbers ≡ numbers = ap (λ (l : List ℕ). l ++ drop k numbers) leaves-numbers ∙ take-append-drop k numbers in
            let root : v.root ≡ get_or numbers (length numbers - 1) 0 = v.is-root ∙ ap₂ (λ (l : List ℕ) (m : ℕ). get_or l m 0) all last in
            record {
              steps = v.steps;
              walked = subst (λ (x : Visit). Walked look (x ∷ []) v.steps) (ap₂ visit_of root top) v.walked;
              in_order = v.in_order ∙ leaves-in-order;
              visits_by_level =
                  ap (λ (m : ℕ). by_level (suc m) (visits_in v.steps)) (sym (zero-add (length ks)))
                  ∙ v.visits_by_level
                  ∙ ap (λ (l : List ℕ). l ++ drop k numbers) leaves-by-level
                  ∙ take-append-drop k numbers;
              visited = omega (arith, v.visited, leaf-count ns counts bytes in_step, length-drop k numbers, ns-length);
              tops = (v.below 0 (omega arith) ∙ leaf-numbers ns counts bytes in_step, v.tops);
            }
