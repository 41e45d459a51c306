-- The walk of a built tree, level by level, over any way to look at a block that shows the tree's blocks.
-- Assumes nothing.
use Prim.Native.Nat.{ℕ, suc, ◌+◌, ◌-◌, ◌≤◌, ◌<◌}
use native.Mathlib.Nat.{zero-add, add-zero}
use native.Mathlib.Omega.{arith}
use mathlib.Core.Path.{◌≡◌, refl, sym, ap, ap₂, ◌∙◌, subst}
use mathlib.Core.List.{List, [], ◌∷◌, ◌++◌, append_assoc, append-nil}
use lib.ListN.{length, take, drop, get_or, length-append, take-append-drop, length-drop}
use lib.Seq.{take-add, take_all, length-take-le, get_or-append-add}
use Rattle.trees.specs.Plan.{sum, shares}
use Rattle.trees.specs.BlockLayout.{Layout}
use Rattle.walks.specs.Walk.{Visit, visit_of, Look, good, at_level, by_level}
use Rattle.trees.specs.Build.{Child, Part, node_parts, children_of}
use Rattle.trees.proofs.InStep.{flat, flat_append, none_both, Along, along-take, along-drop, along-length}
use Rattle.walks.proofs.Steps.{Step, step_of, visits_in, records_in, records-append, level_in, level-append, level-this, level-other, by-level-same, Walked, walked_none, walked-append, walked_block}
use Rattle.trees.proofs.Sharing.{Shaped, shares-length, shares_sum}

-- the visits to children of a level, and their numbers
unfoldable pub visits_to : ℕ → List Child → List Visit
visits_to l [] = []
visits_to l (c ∷ cs) = visit_of c.block l ∷ visits_to l cs

unfoldable pub numbers_of : List Child → List ℕ
numbers_of [] = []
numbers_of (c ∷ cs) = c.block ∷ numbers_of cs

pub numbers-length : (cs : List Child) → length (numbers_of cs) ≡ length cs
unfolding numbers_of
numbers-length [] = refl
numbers-length (c ∷ cs) = ap suc (numbers-length cs)

pub numbers-of-children : (ns : List ℕ) (ps : List Part) → length ns ≡ length ps → numbers_of (children_of ns ps) ≡ ns
unfolding numbers_of children_of
numbers-of-children [] ps h = refl
numbers-of-children (n ∷ ns) [] h = absurd (omega arith)
numbers-of-children (n ∷ ns) (p ∷ ps) h = ap (λ (l : List ℕ). n ∷ l) (numbers-of-children ns ps (omega arith))

pub parts-length : (t : Layout) (counts : List ℕ) (cs : List Child) → length (node_parts t counts cs) ≡ length counts
unfolding node_parts
parts-length t [] cs = refl
parts-length t (n ∷ ns) cs = ap suc (parts-length t ns (drop n cs))

-- a level has as many children as blocks are planned
pub next-numbers : (t : Layout) (k : ℕ) (nums : List ℕ) (cs : List Child) → k ≤ length nums → numbers_of (children_of (take k nums) (node_parts t (shares (length cs) k) cs)) ≡ take k nums
next-numbers t k nums cs h =
    numbers-of-children (take k nums) (node_parts t (shares (length cs) k) cs)
    (length-take-le k nums h ∙ sym (shares-length (length cs) k 0 k) ∙ sym (parts-length t (shares (length cs) k) cs))

pub next-length : (t : Layout) (k : ℕ) (nums : List ℕ) (cs : List Child) → k ≤ length nums → length (children_of (take k nums) (node_parts t (shares (length cs) k) cs)) ≡ k
next-length t k nums cs h =
    sym (numbers-length (children_of (take k nums) (node_parts t (shares (length cs) k) cs))) ∙ ap length (next-numbers t k nums cs h) ∙ length-take-le k nums h

-- ---- the steps of a level of nodes: each node, then the steps of its children

unfoldable pub node_steps : ℕ → List ℕ → List ℕ → List (List Step) → List (List Step)
node_steps l [] counts ts = []
node_steps l (n ∷ ns) [] ts = []
node_steps l (n ∷ ns) (c ∷ counts) ts = (step_of n l [] ∷ flat (take c ts)) ∷ node_steps l ns counts (drop c ts)

-- what is read from the steps and passes over the nodes is as it was below
module _ (l : ℕ) (f : List Step → List ℕ) (joins : (xs ys : List Step) → f (xs ++ ys) ≡ f xs ++ f ys) (skips : (n : ℕ) (ss : List Step) → f (step_of n l [] ∷ ss) ≡ f ss) where
  through-some : (ns counts : List ℕ) (ts : List (List Step)) → length ns ≡ length counts → f (flat (node_steps l ns counts ts)) ≡ f (flat (take (sum counts) ts))
  unfolding node_steps flat sum
  through-some [] [] ts h = refl
  through-some [] (c ∷ counts) ts h = absurd (omega arith)
  through-some (n ∷ ns) [] ts h = absurd (omega arith)
  through-some (n ∷ ns) (c ∷ counts) ts h =
      joins (step_of n l [] ∷ flat (take c ts)) (flat (node_steps l ns counts (drop c ts)))
      ∙ ap₂ (λ (x y : List ℕ). x ++ y) (skips n (flat (take c ts))) (through-some ns counts (drop c ts) (omega arith))
      ∙ sym (joins (flat (take c ts)) (flat (take (sum counts) (drop c ts))))
      ∙ ap f (sym (flat_append (take c ts) (take (sum counts) (drop c ts))) ∙ ap flat (sym (take-add c (sum counts) ts)))

  pub through : (ns counts : List ℕ) (ts : List (List Step)) → length ns ≡ length counts → sum counts ≡ length ts → f (flat (node_steps l ns counts ts)) ≡ f (flat ts)
  through ns counts ts h e = through-some ns counts ts h ∙ ap (λ (x : List (List Step)). f (flat x)) (take_all (sum counts) ts (omega arith))

steps-some : (l : ℕ) (ns counts : List ℕ) (ts : List (List Step)) → length ns ≡ length counts → length (flat (node_steps l ns counts ts)) ≡ length ns + length (flat (take (sum counts) ts))
unfolding node_steps flat sum
steps-some l [] [] ts h = sym (zero-add _)
steps-some l [] (c ∷ counts) ts h = absurd (omega arith)
steps-some l (n ∷ ns) [] ts h = absurd (omega arith)
steps-some l (n ∷ ns) (c ∷ counts) ts h =
    omega (
      arith,
      length-append (flat (take c ts)) (flat (node_steps l ns counts (drop c ts))),
      steps-some l ns counts (drop c ts) (omega arith),
      ap length (ap flat (take-add c (sum counts) ts) ∙ flat_append (take c ts) (take (sum counts) (drop c ts))),
      length-append (flat (take c ts)) (flat (take (sum counts) (drop c ts))),
    )

pub steps-length : (l : ℕ) (ns counts : List ℕ) (ts : List (List Step)) → length ns ≡ length counts → sum counts ≡ length ts → length (flat (node_steps l ns counts ts)) ≡ length ns + length (flat ts)
steps-length l ns counts ts h e = steps-some l ns counts ts h ∙ ap (λ (x : List (List Step)). length ns + length (flat x)) (take_all (sum counts) ts (omega arith))

-- the nodes are the only blocks of their level
pub nodes-at : (l : ℕ) (ns counts : List ℕ) (ts : List (List Step)) → length ns ≡ length counts → level_in l (flat ts) ≡ [] → level_in l (flat (node_steps l ns counts ts)) ≡ ns
unfolding node_steps flat visits_in at_level
nodes-at l [] counts ts h e = refl
nodes-at l (n ∷ ns) [] ts h e = absurd (omega arith)
nodes-at l (n ∷ ns) (c ∷ counts) ts h e =
    let whole : level_in l (flat (take c ts)) ++ level_in l (flat (drop c ts)) ≡ [] =
    sym (level-append l (flat (take c ts)) (flat (drop c ts)))
    ∙ ap (level_in l) (sym (flat_append (take c ts) (drop c ts)) ∙ ap flat (take-append-drop c ts))
    ∙ e in
    let both = none_both (level_in l (flat (take c ts))) (level_in l (flat (drop c ts))) whole in
    level-append l (step_of n l [] ∷ flat (take c ts)) (flat (node_steps l ns counts (drop c ts)))
    ∙ ap₂ (λ (x y : List ℕ). x ++ y) (level-this l n [] (flat (take c ts)) ∙ ap (λ (x : List ℕ). n ∷ x) both.0) (nodes-at l ns counts (drop c ts) (omega arith) both.1)

-- the blocks of each level from l on, of a plan of so many: the numbers in order
abbrev pub Tops : ℕ → List ℕ → List ℕ → List Visit → Type 0
Tops l [] nums vs = Unit {0}
Tops l (k ∷ ks) nums vs = (at_level l vs ≡ take k nums) × Tops (suc l) ks (drop k nums) vs

module _ (t : Layout) (look : Visit → Look) where
  -- the walk of a child meets these steps
  abbrev pub Rooted : ℕ → Child → List Step → Type 0
  Rooted l c ss = Walked look (visit_of c.block l ∷ []) ss

  pub children-walked : (l : ℕ) (cs : List Child) (ts : List (List Step)) → Along (Rooted l) cs ts → Walked look (visits_to l cs) (flat ts)
  unfolding visits_to flat
  children-walked l [] [] h = walked_none look
  children-walked l [] (s ∷ ts) h = absurd h
  children-walked l (c ∷ cs) [] h = absurd h
  children-walked l (c ∷ cs) (s ∷ ts) h = walked-append look (visit_of c.block l ∷ []) (visits_to l cs) s (flat ts) h.0 (children-walked l cs ts h.1)

  -- each node shows its part of the children, of the level below
  abbrev pub NodesSeen : ℕ → List ℕ → List ℕ → List Child → Type 0
  NodesSeen l [] counts cs = Unit {0}
  NodesSeen l (n ∷ ns) [] cs = Unit {0}
  NodesSeen l (n ∷ ns) (c ∷ counts) cs = (look (visit_of n (suc l)) ≡ good (visits_to l (take c cs)) []) × NodesSeen l ns counts (drop c cs)

  pub nodes-walked : (l : ℕ) (ns counts : List ℕ) (cs : List Child) (ts : List (List Step)) → Along (Rooted l) cs ts → NodesSeen l ns counts cs → Along (Rooted (suc l)) (children_of ns (node_parts t counts cs)) (node_steps (suc l) ns counts ts)
  unfolding children_of node_parts node_steps
  nodes-walked l [] counts cs ts h s = tt
  nodes-walked l (n ∷ ns) [] cs ts h s = tt
  nodes-walked l (n ∷ ns) (c ∷ counts) cs ts h s = (
    walked_block look (visit_of n (suc l)) (visits_to l (take c cs)) [] (flat (take c ts)) s.0 (children-walked l (take c cs) (take c ts) (along-take (Rooted l) c cs ts h)),
    nodes-walked l ns counts (drop c cs) (drop c ts) (along-drop (Rooted l) c cs ts h) s.1,
  )

  -- the levels above children show the tree that is built
  abbrev pub AboveSeen : ℕ → List ℕ → List ℕ → List Child → Type 0
  AboveSeen l [] nums cs = Unit {0}
  AboveSeen l (k ∷ ks) nums cs =
      NodesSeen l (take k nums) (shares (length cs) k) cs
      × AboveSeen (suc l) ks (drop k nums) (children_of (take k nums) (node_parts t (shares (length cs) k) cs))

  -- a level of children: each is walked in these steps, none of which is of a level above
  pub record Level (l : ℕ) (cs : List Child) (ts : List (List Step)) : Type 0 where
    pub walked : Along (Rooted l) cs ts
    pub high : (j : ℕ) → l < j → level_in j (flat ts) ≡ []

  -- the whole tree above a level: its root's walk reads the level's records, and its blocks by level are the level's and those above in order
  pub record Whole (l : ℕ) (ks nums : List ℕ) (cs : List Child) (ts : List (List Step)) : Type 0 where
    pub root : ℕ
    pub steps : List Step
    pub is-root : root ≡ get_or (numbers_of cs ++ nums) (length cs + length nums - 1) 0
    pub walked : Walked look (visit_of root (l + length ks) ∷ []) steps
    pub in_order : records_in steps ≡ records_in (flat ts)
    pub visits_by_level : by_level (suc (l + length ks)) (visits_in steps) ≡ by_level (suc l) (visits_in (flat ts)) ++ nums
    pub visited : length steps ≡ length (flat ts) + length nums
    pub below : (j : ℕ) → j ≤ l → level_in j steps ≡ level_in j (flat ts)
    pub tops : Tops (suc l) ks nums (visits_in steps)

  top : (l : ℕ) (nums : List ℕ) (cs : List Child) (ts : List (List Step)) → length cs ≡ 1 → length nums ≡ 0 → Along (Rooted l) cs ts → Whole l [] nums cs ts
  unfolding numbers_of flat
  top l (n ∷ nums) cs ts e z h = absurd (omega arith)
  top l [] [] ts e z h = absurd (omega arith)
  top l [] (c ∷ d ∷ cs) ts e z h = absurd (omega arith)
  top l [] (c ∷ []) [] e z h = absurd h
  top l [] (c ∷ []) (s ∷ u ∷ ts) e z h = absurd h.1
  top l [] (c ∷ []) (s ∷ []) e z h =
      record {
        root = c.block;
        steps = s;
        is-root = refl;
        walked = rw add-zero h.0;
        in_order = rw append-nil;
        visits_by_level = rw (add-zero, append-nil, append-nil);
        visited = rw append-nil (omega arith);
        below = λ j h. rw append-nil;
        tops = tt;
      }

  -- from a level to the one above it
  module _ (p k : ℕ) (ks : List ℕ) (l : ℕ) (nums : List ℕ) (cs : List Child) (ts : List (List Step)) (v : Level l cs ts) (some : 0 < k) (long : length nums ≡ k + sum ks) (seen : NodesSeen l (take k nums) (shares (length cs) k) cs) where
    abbrev ns : List ℕ
    ns = take k nums

    abbrev counts : List ℕ
    counts = shares (length cs) k

    abbrev cs' : List Child
    cs' = children_of ns (node_parts t counts cs)

    abbrev ts' : List (List Step)
    ts' = node_steps (suc l) ns counts ts

    ns-length : length ns ≡ k
    ns-length = length-take-le k nums (omega arith)

    in_step : length ns ≡ length counts
    in_step = ns-length ∙ sym (shares-length (length cs) k 0 k)

    all-shared : sum counts ≡ length ts
    all-shared = shares_sum (length cs) k some ∙ along-length (Rooted l) cs ts v.walked

    pub numbers-next : numbers_of cs' ≡ ns
    numbers-next = next-numbers t k nums cs (omega arith)

    pub length-next : length cs' ≡ k
    length-next = next-length t k nums cs (omega arith)

    pub level-next : Level (suc l) cs' ts'
    level-next =
        record {
          walked = nodes-walked l ns counts cs ts v.walked seen;
          high = λ j h. through (suc l) (level_in j) (level-append j) (λ n ss. level-other j (suc l) n [] ss (λ e. omega arith)) ns counts ts in_step all-shared ∙ v.high j (omega arith);
        }

    pub records-next : records_in (flat ts') ≡ records_in (flat ts)
    unfolding records_in
    records-next = through (suc l) records_in records-append (λ n ss. refl) ns counts ts in_step all-shared

    pub steps_next : length (flat ts') ≡ k + length (flat ts)
    steps_next = steps-length (suc l) ns counts ts in_step all-shared ∙ ap (λ (x : ℕ). x + length (flat ts)) ns-length

    pub by-level-next : by_level (suc (suc l)) (visits_in (flat ts')) ≡ by_level (suc l) (visits_in (flat ts)) ++ ns
    unfolding by_level
    by-level-next =
        ap₂ (λ (x y : List ℕ). x ++ y)
        (by-level-same (suc l) (visits_in (flat ts')) (visits_in (flat ts)) (λ j h. through (suc l) (level_in j) (level-append j) (λ n ss. level-other j (suc l) n [] ss (λ e. omega arith)) ns counts ts in_step all-shared))
        (nodes-at (suc l) ns counts ts in_step (v.high (suc l) (omega arith)))

    pub root-next : get_or (numbers_of cs' ++ drop k nums) (length cs' + length (drop k nums) - 1) 0 ≡ get_or (numbers_of cs ++ nums) (length cs + length nums - 1) 0
    root-next =
        let m : ℕ = length nums - 1 in
        let e : length cs' + length (drop k nums) - 1 ≡ m = omega (arith, length-next, length-drop k nums) in
        let d : length cs + length nums - 1 ≡ length (numbers_of cs) + m = omega (arith, numbers-length cs) in
        ap₂ (λ (x : List ℕ) (y : ℕ). get_or x y 0) (ap (λ (x : List ℕ). x ++ drop k nums) numbers-next ∙ take-append-drop k nums) e
        ∙ sym (ap (λ (y : ℕ). get_or (numbers_of cs ++ nums) y 0) d ∙ get_or-append-add (numbers_of cs) nums m 0)

    pub whole-next : Whole (suc l) ks (drop k nums) cs' ts' → Whole l (k ∷ ks) nums cs ts
    whole-next w =
        let z : suc l + length ks ≡ l + suc (length ks) = omega arith in
        record {
          root = w.root;
          steps = w.steps;
          is-root = w.is-root ∙ root-next;
          walked = subst (λ (x : ℕ). Walked look (visit_of w.root x ∷ []) w.steps) z w.walked;
          in_order = w.in_order ∙ records-next;
          visits_by_level =
              ap (λ (x : ℕ). by_level (suc x) (visits_in w.steps)) (sym z)
              ∙ w.visits_by_level
              ∙ ap (λ (x : List ℕ). x ++ drop k nums) by-level-next
              ∙ append_assoc (by_level (suc l) (visits_in (flat ts))) ns (drop k nums)
              ∙ ap (λ (x : List ℕ). by_level (suc l) (visits_in (flat ts)) ++ x) (take-append-drop k nums);
          visited = omega (arith, w.visited, steps_next, length-drop k nums);
          below = λ j h.
              w.below j (omega arith) ∙ through (suc l) (level_in j) (level-append j) (λ n ss. level-other j (suc l) n [] ss (λ e. omega arith)) ns counts ts in_step all-shared;
          tops = (w.below (suc l) (omega arith) ∙ nodes-at (suc l) ns counts ts in_step (v.high (suc l) (omega arith)), w.tops);
        }

  pub whole : (p : ℕ) (ks : List ℕ) (l : ℕ) (nums : List ℕ) (cs : List Child) (ts : List (List Step)) → Level l cs ts → Shaped p (length cs) ks → length nums ≡ sum ks → AboveSeen l ks nums cs → Whole l ks nums cs ts
  unfolding sum
  whole p [] l nums cs ts v e z s = top l nums cs ts e z v.walked
  whole p (k ∷ ks) l nums cs ts v e z s =
      let i : length (children_of (take k nums) (node_parts t (shares (length cs) k) cs)) ≡ k = length-next p k ks l nums cs ts v e.0 z s.0 in
      whole-next p k ks l nums cs ts v e.0 z s.0
      (whole p ks (suc l) (drop k nums) (children_of (take k nums) (node_parts t (shares (length cs) k) cs)) (node_steps (suc l) (take k nums) (shares (length cs) k) ts)
      (level-next p k ks l nums cs ts v e.0 z s.0)
      (subst (λ (x : ℕ). Shaped p x ks) (sym i) e.2)
      (omega (arith, length-drop k nums))
      s.1)
