-- The keys of a tree that build built are theirs: level by level, from the leaves up.
-- Assumes nothing.
use Rattle.std.proofs.Common.{◌≡◌, ℕ, zero, suc, ◌+◌, ◌-◌, ◌*◌, ◌/◌, ◌%◌, ◌<◌, ◌≤◌, true, List, [], ◌∷◌, ◌++◌, length, get_or, take, drop, replicate, sym, refl, ap, ◌∙◌, subst, ap₂, append-nil, add-zero, add_assoc, mul-le-mul_right, suc-mul, add_comm, zero-mul, mul-div_cancel, arith, length-append, length-drop, take-append-drop, length-take, length-take-le, drop-drop, drop_at}
use Rattle.codec.specs.Bytes.{IsBytes, bytes_at, be_of}
use Rattle.codec.specs.Records.{first_records, records_of, rmaps}
use Rattle.codec.specs.declared.rmap.Rmap.{Rmap}
use Rattle.codec.proofs.Parts.{bytes_at-front}
use Rattle.codec.proofs.Stores.{bytes_at-is}
use Rattle.codec.proofs.RecordLists.{records_of-append}
use Rattle.codec.proofs.RecordKinds.{rmaps-lawful}
use Rattle.blocks.specs.declared.geometry.Geometry.{Geometry}
use Rattle.blocks.specs.declared.kind.TreeKind.TheVariants as kind
use Rattle.blocks.specs.Geometry.{geometry_ok, null_ag_block}
use Rattle.trees.specs.Plan.{sum, shares}
use Rattle.trees.specs.BlockLayout.{Links, Layout, Sound}
use Rattle.walks.specs.Walk.{Visit, visit_of, Look, good, Trace, finished, run, records, Shape, per_leaf, per_node, block_in, pointers, first_pointer, look_in}
use Rattle.walks.specs.Shapes.{shape_of}
use Rattle.walks.specs.Path.{child_at, fan_of}
use Rattle.walks.specs.Links.{next}
use Rattle.trees.specs.Keys.{rmap_keys}
use Rattle.trees.specs.Build.{Child, Part, keys_of, pointers_of, below_of, node_part, leaf_parts, node_parts, block_bytes, blocks_of, children_of, build_above, build_plan, root_of, AreNumbers}
use Rattle.trees.specs.BuildCall.{keys_under, layout_of}
use Rattle.trees.proofs.InStep.{flat, flat_append, Along, along-take, along-drop}
use Rattle.walks.proofs.Steps.{Step, step_of, meet, visits_in, records_in, records-append, meet-records, Walked}
use Rattle.trees.proofs.Sharing.{Shaped, Most, shares-most, shares-length, shares_sum}
use Rattle.walks.proofs.StackLaws.{pointers-length}
use Rattle.walks.proofs.RunLaws.{run_none}
use Rattle.trees.proofs.LevelWalk.{visits_to, numbers_of, numbers-length, numbers-of-children, node_steps, Rooted, NodesSeen, AboveSeen, Level, length-next, level-next, steps_next, root-next}
use Rattle.trees.proofs.LeafWalk.{leaf_steps, leaf-count, leaf-high, LeavesSeen, leaves-walked, leaf-parts-length}
use Rattle.trees.proofs.BlockBytes.{Held, keys_length, node-roomy, rest, block-body, held_both, belows-leaves, above-seen, leaves-seen, numbers-take, numbers-drop}
use Rattle.walks.proofs.DescendLaws.{Looked, looked}
use Rattle.lookup.specs.Lookup.{low_start, high_start}
use Rattle.lookup.specs.Claims.{Theirs, records_under, ChildKeys, KeysTheirs}
use Rattle.lookup.proofs.KeyStarts.{Bounded, bounded-left, bounded-right, bounded-both, keys-theirs}

-- ---- bytes of whole records, each with a count and an end within 2^31

abbrev pub Fine : List ℕ → Type 0
Fine b = (length b % 24 ≡ 0) × Bounded (records_of rmaps b)

fine-none : Fine []
unfolding records_of first_records
fine-none = (refl, tt)

fine-append : (xs ys : List ℕ) → Fine xs → Fine ys → Fine (xs ++ ys)
fine-append xs ys h k =
    (omega (arith, length-append xs ys, h.0, k.0), subst Bounded (sym (records_of-append rmaps rmaps-lawful xs ys h.0)) (bounded-both (records_of rmaps xs) (records_of rmaps ys) h.1 k.1))

fine-part : (n : ℕ) (b : List ℕ) → Fine b → Fine (take (n * 24) b) × Fine (drop (n * 24) b)
fine-part n b h =
    let x : List ℕ = take (n * 24) b in
    let y : List ℕ = drop (n * 24) b in
    let w : length x % 24 ≡ 0 = omega (arith, length-take (n * 24) b, h.0) in
    let e : records_of rmaps b ≡ records_of rmaps x ++ records_of rmaps y = ap (records_of rmaps) (sym (take-append-drop (n * 24) b)) ∙ records_of-append rmaps rmaps-lawful x y w in
    let both : Bounded (records_of rmaps x ++ records_of rmaps y) = subst Bounded e h.1 in
    ((w, bounded-left (records_of rmaps x) (records_of rmaps y) both), (omega (arith, length-drop (n * 24) b, h.0), bounded-right (records_of rmaps x) (records_of rmaps y) both))

-- ---- the keys of a child in a node's bytes

module _ (t : Layout) (s : Sound t) where
  abbrev w : ℕ
  w = t.shape.keys_length

  pub keys-at : (n l : ℕ) (z : Links) (cs : List Child) (i o m : ℕ) → length cs ≤ per_node t.shape → i < length cs → o + m ≤ w
      → bytes_at (block_bytes t (suc l) n z (node_part t cs)) (t.shape.header + i * w + o) m ≡ bytes_at (keys_of t.keys cs) (i * w + o) m
  keys-at n l z cs i o m few h k =
      let b : List ℕ = block_bytes t (suc l) n z (node_part t cs) in
      let ks : List ℕ = keys_of t.keys cs in
      let zeros : List ℕ = replicate (per_node t.shape * w - length ks) 0 in
      let ps : List ℕ = pointers_of cs in
      let q : List ℕ = rest t s (node_part t cs) in
      let x : ℕ = i * w + o in
      let next : suc i * w ≤ length cs * w = mul-le-mul_right w h in
      let long : x + m ≤ length ks = omega (arith, keys_length t s.sized cs, suc-mul i w) in
      let long2 : x + m ≤ length (ks ++ zeros) = omega (arith, length-append ks zeros) in
      let long3 : x + m ≤ length ((ks ++ zeros) ++ ps) = omega (arith, length-append (ks ++ zeros) ps) in
      bytes_at-is b (t.shape.header + i * w + o) m
      ∙ ap (λ (y : ℕ). take m (drop y b)) (add_assoc t.shape.header (i * w) o)
      ∙ ap (take m) (sym (drop-drop x t.shape.header b))
      ∙ ap (λ (y : List ℕ). take m (drop x y)) (block-body t s (suc l) n z (node_part t cs) (node-roomy t s.sized cs few))
      ∙ sym (bytes_at-is (((ks ++ zeros) ++ ps) ++ q) x m)
      ∙ bytes_at-front ((ks ++ zeros) ++ ps) q x m long3
      ∙ bytes_at-front (ks ++ zeros) ps x m long2
      ∙ bytes_at-front ks zeros x m long

  -- ---- the i-th child

  module _ (look : Visit → Look) where
    -- what a child's walk reads is what stands under it
    abbrev Fit : Child → List Step → Type 0
    Fit c ss = (records_in ss ≡ c.below) × Fine c.below

    record ChildAt (l : ℕ) (cs : List Child) (ts : List (List Step)) (i : ℕ) : Type 0 where
      child : Child
      steps : List Step
      more : List ℕ
      key : drop (i * w) (keys_of t.keys cs) ≡ t.keys child.below ++ more
      at : get_or (visits_to l cs) i (visit_of 0 0) ≡ visit_of child.block l
      rooted : Rooted t look l child steps
      fit : Fit child steps
      short : length steps ≤ length (flat ts)

    child-at : (l : ℕ) (cs : List Child) (ts : List (List Step)) → Along (Rooted t look l) cs ts → Along Fit cs ts → (i : ℕ) → i < length cs → ChildAt l cs ts i
    unfolding keys_of visits_to flat
    child-at l [] ts a f i h = absurd (omega arith)
    child-at l (c ∷ cs) [] a f i h = absurd a
    child-at l (c ∷ cs) (x ∷ ts) a f zero h =
        record {
          child = c;
          steps = x;
          more = keys_of t.keys cs;
          key = ap (λ (n : ℕ). drop n (t.keys c.below ++ keys_of t.keys cs)) (zero-mul w);
          at = refl;
          rooted = a.0;
          fit = f.0;
          short = omega (arith, length-append x (flat ts));
        }
    child-at l (c ∷ cs) (x ∷ ts) a f (suc i) h =
        let r : ChildAt l cs ts i = child-at l cs ts a.1 f.1 i (omega arith) in
        let e : suc i * w ≡ w + i * w = suc-mul i w ∙ add_comm (i * w) w in
        record {
          child = r.child;
          steps = r.steps;
          more = r.more;
          key =
              ap (λ (n : ℕ). drop n (t.keys c.below ++ keys_of t.keys cs)) e
              ∙ sym (drop-drop (i * w) w (t.keys c.below ++ keys_of t.keys cs))
              ∙ ap (drop (i * w)) (drop_at (t.keys c.below) (keys_of t.keys cs) w (s.sized.keys_long c.below))
              ∙ r.key;
          at = r.at;
          rooted = r.rooted;
          fit = r.fit;
          short = omega (arith, length-append x (flat ts), r.short);
        }

    -- ---- what stands under a level's children

    under_all : (cs : List Child) (ts : List (List Step)) → Along Fit cs ts → (records_in (flat ts) ≡ below_of cs) × Fine (below_of cs)
    unfolding flat below_of records_in
    under_all [] [] a = (refl, fine-none)
    under_all [] (x ∷ ts) a = absurd a
    under_all (c ∷ cs) [] a = absurd a
    under_all (c ∷ cs) (x ∷ ts) a =
        let r = under_all cs ts a.1 in
        (records-append x (flat ts) ∙ ap₂ (λ (p q : List ℕ). p ++ q) a.0.0 r.0, fine-append c.below (below_of cs) a.0.1 r.1)

    nodes-fit : (l : ℕ) (ns counts : List ℕ) (cs : List Child) (ts : List (List Step)) → Along Fit cs ts → Along Fit (children_of ns (node_parts t counts cs)) (node_steps l ns counts ts)
    unfolding children_of node_parts node_steps records_in
    nodes-fit l [] counts cs ts a = tt
    nodes-fit l (n ∷ ns) [] cs ts a = tt
    nodes-fit l (n ∷ ns) (c ∷ counts) cs ts a = (under_all (take c cs) (take c ts) (along-take Fit c cs ts a), nodes-fit l ns counts (drop c cs) (drop c ts) (along-drop Fit c cs ts a))

    leaf-alone : (b : List ℕ) (n : ℕ) → records_in (step_of n 0 b ∷ []) ≡ b
    unfolding records_in
    leaf-alone b n = append-nil b

    leaves-fit : t.shape.record_length ≡ 24 → (ns counts bytes : List ℕ) → Fine bytes → Along Fit (children_of ns (leaf_parts t counts bytes)) (leaf_steps t ns counts bytes)
    unfolding children_of leaf_parts leaf_steps
    leaves-fit z [] counts bytes h = tt
    leaves-fit z (n ∷ ns) [] bytes h = tt
    leaves-fit z (n ∷ ns) (c ∷ counts) bytes h =
        let r : Fine (take (c * t.shape.record_length) bytes) × Fine (drop (c * t.shape.record_length) bytes) =
        subst (λ (x : ℕ). Fine (take (c * x) bytes) × Fine (drop (c * x) bytes)) (sym z) (fine-part c bytes h) in
        ((leaf-alone (take (c * t.shape.record_length) bytes) n, r.0), leaves-fit z ns counts (drop (c * t.shape.record_length) bytes) r.1)

-- a pointer by its number
pointers-at : (part : List ℕ) (at level k i : ℕ) → i < k → get_or (pointers part at level k) i (visit_of 0 0) ≡ visit_of (be_of (bytes_at part (at + i * 4) 4)) level
unfolding pointers
pointers-at part at level zero i h = absurd (omega arith)
pointers-at part at level (suc k) zero h = let e : at ≡ at + 0 * 4 = omega arith in ap (λ (x : ℕ). visit_of (be_of (bytes_at part x 4)) level) e
pointers-at part at level (suc k) (suc i) h =
    let e : at + 4 + i * 4 ≡ at + suc i * 4 = omega arith in
    pointers-at part (at + 4) level k i (omega arith) ∙ ap (λ (x : ℕ). visit_of (be_of (bytes_at part x 4)) level) e

to-length : (l : ℕ) (cs : List Child) → length (visits_to l cs) ≡ length cs
unfolding visits_to
to-length l [] = refl
to-length l (c ∷ cs) = ap suc (to-length l cs)

-- the walk of one block whose steps are known
pub walked-alone : (look : Visit → Look) (limit : ℕ) (v : Visit) (ss : List Step) → Walked look (v ∷ []) ss → length ss ≤ limit → run look limit (v ∷ []) ≡ meet ss finished
walked-alone look limit v ss f h =
    let e : limit ≡ length ss + (limit - length ss) = omega arith in
    ap (λ (n : ℕ). run look n (v ∷ [])) e ∙ f (limit - length ss) [] ∙ ap (meet ss) (run_none look (limit - length ss))

module _ (g : Geometry) (ok : geometry_ok g ≡ true) (s : Sound (layout_of g kind.Rmap)) (image : List ℕ) (limit : ℕ) where
  abbrev t : Layout
  t = layout_of g kind.Rmap

  abbrev sh : Shape
  sh = shape_of g kind.Rmap

  abbrev look : Visit → Look
  look = look_in sh image

  -- four bytes of a child's keys
  key-field : (n l : ℕ) (z : Links) (cs : List Child) (ts : List (List Step)) (i o : ℕ) → length cs ≤ per_node sh → i < length cs → o + 4 ≤ 40 → (c : ChildAt t s look l cs ts i)
      → bytes_at (block_bytes t (suc l) n z (node_part t cs)) (sh.header + i * 40 + o) 4 ≡ take 4 (drop o (rmap_keys (records_of rmaps c.child.below)))
  unfolding keys_under
  key-field n l z cs ts i o few h k c =
      let key : List ℕ = t.keys c.child.below in
      keys-at t s n l z cs i o 4 few h k
      ∙ bytes_at-is (keys_of t.keys cs) (i * 40 + o) 4
      ∙ ap (take 4) (sym (drop-drop o (i * 40) (keys_of t.keys cs)))
      ∙ ap (λ (x : List ℕ). take 4 (drop o x)) c.key
      ∙ sym (bytes_at-is (key ++ c.more) o 4)
      ∙ bytes_at-front key c.more o 4 (omega (arith, s.sized.keys_long c.child.below))
      ∙ bytes_at-is key o 4

  -- the keys of a node's children are theirs
  node-keys : (l n : ℕ) (z : Links) (cs : List Child) (ts : List (List Step)) → length cs ≤ per_node sh
      → block_in g.blocksize image n ≡ block_bytes t (suc l) n z (node_part t cs) → look (visit_of n (suc l)) ≡ good (visits_to l cs) []
      → Along (Rooted t look l) cs ts → Along (Fit t s look) cs ts → length (flat ts) ≤ limit → ChildKeys sh image limit (visit_of n (suc l))
  node-keys l n z cs ts few is e a f short i h =
      let part : List ℕ = block_in g.blocksize image n in
      let lk : Looked sh image n (suc l) (visits_to l cs) = looked g kind.Rmap ok image n (suc l) (visits_to l cs) [] e in
      let down : suc l - 1 ≡ l = omega arith in
      let node : visits_to l cs ≡ pointers part (first_pointer sh) (suc l - 1) (fan_of part) = lk.node (omega arith) in
      let fan : length cs ≡ fan_of part = sym (to-length l cs) ∙ ap length node ∙ pointers-length part (first_pointer sh) (suc l - 1) (fan_of part) in
      let c : ChildAt t s look l cs ts i = child-at t s look l cs ts a f i (omega arith) in
      let rs : List Rmap = records_of rmaps c.child.below in
      let v : child_at sh part (suc l - 1) i ≡ visit_of c.child.block l =
      sym (pointers-at part (first_pointer sh) (suc l - 1) (fan_of part) i h) ∙ ap (λ (x : List Visit). get_or x i (visit_of 0 0)) (sym node) ∙ c.at in
      let under : records_under sh image limit (child_at sh part (suc l - 1) i) ≡ rs =
      ap (records_under sh image limit) v
      ∙ ap (λ (x : Trace). records_of rmaps (records x)) (walked-alone look limit (visit_of c.child.block l) c.steps c.rooted (omega (arith, c.short)))
      ∙ ap (records_of rmaps) (meet-records c.steps ∙ c.fit.0) in
      let low : low_start sh part i ≡ be_of (take 4 (rmap_keys rs)) =
      ap₂ (λ (x : List ℕ) (y : ℕ). be_of (bytes_at x y 4)) is (sym (add-zero (sh.header + i * 40))) ∙ ap be_of (key-field n l z cs ts i 0 few (omega arith) (omega arith) c) in
      let high : high_start sh part i ≡ be_of (take 4 (drop 20 (rmap_keys rs))) =
      ap (λ (x : List ℕ). be_of (bytes_at x (sh.header + i * 40 + 20) 4)) is ∙ ap be_of (key-field n l z cs ts i 20 few (omega arith) (omega arith) c) in
      subst (λ (x : List Rmap). Theirs (low_start sh part i) (high_start sh part i) x) (sym under)
      (subst (λ (x : ℕ). Theirs x (high_start sh part i) rs) (sym low) (subst (λ (x : ℕ). Theirs (be_of (take 4 (rmap_keys rs))) x rs) (sym high) (keys-theirs rs c.fit.1.1)))

  -- ---- level by level

  abbrev KeysIn : List Step → Type 0
  KeysIn ss = KeysTheirs sh image limit (visits_in ss)

  keys-both : (xs ys : List Step) → KeysIn xs → KeysIn ys → KeysIn (xs ++ ys)
  unfolding visits_in
  keys-both [] ys h k = k
  keys-both (x ∷ xs) ys h k = (h.0, keys-both xs ys h.1 k)

  keys-left : (xs ys : List Step) → KeysIn (xs ++ ys) → KeysIn xs
  unfolding visits_in
  keys-left [] ys h = tt
  keys-left (x ∷ xs) ys h = (h.0, keys-left xs ys h.1)

  keys-right : (xs ys : List Step) → KeysIn (xs ++ ys) → KeysIn ys
  unfolding visits_in
  keys-right [] ys h = h
  keys-right (x ∷ xs) ys h = keys-right xs ys h.1

  flat-parts : (c : ℕ) (ts : List (List Step)) → flat ts ≡ flat (take c ts) ++ flat (drop c ts)
  flat-parts c ts = ap flat (sym (take-append-drop c ts)) ∙ flat_append (take c ts) (drop c ts)

  nodes-keys : (l left : ℕ) (ns counts : List ℕ) (cs : List Child) (ts : List (List Step)) → Most (per_node sh) counts
      → Held t image (blocks_of t (suc l) left ns (node_parts t counts cs)) → NodesSeen t look l ns counts cs
      → Along (Rooted t look l) cs ts → Along (Fit t s look) cs ts → length (flat ts) ≤ limit → KeysIn (flat ts) → KeysIn (flat (node_steps (suc l) ns counts ts))
  unfolding blocks_of node_parts node_steps flat visits_in
  nodes-keys l left [] counts cs ts m h e a f short k = tt
  nodes-keys l left (n ∷ ns) [] cs ts m h e a f short k = tt
  nodes-keys l left (n ∷ ns) (c ∷ counts) cs ts m h e a f short k =
      let parts : flat ts ≡ flat (take c ts) ++ flat (drop c ts) = flat-parts c ts in
      let lens : length (flat ts) ≡ length (flat (take c ts)) + length (flat (drop c ts)) = ap length parts ∙ length-append (flat (take c ts)) (flat (drop c ts)) in
      let both : KeysIn (flat (take c ts) ++ flat (drop c ts)) = subst KeysIn parts k in
      let few : length (take c cs) ≤ per_node sh = omega (arith, length-take c cs, m.0) in
      let here : ChildKeys sh image limit (visit_of n (suc l)) =
      node-keys l n (record { left = left; right = next ns }) (take c cs) (take c ts) few h.1 e.0 (along-take (Rooted t look l) c cs ts a) (along-take (Fit t s look) c cs ts f) (omega arith) in
      keys-both (step_of n (suc l) [] ∷ flat (take c ts)) (flat (node_steps (suc l) ns counts (drop c ts)))
      ((λ _. here), keys-left (flat (take c ts)) (flat (drop c ts)) both)
      (nodes-keys l n ns counts (drop c cs) (drop c ts) m.1 h.2 e.1 (along-drop (Rooted t look l) c cs ts a) (along-drop (Fit t s look) c cs ts f) (omega arith)
      (keys-right (flat (take c ts)) (flat (drop c ts)) both))

  leaves-keys : (ns counts bytes : List ℕ) → KeysIn (flat (leaf_steps t ns counts bytes))
  unfolding leaf_steps flat visits_in
  leaves-keys [] counts bytes = tt
  leaves-keys (n ∷ ns) [] bytes = tt
  leaves-keys (n ∷ ns) (c ∷ counts) bytes = ((λ h. absurd (omega arith)), leaves-keys ns counts (drop (c * 24) bytes))

  -- the tree above a level: its root's walk, of a step for each block, whose keys are theirs
  record KeyedTree (l : ℕ) (ks nums : List ℕ) (cs : List Child) (below : ℕ) : Type 0 where
    root : ℕ
    steps : List Step
    is-root : root ≡ get_or (numbers_of cs ++ nums) (length cs + length nums - 1) 0
    walked : Walked look (visit_of root (l + length ks) ∷ []) steps
    visited : length steps ≡ below + length nums
    keys : KeysIn steps

  top : (l : ℕ) (nums : List ℕ) (cs : List Child) (ts : List (List Step)) → length cs ≡ 1 → length nums ≡ 0
      → Along (Rooted t look l) cs ts → KeysIn (flat ts) → KeyedTree l [] nums cs (length (flat ts))
  unfolding numbers_of flat
  top l (n ∷ nums) cs ts e z h k = absurd (omega arith)
  top l [] [] ts e z h k = absurd (omega arith)
  top l [] (c ∷ d ∷ cs) ts e z h k = absurd (omega arith)
  top l [] (c ∷ []) [] e z h k = absurd h
  top l [] (c ∷ []) (x ∷ y ∷ ts) e z h k = absurd h.1
  top l [] (c ∷ []) (x ∷ []) e z h k =
      record {
        root = c.block;
        steps = x;
        is-root = refl;
        walked = rw add-zero h.0;
        visited = rw append-nil (omega arith);
        keys = subst KeysIn (append-nil x) k;
      }

  -- from a level to the one above it, of k blocks: the root stays
  keyed-next : (k : ℕ) (ks : List ℕ) (l : ℕ) (nums : List ℕ) (cs cs' : List Child) (below : ℕ) → k ≤ length nums
      → get_or (numbers_of cs' ++ drop k nums) (length cs' + length (drop k nums) - 1) 0 ≡ get_or (numbers_of cs ++ nums) (length cs + length nums - 1) 0
      → KeyedTree (suc l) ks (drop k nums) cs' (k + below) → KeyedTree l (k ∷ ks) nums cs below
  keyed-next k ks l nums cs cs' below h e r =
      let up : suc l + length ks ≡ l + suc (length ks) = omega arith in
      record {
        root = r.root;
        steps = r.steps;
        is-root = r.is-root ∙ e;
        walked = subst (λ (x : ℕ). Walked look (visit_of r.root x ∷ []) r.steps) up r.walked;
        visited = omega (arith, r.visited, length-drop k nums);
        keys = r.keys;
      }

  above-keyed : (ks : List ℕ) (l : ℕ) (nums : List ℕ) (cs : List Child) (ts : List (List Step)) → Level t look l cs ts → Along (Fit t s look) cs ts
      → Shaped (per_node sh) (length cs) ks → length nums ≡ sum ks → length (flat ts) + length nums ≤ limit
      → Held t image (build_above t (suc l) ks nums cs) → AboveSeen t look l ks nums cs → KeysIn (flat ts) → KeyedTree l ks nums cs (length (flat ts))
  unfolding sum build_above
  above-keyed [] l nums cs ts v f e z short h a k = top l nums cs ts e z v.walked k
  above-keyed (n ∷ ks) l nums cs ts v f e z short h a k =
      let p : ℕ = per_node sh in
      let ps : List Part = node_parts t (shares (length cs) n) cs in
      let ns : List ℕ = take n nums in
      let cs' : List Child = children_of ns ps in
      let ts' : List (List Step) = node_steps (suc l) ns (shares (length cs) n) ts in
      let i : length cs' ≡ n = length-next t look p n ks l nums cs ts v e.0 z a.0 in
      let b = held_both t s image (blocks_of t (suc l) null_ag_block ns ps) (build_above t (suc (suc l)) ks (drop n nums) cs') h in
      let longer : length (flat ts') ≡ n + length (flat ts) = steps_next t look p n ks l nums cs ts v e.0 z a.0 in
      let keys : KeysIn (flat ts') =
      nodes-keys l null_ag_block ns (shares (length cs) n) cs ts (shares-most (length cs) n 0 n p e.0 e.1) b.0 a.0 v.walked f (omega arith) k in
      let r : KeyedTree (suc l) ks (drop n nums) cs' (length (flat ts')) =
      above-keyed ks (suc l) (drop n nums) cs' ts' (level-next t look p n ks l nums cs ts v e.0 z a.0) (nodes-fit t s look (suc l) ns (shares (length cs) n) cs ts f)
      (subst (λ (x : ℕ). Shaped p x ks) (sym i) e.2) (omega (arith, length-drop n nums)) (omega (arith, length-drop n nums)) b.1 a.1 keys in
      keyed-next n ks l nums cs cs' (length (flat ts)) (omega arith) (root-next t look p n ks l nums cs ts v e.0 z a.0)
      (subst (λ (x : ℕ). KeyedTree (suc l) ks (drop n nums) cs' x) longer r)

  -- ---- the whole tree

  pub record KeyedWhole (levels : ℕ) (numbers : List ℕ) : Type 0 where
    pub steps : List Step
    pub walked : Walked look (visit_of (root_of numbers) (levels - 1) ∷ []) steps
    pub short : length steps ≤ limit
    pub keys : KeysIn steps

  -- above the leaves, which have the first numbers
  keyed-whole : (k : ℕ) (ks numbers : List ℕ) (cs : List Child) → numbers_of cs ≡ take k numbers → length cs ≡ k → k ≤ length numbers → length numbers ≤ limit
      → KeyedTree 0 ks (drop k numbers) cs k → KeyedWhole (suc (length ks)) numbers
  keyed-whole k ks numbers cs j i h most r =
      let up : 0 + length ks ≡ suc (length ks) - 1 = omega arith in
      let last : length cs + length (drop k numbers) - 1 ≡ length numbers - 1 = omega (arith, length-drop k numbers) in
      let all : numbers_of cs ++ drop k numbers ≡ numbers = ap (λ (l : List ℕ). l ++ drop k numbers) j ∙ take-append-drop k numbers in
      let root : r.root ≡ root_of numbers = r.is-root ∙ ap₂ (λ (l : List ℕ) (m : ℕ). get_or l m 0) all last in
      record {
        steps = r.steps;
        walked = subst (λ (x : Visit). Walked look (x ∷ []) r.steps) (ap₂ visit_of root up) r.walked;
        short = omega (arith, r.visited, length-drop k numbers);
        keys = r.keys;
      }

  pub plan-keyed : (k : ℕ) (ks numbers bytes : List ℕ) (n : ℕ) → 0 < k → n ≤ k * per_leaf sh → Shaped (per_node sh) k ks → length ks ≤ 9 → length numbers ≡ k + sum ks → AreNumbers numbers
      → length numbers ≤ limit → IsBytes bytes → length bytes ≡ n * 24 → Fine bytes → Held t image (build_plan t (k ∷ ks) numbers bytes) → KeyedWhole (suc (length ks)) numbers
  unfolding build_plan
  plan-keyed k ks numbers bytes n some room shaped few long small most bytes-are are fine holds =
      let q : length bytes / 24 ≡ n = ap (λ (x : ℕ). x / 24) are ∙ mul-div_cancel n (omega arith) in
      let counts : List ℕ = shares n k in
      let ps : List Part = leaf_parts t counts bytes in
      let ns : List ℕ = take k numbers in
      let cs : List Child = children_of ns ps in
      let ts : List (List Step) = leaf_steps t ns counts bytes in
      let held : Held t image (blocks_of t 0 null_ag_block ns ps ++ build_above t 1 ks (drop k numbers) cs) = rw q at holds in
      let b = held_both t s image (blocks_of t 0 null_ag_block ns ps) (build_above t 1 ks (drop k numbers) cs) held in
      let kn : length ns ≡ k = length-take-le k numbers (omega arith) in
      let in_step : length ns ≡ length counts = kn ∙ sym (shares-length n k 0 k) in
      let j : numbers_of cs ≡ ns = numbers-of-children ns ps (in_step ∙ sym (leaf-parts-length t counts bytes)) in
      let i : length cs ≡ k = sym (numbers-length cs) ∙ ap length j ∙ kn in
      let each : length (flat ts) ≡ k = leaf-count t ns counts bytes in_step ∙ kn in
      let sw : sum counts * 24 ≤ length bytes = rw (shares_sum n k some) (omega arith) in
      let leaves : LeavesSeen t look ns counts bytes =
      leaves-seen t s image null_ag_block ns counts bytes (omega arith) (numbers-take k numbers small) bytes-are (shares-most n k 0 k (per_leaf sh) some room) sw b.0 in
      let shaped' : Shaped (per_node sh) (length cs) ks = subst (λ (x : ℕ). Shaped (per_node sh) x ks) (sym i) shaped in
      let rest-long : length (drop k numbers) ≡ sum ks = omega (arith, length-drop k numbers) in
      keyed-whole k ks numbers cs j i (omega arith) most
      (subst (KeyedTree 0 ks (drop k numbers) cs) each
      (above-keyed ks 0 (drop k numbers) cs ts (record { walked = leaves-walked t look ns counts bytes leaves; high = λ j h. leaf-high t j ns counts bytes h })
      (leaves-fit t s look refl ns counts bytes fine) shaped' rest-long (omega arith) b.1
      (above-seen t s image 0 ks (drop k numbers) cs (numbers-drop k numbers small) (rw j (numbers-take k numbers small)) (belows-leaves t (take k numbers) (shares n k) bytes bytes-are) (omega arith) shaped' rest-long b.1)
      (leaves-keys ns counts bytes)))
