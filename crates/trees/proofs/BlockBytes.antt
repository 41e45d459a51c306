-- A built block in an image: what a look at it shows.
-- Assumes nothing beyond what a sound layout says of the stamp and the check.
use Prim.Native.Nat.{ℕ, zero, suc, ◌+◌, ◌-◌, ◌*◌, ◌^◌, ◌≤◌, ◌<◌}
use native.Mathlib.Nat.{add-mul, zero-mul, mul-add, mul-le-mul_right, div-mul-le_self}
use native.Mathlib.Omega.{arith}
use mathlib.Core.Path.{◌≡◌, refl, sym, ap, ap₂, ◌∙◌, subst}
use mathlib.Core.List.{List, [], ◌∷◌, ◌++◌, append_assoc}
use lib.ListN.{length, take, drop, replicate, length-append, length-take, length-replicate, take-append-drop, length-drop}
use lib.Seq.{take_at, drop_at, length-take-le, get_or-drop}
use borrow.Author.Tests.{le-leb}
use Rattle.codec.specs.Bytes.{IsBytes, bytes_at, be_of, be_bytes}
use Rattle.codec.proofs.FieldLists.{IsBytes-take, IsBytes-drop, IsBytes-append, IsBytes-be_bytes}
use Rattle.codec.proofs.Numbers.{length-be_bytes, be_of-be_bytes-lt}
use Rattle.codec.proofs.Overwrites.{IsBytes-zeros}
use Rattle.blocks.specs.Geometry.{null_ag_block}
use Rattle.trees.specs.Plan.{sum, shares}
use Rattle.trees.specs.BlockLayout.{Links, Layout, Sized, Fresh, Sound}
use Rattle.walks.specs.Walk.{per_leaf, per_node, Visit, visit_of, good, block_in, pointers, first_pointer, under, look_in}
use Rattle.walks.specs.Links.{next}
use Rattle.trees.specs.Build.{Child, Part, Block, padded, keys_of, pointers_of, below_of, leaf_part, node_part, leaf_parts, node_parts, block_bytes, blocks_of, children_of, build_above, AreNumbers}
use Rattle.trees.proofs.Padding.{padded-length, padded-bytes}
use Rattle.trees.proofs.Sharing.{Shaped, Most, shares-most}
use Rattle.trees.proofs.LevelWalk.{visits_to, numbers_of, NodesSeen, AboveSeen, next-length, next-numbers}
use Rattle.trees.proofs.LeafWalk.{LeavesSeen}

-- ---- numbers of 32 bits

pub numbers-take : (n : ℕ) (l : List ℕ) → AreNumbers l → AreNumbers (take n l)
numbers-take zero l h i = omega arith
numbers-take (suc n) [] h i = omega arith
numbers-take (suc n) (x ∷ l) h zero = h zero
numbers-take (suc n) (x ∷ l) h (suc i) = numbers-take n l (λ j. h (suc j)) i

pub numbers-drop : (n : ℕ) (l : List ℕ) → AreNumbers l → AreNumbers (drop n l)
numbers-drop n l h i = rw get_or-drop (h (n + i))

pub next_small : (l : List ℕ) → AreNumbers l → next l < 2 ^ 32
next_small [] h = omega arith
next_small (x ∷ l) h = h 0

children-take : (n : ℕ) (cs : List Child) → numbers_of (take n cs) ≡ take n (numbers_of cs)
unfolding numbers_of
children-take zero cs = refl
children-take (suc n) [] = refl
children-take (suc n) (c ∷ cs) = ap (λ (l : List ℕ). c.block ∷ l) (children-take n cs)

children-drop : (n : ℕ) (cs : List Child) → numbers_of (drop n cs) ≡ drop n (numbers_of cs)
unfolding numbers_of
children-drop zero cs = refl
children-drop (suc n) [] = refl
children-drop (suc n) (c ∷ cs) = children-drop n cs

-- ---- pointers that are written are read back

pointer_read : (p q : List ℕ) (x at : ℕ) → x < 2 ^ 32 → length p ≡ at → be_of (bytes_at (p ++ (be_bytes 4 x ++ q)) at 4) ≡ x
unfolding bytes_at
pointer_read p q x at h e =
    ap (λ (l : List ℕ). be_of (take 4 l)) (drop_at p (be_bytes 4 x ++ q) at e)
    ∙ ap be_of (take_at (be_bytes 4 x) q 4 (length-be_bytes 4 x))
    ∙ be_of-be_bytes-lt 4 x h

pub pointers-length : (cs : List Child) → length (pointers_of cs) ≡ length cs * 4
unfolding pointers_of
pointers-length [] = refl
pointers-length (c ∷ cs) = omega (arith, length-append (be_bytes 4 c.block) (pointers_of cs), length-be_bytes 4 c.block, pointers-length cs)

pub pointers-read : (l : ℕ) (cs : List Child) (p q : List ℕ) (at : ℕ) → AreNumbers (numbers_of cs) → length p ≡ at → pointers (p ++ (pointers_of cs ++ q)) at l (length cs) ≡ visits_to l cs
unfolding pointers pointers_of visits_to numbers_of
pointers-read l [] p q at h e = refl
pointers-read l (c ∷ cs) p q at h e =
    let x : List ℕ = be_bytes 4 c.block in
    let y : List ℕ = pointers_of cs ++ q in
    let a : x ++ pointers_of cs ++ q ≡ x ++ y = append_assoc x (pointers_of cs) q in
    let b : p ++ (x ++ y) ≡ (p ++ x) ++ y = sym (append_assoc p x y) in
    ap₂ (λ (n : ℕ) (vs : List Visit). visit_of n l ∷ vs)
    (ap (λ (z : List ℕ). be_of (bytes_at (p ++ z) at 4)) a ∙ pointer_read p y c.block at (h 0) e)
    (ap (λ (z : List ℕ). pointers z (at + 4) l (length cs)) (ap (λ (z : List ℕ). p ++ z) a ∙ b)
    ∙ pointers-read l cs (p ++ x) q (at + 4) (λ i. h (suc i)) (omega (arith, length-append p x, length-be_bytes 4 c.block)))

-- an image holds blocks, each whole at its number
abbrev pub Held : Layout → List ℕ → List Block → Type 0
Held t image [] = Unit {0}
Held t image (b ∷ bs) =
    ((b.number + 1) * t.shape.size ≤ length image) × (block_in t.shape.size image b.number ≡ b.bytes) × Held t image bs

pointers-bytes : (cs : List Child) → IsBytes (pointers_of cs)
unfolding pointers_of
pointers-bytes [] = λ i. omega arith
pointers-bytes (c ∷ cs) = IsBytes-append (be_bytes 4 c.block) (pointers_of cs) (IsBytes-be_bytes 4 c.block) (pointers-bytes cs)

-- the records under each of some children are bytes
abbrev pub Belows : List Child → Type 0
Belows [] = Unit {0}
Belows (c ∷ cs) = IsBytes c.below × Belows cs

pub belows-take : (n : ℕ) (cs : List Child) → Belows cs → Belows (take n cs)
belows-take zero cs y = tt
belows-take (suc n) [] y = tt
belows-take (suc n) (c ∷ cs) y = (y.0, belows-take n cs y.1)

pub belows-drop : (n : ℕ) (cs : List Child) → Belows cs → Belows (drop n cs)
belows-drop zero cs y = y
belows-drop (suc n) [] y = tt
belows-drop (suc n) (c ∷ cs) y = belows-drop n cs y.1

below-bytes : (cs : List Child) → Belows cs → IsBytes (below_of cs)
unfolding below_of
below-bytes [] y = λ i. omega arith
below-bytes (c ∷ cs) y = IsBytes-append c.below (below_of cs) y.0 (below-bytes cs y.1)

-- the leaves as the level above sees them, and the nodes of a level
pub belows-leaves : (t : Layout) (ns counts bytes : List ℕ) → IsBytes bytes → Belows (children_of ns (leaf_parts t counts bytes))
unfolding children_of leaf_parts
belows-leaves t [] counts bytes y = tt
belows-leaves t (n ∷ ns) [] bytes y = tt
belows-leaves t (n ∷ ns) (c ∷ counts) bytes y =
    (IsBytes-take (c * t.shape.record_length) bytes y, belows-leaves t ns counts (drop (c * t.shape.record_length) bytes) (IsBytes-drop (c * t.shape.record_length) bytes y))

pub belows-nodes : (t : Layout) (ns counts : List ℕ) (cs : List Child) → Belows cs → Belows (children_of ns (node_parts t counts cs))
unfolding children_of node_parts
belows-nodes t [] counts cs y = tt
belows-nodes t (n ∷ ns) [] cs y = tt
belows-nodes t (n ∷ ns) (c ∷ counts) cs y = (below-bytes (take c cs) (belows-take c cs y), belows-nodes t ns counts (drop c cs) (belows-drop c cs y))

module _ (t : Layout) where
  abbrev pub roomy : Part → Type 0
  roomy p = t.shape.header + length p.body ≤ t.shape.size

  abbrev pub fresh : Part → List ℕ
  fresh p = padded t.shape.size (replicate t.shape.header 0 ++ p.body)

module _ (t : Layout) (s : Sized t) where
  pub keys_length : (cs : List Child) → length (keys_of t.keys cs) ≡ length cs * t.shape.keys_length
  unfolding keys_of
  keys_length [] = sym (zero-mul t.shape.keys_length)
  keys_length (c ∷ cs) = omega (arith, length-append (t.keys c.below) (keys_of t.keys cs), s.keys_long c.below, keys_length cs)

  fresh-length : (p : Part) → roomy t p → length (fresh t p) ≡ t.shape.size
  fresh-length p h = padded-length t.shape.size (replicate t.shape.header 0 ++ p.body) (omega (arith, length-append (replicate t.shape.header 0) p.body, length-replicate {A = ℕ} t.shape.header 0))

  pub block-length : (level n : ℕ) (x : Links) (p : Part) → roomy t p → length (block_bytes t level n x p) ≡ t.shape.size
  block-length level n x p h = s.stamp_long n level p.count x (fresh t p) (fresh-length p h)

  pub leaf-roomy : (c : ℕ) (bytes : List ℕ) → c ≤ per_leaf t.shape → length bytes ≤ c * t.shape.record_length → roomy t (leaf_part c bytes)
  leaf-roomy c bytes h k = omega (arith, mul-le-mul_right t.shape.record_length h, div-mul-le_self (t.shape.size - t.shape.header) t.shape.record_length, s.header_fits)

  keys-room : (cs : List Child) → length cs ≤ per_node t.shape → length (padded (per_node t.shape * t.shape.keys_length) (keys_of t.keys cs)) ≡ per_node t.shape * t.shape.keys_length
  keys-room cs h = padded-length (per_node t.shape * t.shape.keys_length) (keys_of t.keys cs) (omega (arith, keys_length cs, mul-le-mul_right t.shape.keys_length h))

  pub node-roomy : (cs : List Child) → length cs ≤ per_node t.shape → roomy t (node_part t cs)
  node-roomy cs h =
      let k : List ℕ = padded (per_node t.shape * t.shape.keys_length) (keys_of t.keys cs) in
      omega (arith, length-append k (pointers_of cs), keys-room cs h, pointers-length cs, div-mul-le_self (t.shape.size - t.shape.header) (t.shape.keys_length + 4), mul-add (per_node t.shape) t.shape.keys_length 4, s.header_fits)

module _ (t : Layout) (s : Sound t) where
  keys_bytes : (cs : List Child) → Belows cs → IsBytes (keys_of t.keys cs)
  unfolding keys_of
  keys_bytes [] y = λ i. omega arith
  keys_bytes (c ∷ cs) y = IsBytes-append (t.keys c.below) (keys_of t.keys cs) (s.keys_bytes c.below y.0) (keys_bytes cs y.1)

  pub node-bytes : (cs : List Child) → Belows cs → IsBytes (node_part t cs).body
  node-bytes cs y =
      IsBytes-append (padded (per_node t.shape * t.shape.keys_length) (keys_of t.keys cs)) (pointers_of cs)
      (padded-bytes (per_node t.shape * t.shape.keys_length) (keys_of t.keys cs) (keys_bytes cs y)) (pointers-bytes cs)

  pub fresh-bytes : (p : Part) → IsBytes p.body → IsBytes (fresh t p)
  fresh-bytes p h = padded-bytes t.shape.size (replicate t.shape.header 0 ++ p.body) (IsBytes-append (replicate t.shape.header 0) p.body (IsBytes-zeros t.shape.header) h)

  -- after the header stands the body, then zeros
  abbrev pub rest : Part → List ℕ
  rest p = replicate (t.shape.size - length (replicate t.shape.header 0 ++ p.body)) 0

  pub block-body : (level n : ℕ) (x : Links) (p : Part) → roomy t p → drop t.shape.header (block_bytes t level n x p) ≡ p.body ++ rest p
  block-body level n x p h =
      s.stamp_body n level p.count x (fresh t p) (fresh-length t s.sized p h)
      ∙ ap (drop t.shape.header) (append_assoc (replicate t.shape.header 0) p.body (rest p))
      ∙ drop_at (replicate t.shape.header 0) (p.body ++ rest p) t.shape.header (length-replicate {A = ℕ} t.shape.header 0)

  pub leaf-shows : (n : ℕ) (x : Links) (c : ℕ) (bytes : List ℕ) → c ≤ per_leaf t.shape → length bytes ≡ c * t.shape.record_length
      → under t.shape (block_bytes t 0 n x (leaf_part c bytes)) 0 c ≡ good [] bytes
  unfolding under bytes_at
  leaf-shows n x c bytes h k =
      ap (λ (l : List ℕ). good [] (take (c * t.shape.record_length) l)) (block-body 0 n x (leaf_part c bytes) (leaf-roomy t s.sized c bytes h (omega arith)))
      ∙ ap (good []) (take_at bytes (rest (leaf_part c bytes)) (c * t.shape.record_length) k)

  pub node-shows : (n : ℕ) (y : Links) (l : ℕ) (cs : List Child) → AreNumbers (numbers_of cs) → length cs ≤ per_node t.shape
      → under t.shape (block_bytes t (suc l) n y (node_part t cs)) (suc l) (length cs) ≡ good (visits_to l cs) []
  unfolding under
  node-shows n y l cs a h =
      let b : List ℕ = block_bytes t (suc l) n y (node_part t cs) in
      let k : List ℕ = padded (per_node t.shape * t.shape.keys_length) (keys_of t.keys cs) in
      let q : List ℕ = rest (node_part t cs) in
      let p : List ℕ = take t.shape.header b ++ k in
      let z : length b ≡ t.shape.size = block-length t s.sized (suc l) n y (node_part t cs) (node-roomy t s.sized cs h) in
      let e : length p ≡ first_pointer t.shape = omega (arith, length-append (take t.shape.header b) k, keys-room t s.sized cs h, length-take-le t.shape.header b (omega (arith, s.sized.header_fits))) in
      let is : b ≡ p ++ (pointers_of cs ++ q) =
      sym (take-append-drop t.shape.header b)
      ∙ ap (λ (x : List ℕ). take t.shape.header b ++ x) (block-body (suc l) n y (node_part t cs) (node-roomy t s.sized cs h) ∙ append_assoc k (pointers_of cs) q)
      ∙ sym (append_assoc (take t.shape.header b) k (pointers_of cs ++ q)) in
      ap (λ (vs : List Visit). good vs []) (ap (λ (x : List ℕ). pointers x (first_pointer t.shape) l (length cs)) is ∙ pointers-read l cs p q (first_pointer t.shape) a e)

  -- a node and a leaf, before the stamp
  pub fresh-node : (n l left : ℕ) (ns : List ℕ) (cs : List Child) → n < 2 ^ 32 → suc l ≤ 9 → left < 2 ^ 32 → AreNumbers ns → Belows cs → length cs ≤ per_node t.shape
      → Fresh t.shape n (suc l) (length cs) (record { left = left; right = next ns }) (fresh t (node_part t cs))
  fresh-node n l left ns cs a f b c y k =
      record {
        number_fits = a;
        level_fits = f;
        left_fits = b;
        right_fits = next_small ns c;
        are_bytes = fresh-bytes (node_part t cs) (node-bytes cs y);
        long = fresh-length t s.sized (node_part t cs) (node-roomy t s.sized cs k);
        most = k;
      }

  pub fresh-leaf : (n left : ℕ) (ns : List ℕ) (c : ℕ) (bytes : List ℕ) → n < 2 ^ 32 → left < 2 ^ 32 → AreNumbers ns → IsBytes bytes
      → c ≤ per_leaf t.shape → length bytes ≤ c * t.shape.record_length
      → Fresh t.shape n 0 c (record { left = left; right = next ns }) (fresh t (leaf_part c bytes))
  fresh-leaf n left ns c bytes a b d y k m =
      record {
        number_fits = a;
        level_fits = omega arith;
        left_fits = b;
        right_fits = next_small ns d;
        are_bytes = fresh-bytes (leaf_part c bytes) y;
        long = fresh-length t s.sized (leaf_part c bytes) (leaf-roomy t s.sized c bytes k m);
        most = k;
      }

  module _ (image : List ℕ) where
    -- a look at a block that the image holds
    pub held-shows : (n l : ℕ) (x : Links) (p : Part) → Fresh t.shape n l p.count x (fresh t p) → (n + 1) * t.shape.size ≤ length image
        → block_in t.shape.size image n ≡ block_bytes t l n x p
        → look_in t.shape image (visit_of n l) ≡ under t.shape (block_bytes t l n x p) l p.count
    unfolding look_in
    held-shows n l x p f inside is = rw (le-leb ((n + 1) * t.shape.size) (length image) inside, is, s.stamp_passes n l p.count x (fresh t p) f)

    pub held_both : (xs ys : List Block) → Held t image (xs ++ ys) → Held t image xs × Held t image ys
    held_both [] ys h = (tt, h)
    held_both (x ∷ xs) ys h = let r = held_both xs ys h.2 in ((h.0, h.1, r.0), r.1)

    pub nodes-seen : (l left : ℕ) (ns counts : List ℕ) (cs : List Child) → left < 2 ^ 32 → AreNumbers ns → AreNumbers (numbers_of cs) → Belows cs → suc l ≤ 9 → Most (per_node t.shape) counts
        → Held t image (blocks_of t (suc l) left ns (node_parts t counts cs)) → NodesSeen t (look_in t.shape image) l ns counts cs
    unfolding blocks_of node_parts
    nodes-seen l left [] counts cs z a b y f m h = tt
    nodes-seen l left (n ∷ ns) [] cs z a b y f m h = tt
    nodes-seen l left (n ∷ ns) (c ∷ counts) cs z a b y f m h =
        let k : length (take c cs) ≤ per_node t.shape = omega (arith, length-take c cs, m.0) in (
          held-shows n (suc l) (record { left = left; right = next ns }) (node_part t (take c cs)) (fresh-node n l left ns (take c cs) (a 0) f z (λ i. a (suc i)) (belows-take c cs y) k) h.0 h.1
              ∙ node-shows n (record { left = left; right = next ns }) l (take c cs) (rw (children-take c cs) (numbers-take c (numbers_of cs) b)) k,
          nodes-seen l n ns counts (drop c cs) (a 0) (λ i. a (suc i)) (rw (children-drop c cs) (numbers-drop c (numbers_of cs) b)) (belows-drop c cs y) f m.1 h.2,
        )

    pub above-seen : (l : ℕ) (ks nums : List ℕ) (cs : List Child) → AreNumbers nums → AreNumbers (numbers_of cs) → Belows cs → l + length ks ≤ 9 → Shaped (per_node t.shape) (length cs) ks → length nums ≡ sum ks → Held t image (build_above t (suc l) ks nums cs) → AboveSeen t (look_in t.shape image) l ks nums cs
    unfolding build_above sum
    above-seen l [] nums cs a d y f e z h = tt
    above-seen l (k ∷ ks) nums cs a d y f e z h =
        let ps : List Part = node_parts t (shares (length cs) k) cs in
        let cs' : List Child = children_of (take k nums) ps in
        let i : length cs' ≡ k = next-length t k nums cs (omega arith) in
        let j : numbers_of cs' ≡ take k nums = next-numbers t k nums cs (omega arith) in
        let b = held_both (blocks_of t (suc l) null_ag_block (take k nums) ps) (build_above t (suc (suc l)) ks (drop k nums) cs') h in (
          nodes-seen l null_ag_block (take k nums) (shares (length cs) k) cs (omega arith) (numbers-take k nums a) d y (omega arith) (shares-most (length cs) k 0 k (per_node t.shape) e.0 e.1) b.0,
          above-seen (suc l) ks (drop k nums) cs' (numbers-drop k nums a) (rw j (numbers-take k nums a)) (belows-nodes t (take k nums) (shares (length cs) k) cs y) (omega arith) (subst (λ (x : ℕ). Shaped (per_node t.shape) x ks) (sym i) e.2) (omega (arith, length-drop k nums)) b.1,
        )

    pub leaves-seen : (left : ℕ) (ns counts bytes : List ℕ) → left < 2 ^ 32 → AreNumbers ns → IsBytes bytes → Most (per_leaf t.shape) counts
        → sum counts * t.shape.record_length ≤ length bytes → Held t image (blocks_of t 0 left ns (leaf_parts t counts bytes)) → LeavesSeen t (look_in t.shape image) ns counts bytes
    unfolding blocks_of leaf_parts sum
    leaves-seen left [] counts bytes z a y m e h = tt
    leaves-seen left (n ∷ ns) [] bytes z a y m e h = tt
    leaves-seen left (n ∷ ns) (c ∷ counts) bytes z a y m e h =
        let w : ℕ = t.shape.record_length in
        let f : (c + sum counts) * w ≡ c * w + sum counts * w = add-mul c (sum counts) w in
        let k : length (take (c * w) bytes) ≡ c * w = length-take-le (c * w) bytes (omega arith) in (
          held-shows n 0 (record { left = left; right = next ns }) (leaf_part c (take (c * w) bytes)) (fresh-leaf n left ns c (take (c * w) bytes) (a 0) z (λ i. a (suc i)) (IsBytes-take (c * w) bytes y) m.0 (omega arith)) h.0 h.1
              ∙ leaf-shows n (record { left = left; right = next ns }) c (take (c * w) bytes) m.0 k,
          leaves-seen n ns counts (drop (c * w) bytes) (a 0) (λ i. a (suc i)) (IsBytes-drop (c * w) bytes y) m.1 (omega (arith, length-drop (c * w) bytes)) h.2,
        )
