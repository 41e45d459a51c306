-- The keys and the pointers of a node, written one after another.
-- Assumes nothing.
use Prim.Native.Nat.{ℕ, zero, suc, ◌+◌, ◌-◌, ◌*◌, ◌/◌, ◌≤◌, ◌<◌}
use native.Mathlib.Nat.{zero-mul, add-zero, mul-le-mul_right, div-mul-le_self, add-sub_cancel_left}
use native.Mathlib.Numerals.{add-one}
use native.Mathlib.Omega.{arith}
use mathlib.Core.Path.{◌≡◌, refl, sym, ap, ap₂, ◌∙◌, subst, subst₂}
use mathlib.Core.Bool.{true, false}
use mathlib.Core.List.{List, [], ◌∷◌, ◌++◌, append_assoc, append-nil}
use lib.ListN.{length, take, drop, get_or, length-append, length-drop}
use lib.Seq.{take-take, take-suc, length-take-le, take-length}
use Rattle.codec.specs.Bytes.{bytes_at, with_bytes, be_bytes}
use Rattle.codec.specs.Records.{rmaps}
use Rattle.codec.proofs.Numbers.{length-be_bytes}
use Rattle.codec.proofs.Parts.{with_bytes-add}
use Rattle.codec.proofs.Stores.{with_bytes-none}
use Rattle.blocks.specs.declared.kind.TreeKind.{TreeKind}
use Rattle.blocks.specs.declared.kind.TreeKind.TheVariants.{Rmap}
use Rattle.blocks.specs.Tree.{overlapping, record_len, keys_len}
use Rattle.blocks.proofs.Laws.{overlapping-is, key-within}
use Rattle.trees.specs.Plan.{first_of}
use Rattle.trees.specs.Build.{Child, padded, keys_of, pointers_of}
use Rattle.trees.specs.Keys.{rmap_keys, first_key, records_between, AllGood}
use Rattle.trees.specs.BuildCall.{keys_under}
use Rattle.trees.specs.Inner.BuildNeeds.{Keyed, Under, Planned, Children, pointer_bytes, span_children, level_children}
use Rattle.trees.proofs.TreeKinds.{keys_long}
use Rattle.trees.proofs.Going.{first_ends}
use Rattle.trees.proofs.KeyLaws.{records-part}
use Rattle.trees.proofs.Padding.{padded-full}

-- ---- pointers

pub pointer-append : (xs ys : List ℕ) → pointer_bytes (xs ++ ys) ≡ pointer_bytes xs ++ pointer_bytes ys
unfolding pointer_bytes
pointer-append [] ys = refl
pointer-append (x ∷ xs) ys = ap (λ (l : List ℕ). be_bytes 4 x ++ l) (pointer-append xs ys) ∙ sym (append_assoc (be_bytes 4 x) (pointer_bytes xs) (pointer_bytes ys))

pub pointer-length : (xs : List ℕ) → length (pointer_bytes xs) ≡ length xs * 4
unfolding pointer_bytes
pointer-length [] = refl
pointer-length (x ∷ xs) = omega (arith, length-append (be_bytes 4 x) (pointer_bytes xs), length-be_bytes 4 x, pointer-length xs)

pub pointer_none : (b : List ℕ) (at : ℕ) → b ≡ with_bytes b at (pointer_bytes [])
unfolding pointer_bytes
pointer_none b at = sym (with_bytes-none b at)

-- one pointer more
pub pointer-next : (b ns : List ℕ) (at i : ℕ) → i < length ns → at + length ns * 4 ≤ length b
    → with_bytes (with_bytes b at (pointer_bytes (take i ns))) (at + i * 4) (be_bytes 4 (get_or ns i 0)) ≡ with_bytes b at (pointer_bytes (take (i + 1) ns))
unfolding pointer_bytes
pointer-next b ns at i h k =
    let p : List ℕ = pointer_bytes (take i ns) in
    let x : List ℕ = be_bytes 4 (get_or ns i 0) in
    let l : length p ≡ i * 4 = pointer-length (take i ns) ∙ ap (λ (n : ℕ). n * 4) (length-take-le i ns (omega arith)) in
    ap (λ (n : ℕ). with_bytes (with_bytes b at p) (at + n) x) (sym l)
    ∙ with_bytes-add b at p x (omega arith)
    ∙ ap (with_bytes b at)
    (ap (λ (y : List ℕ). p ++ y) (sym (append-nil x)) ∙ sym (pointer-append (take i ns) (get_or ns i 0 ∷ [])) ∙ ap pointer_bytes (sym (take-suc ns i 0 h) ∙ ap (λ (n : ℕ). take n ns) (sym (add-one i))))

-- ---- the keys of one child

pub rmap-keys-are : (list : List ℕ) (from to : ℕ) → from < to → to ≤ length list / 24
    → rmap_keys (records_between rmaps list from to) ≡ keys_under Rmap (bytes_at list (from * 24) (to * 24 - from * 24))
unfolding keys_under
rmap-keys-are list from to lt le = ap rmap_keys (sym (records-part rmaps list from to (omega arith) (omega arith) le))

-- the first k bytes of some records of w bytes each are those of the first of them
first-key-is : (list : List ℕ) (from to w k : ℕ) → from < to → to * w ≤ length list → k ≤ w
    → bytes_at list (from * w) k ≡ first_key k (bytes_at list (from * w) (to * w - from * w))
unfolding first_key bytes_at
first-key-is list from to w k lt inside le =
    let one : suc from * w ≤ to * w = mul-le-mul_right w lt in
    let l : List ℕ = drop (from * w) list in
    let long : length (take k l) ≡ k = length-take-le k l (omega (arith, length-drop (from * w) list)) in
    sym
    (ap (padded k) (take-take k (to * w - from * w) l (omega arith))
    ∙ padded-full k (take k l) (omega arith))

-- the same by the kind of the tree: of a reverse map, and of any other
abbrev keys_at : TreeKind → List ℕ → List ℕ → ℕ → ℕ → ℕ → List ℕ
keys_at k list b from to at = with_bytes b at (keys_under k (bytes_at list (from * record_len k) (to * record_len k - from * record_len k)))

module _ (kind : TreeKind) (list b : List ℕ) (from to at : ℕ) (u : Under kind list from to) where
  module _ (e : overlapping kind ≡ true) where
    under : Under Rmap list from to
    under = subst (λ (k : TreeKind). Under k list from to) (overlapping-is kind e) u

    pub rmap-given : Keyed kind list → at + keys_len kind ≤ length b → ((from < to) × (to ≤ length list / 24) × AllGood list) × (at + 40 ≤ length b)
    rmap-given keyed h = ((under.some, under.inside, keyed e), subst (λ (k : TreeKind). at + keys_len k ≤ length b) (overlapping-is kind e) h)

    pub keys-rmap : (x : List ℕ) → x ≡ with_bytes b at (rmap_keys (records_between rmaps list from to)) → x ≡ keys_at kind list b from to at
    keys-rmap x h =
        subst (λ (k : TreeKind). x ≡ keys_at k list b from to at) (sym (overlapping-is kind e))
        (h ∙ ap (with_bytes b at) (rmap-keys-are list from to under.some under.inside))

  -- where a record and its key are as long as they are told to be
  pub records-in : (w : ℕ) → w ≡ record_len kind → from * w + w ≤ length list
  records-in w we =
      let one : suc from * record_len kind ≤ to * record_len kind = mul-le-mul_right (record_len kind) u.some in
      let all : to * record_len kind ≤ length list / record_len kind * record_len kind = mul-le-mul_right (record_len kind) u.inside in
      let is : from * w + w ≡ from * record_len kind + record_len kind = ap (λ (x : ℕ). from * x + x) we in
      omega (arith, div-mul-le_self (length list) (record_len kind))

  module _ (e : overlapping kind ≡ false) (w k : ℕ) (we : w ≡ record_len kind) (ke : k ≡ keys_len kind) where
    pub key_in : from * w + k ≤ length list
    key_in = omega (arith, key-within kind e, records-in w we)

    pub key-first : (x : List ℕ) → x ≡ with_bytes b at (take (from * w + k - from * w) (drop (from * w) list)) → x ≡ keys_at kind list b from to at
    unfolding keys_under bytes_at
    key-first x h =
        let all : to * record_len kind ≤ length list / record_len kind * record_len kind = mul-le-mul_right (record_len kind) u.inside in
        let cut : take (from * w + k - from * w) (drop (from * w) list) ≡ take (keys_len kind) (drop (from * record_len kind) list) =
        ap₂ (λ (a c : ℕ). take a (drop c list)) (add-sub_cancel_left (from * w) k ∙ ke) (ap (λ (a : ℕ). from * a) we) in
        h
        ∙ ap (with_bytes b at)
        (cut
        ∙ first-key-is list from to (record_len kind) (keys_len kind) u.some (omega (arith, div-mul-le_self (length list) (record_len kind))) (key-within kind e)
        ∙ sym (rw e refl))

-- ---- children after one another

pub keys-total : (keys : List ℕ → List ℕ) (m : ℕ) → ((l : List ℕ) → length (keys l) ≡ m) → (cs : List Child) → length (keys_of keys cs) ≡ length cs * m
unfolding keys_of
keys-total keys m long [] = sym (zero-mul m)
keys-total keys m long (c ∷ cs) = omega (arith, length-append (keys c.below) (keys_of keys cs), long c.below, keys-total keys m long cs)

module _ (w : ℕ) (list : List ℕ) (f : ℕ → ℕ) where
  abbrev pub span_under : ℕ → List ℕ
  span_under i = bytes_at list (f i * w) (f (suc i) * w - f i * w)

  pub span-count : (s : ℕ) (ns : List ℕ) → length (span_children w list f s ns) ≡ length ns
  unfolding span_children
  span-count s [] = refl
  span-count s (n ∷ ns) = ap suc (span-count (suc s) ns)

  pub span-take : (c s : ℕ) (ns : List ℕ) → take c (span_children w list f s ns) ≡ span_children w list f s (take c ns)
  unfolding span_children
  span-take zero s ns = refl
  span-take (suc c) s [] = refl
  span-take (suc c) s (n ∷ ns) = ap (λ (l : List Child). record { block = n; below = span_under s } ∷ l) (span-take c (suc s) ns)

  pub span-drop : (c s : ℕ) (ns : List ℕ) → drop c (span_children w list f s ns) ≡ span_children w list f (s + c) (drop c ns)
  unfolding span_children
  span-drop zero s ns = rw (add-zero s)
  span-drop (suc c) s [] = refl
  span-drop (suc c) s (n ∷ ns) = let e : suc s + c ≡ s + suc c = omega arith in span-drop c (suc s) ns ∙ ap (λ (x : ℕ). span_children w list f x (drop c ns)) e

  pub span-pointers : (s : ℕ) (ns : List ℕ) → pointers_of (span_children w list f s ns) ≡ pointer_bytes ns
  unfolding pointers_of span_children pointer_bytes
  span-pointers s [] = refl
  span-pointers s (n ∷ ns) = ap (λ (l : List ℕ). be_bytes 4 n ++ l) (span-pointers (suc s) ns)

  module _ (keys : List ℕ → List ℕ) where
    span-keys-next : (s j : ℕ) (ns : List ℕ) → j < length ns
        → keys_of keys (span_children w list f s (take (suc j) ns)) ≡ keys_of keys (span_children w list f s (take j ns)) ++ keys (span_under (s + j))
    unfolding keys_of span_children
    span-keys-next s j [] h = absurd (omega arith)
    span-keys-next s zero (n ∷ ns) h = rw (add-zero s) (append-nil (keys (span_under s)))
    span-keys-next s (suc j) (n ∷ ns) h =
        let e : suc s + j ≡ s + suc j = omega arith in
        ap (λ (l : List ℕ). keys (span_under s) ++ l) (span-keys-next (suc s) j ns (omega arith) ∙ ap (λ (i : ℕ). keys_of keys (span_children w list f (suc s) (take j ns)) ++ keys (span_under i)) e)
        ∙ sym (append_assoc (keys (span_under s)) (keys_of keys (span_children w list f (suc s) (take j ns))) (keys (span_under (s + suc j))))

    pub keys_none : (b : List ℕ) (at s : ℕ) (ns : List ℕ) → b ≡ with_bytes b at (keys_of keys (span_children w list f s (take 0 ns)))
    unfolding keys_of span_children
    keys_none b at s ns = sym (with_bytes-none b at)

    -- one child's keys more
    pub keys-next : (m : ℕ) → ((l : List ℕ) → length (keys l) ≡ m) → (b : List ℕ) (at s j : ℕ) (ns : List ℕ) → j < length ns → at + length ns * m ≤ length b
        → with_bytes (with_bytes b at (keys_of keys (span_children w list f s (take j ns)))) (at + j * m) (keys (span_under (s + j)))
        ≡ with_bytes b at (keys_of keys (span_children w list f s (take (j + 1) ns)))
    keys-next m long b at s j ns h room =
        let p : List ℕ = keys_of keys (span_children w list f s (take j ns)) in
        let l : length p ≡ j * m =
        keys-total keys m long (span_children w list f s (take j ns))
        ∙ ap (λ (x : ℕ). x * m) (span-count s (take j ns) ∙ length-take-le j ns (omega arith)) in
        let k : j * m ≤ length ns * m = (let lt : j ≤ length ns = omega arith in mul-le-mul_right m lt) in
        ap (λ (x : ℕ). with_bytes (with_bytes b at p) (at + x) (keys (span_under (s + j)))) (sym l)
        ∙ with_bytes-add b at p (keys (span_under (s + j))) (omega arith)
        ∙ ap (with_bytes b at) (sym (span-keys-next s j ns h) ∙ ap (λ (x : ℕ). keys_of keys (span_children w list f s (take x ns))) (sym (add-one j)))

-- ---- the keys of a level's children, one after another

module _ (kind : TreeKind) (list levels : List ℕ) (level child : ℕ) (below before : List ℕ) (at : ℕ) where
  abbrev n : ℕ
  n = length list / record_len kind

  -- the loop's invariant: the keys of the first j children are written, and the next child's records begin at `from`
  pub record KeysSo (b : List ℕ) (from j : ℕ) : Type 0 where
    pub most : j ≤ length below
    pub long : length b ≡ length before
    pub written : b ≡ with_bytes before at (keys_of (keys_under kind) (level_children kind list levels level child (take j below)))
    pub place : from ≡ first_of n levels level (child + j)

  pub keys-start : (from : ℕ) → from ≡ first_of n levels level child → KeysSo before from 0
  keys-start from e =
      record {
        most = omega arith;
        long = refl;
        written = keys_none (record_len kind) list (first_of n levels level) (keys_under kind) before at child below;
        place = e ∙ ap (first_of n levels level) (sym (add-zero child));
      }

  pub keys-done : (b : List ℕ) (from j : ℕ) → KeysSo b from j → j ≡ length below
      → b ≡ with_bytes before at (keys_of (keys_under kind) (level_children kind list levels level child below))
  keys-done b from j s e =
      s.written ∙ ap (λ (l : List ℕ). with_bytes before at (keys_of (keys_under kind) (level_children kind list levels level child l))) (ap (λ (x : ℕ). take x below) e ∙ take-length below)

  -- what a round needs and leaves, where the next child's records begin at `to` and a child's keys are m bytes
  pub record KeyRound (b : List ℕ) (from j to m : ℕ) : Type 0 where
    pub under : Under kind list from to
    pub room : at + j * m + keys_len kind ≤ length before
    pub next : (b' : List ℕ) → length b' ≡ length b
        → b' ≡ with_bytes b (at + j * m) (keys_under kind (bytes_at list (from * record_len kind) (to * record_len kind - from * record_len kind)))
        → KeysSo b' to (j + 1)

  pub key-round : {b : List ℕ} {from j to m v : ℕ} → Children kind list levels level child below → at + length below * keys_len kind ≤ length before
      → KeysSo b from j → j < length below → m ≡ keys_len kind → v ≡ record_len kind → to ≡ first_of (length list / v) levels level (child + j + 1)
      → KeyRound b from j to m
  key-round {b} {from} {j} {to} {m} {v} q room s h me ve te =
      let f : ℕ → ℕ = first_of n levels level in
      let w : ℕ = record_len kind in
      let to_is : to ≡ f (suc (child + j)) = te ∙ ap₂ (λ (x y : ℕ). first_of (length list / x) levels level y) ve (add-one (child + j)) in
      let more : suc j * keys_len kind ≤ length below * keys_len kind = mul-le-mul_right (keys_len kind) h in
      let jm : j * m ≡ j * keys_len kind = ap (λ (x : ℕ). j * x) me in
      let c : List ℕ → List Child = level_children kind list levels level child in
      record {
        under =
            record {
              some = subst₂ (λ (x y : ℕ). x < y) (sym s.place) (sym to_is) (q.planned.rises (child + j) (omega (arith, q.last)));
              inside = subst (λ (x : ℕ). x ≤ n) (sym to_is) (first_ends n levels level (suc (child + j)) q.planned.some (omega (arith, q.last)));
            };
        room = omega arith;
        next = λ b' l e.
            record {
              most = omega arith;
              long = l ∙ s.long;
              written =
                  e
                  ∙ ap₂ (λ (x y : ℕ). with_bytes b (at + j * m) (keys_under kind (bytes_at list (x * w) (y * w - x * w)))) s.place to_is
                  ∙ ap₂ (λ (x : List ℕ) (y : ℕ). with_bytes x (at + y) (keys_under kind (span_under w list f (child + j)))) s.written jm
                  ∙ keys-next w list f (keys_under kind) (keys_len kind) (keys_long kind) before at child j below h room;
              place = to_is ∙ ap f (let z : suc (child + j) ≡ child + (j + 1) = omega arith in z);
            };
      }

-- what `first` is asked, where the record's length is at hand
pub planned-by : (kind : TreeKind) (list levels : List ℕ) (level v : ℕ) → v ≡ record_len kind → Planned (length list / record_len kind) levels level → Planned (length list / v) levels level
planned-by kind list levels level v e p = subst (λ (x : ℕ). Planned (length list / x) levels level) (sym e) p

-- a level has no more blocks than there are records
module _ (n : ℕ) (levels : List ℕ) (level : ℕ) (p : Planned n levels level) where
  climbs : (m : ℕ) → m ≤ get_or levels level 0 → m ≤ first_of n levels level m
  climbs zero h = omega arith
  climbs (suc m) h = omega (arith, climbs m (omega arith), p.rises m (omega arith))

  pub level-most : get_or levels level 0 ≤ n
  level-most = omega (arith, climbs (get_or levels level 0) (omega arith), first_ends n levels level (get_or levels level 0) p.some (omega arith))
