-- The records under each block of a level are those between two places that the plan alone gives.
-- So code finds them by going down the plan, with no scratch memory.
-- Assumes nothing.
use Prim.Native.Nat.{ℕ, zero, suc, ◌+◌, ◌-◌, ◌*◌, ◌≤◌}
use native.Mathlib.Nat.{add-zero, mul-le-mul_right, add-mul, sub_self}
use native.Mathlib.Omega.{arith}
use mathlib.Core.Path.{◌≡◌, sym, ap, ap₂, ◌∙◌, subst}
use mathlib.Core.List.{List, [], ◌∷◌, ◌++◌}
use lib.ListN.{length, take, drop, length-drop}
use lib.Seq.{take-add, drop-drop, length-take-le}
use Rattle.trees.specs.Plan.{sum, share_of, shares_from, start_of}
use Rattle.trees.specs.BlockLayout.{Layout}
use Rattle.trees.specs.Build.{Child, below_of, leaf_parts, node_parts, children_of}
use Rattle.trees.proofs.Sharing.{share-is}

abbrev pub part : List ℕ → ℕ → ℕ → List ℕ
part l a b = take (b - a) (drop a l)

part_join : (l : List ℕ) (a b c : ℕ) → a ≤ b → b ≤ c → part l a b ++ part l b c ≡ part l a c
part_join l a b c h k =
    let e : a + (b - a) ≡ b = omega arith in
    let d : (b - a) + (c - b) ≡ c - a = omega arith in
    ap (λ (x : List ℕ). part l a b ++ take (c - b) x) (ap (λ (x : ℕ). drop x l) (sym e) ∙ sym (drop-drop (b - a) a l))
    ∙ sym (take-add (b - a) (c - b) (drop a l))
    ∙ ap (λ (x : ℕ). take x (drop a l)) d

-- children from the s-th on: the records under each are those from f of its place to f of the next
module _ (w : ℕ) (records : List ℕ) where
  abbrev pub Spanned : (ℕ → ℕ) → ℕ → List Child → Type 0
  Spanned f s [] = Unit {0}
  Spanned f s (c ∷ cs) = (f s ≤ f (suc s)) × (c.below ≡ part records (f s * w) (f (suc s) * w)) × Spanned f (suc s) cs

  module _ (f : ℕ → ℕ) where
    rises : (s : ℕ) (cs : List Child) → Spanned f s cs → f s ≤ f (s + length cs)
    rises s [] h = rw (add-zero s) (omega arith)
    rises s (c ∷ cs) h = let e : suc s + length cs ≡ s + suc (length cs) = omega arith in omega (arith, h.0, rises (suc s) cs h.2, ap f e)

    pub spanned-records : (s : ℕ) (cs : List Child) → Spanned f s cs → below_of cs ≡ part records (f s * w) (f (s + length cs) * w)
    unfolding below_of
    spanned-records s [] h = rw (add-zero s, sub_self)
    spanned-records s (c ∷ cs) h =
        let e : suc s + length cs ≡ s + suc (length cs) = omega arith in
        ap₂ (λ (x y : List ℕ). x ++ y) h.1 (spanned-records (suc s) cs h.2)
        ∙ part_join records (f s * w) (f (suc s) * w) (f (suc s + length cs) * w) (mul-le-mul_right w h.0) (mul-le-mul_right w (rises (suc s) cs h.2))
        ∙ ap (λ (x : ℕ). part records (f s * w) (f x * w)) e

    pub spanned-take : (n s : ℕ) (cs : List Child) → Spanned f s cs → Spanned f s (take n cs)
    spanned-take zero s cs h = tt
    spanned-take (suc n) s [] h = tt
    spanned-take (suc n) s (c ∷ cs) h = (h.0, h.1, spanned-take n (suc s) cs h.2)

    pub spanned-drop : (n s : ℕ) (cs : List Child) → Spanned f s cs → Spanned f (s + n) (drop n cs)
    spanned-drop zero s cs h = rw (add-zero s) h
    spanned-drop (suc n) s [] h = tt
    spanned-drop (suc n) s (c ∷ cs) h = let e : suc s + n ≡ s + suc n = omega arith in subst (λ (x : ℕ). Spanned f x (drop n cs)) e (spanned-drop n (suc s) cs h.2)

pub start-next : (n k i : ℕ) → start_of n k (suc i) ≡ start_of n k i + share_of n k i
unfolding start_of
start-next n k i = omega (arith, share-is n k i)

pub start-zero : (n k : ℕ) → start_of n k 0 ≡ 0
unfolding start_of
start-zero n k = omega arith

module _ (t : Layout) (records : List ℕ) (n k : ℕ) where
  abbrev w : ℕ
  w = t.shape.record_length

  -- leaves
  pub leaves-spanned : (m i : ℕ) (ns : List ℕ) → Spanned w records (start_of n k) i (children_of ns (leaf_parts t (shares_from n k i m) (drop (start_of n k i * w) records)))
  unfolding children_of leaf_parts shares_from
  leaves-spanned zero i [] = tt
  leaves-spanned zero i (x ∷ ns) = tt
  leaves-spanned (suc m) i [] = tt
  leaves-spanned (suc m) i (x ∷ ns) =
      let c : ℕ = share_of n k i in
      let a : ℕ = start_of n k i in
      let e : start_of n k (suc i) ≡ a + c = start-next n k i in
      let d : c * w ≡ start_of n k (suc i) * w - a * w = omega (arith, ap (λ (x : ℕ). x * w) e, add-mul a c w) in
      let b : a * w + c * w ≡ start_of n k (suc i) * w = omega (arith, ap (λ (x : ℕ). x * w) e, add-mul a c w) in (
        omega arith,
        ap (λ (x : ℕ). take x (drop (a * w) records)) d,
        subst (λ (l : List ℕ). Spanned w records (start_of n k) (suc i) (children_of ns (leaf_parts t (shares_from n k (suc i) m) l)))
            (sym (drop-drop (c * w) (a * w) records ∙ ap (λ (x : ℕ). drop x records) b)) (leaves-spanned m (suc i) ns),
      )

  -- the nodes over children whose spans are known
  pub nodes-spanned : (f : ℕ → ℕ) (m i : ℕ) (ns : List ℕ) (cs : List Child) → length cs ≡ sum (shares_from n k i m) → Spanned w records f (start_of n k i) cs → Spanned w records (λ j. f (start_of n k j)) i (children_of ns (node_parts t (shares_from n k i m) cs))
  unfolding children_of node_parts shares_from sum
  nodes-spanned f zero i [] cs l h = tt
  nodes-spanned f zero i (x ∷ ns) cs l h = tt
  nodes-spanned f (suc m) i [] cs l h = tt
  nodes-spanned f (suc m) i (x ∷ ns) cs l h =
      let c : ℕ = share_of n k i in
      let a : ℕ = start_of n k i in
      let z : length (take c cs) ≡ c = length-take-le c cs (omega arith) in
      let e : start_of n k (suc i) ≡ a + c = start-next n k i in
      let p : Spanned w records f a (take c cs) = spanned-take w records f c a cs h in
      let q : a + length (take c cs) ≡ start_of n k (suc i) = omega arith in (
        subst (λ (y : ℕ). f a ≤ f y) q (rises w records f a (take c cs) p),
        spanned-records w records f a (take c cs) p ∙ ap (λ (y : ℕ). part records (f a * w) (f y * w)) q,
        nodes-spanned f m (suc i) ns (drop c cs) (omega (arith, length-drop c cs)) (subst (λ (y : ℕ). Spanned w records f y (drop c cs)) (sym e) (spanned-drop w records f c a cs h)),
      )
