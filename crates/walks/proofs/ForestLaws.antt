-- Laws of a walk of two lists of blocks, of a walk of a forest, and of the forest that a finished walk read.
-- Assumes nothing.
use Prim.Native.Nat.{ℕ, zero, suc, ◌+◌, ◌-◌, ◌≤◌}
use native.Mathlib.Omega.{arith}
use mathlib.Core.Path.{◌≡◌, refl, sym, ap, ap₂, ◌∙◌}
use mathlib.Core.List.{List, [], ◌∷◌, ◌++◌, append_assoc, append-nil}
use lib.ListN.{length, take, drop, length-append}
use lib.Seq.{take-append_seam, drop-append_seam}
use Rattle.walks.specs.Walk.{Visit, Look, bad, good, Trace, finished, spent, failed, met, after, run, visits, records}
use Rattle.walks.specs.Forest.{Forest, empty, tree, roots, blocks_in, bytes_in, Stands, first, rest, through, size_of}
use Rattle.walks.proofs.RunLaws.{run_none}

-- ---- two lists of blocks

-- a walk after a walk, with the visits that are left
unfoldable pub follow : Trace → ℕ → (ℕ → Trace) → Trace
follow finished n k = k n
follow spent n k = spent
follow (failed m x) n k = failed m x
follow (met v b t) n k = met v b (follow t (n - 1) k)

module _ (look : Visit → Look) where
  after-append : (n : ℕ) (v : Visit) (xs ys : List Visit) (l : Look)
      → ((below : List Visit) → run look n ((below ++ xs) ++ ys) ≡ follow (run look n (below ++ xs)) n (λ m. run look m ys))
      → after v (λ below. run look n (below ++ (xs ++ ys))) l ≡ follow (after v (λ below. run look n (below ++ xs)) l) (suc n) (λ m. run look m ys)
  unfolding follow
  after-append n v xs ys (bad m x) h = refl
  after-append n v xs ys (good below b) h =
      let e : n ≡ suc n - 1 = omega arith in
      ap (met v b) (ap (run look n) (sym (append_assoc below xs ys)) ∙ h below ∙ ap (λ (m : ℕ). follow (run look n (below ++ xs)) m (λ k. run look k ys)) e)

  -- the walk of two lists of blocks is one walk after the other
  pub run-append : (n : ℕ) (xs ys : List Visit) → run look n (xs ++ ys) ≡ follow (run look n xs) n (λ m. run look m ys)
  unfolding run follow
  run-append zero [] ys = refl
  run-append zero (v ∷ xs) ys = refl
  run-append (suc n) [] ys = refl
  run-append (suc n) (v ∷ xs) ys = after-append n v xs ys (look v) (λ below. run-append n (below ++ xs) ys)

-- ---- a forest

module _ (look : Visit → Look) where
  pub walk-forest : (f : Forest) (n : ℕ) (due : List Visit) → Stands look f → size_of f ≤ n → run look n (roots f ++ due) ≡ through f (run look (n - size_of f) due)
  unfolding roots through size_of run
  walk-forest empty n due s h = let e : n ≡ n - 0 = omega arith in ap (λ (m : ℕ). run look m due) e
  walk-forest (tree v b below right) zero due s h = absurd (omega arith)
  walk-forest (tree v b below right) (suc n) due s h =
      let e : n - size_of below - size_of right ≡ suc n - suc (size_of below + size_of right) = omega arith in
      rw s.0
      (ap (met v b)
      (walk-forest below n (roots right ++ due) s.1 (omega arith)
      ∙ ap (through below) (walk-forest right (n - size_of below) due s.2 (omega arith) ∙ ap (λ (m : ℕ). through right (run look m due)) e)))

  -- from the roots alone the walk ends there
  pub walk-whole : (f : Forest) (n : ℕ) → Stands look f → size_of f ≤ n → run look n (roots f) ≡ through f finished
  walk-whole f n s h = ap (run look n) (sym (append-nil (roots f))) ∙ walk-forest f n [] s h ∙ ap (through f) (run_none look (n - size_of f))

pub through-visits : (f : Forest) (t : Trace) → visits (through f t) ≡ blocks_in f ++ visits t
unfolding through blocks_in visits
through-visits empty t = refl
through-visits (tree v b below right) t =
    ap (λ (l : List Visit). v ∷ l) (through-visits below (through right t) ∙ ap (λ (l : List Visit). blocks_in below ++ l) (through-visits right t) ∙ sym (append_assoc (blocks_in below) (blocks_in right) (visits t)))

pub through-records : (f : Forest) (t : Trace) → records (through f t) ≡ bytes_in f ++ records t
unfolding through bytes_in records
through-records empty t = refl
through-records (tree v b below right) t =
    ap (λ (l : List ℕ). b ++ l) (through-records below (through right t) ∙ ap (λ (l : List ℕ). bytes_in below ++ l) (through-records right t) ∙ sym (append_assoc (bytes_in below) (bytes_in right) (records t)))
    ∙ sym (append_assoc b (bytes_in below ++ bytes_in right) (records t))

pub size-blocks : (f : Forest) → length (blocks_in f) ≡ size_of f
unfolding blocks_in size_of
size-blocks empty = refl
size-blocks (tree v b below right) = ap suc (length-append (blocks_in below) (blocks_in right) ∙ ap₂ (λ (x y : ℕ). x + y) (size-blocks below) (size-blocks right))

pub size-first-rest : (n : ℕ) (f : Forest) → size_of (first n f) + size_of (rest n f) ≡ size_of f
unfolding size_of first rest
size-first-rest zero f = omega arith
size-first-rest (suc n) empty = refl
size-first-rest (suc n) (tree v b below right) = omega (arith, size-first-rest n right)

-- the walk ended with nothing due
abbrev pub Finished : Trace → Type 0
Finished finished = Unit {0}
Finished spent = ⊥
Finished (failed n x) = ⊥
Finished (met v b t) = Finished t

roots-first : (k : ℕ) (f : Forest) → roots (first k f) ≡ take k (roots f)
unfolding roots first
roots-first zero f = refl
roots-first (suc k) empty = refl
roots-first (suc k) (tree v b below right) = ap (λ (l : List Visit). v ∷ l) (roots-first k right)

roots-rest : (k : ℕ) (f : Forest) → roots (rest k f) ≡ drop k (roots f)
unfolding roots rest
roots-rest zero f = refl
roots-rest (suc k) empty = refl
roots-rest (suc k) (tree v b below right) = roots-rest k right

module _ (look : Visit → Look) where
  stands-first : (k : ℕ) (f : Forest) → Stands look f → Stands look (first k f)
  unfolding first
  stands-first zero f s = tt
  stands-first (suc k) empty s = tt
  stands-first (suc k) (tree v b below right) s = (s.0, s.1, stands-first k right s.2)

  stands-rest : (k : ℕ) (f : Forest) → Stands look f → Stands look (rest k f)
  unfolding rest
  stands-rest zero f s = s
  stands-rest (suc k) empty s = tt
  stands-rest (suc k) (tree v b below right) s = stands-rest k right s.2

  abbrev pub FromForest : ℕ → List Visit → Type 0
  FromForest n due = (f : Forest) × (roots f ≡ due) × Stands look f × (size_of f ≤ n)

  after-forest : (n : ℕ) (v : Visit) (due : List Visit) (l : Look) → look v ≡ l → Finished (after v (λ below. run look n (below ++ due)) l)
      → ((below : List Visit) → Finished (run look n (below ++ due)) → FromForest n (below ++ due)) → FromForest (suc n) (v ∷ due)
  unfolding roots size_of
  after-forest n v due (bad m x) e h rec = absurd h
  after-forest n v due (good below b) e h rec =
      let g = rec below h in
      let k = length below in
      let f = first k g.0 in
      let o = rest k g.0 in
      let x : roots f ≡ below = roots-first k g.0 ∙ ap (take k) g.1 ∙ take-append_seam below due in
      let y : roots o ≡ due = roots-rest k g.0 ∙ ap (drop k) g.1 ∙ drop-append_seam below due in
      (tree v b f o, ap (λ (l : List Visit). v ∷ l) y, (e ∙ ap (λ (l : List Visit). good l b) (sym x), stands-first k g.0 g.2, stands-rest k g.0 g.2), omega (arith, size-first-rest k g.0, g.3))

  pub forest-of : (n : ℕ) (due : List Visit) → Finished (run look n due) → FromForest n due
  unfolding run roots size_of
  forest-of zero [] h = (empty, refl, tt, omega arith)
  forest-of zero (v ∷ due) h = absurd h
  forest-of (suc n) [] h = (empty, refl, tt, omega arith)
  forest-of (suc n) (v ∷ due) h = after-forest n v due (look v) refl h (λ below w. forest-of n (below ++ due) w)
