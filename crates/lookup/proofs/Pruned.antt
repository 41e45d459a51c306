-- A forest without the trees that are skipped: it stands under a look that skips them, and has no block more often.
-- Assumes nothing.
use Rattle.std.proofs.Common.{◌≡◌, ℕ, suc, ◌+◌, ◌≤◌, Bool, cond, List, [], ◌∷◌, ◌++◌, sym, refl, ap, ◌∙◌, arith}
use Rattle.walks.specs.Walk.{Visit, Look, good}
use Rattle.walks.specs.Forest.{Forest, empty, tree, roots, blocks_in, Stands, size_of}
use Rattle.lists.proofs.Cases.{split}
use Rattle.lookup.specs.Lookup.{kept_from}
use Rattle.lookup.specs.Claims.{times}

times-append : (b : ℕ) (vs ws : List Visit) → times b (vs ++ ws) ≡ times b vs + times b ws
unfolding times
times-append b [] ws = omega arith
times-append b (v ∷ vs) ws = omega (arith, times-append b vs ws)

module _ (keep_of : Visit → ℕ → Bool) where
  -- the trees side by side, numbered from i on, without those that are skipped, and so on below
  unfoldable pub pruned : (ℕ → Bool) → ℕ → Forest → Forest
  pruned keep i empty = empty
  pruned keep i (tree v b below right) = cond (keep i) (tree v b (pruned (keep_of v) 0 below) (pruned keep (suc i) right)) (pruned keep (suc i) right)

  pub pruned-roots : (keep : ℕ → Bool) (i : ℕ) (f : Forest) → roots (pruned keep i f) ≡ kept_from keep i (roots f)
  unfolding pruned roots kept_from
  pruned-roots keep i empty = refl
  pruned-roots keep i (tree v b below right) =
      split (keep i)
      (λ e. rw e (ap (λ (l : List Visit). v ∷ l) (pruned-roots keep (suc i) right)))
      (λ e. rw e (pruned-roots keep (suc i) right))

  pub pruned-size : (keep : ℕ → Bool) (i : ℕ) (f : Forest) → size_of (pruned keep i f) ≤ size_of f
  unfolding pruned size_of
  pruned-size keep i empty = omega arith
  pruned-size keep i (tree v b below right) =
      split (keep i)
      (λ e. rw e (omega (arith, pruned-size (keep_of v) 0 below, pruned-size keep (suc i) right)))
      (λ e. rw e (omega (arith, pruned-size keep (suc i) right)))

  pub pruned-times : (x : ℕ) (keep : ℕ → Bool) (i : ℕ) (f : Forest) → times x (blocks_in (pruned keep i f)) ≤ times x (blocks_in f)
  unfolding pruned blocks_in times
  pruned-times x keep i empty = omega arith
  pruned-times x keep i (tree v b below right) =
      let whole = times-append x (blocks_in below) (blocks_in right) in
      split (keep i)
      (λ e. rw e (omega (arith, whole, times-append x (blocks_in (pruned (keep_of v) 0 below)) (blocks_in (pruned keep (suc i) right)), pruned-times x (keep_of v) 0 below, pruned-times x keep (suc i) right)))
      (λ e. rw e (omega (arith, whole, pruned-times x keep (suc i) right)))

  module _ (look asked : Visit → Look) (leaves-out : (v : Visit) (below : List Visit) (b : List ℕ) → look v ≡ good below b → asked v ≡ good (kept_from (keep_of v) 0 below) b) where
    pub pruned-stands : (keep : ℕ → Bool) (i : ℕ) (f : Forest) → Stands look f → Stands asked (pruned keep i f)
    unfolding pruned
    pruned-stands keep i empty s = tt
    pruned-stands keep i (tree v b below right) s =
        split (keep i)
        (λ e. rw e (
          leaves-out v (roots below) b s.0 ∙ ap (λ (l : List Visit). good l b) (sym (pruned-roots (keep_of v) 0 below)),
          pruned-stands (keep_of v) 0 below s.1,
          pruned-stands keep (suc i) right s.2,
        ))
        (λ e. rw e (pruned-stands keep (suc i) right s.2))
