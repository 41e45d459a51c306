-- Lists in step with one another, and lists of lists.
-- Assumes nothing.
use Prim.Native.Nat.{ℕ, zero, suc}
use mathlib.Core.Path.{◌≡◌, refl, sym, ap, ◌∙◌}
use mathlib.Core.List.{List, [], ◌∷◌, ◌++◌, append_assoc, cons≢nil}
use lib.ListN.{length, take, drop}

module _ {A : Type 0} where
  unfoldable pub flat : List (List A) → List A
  flat [] = []
  flat (x ∷ xs) = x ++ flat xs

  pub flat_append : (xs ys : List (List A)) → flat (xs ++ ys) ≡ flat xs ++ flat ys
  unfolding flat
  flat_append [] ys = refl
  flat_append (x ∷ xs) ys = ap (λ (l : List A). x ++ l) (flat_append xs ys) ∙ sym (append_assoc x (flat xs) (flat ys))

  pub none_both : (xs ys : List A) → xs ++ ys ≡ [] → (xs ≡ []) × (ys ≡ [])
  none_both [] ys e = (refl, e)
  none_both (x ∷ xs) ys e = absurd (cons≢nil e)

-- two lists in step: as long as one another, and a relation holds place by place
module _ {A B : Type 0} (R : A → B → Type 0) where
  abbrev pub Along : List A → List B → Type 0
  Along [] [] = Unit {0}
  Along [] (y ∷ ys) = ⊥
  Along (x ∷ xs) [] = ⊥
  Along (x ∷ xs) (y ∷ ys) = R x y × Along xs ys

  pub along-take : (n : ℕ) (xs : List A) (ys : List B) → Along xs ys → Along (take n xs) (take n ys)
  along-take zero xs ys h = tt
  along-take (suc n) [] [] h = tt
  along-take (suc n) [] (y ∷ ys) h = absurd h
  along-take (suc n) (x ∷ xs) [] h = absurd h
  along-take (suc n) (x ∷ xs) (y ∷ ys) h = (h.0, along-take n xs ys h.1)

  pub along-drop : (n : ℕ) (xs : List A) (ys : List B) → Along xs ys → Along (drop n xs) (drop n ys)
  along-drop zero xs ys h = h
  along-drop (suc n) [] [] h = tt
  along-drop (suc n) [] (y ∷ ys) h = absurd h
  along-drop (suc n) (x ∷ xs) [] h = absurd h
  along-drop (suc n) (x ∷ xs) (y ∷ ys) h = along-drop n xs ys h.1

  pub along-length : (xs : List A) (ys : List B) → Along xs ys → length xs ≡ length ys
  along-length [] [] h = refl
  along-length [] (y ∷ ys) h = absurd h
  along-length (x ∷ xs) [] h = absurd h
  along-length (x ∷ xs) (y ∷ ys) h = ap suc (along-length xs ys h.1)
