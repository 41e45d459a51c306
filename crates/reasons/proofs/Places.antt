-- Laws of the first record that passes a test, by its place: that it passes, and that the library's search of the chunks finds it.
-- Assumes nothing.
use Rattle.std.specs.List.{position, position_or_len}
use Rattle.std.specs.Simd.{first_chunks}
use Rattle.std.proofs.Common.{◌+◌, ◌/◌, ◌<◌, ◌∙◌, ◌≡◌, ℕ, zero, suc, Bool, true, false, cond, nat_lt, List, [], ◌∷◌, map, Some, None, length, get_or, drop, sym, refl, ap, ap₂, le_refl, arith}
use Rattle.std.proofs.lemmas.List.{length-map, take-take}
use Rattle.codec.specs.Bytes.{bytes_at}
use Rattle.codec.specs.Records.{Kind, first_records, records_of}
use Rattle.lists.specs.RmapEdits.{index_where}
use Rattle.lists.proofs.Cases.{split}
use Rattle.lists.proofs.Index.{index-hits}
use Rattle.reasons.specs.Why.{index_but, stands}

-- the record found passes the test, and is another than the one left out
pub but-passes : {R : Type 0} (p : R → Bool) (k : ℕ) (l : List R) (d : R) → index_but p k l < length l → (p (get_or l (index_but p k l) d) ≡ true) × (index_but p k l ≡ k → ⊥)
unfolding index_but
but-passes p k [] d h = absurd (omega arith)
but-passes p zero (r ∷ l) d h = (index-hits p l d (omega arith), omega arith)
but-passes p (suc k) (r ∷ l) d h =
    split (p r)
    (λ e. rw e (e, omega arith))
    (λ e. let h : suc (index_but p k l) < suc (length l) = rw e at h in
    let i = but-passes p k l d (omega arith) in
    rw e (i.0, λ q. i.1 (omega arith)))

-- ---- the first record that passes a test, as the library says it

position-is : {R : Type 0} (p : R → Bool) (l : List R) → position_or_len p l ≡ index_where p l
unfolding index_where
position-is p [] = refl
position-is p (r ∷ l) = split (p r) (λ e. rw e refl) (λ e. let q = position-is p l in rw e (omega arith))

module _ {R : Type 0} (p : R → Bool) (l : List R) where
  place-is : position p l ≡ cond (stands (index_where p l) l) (Some (index_where p l)) None
  place-is = ap (λ (i : ℕ). cond (stands i l) (Some i) None) (position-is p l)

  pub none-stands : None ≡ position p l → stands (index_where p l) l ≡ false
  none-stands e =
      split (stands (index_where p l) l)
      (λ t. let q : None ≡ Some (index_where p l) = e ∙ place-is ∙ rw t refl in absurd (let z : ◌≡◌ {A = ℕ} 0 1 = cc in omega arith))
      (λ t. t)

  pub some-stands : (i : ℕ) → Some i ≡ position p l → (stands (index_where p l) l ≡ true) × (index_where p l ≡ i)
  some-stands i e =
      split (stands (index_where p l) l)
      (λ t. let q : Some i ≡ Some (index_where p l) = e ∙ place-is ∙ rw t refl in (t, cc))
      (λ t. let q : Some i ≡ None = e ∙ place-is ∙ rw t refl in absurd (let z : ◌≡◌ {A = ℕ} 0 1 = cc in omega arith))

-- ---- records in chunks of a list

position-map : {R : Type 0} (f : List ℕ → R) (p : R → Bool) (l : List (List ℕ)) → position_or_len (λ c. p (f c)) l ≡ position_or_len p (map f l)
position-map f p [] = refl
position-map f p (c ∷ l) = split (p (f c)) (λ e. rw e refl) (λ e. rw e (ap (λ (n : ℕ). 1 + n) (position-map f p l)))

module _ {R : Type 0} (k : Kind R) where
  -- what a chunk holds, as a call reads it
  abbrev pub in_chunk : List ℕ → R
  in_chunk c = k.decode (bytes_at c 0 k.size)

  chunks-first : (n : ℕ) (b : List ℕ) → map in_chunk (first_chunks k.size n b) ≡ first_records k n b
  unfolding first_records bytes_at
  chunks-first zero b = refl
  chunks-first (suc n) b = ap₂ ◌∷◌ (ap k.decode (take-take k.size k.size b (le_refl k.size))) (chunks-first n (drop k.size b))

  pub position-chunks : (p : R → Bool) (b : List ℕ) (cs : List (List ℕ)) → cs ≡ first_chunks k.size (length b / k.size) b
      → position (λ c. p (in_chunk c)) cs ≡ position p (records_of k b)
  unfolding records_of
  position-chunks p b cs e =
      let q : map in_chunk cs ≡ first_records k (length b / k.size) b = ap (map in_chunk) e ∙ chunks-first (length b / k.size) b in
      ap₂ (λ (i n : ℕ). cond (nat_lt i n) (Some i) None) (position-map in_chunk p cs) (sym (length-map cs in_chunk)) ∙ ap (position p) q
