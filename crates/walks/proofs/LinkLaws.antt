-- Laws of the links: what is held of each level from visit to visit, beside the definition.
-- Assumes nothing.
use Prim.Native.Nat.{ℕ, zero, suc, ◌≤◌, ◌<◌}
use native.Mathlib.Numerals.{add-one}
use native.Mathlib.Omega.{arith}
use native.Mathlib.Decide.{dec_lt}
use mathlib.Core.Path.{◌≡◌, refl, sym, ap, ap₂, ◌∙◌, subst}
use mathlib.Core.Bool.{Bool, true, ◌&&◌, and-true, and_assoc, and_comm}
use mathlib.Core.List.{List, [], ◌∷◌}
use borrow.Author.Tests.{eq-eqb, ne_eqb}
use lib.Dec.{eqb}
use lib.ListN.{length, get_or, set, take, replicate, get_or-replicate, length-set}
use lib.Seq.{get_or-set_same, get_or-set_other}
use Rattle.std.specs.Prelude.{Option, Some, None}
use Rattle.std.proofs.lemmas.List.{get_or_past, take_all}
use Rattle.std.proofs.lemmas.List.Folds.{list_all_more}
use Rattle.blocks.specs.Geometry.{null_ag_block}
use Rattle.walks.specs.declared.links.Held.{Held}
use Rattle.walks.specs.Walk.{Visit, at_level}
use Rattle.walks.specs.Links.{next, linked, levels_linked}
use Rattle.walks.specs.Inner.Chains.{linked_from, levels_from, joins, ends, all_end, Followed}

-- ---- tests

-- the middle one goes to the front
front : (a b c : Bool) → (a && (b && c)) ≡ (b && (a && c))
front a b c = sym (and_assoc a b c) ∙ ap (λ (x : Bool). x && c) (and_comm a b) ∙ and_assoc b a c

-- ---- one level

module _ (left right : ℕ → ℕ) where
  -- what is held after a block
  abbrev met : ℕ → Option Held
  met b = Some (record { block = b; next = right b })

  -- the next block of a level
  one-level : (h : Option Held) (b : ℕ) (bs : List ℕ) → linked_from left right h (b ∷ bs) ≡ (joins h b (left b) && linked_from left right (met b) bs)
  unfolding linked
  one-level None b bs = refl
  one-level (Some last) b bs =
      let x : Bool = eqb last.next b in
      let y : Bool = eqb (left b) last.block in
      let w : Bool = eqb (right b) (next bs) && linked left right b bs in
      front x y w ∙ sym (and_assoc y x w)

  -- and after its last
  level-end : (h : Option Held) → linked_from left right h [] ≡ ends h
  unfolding linked
  level-end None = refl
  level-end (Some last) = and-true (eqb last.next null_ag_block)

  -- ---- all levels

  module _ (held : List (Option Held)) (v : Visit) (vs : List Visit) (long : length held ≡ 9) (in-nine : v.level < 9) where
    abbrev held' : List (Option Held)
    held' = set held v.level (met v.block)

    abbrev from : (ℕ → List Visit → Bool)
    from n ws = linked_from left right (get_or held n None) (at_level n ws)

    abbrev from' : (ℕ → List Visit → Bool)
    from' n ws = linked_from left right (get_or held' n None) (at_level n ws)

    -- another level is as it was
    other : (n : ℕ) → (v.level ≡ n → ⊥) → from n (v ∷ vs) ≡ from' n vs
    unfolding at_level
    other n ne = rw (ne_eqb v.level n ne, get_or-set_other held v.level n (met v.block) None (λ e. ne (sym e)))

    abbrev fits : Bool
    fits = joins (get_or held v.level None) v.block (left v.block)

    this : from v.level (v ∷ vs) ≡ (fits && from' v.level vs)
    unfolding at_level
    this =
        let e : from v.level (v ∷ vs) ≡ linked_from left right (get_or held v.level None) (v.block ∷ at_level v.level vs) = rw (eq-eqb v.level v.level refl) in
        e
        ∙ one-level (get_or held v.level None) v.block (at_level v.level vs)
        ∙ ap (λ (h : Option Held). fits && linked_from left right h (at_level v.level vs)) (sym (get_or-set_same held v.level (met v.block) None (omega arith)))

    levels-past : (n : ℕ) → n ≤ v.level → levels_from left right held n (v ∷ vs) ≡ levels_from left right held' n vs
    unfolding levels_from
    levels-past zero h = refl
    levels-past (suc n) h = ap₂ (λ (x y : Bool). x && y) (levels-past n (omega arith)) (other n (λ e. omega arith))

    levels-here : (n : ℕ) → v.level < n → levels_from left right held n (v ∷ vs) ≡ (fits && levels_from left right held' n vs)
    unfolding levels_from
    levels-here zero h = absurd (omega arith)
    levels-here (suc n) h =
        elim (dec_lt v.level n) [
          | yes q ↦
              ap₂ (λ (x y : Bool). x && y) (levels-here n q) (other n (λ e. omega arith))
              ∙ and_assoc fits (levels_from left right held' n vs) (from' n vs)
          | no q ↦ (
              let e : v.level ≡ n = omega arith in
              let t : from n (v ∷ vs) ≡ (fits && from' n vs) = subst (λ (x : ℕ). from x (v ∷ vs) ≡ (fits && from' x vs)) e this in
              ap₂ (λ (x y : Bool). x && y) (levels-past n (omega arith)) t
              ∙ front (levels_from left right held' n vs) fits (from' n vs))
        ]

  -- ---- before the first visit, and after the last

  levels-start : (n : ℕ) (vs : List Visit) → n ≤ 9 → levels_from left right (replicate 9 None) n vs ≡ levels_linked left right n vs
  unfolding levels_from levels_linked
  levels-start zero vs h = refl
  levels-start (suc n) vs h =
      let free : Option Held = None in
      let none : get_or (replicate 9 free) n free ≡ free = get_or-replicate 9 n free free (omega arith) in
      ap₂ (λ (x y : Bool). x && y) (levels-start n vs (omega arith))
      (ap (λ (h : Option Held). linked_from left right h (at_level n vs)) none)

  -- of levels that nothing is held of, none is linked wrong
  levels-end : (held : List (Option Held)) (n : ℕ) → levels_from left right held n [] ≡ all_end (take n held)
  unfolding levels_from at_level
  levels-end held zero = refl
  levels-end held (suc n) =
      ap₂ (λ (x y : Bool). x && y) (levels-end held n) (level-end (get_or held n None))
      ∙ elim (dec_lt n (length held)) [
        | yes q ↦ sym (ap (λ (k : ℕ). all_end (take k held)) (sym (add-one n)) ∙ list_all_more ends held n None q)
        | no q ↦ (
            let all : take n held ≡ held = take_all n held (omega arith) in
            let more : take (suc n) held ≡ held = take_all (suc n) held (omega arith) in
            ap (λ (h : Option Held). all_end (take n held) && ends h) (get_or_past held n None (omega arith))
            ∙ and-true (all_end (take n held))
            ∙ ap all_end (all ∙ sym more))
      ]

  -- ---- what a walk keeps: the links of all visits are those so far, and those of the visits to come after what is held

  pub record Chained (levels : ℕ) (vs ws : List Visit) (held : List (Option Held)) (so : Bool) : Type 0 where
    pub long : length held ≡ 9
    pub links : levels_linked left right levels vs ≡ (so && levels_from left right held levels ws)

  pub chained-start : (levels : ℕ) (vs ws : List Visit) → levels ≤ 9 → vs ≡ ws → Chained levels vs ws (replicate 9 None) true
  chained-start levels vs ws few e =
      record { long = refl; links = ap (levels_linked left right levels) e ∙ sym (levels-start levels ws few) }

  pub chained-step : (levels : ℕ) (vs ws : List Visit) (v : Visit) (held held' : List (Option Held)) (so so' : Bool) (l r : ℕ)
      → levels ≤ 9 → v.level < levels → l ≡ left v.block → r ≡ right v.block
      → Chained levels vs (v ∷ ws) held so → Followed held held' so so' v.block v.level l r → Chained levels vs ws held' so'
  chained-step levels vs ws v held held' so so' l r few lt el er c f =
      let fit : Bool = joins (get_or held v.level None) v.block (left v.block) in
      let m : held' ≡ set held v.level (met v.block) = f.now_held ∙ ap (λ (x : ℕ). set held v.level (Some (record { block = v.block; next = x }))) er in
      let t : so' ≡ (so && fit) = f.follows ∙ ap (λ (x : ℕ). so && joins (get_or held v.level None) v.block x) el in
      record {
        long = ap length m ∙ length-set held v.level (met v.block) ∙ c.long;
        links =
            c.links
            ∙ ap (λ (x : Bool). so && x) (levels-here held v ws c.long (omega arith) levels lt)
            ∙ sym (and_assoc so fit (levels_from left right (set held v.level (met v.block)) levels ws))
            ∙ ap₂ (λ (x : Bool) (y : List (Option Held)). x && levels_from left right y levels ws) (sym t) (sym m);
      }

  pub chained-end : (levels : ℕ) (vs : List Visit) (held : List (Option Held)) (so : Bool) → Chained levels vs [] held so
      → (so && all_end (take levels held)) ≡ levels_linked left right levels vs
  chained-end levels vs held so c = sym (c.links ∙ ap (λ (x : Bool). so && x) (levels-end held levels))
