-- The figures of an explanation, and the record that they name.
-- Assumes nothing.
use Rattle.std.specs.Prelude.{ℕ, ◌*◌, ◌≡◌, cond, List, [], ◌∷◌, eqb, get_or}
use Rattle.codec.specs.Bytes.{bytes_at}
use Rattle.codec.specs.Records.{rmaps, refcounts}
use Rattle.codec.specs.declared.rmap.Rmap.{Rmap}
use Rattle.interface.specs.Interface.{Says}
use Rattle.reasons.specs.declared.explain.Why.{Why}
use Rattle.reasons.specs.declared.explain.Why.TheVariants.{Free, HeldInMap, HeldInCounts, Staging}
use Rattle.reasons.specs.Why.{explain_outcome}
use Rattle.reasons.specs.Answer.{part_said}

-- 0 free now, 1 still held, 2 staging; the list that holds the deciding record, 0 where there is none, 1 the reverse map, 2 the counts; the byte of that list
-- at which the record begins, and its length
abbrev pub explain_figures : Why → List ℕ
explain_figures Free = 0 ∷ 0 ∷ 0 ∷ 0 ∷ []
explain_figures (HeldInMap i) = 1 ∷ 1 ∷ i * rmaps.size ∷ rmaps.size ∷ []
explain_figures (HeldInCounts i) = 1 ∷ 2 ∷ i * refcounts.size ∷ refcounts.size ∷ []
explain_figures (Staging i) = 2 ∷ 2 ∷ i * refcounts.size ∷ refcounts.size ∷ []

-- the bytes that figures name: of the list that the second one tells, from the third one on, as many as the fourth
abbrev pub bytes_named : (map counts said : List ℕ) → List ℕ
bytes_named map counts said = bytes_at (cond (eqb (get_or said 1 0) 1) map counts) (get_or said 2 0) (get_or said 3 0)

-- where kf_explain kept its contract and answered 0 its figures name the bytes that `explain` hands back
abbrev pub EveryNamed : Type 0
EveryNamed =
    (map counts : List ℕ) (x : Rmap) (b : ℕ) (said : List ℕ) → Says explain_figures (explain_outcome map counts x b) 0 said
    → bytes_named map counts said ≡ part_said map counts (explain_outcome map counts x b)
