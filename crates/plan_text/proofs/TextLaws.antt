-- Laws of numbers in decimal, and of text put behind text.
-- Assumes nothing.
use Prim.Native.Nat.{ℕ, zero, suc, ◌+◌, ◌*◌, ◌/◌, ◌%◌, ◌^◌, ◌≤◌, ◌<◌}
use native.Mathlib.Nat.{pow-suc, add-zero, zero-add}
use native.Mathlib.Numerals.{add-one}
use native.Mathlib.Omega.{arith}
use mathlib.Core.Path.{◌≡◌, refl, ap, ap₂, sym, ◌∙◌}
use mathlib.Core.Bool.{Bool, false, cond}
use Rattle.std.specs.Prelude.{Some, Ok}
use lib.Dec.{leb}
use mathlib.Core.List.{List, [], ◌∷◌, ◌++◌, append_assoc, append-nil}
use lib.ListN.{length, set, get_or, take, length-append}
use borrow.Author.Tests.{lt-ltb, le-ltb, le-leb, ne_eqb}
use native.Mathlib.Decide.{dec_lt}
use Rattle.codec.specs.Bytes.{with_bytes}
use Rattle.codec.specs.Question.{Outcome, ask, answer}
use Rattle.codec.proofs.Parts.{length-with_bytes, with_bytes-one, with_bytes-add}
use Rattle.codec.proofs.Stores.{with_bytes-none}
use Rattle.blocks.specs.Geometry.{geometry_ok, is_version, is_block_size}
use Rattle.trees.specs.Plan.{sum, planned}
use Rattle.walks.specs.Walk.{per_leaf, per_node}
use Rattle.walks.specs.Shapes.{shape_of}
use Rattle.trees.specs.PlanAnswer.{plan_outcome, levels_in, PlanIs}
use Rattle.trees.specs.declared.plan.Planned.{Planned}
use Rattle.plan_text.specs.declared.line.Request.{Request}
use Rattle.plan_text.specs.Line.{request}
use Rattle.plan_text.specs.Text.{decimal_from, decimal, blocks_word, level_word, number_line, level_line, level_lines, plan_lines, refused_line, plan_text, program_geometry, reply, answer_text}

from-small : (f n : ℕ) → n < 10 → decimal_from f n ≡ (48 + n) ∷ []
unfolding decimal_from
from-small zero n h = refl
from-small (suc f) n h = rw (lt-ltb n 10 h) refl

from-large : (f n : ℕ) → 10 ≤ n → decimal_from (suc f) n ≡ decimal_from f (n / 10) ++ ((48 + n % 10) ∷ [])
unfolding decimal_from
from-large f n h = rw (le-ltb n 10 h) refl

-- more steps than the number says change nothing
from-same : (f g n : ℕ) → n ≤ f → n ≤ g → decimal_from f n ≡ decimal_from g n
from-same zero g n h k = from-small zero n (omega arith) ∙ sym (from-small g n (omega arith))
from-same (suc f) zero n h k = from-small (suc f) n (omega arith) ∙ sym (from-small zero n (omega arith))
from-same (suc f) (suc g) n h k =
    elim (dec_lt n 10) [
      | yes p ↦ from-small (suc f) n p ∙ sym (from-small (suc g) n p)
      | no q ↦ from-large f n (omega arith)
          ∙ ap (λ (l : List ℕ). l ++ ((48 + n % 10) ∷ [])) (from-same f g (n / 10) (omega arith) (omega arith))
          ∙ sym (from-large g n (omega arith))
    ]

pub decimal-small : (n : ℕ) → n < 10 → decimal n ≡ (48 + n) ∷ []
decimal-small n h = from-small n n h

pub decimal-large : (n : ℕ) → 10 ≤ n → decimal n ≡ decimal (n / 10) ++ ((48 + n % 10) ∷ [])
decimal-large n h =
    from-same n (suc n) n (omega arith) (omega arith)
    ∙ from-large n n h
    ∙ ap (λ (l : List ℕ). l ++ ((48 + n % 10) ∷ [])) (from-same n (n / 10) (n / 10) (omega arith) (omega arith))

pub length-small : (n : ℕ) → n < 10 → length (decimal n) ≡ 1
length-small n h = ap length (decimal-small n h)

pub length-large : (n : ℕ) → 10 ≤ n → length (decimal n) ≡ length (decimal (n / 10)) + 1
length-large n h = ap length (decimal-large n h) ∙ length-append (decimal (n / 10)) ((48 + n % 10) ∷ [])

-- a number below 10^k has at most k digits
pub decimal-length : (k n : ℕ) → n < 10 ^ suc k → length (decimal n) ≤ suc k
decimal-length zero n h = let e : length (decimal n) ≡ 1 = length-small n (rw pow-suc at h) in omega arith
decimal-length (suc k) n h =
    elim (dec_lt n 10) [
      | yes p ↦ let e : length (decimal n) ≡ 1 = length-small n p in omega arith
      | no q ↦ let b : n < 10 ^ suc k * 10 = rw pow-suc at h in
          omega (arith, length-large n (omega arith), decimal-length k (n / 10) (omega arith))
    ]

-- one byte behind text
module _ (l : List ℕ) (at : ℕ) (xs : List ℕ) (v : ℕ) (inside : at + length xs < length l) where
  pub put-more : set (with_bytes l at xs) (at + length xs) v ≡ with_bytes l at (xs ++ (v ∷ []))
  put-more =
      let e : length (with_bytes l at xs) ≡ length l = length-with_bytes l at xs (omega arith) in
      with_bytes-one (with_bytes l at xs) (at + length xs) v (omega arith) ∙ with_bytes-add l at xs (v ∷ []) (omega arith)

-- ---- lines

pub digits-room : (n : ℕ) → n < 2 ^ 64 → length (decimal n) ≤ 20
digits-room n h = decimal-length 19 n (omega arith)

pub length-line : (word : List ℕ) (n : ℕ) → length (number_line word n) ≡ length word + length (decimal n) + 1
unfolding number_line
length-line word n = simp length-append (omega arith)

module _ (l word : List ℕ) (at n : ℕ) (room : at + length word + length (decimal n) + 1 ≤ length l) where
  pub line-done : (l₁ l₂ : List ℕ) (k : ℕ) → l₁ ≡ with_bytes l at word → l₂ ≡ with_bytes l₁ (at + length word) (decimal n)
      → k ≡ at + length word + length (decimal n) → set l₂ k 10 ≡ with_bytes l at (number_line word n)
  unfolding number_line
  line-done l₁ l₂ k e f g =
      let both : l₂ ≡ with_bytes l at (word ++ decimal n) =
      f ∙ ap (λ (x : List ℕ). with_bytes x (at + length word) (decimal n)) e ∙ with_bytes-add l at word (decimal n) (omega arith) in
      let long : length (word ++ decimal n) ≡ length word + length (decimal n) = length-append word (decimal n) in
      let place : k ≡ at + length (word ++ decimal n) = omega arith in
      ap₂ (λ (x : List ℕ) (i : ℕ). set x i 10) both place
      ∙ put-more l at (word ++ decimal n) 10 (omega arith)
      ∙ ap (with_bytes l at) (append_assoc word (decimal n) (10 ∷ []))

pub length-level : (level blocks : ℕ) → length (level_line level blocks) ≡ 6 + length (decimal level) + length (number_line (32 ∷ blocks_word) blocks)
unfolding level_line
length-level level blocks = simp length-append (omega arith)

pub level-room : (level blocks : ℕ) → level < 2 ^ 64 → blocks < 2 ^ 64 → length (level_line level blocks) ≤ 64
level-room level blocks h k =
    omega (arith, length-level level blocks, length-line (32 ∷ blocks_word) blocks, digits-room level h, digits-room blocks k)

module _ (l : List ℕ) (at level blocks : ℕ) (room : at + length (level_line level blocks) ≤ length l) where
  pub level-done : (l₁ l₂ l₃ : List ℕ) (k : ℕ) → l₁ ≡ with_bytes l at level_word → l₂ ≡ with_bytes l₁ (at + 6) (decimal level)
      → k ≡ at + 6 + length (decimal level) → l₃ ≡ with_bytes l₂ k (number_line (32 ∷ blocks_word) blocks) → l₃ ≡ with_bytes l at (level_line level blocks)
  unfolding level_line
  level-done l₁ l₂ l₃ k e f g h =
      let whole = length-level level blocks in
      let two : List ℕ = level_word ++ decimal level in
      let long : length two ≡ 6 + length (decimal level) = length-append level_word (decimal level) in
      let both : l₂ ≡ with_bytes l at two =
      f ∙ ap (λ (x : List ℕ). with_bytes x (at + 6) (decimal level)) e ∙ with_bytes-add l at level_word (decimal level) (omega arith) in
      let place : k ≡ at + length two = omega arith in
      h
      ∙ ap₂ (λ (x : List ℕ) (i : ℕ). with_bytes x i (number_line (32 ∷ blocks_word) blocks)) both place
      ∙ with_bytes-add l at two (number_line (32 ∷ blocks_word) blocks) (omega arith)
      ∙ ap (with_bytes l at) (append_assoc level_word (decimal level) (number_line (32 ∷ blocks_word) blocks))

-- one level more
pub levels-more : (k i : ℕ) (xs : List ℕ) → i < length xs → level_lines k (take (suc i) xs) ≡ level_lines k (take i xs) ++ level_line (k + i) (get_or xs i 0)
unfolding level_lines
levels-more k i [] h = absurd (omega arith)
levels-more k zero (x ∷ xs) h = append-nil (level_line k x) ∙ ap (λ (j : ℕ). level_line j x) (sym (add-zero k))
levels-more k (suc i) (x ∷ xs) h =
    ap (λ (t : List ℕ). level_line k x ++ t) (levels-more (k + 1) i xs (omega arith))
    ∙ sym (append_assoc (level_line k x) (level_lines (k + 1) (take i xs)) (level_line (k + 1 + i) (get_or xs i 0)))
    ∙ (let e : k + 1 + i ≡ k + suc i = omega arith in
    ap (λ (j : ℕ). (level_line k x ++ level_lines (k + 1) (take i xs)) ++ level_line j (get_or xs i 0)) e)

module _ (l xs : List ℕ) (i : ℕ) (inside : i < length xs) where
  abbrev pub so_far : List ℕ
  so_far = level_lines 0 (take i xs)

  pub length_more : length (level_lines 0 (take (i + 1) xs)) ≡ length (level_lines 0 (take i xs)) + length (level_line i (get_or xs i 0))
  length_more =
      ap length (ap (λ (j : ℕ). level_lines 0 (take j xs)) (add-one i) ∙ levels-more 0 i xs inside)
      ∙ length-append (level_lines 0 (take i xs)) (level_line (0 + i) (get_or xs i 0))
      ∙ ap (λ (j : ℕ). length (level_lines 0 (take i xs)) + length (level_line j (get_or xs i 0))) (zero-add i)

  pub levels-step : length (level_lines 0 (take i xs)) ≤ length l → (l₁ l₂ : List ℕ) (at : ℕ) → l₁ ≡ with_bytes l 0 (level_lines 0 (take i xs))
      → at ≡ length (level_lines 0 (take i xs)) → l₂ ≡ with_bytes l₁ at (level_line i (get_or xs i 0)) → l₂ ≡ with_bytes l 0 (level_lines 0 (take (i + 1) xs))
  levels-step room l₁ l₂ at e f g =
      let s : List ℕ = level_lines 0 (take i xs) in
      let place : at ≡ 0 + length s = f ∙ sym (zero-add (length s)) in
      g
      ∙ ap₂ (λ (x : List ℕ) (j : ℕ). with_bytes x j (level_line i (get_or xs i 0))) e place
      ∙ with_bytes-add l 0 s (level_line i (get_or xs i 0)) (rw zero-add room)
      ∙ ap (with_bytes l 0)
      (ap (λ (j : ℕ). s ++ level_line j (get_or xs i 0)) (sym (zero-add i))
      ∙ sym (ap (λ (j : ℕ). level_lines 0 (take j xs)) (add-one i) ∙ levels-more 0 i xs inside))

pub levels-none : (l xs : List ℕ) → l ≡ with_bytes l 0 (level_lines 0 (take 0 xs))
unfolding level_lines
levels-none l xs = sym (with_bytes-none l 0)

-- the lines of a plan
pub plan-done : (l levels l₁ l₂ : List ℕ) (at all : ℕ) → length (level_lines 0 levels) ≤ length l → l₁ ≡ with_bytes l 0 (level_lines 0 levels) → at ≡ length (level_lines 0 levels)
    → all ≡ sum levels → l₂ ≡ with_bytes l₁ at (number_line blocks_word all) → l₂ ≡ with_bytes l 0 (plan_lines levels)
unfolding plan_lines
plan-done l levels l₁ l₂ at all room e f s g =
    let place : at ≡ 0 + length (level_lines 0 levels) = f ∙ sym (zero-add (length (level_lines 0 levels))) in
    g
    ∙ ap₂ (λ (x : List ℕ) (j : ℕ). with_bytes x j (number_line blocks_word all)) e place
    ∙ with_bytes-add l 0 (level_lines 0 levels) (number_line blocks_word all) (rw zero-add room)
    ∙ ap (λ (n : ℕ). with_bytes l 0 (level_lines 0 levels ++ number_line blocks_word n)) s

pub length-plan : (levels : List ℕ) → length (plan_lines levels) ≡ length (level_lines 0 levels) + length (number_line blocks_word (sum levels))
unfolding plan_lines
length-plan levels = length-append (level_lines 0 levels) (number_line blocks_word (sum levels))

-- ---- what a plan's answer makes of its text

module _ (o : Outcome (List ℕ)) where
  module _ (p : Planned) (is : PlanIs o (Ok p)) where
    pub text-plan : plan_text o ≡ plan_lines (take p.levels p.blocks)
    text-plan = ap plan_text (sym is.outcome)

    pub text-total : p.total ≡ sum (take p.levels p.blocks)
    text-total = is.all ∙ ap (λ (x : Outcome (List ℕ)). sum (levels_in x)) (sym is.outcome)

-- ---- the answer to an input

-- a block size that 32 bits cannot hold is no block size
pub size-large : (size : ℕ) → 2 ^ 32 ≤ size → geometry_ok (program_geometry size) ≡ false
unfolding geometry_ok is_version is_block_size
size-large size h =
    rw (ne_eqb size (2 ^ 9) (λ e. omega arith), ne_eqb size (2 ^ 10) (λ e. omega arith), ne_eqb size (2 ^ 11) (λ e. omega arith), ne_eqb size (2 ^ 12) (λ e. omega arith), ne_eqb size (2 ^ 13) (λ e. omega arith), ne_eqb size (2 ^ 14) (λ e. omega arith), ne_eqb size (2 ^ 15) (λ e. omega arith), ne_eqb size (2 ^ 16) (λ e. omega arith))
    refl

module _ (input : List ℕ) where
  module _ (r : Request) (e : Some r ≡ request input) where
    pub answer-plan : answer_text input ≡ plan_text (plan_outcome (program_geometry r.blocksize) r.kind r.records)
    answer-plan = ap reply (sym e)

    pub answer-large : 2 ^ 32 ≤ r.blocksize → answer_text input ≡ refused_line 1
    answer-large h =
        answer-plan
        ∙ ap (λ (t : Bool). plan_text (answer (ask 1 t ∷ []) (planned (per_leaf (shape_of (program_geometry r.blocksize) r.kind)) (per_node (shape_of (program_geometry r.blocksize) r.kind)) r.records)))
        (size-large r.blocksize h)

-- with room for it
module _ (l t l₁ : List ℕ) (n : ℕ) where
  abbrev pub Put : Type 0
  Put = ((n ≡ cond (leb 640 (length l)) (length t) 0) × (n ≤ 640)) × (l₁ ≡ cond (leb 640 (length l)) (with_bytes l 0 t) l)

  pub put-long : 640 ≤ length l → n ≡ length t → n ≤ 640 → l₁ ≡ with_bytes l 0 t → Put
  put-long h e k f = rw (le-leb 640 (length l) h) ((e, k), f)
