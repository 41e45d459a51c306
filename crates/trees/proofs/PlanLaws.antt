-- Laws of the plan.
-- Assumes nothing.
use Prim.Native.Nat.{ℕ, zero, suc, ◌+◌, ◌-◌, ◌*◌, ◌/◌, ◌^◌, ◌%◌, ◌≤◌, ◌<◌, max, min}
use native.Mathlib.Nat.{add-div_right, div-eq_of_lt, div-le_self, div-mul-le_self, mul-le-mul, mul-le-mul_right, mul_comm, suc-mul, zero-add, le_refl, div-add-mod', mod-lt}
use native.Mathlib.Numerals.{add-one}
use native.Mathlib.Omega.{arith}
use mathlib.Core.Path.{◌≡◌, refl, sym, ap, ap₂, ◌∙◌}
use mathlib.Core.Bool.{false}
use Rattle.std.specs.Prelude.{Option, Some, None, Ok}
use Rattle.std.specs.Option.{ok_or}
use Rattle.std.specs.Int.{div_ceil}
use Rattle.std.proofs.lemmas.Nat.{div-mul-add}
use mathlib.Core.List.{List, [], ◌∷◌, ◌++◌, append_assoc, append-nil}
use lib.ListN.{length, replicate, take, drop, set, length-append, length-set, take-append-drop}
use lib.Seq.{length-take-le, take-suc-set, drop-set-lt, drop-drop, take-append_seam}
use lib.Dec.{leb}
use borrow.Author.Tests.{le-leb, lt-leb, leb-true}
use Rattle.codec.specs.Question.{done, ask, answer}
use Rattle.trees.specs.declared.plan.Planned.{Planned}
use Rattle.trees.specs.declared.plan.PlanRefusal.TheVariants as why
use Rattle.trees.specs.Plan.{ceil, leaves, above, levels_of, sum}
use Rattle.trees.specs.PlanAnswer.{PlanIs}
use Rattle.trees.specs.Inner.LevelPlans.{PlanOf, LevelsAre}

pub ceil-zero : (b : ℕ) → 0 < b → ceil 0 b ≡ 0
unfolding ceil
ceil-zero b h = div-eq_of_lt (omega arith)

-- as the library rounds up
rounded : (q r b : ℕ) → r < b → (q * b + r + (b - 1)) / b ≡ q + min 1 r
rounded q zero b l = ap (λ (x : ℕ). x / b) (let e : q * b + 0 + (b - 1) ≡ q * b + (b - 1) = omega arith in e) ∙ div-mul-add q b (b - 1) (omega arith) ∙ omega arith
rounded q (suc r) b l = ap (λ (x : ℕ). x / b) (let e : q * b + suc r + (b - 1) ≡ suc q * b + r = omega (arith, suc-mul q b) in e) ∙ div-mul-add (suc q) b r (omega arith) ∙ omega arith

pub ceil-is : (a b : ℕ) → 0 < b → ceil a b ≡ div_ceil a b
unfolding ceil
ceil-is a b h = ap (λ (x : ℕ). (x + (b - 1)) / b) (sym (div-add-mod' a b)) ∙ rounded (a / b) (a % b) b (mod-lt a h)

pub ceil-pos : (a b : ℕ) → 0 < a → 0 < b → ceil a b ≡ (a - 1) / b + 1
unfolding ceil
ceil-pos a b p h =
    let e : a + (b - 1) ≡ (a - 1) + b = omega arith in
    ap (λ (x : ℕ). x / b) e ∙ add-div_right (a - 1) h

-- a level of one block has none above it
pub above-one : (p b n : ℕ) → b ≤ 1 → above p b n ≡ []
unfolding above
above-one p b zero h = refl
above-one p b (suc n) h = rw (le-leb b 1 h)

pub above_more : (p b n : ℕ) → 1 < b → above p b (suc n) ≡ ceil b p ∷ above p (ceil b p) n
unfolding above
above_more p b n h = rw (lt-leb b 1 h)

pub above_zero : (p b : ℕ) → above p b 0 ≡ []
unfolding above
above_zero p b = refl

sum-append : (xs ys : List ℕ) → sum (xs ++ ys) ≡ sum xs + sum ys
unfolding sum
sum-append [] ys = sym (zero-add (sum ys))
sum-append (x ∷ xs) ys = omega (arith, sum-append xs ys)

sum_one : (x : ℕ) → sum (x ∷ []) ≡ x
unfolding sum
sum_one x = omega arith

-- no level has more blocks than the leaves, and these are few enough that all levels' sum fits 64 bits
ceil-le : (b p : ℕ) → 0 < b → 0 < p → ceil b p ≤ b
ceil-le b p h k = omega (arith, ceil-pos b p h k, div-le_self (b - 1) p)

pub leaves-small : (p records : ℕ) → 10 ≤ p → records < 2 ^ 64 → leaves p records * 9 < 2 ^ 64
unfolding leaves
leaves-small p records h k = go records refl k
  where
    go : (r : ℕ) → records ≡ r → r < 2 ^ 64 → max 1 (ceil records p) * 9 < 2 ^ 64
    go zero e l = let z : ceil records p ≡ 0 = ap (λ (x : ℕ). ceil x p) e ∙ ceil-zero p (omega arith) in omega arith
    go (suc r) e l =
        let z : ceil records p ≡ (records - 1) / p + 1 = ceil-pos records p (omega arith) (omega arith) in
        let q : 0 < p = omega arith in
        let m : (records - 1) / p * p ≤ records - 1 = div-mul-le_self (records - 1) p in
        let n : (records - 1) / p * 10 ≤ (records - 1) / p * p = mul-le-mul (le_refl ((records - 1) / p)) h in
        omega arith

-- what the planning loop has: the first n levels in their places with their sum, and the levels still to come
pub record Grown (p top : ℕ) (ls blocks : List ℕ) (below total n : ℕ) : Type 0 where
  pub len : length blocks ≡ 9
  pub least : 1 ≤ n
  pub most : n ≤ 9
  pub same : take n blocks ++ above p below (10 - n) ≡ ls
  pub rest : drop n blocks ≡ replicate (9 - n) 0
  pub summed : total ≡ sum (take n blocks)
  pub fewer : below ≤ top
  pub small : total ≤ n * top

module _ {p top : ℕ} {ls blocks : List ℕ} {below total n : ℕ} (g : Grown p top ls blocks below total n) where
  pub grown-fits : top * 9 < 2 ^ 64 → 0 < p → 1 < below → n < 9 → total + ceil below p < 2 ^ 64
  grown-fits h z o k =
      let m : suc n * top ≡ n * top + top = suc-mul n top in
      let l : suc n * top ≤ 9 * top = mul-le-mul_right top (let q : suc n ≤ 9 = omega arith in q) in
      omega (arith, g.small, g.fewer, mul_comm 9 top, ceil-le below p (omega arith) z)

  pub grown-more : 0 < p → 1 < below → n < 9 → Grown p top ls (set blocks n (ceil below p)) (ceil below p) (total + ceil below p) (n + 1)
  grown-more z h k =
      let b = ceil below p in
      let i : n < length blocks = omega (arith, g.len) in
      let e : 10 - n ≡ suc (10 - (n + 1)) = omega arith in
      let e' : 9 - n ≡ suc (9 - (n + 1)) = omega arith in
      let t : take (n + 1) (set blocks n b) ≡ take n blocks ++ (b ∷ []) = ap (λ (m : ℕ). take m (set blocks n b)) (add-one n) ∙ take-suc-set blocks n b i in
      let c : b ≤ below = ceil-le below p (omega arith) z in
      let m : (n + 1) * top ≡ n * top + top = ap (λ (x : ℕ). x * top) (add-one n) ∙ suc-mul n top in
      record {
        len = length-set blocks n b ∙ g.len;
        least = omega arith;
        most = omega arith;
        same =
            ap (λ (l : List ℕ). l ++ above p b (10 - (n + 1))) t
            ∙ append_assoc (take n blocks) (b ∷ []) (above p b (10 - (n + 1)))
            ∙ ap (λ (l : List ℕ). take n blocks ++ l) (sym (above_more p below (10 - (n + 1)) h))
            ∙ ap (λ (m : ℕ). take n blocks ++ above p below m) (sym e)
            ∙ g.same;
        rest =
            drop-set-lt (n + 1) blocks n b (omega arith)
            ∙ sym (drop-drop 1 n blocks)
            ∙ ap (drop 1) (g.rest ∙ ap (λ (m : ℕ). replicate m 0) e');
        summed = omega (arith, g.summed, ap sum t ∙ sum-append (take n blocks) (b ∷ []), sum_one b);
        fewer = omega (arith, g.fewer);
        small = omega (arith, g.small, g.fewer);
      }

  -- one block is the root
  grown-all : below ≤ 1 → take n blocks ≡ ls
  grown-all h =
      sym (append-nil (take n blocks)) ∙ ap (λ (l : List ℕ). take n blocks ++ l) (sym (above-one p below (10 - n) h)) ∙ g.same

  grown-length : below ≤ 1 → length ls ≡ n
  grown-length h = ap length (sym (grown-all h)) ∙ length-take-le n blocks (omega (arith, g.len, g.most))

  pub grown-done : below ≤ 1 → PlanOf ls (record { levels = n; blocks = blocks; total = total })
  grown-done h =
      let e = grown-length h in
      record {
        few = rw e (le-leb n 9 g.most);
        levels = sym e;
        places = sym (take-append-drop n blocks) ∙ ap₂ (λ (x y : List ℕ). x ++ y) (grown-all h) (g.rest ∙ ap (λ (k : ℕ). replicate (9 - k) 0) (sym e));
        all = g.summed ∙ ap sum (grown-all h);
      }

  -- nine levels are full and more are to come
  grown-over : 1 < below → n ≡ 9 → length ls ≡ 10
  grown-over h e =
      let o : above p below (10 - n) ≡ ceil below p ∷ [] =
      ap (λ (m : ℕ). above p below (10 - m)) e ∙ above_more p below 0 h ∙ ap (λ (l : List ℕ). ceil below p ∷ l) (above_zero p (ceil below p)) in
      ap length (sym g.same)
      ∙ length-append (take n blocks) (above p below (10 - n))
      ∙ ap (λ (l : List ℕ). length (take n blocks) + length l) o
      ∙ omega (arith, length-take-le n blocks (omega (arith, g.len, g.most)))

  pub grown-refused : 1 < below → n ≡ 9 → leb (length ls) 9 ≡ false
  grown-refused h e = rw (grown-over h e) refl

grown-first : (p b : ℕ) (places : List ℕ) → length places ≡ 9 → places ≡ replicate 9 0 → Grown p b (b ∷ above p b 9) (set places 0 b) b b 1
unfolding sum
grown-first p b places l e =
    record {
      len = length-set places 0 b ∙ l;
      least = omega arith;
      most = omega arith;
      same = ap (λ (l : List ℕ). take 1 (set l 0 b) ++ above p b 9) e;
      rest = ap (λ (l : List ℕ). drop 1 (set l 0 b)) e;
      summed = sym (ap (λ (l : List ℕ). sum (take 1 (set l 0 b))) e ∙ sum_one b);
      fewer = omega arith;
      small = omega arith;
    }

pub grown-start : (per_leaf p records b : ℕ) → b ≡ leaves per_leaf records → Grown p (leaves per_leaf records) (levels_of per_leaf p records) (set (replicate 9 0) 0 b) b b 1
unfolding levels_of
grown-start per_leaf p records b e = rw (← e) (grown-first p b (replicate 9 0) refl refl)

-- ---- what a plan says of its levels

module _ (ls : List ℕ) (p : Planned) (is : PlanOf ls p) where
  pub few-most : length ls ≤ 9
  few-most = leb-true (length ls) 9 is.few

  pub few-taken : take p.levels p.blocks ≡ ls
  few-taken = ap₂ (λ (n : ℕ) (l : List ℕ). take n l) is.levels is.places ∙ take-append_seam ls (replicate (9 - length ls) 0)

  pub few-inside : p.levels ≤ length p.blocks
  few-inside = omega (arith, is.levels, few-most, ap length is.places, length-append ls (replicate (9 - length ls) 0))

  plan-few : PlanIs (answer (ask 16 (leb (length ls) 9) ∷ []) (done ls)) (Ok p)
  plan-few =
      rw is.few (record { outcome = ap done few-taken; levels = is.levels; few = omega (arith, is.levels, few-most); places = is.places; all = is.all })

-- the plan, or 16
pub plan-or : (ls : List ℕ) (o : Option Planned) → LevelsAre ls o → PlanIs (answer (ask 16 (leb (length ls) 9) ∷ []) (done ls)) (ok_or o why.Levels)
unfolding sum
plan-or ls (Some p) is = plan-few ls p is
plan-or ls None t = rw t (record { outcome = refl; levels = refl; few = omega arith; places = refl; all = refl })
