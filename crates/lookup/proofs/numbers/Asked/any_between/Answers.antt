-- `lookup::numbers::Asked::any_between` meets its contract.
use Rattle.std.proofs.Common.{◌≡◌, ℕ, ◌<◌, ◌≤◌, length, ap, ◌∙◌, subst, le-ltb}
use Rattle.lookup.specs.Inner.Numbers.{first_at}
use Rattle.lookup.proofs.Ascending.{between_first, between-past}
use Rattle.lookup.proofs.numbers.Asked.any_between.Goals as goal

pub returns-then-i-self : goal.returns-then-i-self
returns-then-i-self c =
    let a = c.args in
    let l = a.self.numbers.now in
    let at : c.first_at-i.result ≡ first_at a.low l = c.first_at-i.ensures ∙ ap (λ (x : ℕ). first_at x l) c.from.ensures in
    rw at (between_first a.low a.high l a.self.ascend (subst (λ (x : ℕ). x < length l) at c.if-i-self.true))

pub returns-else-i-self : goal.returns-else-i-self
returns-else-i-self c =
    let a = c.args in
    let l = a.self.numbers.now in
    let at : c.first_at-i.result ≡ first_at a.low l = c.first_at-i.ensures ∙ ap (λ (x : ℕ). first_at x l) c.from.ensures in
    le-ltb _ _ c.if-i-self.false ∙ between-past a.low a.high l (subst (λ (x : ℕ). length l ≤ x) at c.if-i-self.false)
