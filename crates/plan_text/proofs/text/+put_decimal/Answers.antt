-- `plan_text::text::put_decimal` meets its contract.
use Prim.Native.Nat.{ℕ, ◌+◌, ◌/◌, ◌%◌, ◌<◌, ◌≤◌}
use mathlib.Core.Path.{ap, ap₂, sym, ◌∙◌}
use mathlib.Core.List.{List}
use native.Mathlib.Omega.{arith}
use lib.ListN.{set}
use Rattle.codec.specs.Bytes.{with_bytes}
use Rattle.codec.proofs.Parts.{with_bytes-one}
use Rattle.plan_text.specs.Text.{decimal}
use Rattle.plan_text.proofs.TextLaws.{decimal-small, decimal-large, length-small, length-large, put-more}
use Rattle.plan_text.proofs.text.+put_decimal.Goals as goal

pub bounds-out-at : goal.bounds-out-at
bounds-out-at t c = omega (arith, c.requires, length-small c.args.n c.if-n-lt10.true)

pub returns-then-n-lt10-clause-value : goal.returns-then-n-lt10-clause-value
returns-then-n-lt10-clause-value t c = omega (arith, length-small c.args.n c.if-n-lt10.true)

pub returns-then-n-lt10-clause-out_after : goal.returns-then-n-lt10-clause-out_after
returns-then-n-lt10-clause-out_after t c =
    let a = c.args in
    let h : a.n < 10 = c.if-n-lt10.true in
    let e = length-small a.n h in
    with_bytes-one a.out.now a.at (48 + a.n) (omega (arith, c.requires)) ∙ ap (with_bytes a.out.now a.at) (sym (decimal-small a.n h))

pub put_decimal-k-requires : goal.put_decimal-k-requires
put_decimal-k-requires t c =
    let h : 10 ≤ c.args.n = c.if-n-lt10.false in
    let e = length-large c.args.n h in
    (omega (arith, c.decreases), omega (arith, c.requires))

pub bounds-out-k : goal.bounds-out-k
bounds-out-k t c =
    let e = length-large c.args.n c.if-n-lt10.false in
    omega (arith, c.requires, c.put_decimal-k.ensures.value, c.put_decimal-k.auto.out)

pub overflow_add-result-2 : goal.overflow_add-result-2
overflow_add-result-2 t c =
    let e = length-large c.args.n c.if-n-lt10.false in
    omega (arith, c.requires, c.put_decimal-k.ensures.value, c.put_decimal-k.auto.out)

pub returns-clause-value : goal.returns-clause-value
returns-clause-value t c =
    let e = length-large c.args.n c.if-n-lt10.false in
    omega (arith, c.put_decimal-k.ensures.value)

pub returns-clause-out_after : goal.returns-clause-out_after
returns-clause-out_after t c =
    let a = c.args in
    let p = c.put_decimal-k in
    let h : 10 ≤ a.n = c.if-n-lt10.false in
    let e = length-large a.n h in
    let d : List ℕ = decimal (a.n / 10) in
    let v : ℕ = 48 + a.n % 10 in
    ap₂ (λ (l : List ℕ) (k : ℕ). set l k v) p.ensures.out_after p.ensures.value
    ∙ put-more a.out.now a.at d v (omega (arith, c.requires))
    ∙ ap (with_bytes a.out.now a.at) (sym (decimal-large a.n h))
