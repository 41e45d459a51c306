-- `plan_text::line::read` meets its contract.
use Prim.Native.Nat.{ℕ, ◌+◌, ◌-◌}
use mathlib.Core.Path.{◌≡◌, refl, ap, ◌∙◌}
use mathlib.Core.Bool.{true, false}
use mathlib.Core.List.{List, [], ◌∷◌}
use lib.Dec.{eqb}
use lib.ListN.{length, take, drop}
use lib.Pointwise.{pointwise}
use denote.Bor.{Bor}
use Rattle.std.specs.Prelude.{Option, None, Some, MatchOption}
use Rattle.std.specs.Option.{unwrap_or}
use Rattle.plan_text.specs.Line.{chomp, line_of}
use Rattle.plan_text.proofs.LineLaws.{unended, ended}
use Rattle.plan_text.proofs.line.read.Goals as goal

chomped : (s : List ℕ) (o : Option (Bor (List ℕ))) (d : Bor (List ℕ)) → d.now ≡ s
    → MatchOption o (pointwise eqb (drop (length s - 1) s) (10 ∷ []) ≡ false)
    (λ x. (pointwise eqb (drop (length s - 1) s) (10 ∷ []) ≡ true) × (x.now ≡ take (length s - 1) s) × (length x.now + 1 ≡ length s))
    → (unwrap_or o d).now ≡ chomp s
chomped s None d e h = e ∙ unended s h
chomped s (Some x) d e h = ended s x.now h.0 h.1

pub returns : goal.returns
returns c =
    c.line_of.ensures
    ∙ ap line_of (ap (λ (b : Bor (List ℕ)). b.now) c.unwrap_or.ensures ∙ chomped c.args.input.now c.strip_suffix.result c.args.input refl c.strip_suffix.ensures.cases)
