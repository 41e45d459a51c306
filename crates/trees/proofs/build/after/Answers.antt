-- `trees::build::after` meets its contract.
use Prim.Native.Nat.{ℕ, zero, suc, ◌+◌}
use native.Mathlib.Omega.{arith}
use mathlib.Core.Path.{◌≡◌, refl, ap, ◌∙◌}
use mathlib.Core.List.{List, [], ◌∷◌}
use lib.ListN.{drop, get_or}
use Rattle.std.specs.Prelude.{Option}
use Rattle.std.specs.Option.{unwrap_or}
use Rattle.blocks.specs.Geometry.{null_ag_block}
use Rattle.walks.specs.Links.{next}
use Rattle.trees.proofs.build.after.Goals as goal

next-is : (ns : List ℕ) (i : ℕ) → get_or ns i null_ag_block ≡ next (drop i ns)
next-is [] zero = refl
next-is [] (suc i) = refl
next-is (n ∷ ns) zero = refl
next-is (n ∷ ns) (suc i) = next-is ns i

pub returns : goal.returns
returns c =
    let a = c.args in
    c.unwrap_or.ensures
    ∙ ap (λ (o : Option ℕ). unwrap_or o null_ag_block) c.copied.ensures
    ∙ c.get.ensures.lookup.4 (omega arith) null_ag_block
    ∙ next-is a.blocks.now (a.i + 1)
