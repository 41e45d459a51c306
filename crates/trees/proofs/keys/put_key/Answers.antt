-- `trees::keys::put_key` meets its contract.
use native.Mathlib.Nat.{add-zero}
use native.Mathlib.Omega.{arith}
use mathlib.Core.List.{[], ◌∷◌}
use Rattle.codec.proofs.FieldLists.{fields-write}
use Rattle.trees.specs.Keys.{key_widths}
use Rattle.trees.proofs.keys.put_key.Goals as goal

pub returns : goal.returns
returns c = let a = c.args in
    cc (fields-write key_widths (a.k.start ∷ a.k.owner ∷ a.k.offset ∷ []) a.b.now a.at 0 (omega (arith, c.requires)), add-zero a.at)
