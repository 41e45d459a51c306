-- `blocks::uuid::is_uuid` meets its contract.
use mathlib.Core.Path.{◌≡◌, ap, ◌∙◌}
use Prim.Native.Nat.{ℕ, ◌+◌, ◌-◌}
use native.Mathlib.Omega.{arith}
use lib.ListN.{take, drop}
use Rattle.codec.specs.Bytes.{bytes_at}
use Rattle.blocks.specs.Check.{same}
use Rattle.blocks.proofs.Laws.{same-is}
use Rattle.blocks.proofs.uuid.is_uuid.Goals as goal

pub returns : goal.returns
unfolding bytes_at
returns c =
    let a = c.args in
    let n : a.at + 16 - a.at ≡ 16 = omega arith in
    c.eq.ensures ∙ same-is _ a.uuid ∙ ap (λ (k : ℕ). same (take k (drop a.at a.b.now)) a.uuid) n
