-- `codec::endian::array_at` meets its contract.
use mathlib.Core.Path.{◌≡◌, ap, ◌∙◌}
use Prim.Native.Nat.{ℕ, ◌+◌, ◌-◌}
use native.Mathlib.Omega.{arith}
use lib.ListN.{take, drop}
use Rattle.codec.specs.Bytes.{bytes_at}
use Rattle.codec.proofs.endian.array_at.Goals as goal

pub returns : goal.returns
unfolding bytes_at
returns g c =
    let off = c.args.off in
    let n : off + g.row.N - off ≡ g.row.N = omega arith in
    c.copy_from_slice.ensures.after ∙ ap (λ (k : ℕ). take k (drop off c.args.b.now)) n
