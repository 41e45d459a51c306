-- `interface::given::geometry` meets its contract.
use mathlib.Core.Path.{◌≡◌, refl, ap, ◌∙◌}
use mathlib.Core.List.{List, ◌++◌}
use Prim.Native.Nat.{ℕ}
use Rattle.codec.specs.Bytes.{with_bytes, be_bytes}
use Rattle.interface.proofs.Halves.{two-halves}
use Rattle.interface.proofs.given.geometry.Goals as goal

pub returns : goal.returns
returns c =
    let a = c.args in
    let e : c.put_be64-2.new.b ≡ be_bytes 8 a.uuid_high ++ be_bytes 8 a.uuid_low =
    c.put_be64-2.ensures
    ∙ ap (λ (l : List ℕ). with_bytes l 8 (be_bytes 8 a.uuid_low)) c.put_be64.ensures
    ∙ two-halves _ a.uuid_high a.uuid_low refl in
    rw e
