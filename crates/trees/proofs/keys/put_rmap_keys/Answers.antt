-- `trees::keys::put_rmap_keys` meets its contract.
use Prim.Native.Nat.{ℕ, ◌+◌}
use mathlib.Core.Path.{ap, ◌∙◌}
use mathlib.Core.List.{List}
use Rattle.codec.specs.Bytes.{with_bytes}
use Rattle.trees.specs.Keys.{key_bytes, low_key}
use Rattle.trees.proofs.KeyLaws.{keys-put}
use Rattle.trees.proofs.keys.put_rmap_keys.Goals as goal

pub returns : goal.returns
returns c =
    let a = c.args in
    c.put_key-2.ensures
    ∙ ap (λ (l : List ℕ). with_bytes l (a.at + 20) (key_bytes c.highest_key-high.result)) c.put_key.ensures
    ∙ keys-put a.b.now a.list.now a.at a.from a.to (low_key c.decode-r.result) c.highest_key-high.result c.requires.rmap_key_len_in_bounds c.requires.from_lt_to.0 c.requires.from_lt_to.1 (ap low_key c.decode-r.ensures) c.highest_key-high.ensures
