-- `codec::crc::crc32c_with_zeroed_crc` meets its contract: the three parts make the list with zeros at the place.
use mathlib.Core.Path.{◌≡◌, ap, ap₂, sym, ◌∙◌}
use mathlib.Core.List.{List, [], ◌∷◌}
use Prim.Native.Nat.{ℕ, ◌+◌, ◌-◌}
use native.Mathlib.Omega.{arith}
use lib.Bits.{bit_xor}
use lib.ListN.{length, take, drop, length-drop}
use lib.Seq.{length-take-le, take_all}
use native.Mathlib.Nat.{le_of_eq}
use Rattle.codec.specs.Crc.{crc_bytes, crc32c_of}
use Rattle.codec.proofs.Division.{crc_bytes-with}
use Rattle.codec.proofs.crc.crc32c_with_zeroed_crc.Goals as goal

-- what stands after the four bytes of the field
after-field : (l : List ℕ) (at after : ℕ) → after ≡ at + 4 → take (length l - after) (drop after l) ≡ drop (at + 4) l
after-field l at after e = take_all (length l - after) (drop after l) (le_of_eq (length-drop after l)) ∙ ap (λ (n : ℕ). drop n l) e

pub slice_bounds-crc_bytes-end : goal.slice_bounds-crc_bytes-end
slice_bounds-crc_bytes-end c = sym (length-take-le _ _ (omega arith))

pub returns : goal.returns
unfolding crc32c_of
returns c =
    let l : List ℕ = c.args.buf.now in
    let at : ℕ = c.args.crc_off in
    let zeros : List ℕ = 0 ∷ 0 ∷ 0 ∷ 0 ∷ [] in
    ap (λ (x : ℕ). bit_xor x 0xFFFF_FFFF)
    (c.crc_bytes.ensures
    ∙ ap₂ crc_bytes
    (c.crc_bytes-through.ensures ∙ ap (λ (x : ℕ). crc_bytes x zeros) c.crc_bytes-before.ensures)
    (after-field l at _ (omega arith))
    ∙ crc_bytes-with 0xFFFF_FFFF l at zeros)
