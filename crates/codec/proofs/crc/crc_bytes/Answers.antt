-- `codec::crc::crc_bytes` meets its contract. The invariant: the register and the bytes to come make what the whole makes.
use mathlib.Core.Path.{◌≡◌, ap, ◌∙◌}
use mathlib.Core.List.{List}
use Prim.Native.Nat.{ℕ, ◌+◌, ◌*◌, ◌/◌}
use native.Mathlib.Omega.{arith}
use lib.ListN.{length, drop}
use Rattle.codec.specs.Bytes.{bytes_at}
use Rattle.codec.specs.Crc.{crc_bytes}
use Rattle.codec.proofs.Chunks.{chunk-at, chunk-next}
use Rattle.codec.proofs.Division.{crc_bytes-append}
use Rattle.codec.proofs.crc.crc_bytes.Goals as goal

pub loop-word-preserved : goal.loop-word-preserved
loop-word-preserved c =
    let l = c.loop-word in
    let s : List ℕ = c.args.s.now in
    let i : ℕ = l.word-index in
    let rest : List ℕ = drop ((i + 1) * 4) s in
    let word = chunk-at 4 s c.as_chunks.ensures.front i (omega (arith, c.as_chunks.ensures.front_len)) in
    ap (λ (r : ℕ). crc_bytes r rest) (c.crc_word-r.ensures ∙ ap (crc_bytes l.r) word)
    ∙ crc_bytes-append l.r (bytes_at s (i * 4) 4) rest
    ∙ ap (crc_bytes l.r) (chunk-next 4 i s)
    ∙ l.invariant

pub returns : goal.returns
returns c =
    let all : length c.args.s.now / 4 ≡ c.loop-word.word-index = omega (arith, c.as_chunks.ensures.front_len) in
    cc all
