-- CRC32C from four tables: one byte at a step, or four. Each further table has one zero byte more behind the byte than the last, so each byte of a
-- word finds its share in the table that has as many zero bytes as the word has bytes behind it.
-- Assumes nothing.
use Rattle.std.specs.Prelude.{ℕ, ◌+◌, ◌*◌, ◌/◌, ◌%◌, ◌^◌, ◌<◌, List, [], ◌∷◌, ◌≡◌, length, get_or, replicate}
use Rattle.std.specs.Int.Bits.{bit_xor}
use Rattle.codec.specs.Bytes.{IsBytes, le_of, le_bytes}
use Rattle.codec.specs.Crc.{crc_bytes}

-- four tables of 256 entries, one after another; the z-th, from 0 on, at n
abbrev pub entry : List ℕ → ℕ → ℕ → ℕ
entry t z n = get_or t (z * 256 + n) 0

-- it has what becomes of the byte n with z zero bytes behind it
abbrev pub IsTables : List ℕ → Type 0
IsTables t = (z n : ℕ) → z < 4 → n < 256 → entry t z n ≡ crc_bytes 0 (n ∷ replicate z 0)

-- the register after one byte more
unfoldable pub step_byte : List ℕ → ℕ → ℕ → ℕ
step_byte t r b = bit_xor (entry t 0 (bit_xor (r % 256) b)) (r / 256)

-- what bytes that go in together make: the share of each is in the table that has as many zero bytes as there are bytes behind it
unfoldable pub shares_of : List ℕ → List ℕ → ℕ
shares_of t [] = 0
shares_of t (b ∷ bs) = bit_xor (entry t (length bs) b) (shares_of t bs)

-- the register after a word more, four bytes as one number with the first lowest: the register is added to it, and the four go in together
unfoldable pub step_word : List ℕ → ℕ → ℕ → ℕ
step_word t r word = shares_of t (le_bytes 4 (bit_xor r word))

-- the register after the bytes of a list, one at a step
unfoldable pub crc_singly : List ℕ → ℕ → List ℕ → ℕ
crc_singly t r [] = r
crc_singly t r (b ∷ bs) = crc_singly t (step_byte t r b) bs

-- four at a step; fewer than four are the last bytes, and go singly
unfoldable pub crc_words : List ℕ → ℕ → List ℕ → ℕ
crc_words t r (a ∷ b ∷ c ∷ d ∷ bs) = crc_words t (step_word t r (le_of (a ∷ b ∷ c ∷ d ∷ []))) bs
crc_words t r (a ∷ b ∷ c ∷ []) = crc_singly t r (a ∷ b ∷ c ∷ [])
crc_words t r (a ∷ b ∷ []) = crc_singly t r (a ∷ b ∷ [])
crc_words t r (a ∷ []) = crc_singly t r (a ∷ [])
crc_words t r [] = r

-- whatever the input, the division's register comes out, by single bytes and by words
pub record EveryInput (t : List ℕ) : Type 0 where
  pub singly : (r : ℕ) (l : List ℕ) → IsBytes l → crc_singly t r l ≡ crc_bytes r l
  pub words : (r : ℕ) (l : List ℕ) → r < 2 ^ 32 → IsBytes l → crc_words t r l ≡ crc_bytes r l
  pub same : (r : ℕ) (l : List ℕ) → r < 2 ^ 32 → IsBytes l → crc_words t r l ≡ crc_singly t r l

-- from any tables that keep the rule, as `TABLES` of `codec::crc` does (proofs/CrcTables.antt)
abbrev pub WordsAreSingles : Type 0
WordsAreSingles = (t : List ℕ) → IsTables t → EveryInput t
