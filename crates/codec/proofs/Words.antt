-- The division is linear, so the bytes of a word go in together: each byte's own share stands in a table, and the shares are added. So the
-- steps by words and by single bytes are the division's.
-- Assumes nothing.
use mathlib.Core.Path.{◌≡◌, refl, sym, ap, ap₂, subst, ◌∙◌}
use mathlib.Core.List.{List, [], ◌∷◌, reverse, reverse-reverse}
use Prim.Native.Nat.{ℕ, zero, suc, ◌+◌, ◌*◌, ◌/◌, ◌%◌, ◌^◌, ◌≤◌, ◌<◌}
use native.Mathlib.Nat.{zero-add, suc-add, mul-suc, add_comm, mod-lt, le_of_eq, not-suc-le-zero, le_of_suc-le-suc}
use native.Mathlib.Omega.{arith}
use lib.Bits.{bit_xor, xor_comm, xor_zero_r, xor_mod, xor_shr, xor_shifted, xor_lt}
use lib.Pow.{pow_pos}
use lib.ListN.{length, get_or, replicate, length-reverse}
use Rattle.codec.specs.Bytes.{IsBytes, bytes_at, be_of, be_bytes, le_of, le_bytes}
use Rattle.codec.specs.Crc.{polynomial, reduced, divide_bit, divide_bits, crc_byte, crc_bytes}
use Rattle.codec.specs.Words.{entry, IsTables, step_byte, shares_of, step_word, crc_singly, crc_words, WordsAreSingles}
use Rattle.codec.proofs.Xor.{xor_assoc}
use Rattle.codec.proofs.Division.{reduced-xor, divide_bits-high, crc_byte-table}
use Rattle.codec.proofs.Numbers.{be_of-lt, be_bytes-be_of, le_of-append, le_of-le_bytes-lt, length-le_bytes}
use Rattle.codec.proofs.Overwrites.{IsBytes-reverse, IsBytes-le_bytes, IsBytes-bytes_at}
use Rattle.codec.proofs.CrcRange.{crc_bytes-lt}

-- ---- the division is linear

-- the second of three to the end
xor-last : (a b c : ℕ) → bit_xor (bit_xor a b) c ≡ bit_xor (bit_xor a c) b
xor-last a b c = xor_assoc a b c ∙ ap (bit_xor a) (xor_comm b c) ∙ sym (xor_assoc a c b)

reduced-both : (p q g h : ℕ) → p < 2 → q < 2 → reduced (bit_xor p q) (bit_xor g h) ≡ bit_xor (reduced p g) (reduced q h)
reduced-both zero q g h hp hq = reduced-xor q g h
reduced-both (suc zero) zero g h hp hq = xor-last g h polynomial
reduced-both (suc zero) (suc zero) g h hp hq =
    sym
    (sym (xor_assoc (bit_xor g polynomial) h polynomial)
    ∙ xor-last (bit_xor g polynomial) h polynomial
    ∙ ap (λ (x : ℕ). bit_xor x h) (xor_assoc g polynomial polynomial ∙ xor_zero_r g))
reduced-both (suc zero) (suc (suc q)) g h hp hq = absurd (not-suc-le-zero (le_of_suc-le-suc (le_of_suc-le-suc hq)))
reduced-both (suc (suc p)) q g h hp hq = absurd (not-suc-le-zero (le_of_suc-le-suc (le_of_suc-le-suc hp)))

divide_bit-xor : (a b : ℕ) → divide_bit (bit_xor a b) ≡ bit_xor (divide_bit a) (divide_bit b)
unfolding divide_bit
divide_bit-xor a b =
    ap₂ reduced (xor_mod a b 1) (xor_shr a b 1)
    ∙ reduced-both (a % 2) (b % 2) (a / 2) (b / 2) (mod-lt a (pow_pos 1)) (mod-lt b (pow_pos 1))

pub divide_bits-xor : (k a b : ℕ) → divide_bits k (bit_xor a b) ≡ bit_xor (divide_bits k a) (divide_bits k b)
unfolding divide_bits
divide_bits-xor zero a b = refl
divide_bits-xor (suc k) a b = ap (divide_bits k) (divide_bit-xor a b) ∙ divide_bits-xor k (divide_bit a) (divide_bit b)

-- steps that follow one another
pub divide_bits-add : (m k x : ℕ) → divide_bits (m + k) x ≡ divide_bits k (divide_bits m x)
unfolding divide_bits
divide_bits-add zero k x = ap (λ (n : ℕ). divide_bits n x) (zero-add k)
divide_bits-add (suc m) k x = ap (λ (n : ℕ). divide_bits n x) (suc-add m k) ∙ divide_bits-add m k (divide_bit x)

-- ---- bytes go in together, as one number with the first byte lowest

le_of-one : (b : ℕ) → le_of (b ∷ []) ≡ b
unfolding le_of be_of
le_of-one b = omega arith

le_of-lt : (l : List ℕ) → IsBytes l → le_of l < 256 ^ length l
unfolding le_of
le_of-lt l h = subst (λ (n : ℕ). be_of (reverse l) < 256 ^ n) (length-reverse l) (be_of-lt (reverse l) (IsBytes-reverse l h))

pub le_bytes-le_of : (l : List ℕ) → IsBytes l → le_bytes (length l) (le_of l) ≡ l
unfolding le_of le_bytes
le_bytes-le_of l h =
    ap (λ (n : ℕ). reverse (be_bytes n (be_of (reverse l)))) (sym (length-reverse l))
    ∙ ap reverse (be_bytes-be_of (reverse l) (IsBytes-reverse l h))
    ∙ reverse-reverse l

le_of-next : (b : ℕ) (bs : List ℕ) → le_of bs * 256 + b ≡ le_of (b ∷ bs)
le_of-next b bs = ap (λ (x : ℕ). le_of bs * 256 + x) (sym (le_of-one b)) ∙ sym (le_of-append (b ∷ []) bs)

pub crc_bytes-together : (bs : List ℕ) (r : ℕ) → IsBytes bs → crc_bytes r bs ≡ divide_bits (8 * length bs) (bit_xor r (le_of bs))
unfolding crc_bytes crc_byte le_of be_of divide_bits
crc_bytes-together [] r h = sym (xor_zero_r r)
crc_bytes-together (b ∷ bs) r h =
    let rest : ℕ = le_of bs in
    let n : ℕ = length bs in
    crc_bytes-together bs (divide_bits 8 (bit_xor r b)) (λ i. h (suc i))
    ∙ ap (divide_bits (8 * n)) (xor_comm (divide_bits 8 (bit_xor r b)) rest ∙ sym (divide_bits-high 8 rest (bit_xor r b)))
    ∙ sym (divide_bits-add 8 (8 * n) (bit_xor (rest * 256) (bit_xor r b)))
    ∙ ap₂ divide_bits (add_comm 8 (8 * n) ∙ sym (mul-suc 8 n))
    (sym (xor_assoc (rest * 256) r b)
    ∙ ap (λ (x : ℕ). bit_xor x b) (xor_comm (rest * 256) r)
    ∙ xor_assoc r (rest * 256) b
    ∙ ap (bit_xor r) (xor_shifted rest 8 b (h 0) ∙ le_of-next b bs))

-- ---- bytes by their shares

crc_bytes-zeros : (z r : ℕ) → crc_bytes r (replicate z 0) ≡ divide_bits (8 * z) r
unfolding crc_bytes crc_byte divide_bits
crc_bytes-zeros zero r = refl
crc_bytes-zeros (suc z) r =
    ap (λ (x : ℕ). crc_bytes (divide_bits 8 x) (replicate z 0)) (xor_zero_r r)
    ∙ crc_bytes-zeros z (divide_bits 8 r)
    ∙ sym (divide_bits-add 8 (8 * z) r)
    ∙ ap (λ (n : ℕ). divide_bits n r) (add_comm 8 (8 * z) ∙ sym (mul-suc 8 z))

-- a byte with z zero bytes behind it
share : (z n : ℕ) → crc_bytes 0 (n ∷ replicate z 0) ≡ divide_bits (8 + 8 * z) n
unfolding crc_bytes crc_byte
share z n = crc_bytes-zeros z (divide_bits 8 n) ∙ sym (divide_bits-add 8 (8 * z) n)

-- what a table has
lookup : (t : List ℕ) → IsTables t → (z n : ℕ) → z < 4 → n < 256 → entry t z n ≡ divide_bits (8 + 8 * z) n
lookup t rule z n hz hn = rule z n hz hn ∙ share z n

-- the shares of bytes that go in together make what their number makes
shares : (t : List ℕ) → IsTables t → (l : List ℕ) → IsBytes l → length l ≤ 4 → shares_of t l ≡ divide_bits (8 * length l) (le_of l)
unfolding shares_of le_of be_of divide_bits
shares t rule [] h few = refl
shares t rule (b ∷ bs) h few =
    let rest : ℕ = le_of bs in
    let n : ℕ = length bs in
    ap₂ bit_xor (lookup t rule n b (omega arith) (h 0)) (shares t rule bs (λ i. h (suc i)) (omega arith))
    ∙ xor_comm (divide_bits (8 + 8 * n) b) (divide_bits (8 * n) rest)
    ∙ ap (bit_xor (divide_bits (8 * n) rest)) (divide_bits-add 8 (8 * n) b)
    ∙ sym (divide_bits-xor (8 * n) rest (divide_bits 8 b))
    ∙ ap (divide_bits (8 * n)) (sym (divide_bits-high 8 rest b))
    ∙ sym (divide_bits-add 8 (8 * n) (bit_xor (rest * 256) b))
    ∙ ap₂ divide_bits (add_comm 8 (8 * n) ∙ sym (mul-suc 8 n)) (xor_shifted rest 8 b (h 0) ∙ le_of-next b bs)

-- ---- the tables' steps are the division's, on every input

byte-lt : (x : ℕ) → x % 256 < 256
byte-lt x = omega arith

pub byte_step : (t : List ℕ) → IsTables t → (r b : ℕ) → b < 256 → step_byte t r b ≡ crc_byte r b
unfolding step_byte
byte_step t rule r b h =
    ap (λ (x : ℕ). bit_xor x (r / 256)) (lookup t rule 0 (bit_xor (r % 256) b) (omega arith) (xor_lt 8 (r % 256) b (byte-lt r) h))
    ∙ crc_byte-table r b

pub word-step : (t : List ℕ) → IsTables t → (r word : ℕ) → r < 2 ^ 32 → word < 2 ^ 32 → step_word t r word ≡ crc_bytes r (le_bytes 4 word)
unfolding step_word
word-step t rule r word hr hw =
    let x : ℕ = bit_xor r word in
    shares t rule (le_bytes 4 x) (IsBytes-le_bytes 4 x) (le_of_eq (length-le_bytes 4 x))
    ∙ ap₂ (λ (n y : ℕ). divide_bits (8 * n) y) (length-le_bytes 4 x) (le_of-le_bytes-lt 4 x (xor_lt 32 r word hr hw))
    ∙ sym
    (crc_bytes-together (le_bytes 4 word) r (IsBytes-le_bytes 4 word)
    ∙ ap₂ (λ (n y : ℕ). divide_bits (8 * n) (bit_xor r y)) (length-le_bytes 4 word) (le_of-le_bytes-lt 4 word hw))

-- the four bytes of a number
four_bytes : (x : ℕ) → x < 2 ^ 32 → le_bytes 4 x ≡ x % 256 ∷ x / 256 % 256 ∷ x / 0x1_0000 % 256 ∷ x / 0x100_0000 ∷ []
unfolding le_bytes be_bytes
four_bytes x h =
    let first : x / 1 % 256 ≡ x % 256 = omega arith in
    let fourth : x / 0x100_0000 % 256 ≡ x / 0x100_0000 = omega arith in
    ap₂ (λ (a d : ℕ). a ∷ x / 256 % 256 ∷ x / 0x1_0000 % 256 ∷ d ∷ []) first fourth

-- their shares, as the code adds them
four-shares : (t : List ℕ) (a b c d : ℕ)
    → bit_xor (bit_xor (get_or t (768 + a) 0) (get_or t (512 + b) 0)) (bit_xor (get_or t (256 + c) 0) (get_or t d 0)) ≡ shares_of t (a ∷ b ∷ c ∷ d ∷ [])
unfolding shares_of
four-shares t a b c d =
    xor_assoc (entry t 3 a) (entry t 2 b) (bit_xor (entry t 1 c) (get_or t d 0))
    ∙ ap (λ (y : ℕ). bit_xor (entry t 3 a) (bit_xor (entry t 2 b) (bit_xor (entry t 1 c) y)))
    (ap (λ (k : ℕ). get_or t k 0) (sym (zero-add d)) ∙ sym (xor_zero_r (entry t 0 d)))

pub word-shares : (t : List ℕ) (r word : ℕ) → r < 2 ^ 32 → word < 2 ^ 32
    → let x : ℕ = bit_xor r word in
    bit_xor (bit_xor (get_or t (768 + x % 256) 0) (get_or t (512 + x / 256 % 256) 0)) (bit_xor (get_or t (256 + x / 0x1_0000 % 256) 0) (get_or t (x / 0x100_0000) 0))
    ≡ step_word t r word
unfolding step_word
word-shares t r word hr hw =
    let x : ℕ = bit_xor r word in
    four-shares t (x % 256) (x / 256 % 256) (x / 0x1_0000 % 256) (x / 0x100_0000)
    ∙ ap (shares_of t) (sym (four_bytes x (xor_lt 32 r word hr hw)))

singly : (t : List ℕ) → IsTables t → (r : ℕ) (l : List ℕ) → IsBytes l → crc_singly t r l ≡ crc_bytes r l
unfolding crc_singly crc_bytes
singly t rule r [] h = refl
singly t rule r (b ∷ bs) h =
    ap (λ (x : ℕ). crc_singly t x bs) (byte_step t rule r b (h 0)) ∙ singly t rule (crc_byte r b) bs (λ i. h (suc i))

words : (t : List ℕ) → IsTables t → (r : ℕ) (l : List ℕ) → r < 2 ^ 32 → IsBytes l → crc_words t r l ≡ crc_bytes r l
unfolding crc_words crc_bytes bytes_at
words t rule r (a ∷ b ∷ c ∷ d ∷ bs) hr h =
    let w : List ℕ = a ∷ b ∷ c ∷ d ∷ [] in
    let hw : IsBytes w = IsBytes-bytes_at (a ∷ b ∷ c ∷ d ∷ bs) 0 4 h in
    ap (λ (x : ℕ). crc_words t x bs)
    (word-step t rule r (le_of w) hr (le_of-lt w hw) ∙ ap (crc_bytes r) (le_bytes-le_of w hw))
    ∙ words t rule (crc_bytes r w) bs (crc_bytes-lt w r hw hr) (λ i. h (suc (suc (suc (suc i)))))
words t rule r (a ∷ b ∷ c ∷ []) hr h = singly t rule r (a ∷ b ∷ c ∷ []) h
words t rule r (a ∷ b ∷ []) hr h = singly t rule r (a ∷ b ∷ []) h
words t rule r (a ∷ []) hr h = singly t rule r (a ∷ []) h
words t rule r [] hr h = refl

pub words-are-singles : WordsAreSingles
words-are-singles t rule =
    record {
      singly = singly t rule;
      words = words t rule;
      same = λ r l hr hl. words t rule r l hr hl ∙ sym (singly t rule r l hl);
    }
