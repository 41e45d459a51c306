-- How many blocks each level of a tree has, leaves first, and how entries are shared over the blocks of a level.
-- Assumes nothing.
use Rattle.std.specs.Prelude.{ℕ, zero, suc, ◌+◌, ◌-◌, ◌*◌, ◌/◌, ◌%◌, min, max, List, [], ◌∷◌, cond, length, get_or, ltb, leb}
use Rattle.codec.specs.Question.{Outcome, done, ask, answer}

-- a / b, rounded up
unfoldable pub ceil : ℕ → ℕ → ℕ
ceil a b = (a + (b - 1)) / b

-- the blocks of the leaf level
unfoldable pub leaves : ℕ → ℕ → ℕ
leaves per_leaf records = max 1 (ceil records per_leaf)

-- the blocks of the levels above one of b blocks, at most n levels: each is the one below / per_node rounded up, until 1
unfoldable pub above : ℕ → ℕ → ℕ → List ℕ
above per_node b zero = []
above per_node b (suc n) = cond (leb b 1) [] (ceil b per_node ∷ above per_node (ceil b per_node) n)

-- the blocks of each level, leaves first, up to the tenth
unfoldable pub levels_of : ℕ → ℕ → ℕ → List ℕ
levels_of per_leaf per_node records = leaves per_leaf records ∷ above per_node (leaves per_leaf records) 9

-- the plan: 16, then the blocks of each level
abbrev pub planned : ℕ → ℕ → ℕ → Outcome (List ℕ)
planned per_leaf per_node records =
    answer (ask 16 (leb (length (levels_of per_leaf per_node records)) 9) ∷ []) (done (levels_of per_leaf per_node records))

-- all blocks of a plan
unfoldable pub sum : List ℕ → ℕ
sum [] = 0
sum (x ∷ xs) = x + sum xs

-- block i's part of entries shared over blocks: the first ones take one more
unfoldable pub share_of : ℕ → ℕ → ℕ → ℕ
share_of entries blocks i = entries / blocks + cond (ltb i (entries % blocks)) 1 0

-- the parts of n blocks from the i-th on
unfoldable pub shares_from : ℕ → ℕ → ℕ → ℕ → List ℕ
shares_from entries blocks i zero = []
shares_from entries blocks i (suc n) = share_of entries blocks i ∷ shares_from entries blocks (suc i) n

abbrev pub shares : ℕ → ℕ → List ℕ
shares entries blocks = shares_from entries blocks 0 blocks

-- the entries before block i
unfoldable pub start_of : ℕ → ℕ → ℕ → ℕ
start_of entries blocks i = i * (entries / blocks) + min i (entries % blocks)

-- the first record under block i of a level, where the blocks of each level are listed leaves first
unfoldable pub first_of : ℕ → List ℕ → ℕ → ℕ → ℕ
first_of records levels zero i = start_of records (get_or levels 0 0) i
first_of records levels (suc l) i = first_of records levels l (start_of (get_or levels l 0) (get_or levels (suc l) 0) i)
