-- A walk of a tree, left to right and depth first: which blocks it visits, what it reads and how it ends.
-- `run` is over any way to look at a block, and any number of visits.
-- Assumes nothing.
use Rattle.std.specs.Prelude.{ℕ, zero, suc, ◌+◌, ◌-◌, ◌*◌, ◌/◌, List, [], ◌∷◌, ◌++◌, cond, ◌&&◌, length, ltb, leb, eqb}
use Rattle.codec.specs.Bytes.{bytes_at, be_of}
use Rattle.blocks.specs.Tree.{ptr_len}
use Rattle.codec.specs.Question.{Values, none, Outcome, done, refused, ask, answer, map_outcome}

-- ---- the walk

-- a block that is due: its number in the group, and the level that its parent says
pub record Visit : Type 0 where
  pub block : ℕ
  pub level : ℕ

abbrev pub visit_of : ℕ → ℕ → Visit
visit_of b l = record { block = b; level = l }

-- what a look at a block finds: a refusal, or the blocks below it from left to right and its records' bytes
pub data Look : Type 0 where
  bad : ℕ → Values → Look
  good : List Visit → List ℕ → Look

-- the records' bytes that it finds
abbrev pub bytes_found : Look → List ℕ
bytes_found (bad n x) = []
bytes_found (good below bytes) = bytes

-- a walk: each block that was read, with its records' bytes, and how it ended.
-- `finished`: nothing is due any more; `spent`: a block is due and the visits are used up; `failed`: a block was refused.
pub data Trace : Type 0 where
  finished : Trace
  spent : Trace
  failed : ℕ → Values → Trace
  met : Visit → List ℕ → Trace → Trace

-- the walk after a look: it goes on with the blocks below, or ends
abbrev pub after : Visit → (List Visit → Trace) → Look → Trace
after v go (bad n x) = failed n x
after v go (good below bytes) = met v bytes (go below)

-- the walk of the blocks that are due, of at most n visits
unfoldable pub run : (Visit → Look) → ℕ → List Visit → Trace
run look zero [] = finished
run look zero (v ∷ due) = spent
run look (suc n) [] = finished
run look (suc n) (v ∷ due) = after v (λ below. run look n (below ++ due)) (look v)

-- the walk with lists of so many blocks and bytes: the first block that no longer fits is refused by 15
unfoldable pub fit : ℕ → ℕ → Trace → Trace
fit blocks bytes finished = finished
fit blocks bytes spent = spent
fit blocks bytes (failed n x) = failed n x
fit blocks bytes (met v b t) =
    cond (ltb 0 blocks && leb (length b) bytes) (met v b (fit (blocks - 1) (bytes - length b) t)) (failed 15 none)

-- ---- what a walk gives

unfoldable pub visits : Trace → List Visit
visits finished = []
visits spent = []
visits (failed n x) = []
visits (met v b t) = v ∷ visits t

unfoldable pub records : Trace → List ℕ
records finished = []
records spent = []
records (failed n x) = []
records (met v b t) = b ++ records t

-- the trace without the blocks that were read
unfoldable pub ending : Trace → Trace
ending finished = finished
ending spent = spent
ending (failed n x) = failed n x
ending (met v b t) = ending t

-- the blocks of one level, in the order met
unfoldable pub at_level : ℕ → List Visit → List ℕ
at_level l [] = []
at_level l (v ∷ vs) = cond (eqb v.level l) (v.block ∷ at_level l vs) (at_level l vs)

-- the blocks of the first n levels, leaves first
unfoldable pub by_level : ℕ → List Visit → List ℕ
by_level zero vs = []
by_level (suc n) vs = by_level n vs ++ at_level n vs

-- ---- a look at a block of an image

-- what a walk goes by: the length of a block, of its header, of a record and of an entry's keys, and the block check, which
-- takes the block's number, its level and its bytes, and gives the number of its records
pub record Shape : Type 0 where
  pub size : ℕ
  pub header : ℕ
  pub record_length : ℕ
  pub keys_length : ℕ
  pub check : ℕ → ℕ → List ℕ → Outcome ℕ

-- how many records a leaf holds, and how many entries a node: an entry is its keys and a pointer
abbrev pub per_leaf : Shape → ℕ
per_leaf s = (s.size - s.header) / s.record_length

abbrev pub per_node : Shape → ℕ
per_node s = (s.size - s.header) / (s.keys_length + ptr_len)

-- block n of an image
abbrev pub block_in : ℕ → List ℕ → ℕ → List ℕ
block_in size image n = bytes_at image (n * size) size

-- the pointers stand after room for the capacity's keys
abbrev pub first_pointer : Shape → ℕ
first_pointer s = s.header + per_node s * s.keys_length

-- the blocks that n pointers of a node name, from a place on
unfoldable pub pointers : List ℕ → ℕ → ℕ → ℕ → List Visit
pointers part at level zero = []
pointers part at level (suc n) = visit_of (be_of (bytes_at part at ptr_len)) level ∷ pointers part (at + ptr_len) level n

-- what is under a block of so many records whose header is good: records in a leaf, blocks in a node
unfoldable pub under : Shape → List ℕ → ℕ → ℕ → Look
under s part zero n = good [] (bytes_at part s.header (n * s.record_length))
under s part (suc level) n = good (pointers part (first_pointer s) level n) []

abbrev pub look_of : Outcome Look → Look
look_of (done l) = l
look_of (refused n x) = bad n x

-- a look: does the block lie whole in the image (14)? then the block check (3 to 8, 30, 9 and 10), and what is under a block of so many records
abbrev pub look_with : Shape → (List ℕ → ℕ → ℕ → Look) → List ℕ → Visit → Look
look_with s below image v =
    look_of (answer (ask 14 (leb ((v.block + 1) * s.size) (length image)) ∷ [])
    (map_outcome (below (block_in s.size image v.block) v.level) (s.check v.block v.level (block_in s.size image v.block))))

-- the look of a walk
unfoldable pub look_in : Shape → List ℕ → Visit → Look
look_in s image v = look_with s (under s) image v
