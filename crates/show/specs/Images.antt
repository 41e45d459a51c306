-- Images of blocks: parts of one size that stand one after another, blocks stored and damaged there, and pointers put into a node.
-- Assumes nothing.
use Rattle.std.specs.Prelude.{ℕ, ◌+◌, ◌*◌, Bool, cond, List, [], ◌∷◌, leb, length, take, drop}
use Rattle.codec.specs.Bytes.{bytes_at, with_bytes, be_bytes}
use Rattle.show.specs.Samples.{damaged}

-- does a list reach over part i, of parts of so many elements?
abbrev pub has_part : List ℕ → ℕ → ℕ → Bool
has_part l size i = leb (i * size + size) (length l)

-- part i
abbrev pub part_of : List ℕ → ℕ → ℕ → List ℕ
part_of l size i = bytes_at l (i * size) size

-- with a block stored at its number, where the image reaches over it, and else as it was
abbrev pub stored : List ℕ → ℕ → List ℕ → List ℕ
stored block number image = cond (has_part image (length block) number) (with_bytes image (number * length block) block) image

-- with blocks that stand one after another stored, each at its number, as many as there are of both
unfoldable pub stored_each : List ℕ → ℕ → List ℕ → List ℕ → List ℕ
stored_each blocks size [] image = image
stored_each blocks size (n ∷ numbers) image =
    cond (leb size (length blocks)) (stored_each (drop size blocks) size numbers (stored (take size blocks) n image)) image

-- with one of its blocks damaged, where the image reaches over it
abbrev pub damaged_in : List ℕ → ℕ → ℕ → ℕ → ℕ → Bool → List ℕ
damaged_in image size block at value again =
    cond (has_part image size block) (with_bytes image (block * size) (damaged (part_of image size block) at value again)) image

-- with pointers put in one after another from a place on, as many as there is room for
unfoldable pub with_pointers : List ℕ → ℕ → List ℕ → List ℕ
with_pointers node at [] = node
with_pointers node at (p ∷ pointers) =
    cond (leb (at + 4) (length node)) (with_pointers (with_bytes node at (be_bytes 4 p)) (at + 4) pointers) node
