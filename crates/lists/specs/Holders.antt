-- Who holds a block: the records of a reverse map that lie over it.
-- Assumes nothing.
use Rattle.std.specs.Prelude.{ℕ, ◌+◌, List, [], ◌∷◌}
use Rattle.codec.specs.declared.rmap.Rmap.{Rmap}
use Rattle.lists.specs.Extent.{within}

-- how many records lie over block b
unfoldable pub holders : List Rmap → ℕ → ℕ
holders [] b = 0
holders (r ∷ l) b = within r.startblock r.blockcount 1 b + holders l b
