-- What a sheet that passed 32 and 33 hands to those that read its changes.
-- Assumes nothing.
use Rattle.std.specs.Prelude.{ℕ, ◌*◌, ◌≤◌, ◌≡◌, true, List, length}
use Rattle.sheets.specs.Layout.{block_len}
use Rattle.sheets.specs.Sheet.{all_ruled, block_count}

-- whole blocks, one or more, that keep the rules
pub record Kept (s : List ℕ) : Type 0 where
  pub long : length s ≡ block_count s * block_len
  pub some : 1 ≤ block_count s
  pub rules : all_ruled 0 (block_count s) s ≡ true
