-- Runs of records that an edit leaves as they are: which ones, and what skipping them promises.
-- Assumes nothing.
use Rattle.std.specs.Prelude.{ℕ, ◌+◌, ◌-◌, ◌*◌, ◌/◌, ◌^◌, ◌≤◌, ◌<◌, max, ◌≡◌, ◌⊎◌, Bool, true, cond, List, [], ◌∷◌, ◌++◌, leb, length}
use Rattle.codec.specs.Accepted.{end_limit}
use Rattle.codec.specs.Records.{bytes_of, refcounts}
use Rattle.codec.specs.declared.refcount.Refcount.{Refcount}
use Rattle.lists.specs.declared.carried.Carried.{Carried}
use Rattle.lists.specs.Release.{stop}
use Rattle.lists.specs.Inner.Passes.{put_if, pending, Fits}

-- r stays as it is behind the place z, where n owners stop: it is good and shared, does not join them, and lies before s or from high on
pub record Stays (z n s high : ℕ) (r : Refcount) : Type 0 where
  pub some : 0 < r.blockcount
  pub end : stop r ≤ end_limit
  pub shared : 2 ≤ r.refcount
  pub few : r.refcount < 2 ^ 32
  pub after : z ≤ r.startblock
  pub apart : r.startblock ≡ z → r.refcount ≡ n → ⊥
  pub off : (stop r ≤ s) ⊎ (high ≤ r.startblock)

-- each record stays behind the one before it
abbrev pub AllStay : (z n s high : ℕ) → List Refcount → Type 0
AllStay z n s high [] = Unit {0}
AllStay z n s high (r ∷ l) = Stays z n s high r × AllStay (stop r) r.refcount s high l

-- from where on a record behind the extent stays; none does before all free blocks are found
unfoldable pub behind : ℕ → ℕ → ℕ
behind gap e = cond (leb e gap) e (2 ^ 32)

-- the records l stay behind what w carries
abbrev pub Unchanged : (s e : ℕ) → Carried → List Refcount → Type 0
Unchanged s e w l = AllStay (stop w.prev) w.joiner.owners s (behind w.gap e) l

-- ---- skipping

-- what is carried behind a run that ends with r, all before r being finished at the place `at`
abbrev pub skipped : Carried → Refcount → (at gap : ℕ) → Carried
skipped w r at gap =
    record {
      prev = r;
      joiner = record { start = r.startblock; count = r.blockcount; owners = r.refcount; at = at };
      gap = gap;
      free = w.free;
      clear = w.clear;
      fit = w.fit;
    }

-- the same behind the records l and then r
abbrev pub skipped_by : Carried → List Refcount → Refcount → Carried
skipped_by w l r = skipped w r (w.joiner.at + length (bytes_of refcounts (pending w.joiner ++ l))) (max w.gap (stop r))

-- a buffer of n bytes that is to be written has room for the record that waits and all but the last from i up to j
pub record SkipAsks (write : Bool) (w : Carried) (i j : ℕ) (counts : List ℕ) (n : ℕ) : Type 0 where
  pub inside : j ≤ length counts / refcounts.size
  pub fits : Fits w.joiner
  pub place : i < j → w.joiner.at + length (bytes_of refcounts (pending w.joiner)) + (j - 1 - i) * refcounts.size ≤ 2 ^ 36
  pub room : write ≡ true → i < j → w.joiner.at + length (bytes_of refcounts (pending w.joiner)) + (j - 1 - i) * refcounts.size ≤ n

-- k is carried on from w behind the records l, of which there are some
pub record SkippedSome (write : Bool) (w : Carried) (l : List Refcount) (new : List ℕ) (k : Carried) (new' : List ℕ) : Type 0 where
  pub front : List Refcount
  pub last : Refcount
  pub run : l ≡ front ++ (last ∷ [])
  pub carried : k ≡ skipped_by w front last
  pub bytes : new' ≡ put_if write new w.joiner.at (bytes_of refcounts (pending w.joiner ++ front))

-- k is carried on from w behind the records l
abbrev pub Skipped : Bool → Carried → List Refcount → List ℕ → Carried → List ℕ → Type 0
Skipped write w l new k new' = ((l ≡ []) × (k ≡ w) × (new' ≡ new)) ⊎ SkippedSome write w l new k new'
