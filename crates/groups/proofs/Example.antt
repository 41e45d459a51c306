-- A history in which blocks are shared, from lists that meet `Start`: a first take; a take of two of its blocks by another owner; a first take
-- refused since one of its blocks is held; the first owner's let go, which frees only what the other does not hold; and the same let go again,
-- refused. What the theorem says of it stands below the theorem, in History.antt.
-- Assumes nothing.
use Prim.Native.Nat.{ℕ, ◌+◌, ◌<◌}
use mathlib.Core.Path.{◌≡◌, refl}
use mathlib.Core.List.{List, [], ◌∷◌}
use native.Mathlib.Omega.{arith}
use Rattle.codec.specs.Bytes as bytes
use Rattle.codec.specs.Question.{none, done, refused}
use Rattle.codec.specs.Records as records
use Rattle.codec.specs.Records.{bytes_of, RmapFits, rmaps, refcounts}
use Rattle.codec.specs.Accepted as accepted
use Rattle.codec.specs.Rmaps as rmap
use Rattle.codec.specs.Refcounts as refcount
use Rattle.codec.specs.declared.rmap.Rmap.{Rmap}
use Rattle.codec.specs.declared.refcount.Refcount.{Refcount}
use Rattle.codec.specs.declared.free_extent.FreeExtent.{FreeExtent}
use Rattle.lists.specs.Extent as blocks
use Rattle.lists.specs.Holders as holding
use Rattle.lists.specs.Held as held
use Rattle.lists.specs.RmapEdits as edits
use Rattle.lists.specs.Release as release
use Rattle.lists.specs.Raise as raise
use Rattle.lists.specs.Edits.{insert_outcome, insert_shared_outcome}
use Rattle.groups.specs.LetGo.{let_go_outcome}
use Rattle.groups.specs.TakeHeld.{take_held_outcome}
use Rattle.groups.specs.History.{shared, Lists, Accepted, Agreeing, Change, take, take_held, let_go, step, after, run, Start}

-- ---- the changes

-- start / count of an owner, at a file offset
abbrev pub record_of : ℕ → ℕ → ℕ → ℕ → Rmap
record_of s c owner at = record { startblock = s; blockcount = c; owner = owner; offset = at }

-- start / count / owners
abbrev pub counted : ℕ → ℕ → ℕ → Refcount
counted s c n = record { startblock = s; blockcount = c; refcount = n }

abbrev pub free_at : ℕ → ℕ → FreeExtent
free_at s c = record { startblock = s; blockcount = c }

pub small-fits : (s c owner at : ℕ) → s + (c + (owner + at)) < 100 → RmapFits (record_of s c owner at)
small-fits s c owner at h = record { startblock = omega arith; blockcount = omega arith; owner = omega arith; offset = omega arith }

-- 0/4 of owner 7
abbrev pub first : Change
first = take (record_of 0 4 7 0) (small-fits 0 4 7 0 (omega arith)) 1000

-- 1/2 of owner 9 as well
abbrev pub second : Change
second = take_held (record_of 1 2 9 0) (small-fits 1 2 9 0 (omega arith)) 1000 1000

-- 3/2 of owner 5: the last record that starts at or before it ends in time, and yet owner 7 holds block 3
abbrev pub third : Change
third = take (record_of 3 2 5 0) (small-fits 3 2 5 0 (omega arith)) 1000

-- owner 7 lets all of 0/4 go, twice
abbrev pub fourth : Change
fourth = let_go (record_of 0 4 7 0) 1000 1000 1000

abbrev pub sharing : List Change
sharing = first ∷ second ∷ third ∷ fourth ∷ fourth ∷ []

-- ---- the lists

-- nothing is held
unfoldable pub none_held : Lists
none_held = record { map = []; counts = [] }

-- the lists after the first, the second and the fourth change
abbrev pub first_lists : Lists
first_lists = record { map = bytes_of rmaps (record_of 0 4 7 0 ∷ []); counts = [] }

abbrev pub shared_lists : Lists
shared_lists = record { map = bytes_of rmaps (record_of 0 4 7 0 ∷ record_of 1 2 9 0 ∷ []); counts = bytes_of refcounts (counted 1 2 2 ∷ []) }

abbrev pub last_lists : Lists
last_lists = record { map = bytes_of rmaps (record_of 1 2 9 0 ∷ []); counts = [] }

-- what each change comes to, and what all of them leave
pub record Shares : Type 0 where
  pub taken : step none_held first ≡ done (record { lists = first_lists; free = [] })
  pub taken-held : step first_lists second ≡ done (record { lists = shared_lists; free = [] })
  pub not_taken : step shared_lists third ≡ refused 23 none
  -- `insert_shared` would take it: two records over block 3, and no shared count
  pub shared-takes : insert_shared_outcome shared_lists.map (record_of 3 2 5 0) 1000 ≡ done (record_of 0 4 7 0 ∷ record_of 1 2 9 0 ∷ record_of 3 2 5 0 ∷ [])
  pub let-go : step shared_lists fourth ≡ done (record { lists = last_lists; free = free_at 0 1 ∷ free_at 3 1 ∷ [] })
  pub not-let-go : step last_lists fourth ≡ refused 24 none
  pub left : run none_held sharing ≡ last_lists

pub shares : Shares
unfolding none_held run after step insert_outcome insert_shared_outcome take_held_outcome let_go_outcome bytes.be_of bytes.be_bytes records.fields_of records.field_bytes records.first_records records.records_of records.bytes_of accepted.whole accepted.in_order rmap.reserved rmap.mapping rmap.exempt rmap.good rmap.key_offset rmap.before rmap.follows refcount.staging refcount.good refcount.follows blocks.over blocks.within blocks.grow blocks.runs holding.holders held.each_block edits.first edits.is_some edits.replace edits.place edits.continues edits.overlaps edits.attach edits.insert_after edits.insert edits.clash edits.behind edits.ahead edits.contains edits.lines_up edits.chosen edits.front edits.later edits.place_later edits.cut_out release.owners release.clear release.piece release.share release.fewer release.clamp release.lowered release.lower_all release.same_kind release.continues release.join_from release.join_all raise.raised raise.raise_all raise.full raise.owners_fit
shares = record { taken = refl; taken-held = refl; not_taken = refl; shared-takes = refl; let-go = refl; not-let-go = refl; left = refl }

-- ---- the premises are met

none-accepted : Accepted none_held
unfolding none_held records.records_of records.first_records accepted.whole accepted.in_order
none-accepted =
    record {
      map_bytes = λ i. omega arith;
      counts_bytes = λ i. omega arith;
      map_whole = refl;
      map_order = refl;
      counts_whole = refl;
      counts_order = refl;
    }

none-agree : Agreeing none_held
unfolding none_held records.records_of records.first_records shared holding.holders
none-agree b n = (λ e. let z : ◌≡◌ {A = ℕ} 0 1 = cc in (omega arith, omega arith), λ k. absurd (omega arith))

pub none-start : Start none_held
none-start = record { accepted = none-accepted; agree = none-agree }
