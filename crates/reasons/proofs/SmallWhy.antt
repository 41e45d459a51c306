-- Blocks of small lists explained: free, held, staging and refused; and what `EveryWhy` and `EveryHolder` say of some of them.
-- Assumes nothing.
use Rattle.std.proofs.Common.{◌≡◌, ◌+◌, ◌^◌, ◌∷◌, ℕ, List, [], refl, subst}
use Rattle.codec.specs.Bytes as bytes
use Rattle.codec.specs.Question.{none, done, refused}
use Rattle.codec.specs.Records as records
use Rattle.codec.specs.Records.{records_of, bytes_of, rmaps, refcounts}
use Rattle.codec.specs.Accepted as accepted
use Rattle.codec.specs.Rmaps as rmap
use Rattle.codec.specs.Refcounts as refcount
use Rattle.codec.specs.declared.rmap.Rmap.{Rmap}
use Rattle.codec.specs.declared.refcount.Refcount.{Refcount}
use Rattle.lists.specs.Extent as extent
use Rattle.lists.specs.RmapEdits as edits
use Rattle.lists.specs.Release as release
use Rattle.lists.specs.Holders.{holders}
use Rattle.lists.specs.RmapEdits.{index_where, remove}
use Rattle.groups.specs.History.{Accepted, Agreeing, after, run}
use Rattle.groups.proofs.Example.{record_of, counted, first, second, none_held, shared_lists, shares, none-start}
use Rattle.groups.proofs.History.{history}
use Rattle.reasons.specs.declared.explain.Why.TheVariants.{Free, HeldInMap, HeldInCounts, Staging}
use Rattle.reasons.specs.Why.{index_but, held_of, why_of, explain_outcome}
use Rattle.reasons.specs.Claims.{Shown, HeldAfter}
use Rattle.reasons.proofs.Explaining.{every-why}
use Rattle.reasons.proofs.StillHeld.{every-holder}

-- the bytes of a reverse map and of counts
abbrev map : List Rmap → List ℕ
map l = bytes_of rmaps l

abbrev counts : List Refcount → List ℕ
counts l = bytes_of refcounts l

-- a staging record over the blocks from s on
abbrev staged : ℕ → ℕ → Refcount
staged s c = counted (2 ^ 31 + s) c 1

-- 0/4 of owner 7, of which owner 9 holds 1/2 too; all of it is let go
abbrev pair : List ℕ
pair = map (record_of 0 4 7 0 ∷ record_of 1 2 9 0 ∷ [])

abbrev pair_counts : List ℕ
pair_counts = counts (counted 1 2 2 ∷ [])

abbrev gone : Rmap
gone = record_of 0 4 7 0

pub record SmallWhy : Type 0 where
  pub free : explain_outcome pair pair_counts gone 0 ≡ done Free
  pub held : explain_outcome pair pair_counts gone 1 ≡ done (HeldInMap 1)
  pub outside : explain_outcome pair pair_counts gone 4 ≡ refused 31 none
  -- a staging record over block 3: 25 for every other block of the extent
  pub staging : explain_outcome pair (counts (counted 1 2 2 ∷ staged 3 1 ∷ [])) gone 3 ≡ done (Staging 1)
  pub beside : explain_outcome pair (counts (counted 1 2 2 ∷ staged 3 1 ∷ [])) gone 1 ≡ refused 25 none
  -- and one over block 6, which lies outside
  pub apart : explain_outcome pair (counts (counted 1 2 2 ∷ staged 3 1 ∷ staged 6 1 ∷ [])) gone 6 ≡ refused 31 none
  pub clear : explain_outcome pair (counts (counted 1 2 2 ∷ staged 6 1 ∷ [])) gone 6 ≡ refused 31 none
  -- another record is another place in the list, also where it is equal
  pub equal : explain_outcome (map (gone ∷ gone ∷ [])) (counts (counted 0 4 2 ∷ [])) gone 0 ≡ done (HeldInMap 1)
  -- the one cut is the first that lines up, so the one before it is named
  pub aligned : explain_outcome (map (record_of 0 8 7 0 ∷ record_of 0 8 7 9 ∷ [])) (counts (counted 0 8 2 ∷ [])) (record_of 2 3 7 11) 3 ≡ done (HeldInMap 0)
  -- where nobody else holds it the count is named
  pub alone : explain_outcome (map (gone ∷ [])) (counts (counted 0 4 2 ∷ [])) gone 0 ≡ done (HeldInCounts 0)
  -- 24 comes before the counts are looked at
  pub missing : explain_outcome pair (0 ∷ []) (record_of 0 5 7 0) 0 ≡ refused 24 none
  pub broken : explain_outcome pair (0 ∷ []) gone 0 ≡ refused 19 none

pub explains : SmallWhy
unfolding explain_outcome why_of held_of index_where index_but bytes.be_of bytes.be_bytes records.fields_of records.field_bytes records.first_records records.records_of records.bytes_of accepted.whole accepted.in_order rmap.reserved rmap.mapping rmap.exempt rmap.good rmap.key_offset rmap.before rmap.follows refcount.staging refcount.good refcount.follows extent.over edits.first edits.is_some edits.contains edits.lines_up edits.chosen release.clear
explains =
    record {
      free = refl;
      held = refl;
      outside = refl;
      staging = refl;
      beside = refl;
      apart = refl;
      clear = refl;
      equal = refl;
      aligned = refl;
      alone = refl;
      missing = refl;
      broken = refl;
    }

-- so the second record covers block 1, its bytes are handed back, and the letting go does not offer the block
pub shown : Shown pair pair_counts gone 1 (HeldInMap 1)
shown = every-why pair pair_counts gone 1 (HeldInMap 1) explains.held

-- block 0 it offers, and where block 3 is staging it is refused by 25
pub shown-free : Shown pair pair_counts gone 0 Free
shown-free = every-why pair pair_counts gone 0 Free explains.free

pub shown-staging : Shown pair (counts (counted 1 2 2 ∷ staged 3 1 ∷ [])) gone 3 (Staging 1)
shown-staging = every-why pair (counts (counted 1 2 2 ∷ staged 3 1 ∷ [])) gone 3 (Staging 1) explains.staging

-- these are the lists after a first take and a take of two of its blocks, from none: they are accepted and agree, so somebody holds the block afterwards
shared-run : run none_held (first ∷ second ∷ []) ≡ shared_lists
unfolding run after
shared-run = rw shares.taken (rw shares.taken-held refl)

shared-accepted : Accepted shared_lists
shared-accepted = subst Accepted shared-run (history none_held (first ∷ second ∷ []) none-start).accepted

shared-agree : Agreeing shared_lists
shared-agree = subst Agreeing shared-run (history none_held (first ∷ second ∷ []) none-start).agree

pub still_held : HeldAfter (HeldInMap 1) (holders (remove gone (records_of rmaps pair)) 1)
still_held = every-holder shared_lists gone 1 (HeldInMap 1) shared-accepted shared-agree explains.held

-- and nobody holds block 0
pub none_left : HeldAfter Free (holders (remove gone (records_of rmaps pair)) 0)
none_left = every-holder shared_lists gone 0 Free shared-accepted shared-agree explains.free
