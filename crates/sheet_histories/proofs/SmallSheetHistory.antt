-- The history of a sheet of two blocks, from lists with shared records: 7 holds 0/4, 9 holds 1/2 of it as well. Of the sheet's sixteen changes, in order:
-- 5 may not take 3/2, since 7 holds block 3; 5 takes 2/2, which others hold; 7 lets 0/4 go, and block 0 is free; 6 takes 8/1; 7 has nothing more to let go,
-- eleven times; 9 lets 1/2 go, and block 1 is free. 5 and 6 hold what is left.
-- Assumes nothing.
use Prim.Native.Nat.{ℕ}
use mathlib.Core.Path.{◌≡◌, refl, subst}
use mathlib.Core.List.{List, [], ◌∷◌}
use Rattle.codec.specs.Bytes as bytes
use Rattle.codec.specs.Records as records
use Rattle.codec.specs.Records.{bytes_of, rmaps}
use Rattle.codec.specs.Accepted as accepted
use Rattle.codec.specs.Rmaps as rmap
use Rattle.codec.specs.Refcounts as refcount
use Rattle.lists.specs.Extent as blocks
use Rattle.lists.specs.Holders as holding
use Rattle.lists.specs.Held as held
use Rattle.lists.specs.RmapEdits as edits
use Rattle.lists.specs.Release as release
use Rattle.lists.specs.Raise as raise
use Rattle.lists.specs.Edits.{insert_outcome}
use Rattle.groups.specs.LetGo.{let_go_outcome}
use Rattle.groups.specs.TakeHeld.{take_held_outcome}
use Rattle.groups.specs.History.{Lists, Change, step, after, run, Start, Claim}
use Rattle.groups.proofs.Example.{record_of, first, second, none_held, none-start, shared_lists}
use Rattle.groups.proofs.History as theorem
use Rattle.sheets.specs.Change as change
use Rattle.sheets.proofs.SmallSheet.{sixteen, small-sheet-bytes, read_back}
use Rattle.sheets.specs.Sheet.{sheet_of}
use Rattle.sheet_histories.specs.SheetHistory.{Rooms, step_of, steps_of, history_of, HistoryHolds}
use Rattle.sheet_histories.proofs.Histories.{sheet-history}

-- the shared lists are what two changes leave of nothing, so the theorem itself says that they are accepted and agree
shared-left : run none_held (first ∷ second ∷ []) ≡ shared_lists
unfolding none_held run after step insert_outcome take_held_outcome bytes.be_of bytes.be_bytes records.fields_of records.field_bytes records.first_records records.records_of records.bytes_of accepted.whole accepted.in_order rmap.reserved rmap.mapping rmap.exempt rmap.good rmap.key_offset rmap.before rmap.follows refcount.staging refcount.good refcount.follows blocks.over blocks.within holding.holders held.each_block edits.first edits.is_some edits.replace edits.place edits.continues edits.overlaps edits.attach edits.insert_after edits.insert edits.clash edits.behind edits.ahead release.owners release.clear release.piece release.clamp release.same_kind release.continues release.join_from release.join_all raise.raised raise.raise_all raise.full raise.owners_fit
shared-left = refl

shared_start : Start shared_lists
shared_start =
    let c = theorem.history none_held (first ∷ second ∷ []) none-start in
    subst Start shared-left (record { accepted = c.accepted; agree = c.agree })

-- the sheet's changes are a history
small-holds : HistoryHolds sixteen
small-holds = sheet-history (sheet_of sixteen) sixteen 512 small-sheet-bytes read_back

rooms : ℕ → Rooms
rooms i = record { map = 1000; counts = 1000; free = 1000 }

small : List Change
small = history_of rooms sixteen small-holds.asks

-- the claim holds for it
small-claim : Claim shared_lists small
unfolding small
small-claim = small-holds.claim rooms shared_lists shared_start

-- and this is what it leaves
last_lists : Lists
last_lists = record { map = bytes_of rmaps (record_of 2 2 5 0 ∷ record_of 8 1 6 0 ∷ []); counts = [] }

small-left : run shared_lists small ≡ last_lists
unfolding small rooms last_lists sixteen step_of steps_of change.change_at change.asked_by bytes.bytes_at run after step insert_outcome take_held_outcome let_go_outcome bytes.be_of bytes.be_bytes records.fields_of records.field_bytes records.first_records records.records_of records.bytes_of accepted.whole accepted.in_order rmap.reserved rmap.mapping rmap.exempt rmap.good rmap.key_offset rmap.before rmap.follows refcount.staging refcount.good refcount.follows blocks.over blocks.within blocks.grow blocks.runs holding.holders held.each_block edits.first edits.is_some edits.replace edits.place edits.continues edits.overlaps edits.attach edits.insert_after edits.insert edits.clash edits.behind edits.ahead edits.contains edits.lines_up edits.chosen edits.front edits.later edits.place_later edits.cut_out release.owners release.clear release.piece release.share release.fewer release.clamp release.lowered release.lower_all release.same_kind release.continues release.join_from release.join_all raise.raised raise.raise_all raise.full raise.owners_fit
small-left = refl
