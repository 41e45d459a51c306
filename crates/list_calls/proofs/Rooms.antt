-- An answer of 26 is an outcome of 26, which the room rules out.
-- Assumes nothing.
use Prim.Native.Nat.{ℕ, ◌≤◌}
use mathlib.Core.Path.{◌≡◌, refl}
use mathlib.Core.List.{List, [], ◌∷◌, ◌++◌}
use native.Mathlib.Omega.{arith}
use lib.ListN.{length, replicate}
use Rattle.codec.specs.Bytes as bytes
use Rattle.codec.specs.Bytes.{with_bytes}
use Rattle.codec.specs.Question.{Outcome, done, refused, map_outcome}
use Rattle.codec.specs.Accepted as accepted
use Rattle.codec.specs.Records as records
use Rattle.codec.specs.Records.{bytes_of, rmaps, refcounts, free_extents}
use Rattle.codec.specs.Rmaps as rmap
use Rattle.codec.specs.Refcounts as refcount
use Rattle.codec.specs.declared.rmap.Rmap.{Rmap}
use Rattle.codec.proofs.RecordKinds.{refcounts-lawful}
use Rattle.codec.proofs.ListBytes.{IsBytes-bytes_of}
use Rattle.lists.specs.Extent as blocks
use Rattle.lists.specs.RmapEdits as edits
use Rattle.lists.specs.Release as lower
use Rattle.lists.specs.Edits.{written}
use Rattle.lists.specs.Growth.{met}
use Rattle.groups.specs.LetGo.{let_go_outcome}
use Rattle.groups.specs.Room.{free_room, Not26}
use Rattle.groups.proofs.Rooms.{edit-roomy, release-roomy, let-go-roomy, take-held-roomy}
use Rattle.interface.specs.Interface.{number_of}
use Rattle.list_calls.specs.ListCalls.{GroupEditSays}
use Rattle.list_calls.specs.Room.{Never26}

answer-not : {A B : Type 0} (f : A → B) (o : Outcome A) (r : ℕ) → r ≡ number_of (map_outcome f o) → Not26 o → r ≡ 26 → ⊥
answer-not f (done x) r e h n = omega arith
answer-not f (refused m v) r e h n = let z : m ≡ 26 = omega arith in h v (rw z refl)

pub never-26 : Never26
never-26 =
    record {
      edits = λ e old x r said new new' p m. answer-not _ _ r p.answer.number (edit-roomy e old x (length new) m);
      releases = λ c start count r said new new' free free' bytes p l f. answer-not _ _ r p.answer.number (release-roomy c start count (length new) (length free) bytes l f);
      lets_go =
          λ map counts x r said kept kept' lowered lowered' free free' bytes p m l f. answer-not _ _ r p.answer.number
          (let-go-roomy map counts x bytes (length kept) (length lowered) (length free) m l f);
      takes_held =
          λ map counts x r said taken taken' raised raised' bytes p m l. answer-not _ _ r p.answer.number
          (take-held-roomy map counts x bytes (length taken) (length raised) m l);
    }

-- ---- an instance: all room of the free extents is taken

abbrev pub mapping : ℕ → ℕ → ℕ → Rmap
mapping start count owner = record { startblock = start; blockcount = count; owner = owner; offset = 0 }

-- 0/6 held by 7, of which 8 holds 2/2
abbrev pub map : List ℕ
map = bytes_of rmaps (mapping 0 6 7 ∷ mapping 2 2 8 ∷ [])

abbrev pub counts : List ℕ
counts = bytes_of refcounts (record { startblock = 2; blockcount = 2; refcount = 2 } ∷ [])

abbrev pub kept : List ℕ
kept = bytes_of rmaps (mapping 2 2 8 ∷ [])

abbrev pub free : List ℕ
free = bytes_of free_extents (record { startblock = 0; blockcount = 2 } ∷ record { startblock = 4; blockcount = 2 } ∷ [])

-- 0/6 of owner 7 let go, with room for three records, three counts and two free extents
pub said-so : GroupEditSays (let_go_outcome map counts (mapping 0 6 7) 72 36 16) 0 (24 ∷ 0 ∷ 16 ∷ 0 ∷ []) (replicate 72 0) (kept ++ replicate 48 0) (replicate 36 0) (replicate 36 0) (replicate 16 0) free
unfolding let_go_outcome written with_bytes bytes.be_of bytes.be_bytes records.fields_of records.field_bytes records.first_records records.records_of records.bytes_of accepted.whole accepted.in_order rmap.reserved rmap.mapping rmap.exempt rmap.good rmap.key_offset rmap.before rmap.follows refcount.staging refcount.good refcount.follows blocks.over blocks.within blocks.grow blocks.runs edits.first edits.is_some edits.replace edits.place edits.contains edits.lines_up edits.chosen edits.front edits.later edits.place_later edits.cut_out lower.owners lower.clear lower.piece lower.share lower.fewer lower.clamp lower.lowered lower.lower_all lower.same_kind lower.continues lower.join_from lower.join_all
said-so = record { answer = record { number = refl; figures = refl }; map_is = refl; counts_are = refl; free_are = refl }

free-room : free_room counts 0 6 ≤ 16
unfolding bytes.be_of bytes.be_bytes records.fields_of records.field_bytes records.first_records records.records_of records.bytes_of refcount.staging met
free-room = omega arith

-- every premise of `lets_go` is met
premises-met : ◌≡◌ {A = ℕ} 0 26 → ⊥
unfolding records.fields_of records.field_bytes records.bytes_of bytes.be_bytes
premises-met =
    never-26.lets_go map counts (mapping 0 6 7) 0 (24 ∷ 0 ∷ 16 ∷ 0 ∷ []) (replicate 72 0) (kept ++ replicate 48 0) (replicate 36 0) (replicate 36 0) (replicate 16 0) free
    (IsBytes-bytes_of refcounts refcounts-lawful (record { startblock = 2; blockcount = 2; refcount = 2 } ∷ [])) said-so (omega arith) (omega arith) free-room
