-- An extent taken or given up: the edits of the reverse map, as a list of records.
-- Assumes nothing.
use Rattle.std.specs.Prelude.{ℕ, suc, ◌+◌, ◌-◌, Bool, true, false, not, cond, ◌&&◌, ◌||◌, List, [], ◌∷◌, ◌++◌, ltb, leb, eqb}
use Rattle.std.proofs.Math.Option.{Option, none, some}
use Rattle.codec.specs.Rmaps.{end, file_offset, flags, reserved, exempt, before}
use Rattle.codec.specs.declared.rmap.Rmap.{Rmap}

-- ---- parts of a list

-- the first record that passes the test
unfoldable pub first : (Rmap → Bool) → List Rmap → Option Rmap
first p [] = none
first p (r ∷ l) = cond (p r) (some r) (first p l)

unfoldable pub is_some : Option Rmap → Bool
is_some none = false
is_some (some r) = true

-- does a record pass the test?
abbrev pub any : (Rmap → Bool) → List Rmap → Bool
any p l = is_some (first p l)

-- the index of the first record that passes the test, or the length
unfoldable pub index_where : {R : Type 0} → (R → Bool) → List R → ℕ
index_where p [] = 0
index_where p (r ∷ l) = cond (p r) 0 (suc (index_where p l))

-- the same, record by record: what was found already, or the record i where it passes; n where nothing was found
unfoldable pub note_of : ℕ → ℕ → ℕ → Bool → ℕ
note_of found n i hit = cond (ltb found n) found (cond hit i n)

-- the list with others in the place of the first record that passes the test
unfoldable pub replace : (Rmap → Bool) → (Rmap → List Rmap) → List Rmap → List Rmap
replace p f [] = []
replace p f (r ∷ l) = cond (p r) (f r ++ l) (r ∷ replace p f l)

abbrev pub nothing : Rmap → List Rmap
nothing r = []

-- the list with x at its place in the order, before its equals
unfoldable pub place : Rmap → List Rmap → List Rmap
place x [] = x ∷ []
place x (r ∷ l) = cond (before r x) (r ∷ place x l) (x ∷ r ∷ l)

-- ---- joining

-- the same owner and flags
abbrev pub alike : Rmap → Rmap → Bool
alike r s = eqb r.owner s.owner && eqb (flags r) (flags s)

-- does s continue r: adjacency, same owner and flags, and continuing file offsets unless reserved?
unfoldable pub continues : Rmap → Rmap → Bool
continues r s =
    alike r s && (eqb (end r) s.startblock && (reserved r.owner || eqb (file_offset r + r.blockcount) (file_offset s)))

-- the start and the whole offset of the lowest part
abbrev pub joined : Rmap → Rmap → Rmap
joined r s = record { startblock = r.startblock; blockcount = r.blockcount + s.blockcount; owner = r.owner; offset = r.offset }

-- ---- insert; its 23 is `held_none` of specs/Held.antt

-- r before the list l, joined to its first record where that continues r
unfoldable pub attach : Rmap → List Rmap → List Rmap
attach r [] = r ∷ []
attach r (s ∷ l) = cond (continues r s) (joined r s ∷ l) (r ∷ s ∷ l)

-- x behind the last record that starts at or before it, r being the last such so far; both joins tried
unfoldable pub insert_after : Rmap → Rmap → List Rmap → List Rmap
insert_after x r [] = attach r (attach x [])
insert_after x r (s ∷ l) = cond (leb s.startblock x.startblock) (r ∷ insert_after x s l) (attach r (attach x (s ∷ l)))

unfoldable pub insert : Rmap → List Rmap → List Rmap
insert x [] = attach x []
insert x (r ∷ l) = cond (leb r.startblock x.startblock) (insert_after x r l) (attach x (r ∷ l))

-- ---- insert_shared

-- does each of x and r start before the other ends? Then, their counts being above 0, they have a block in common.
unfoldable pub overlaps : Rmap → Rmap → Bool
overlaps x r = ltb r.startblock (end x) && ltb x.startblock (end r)

-- do x and r overlap, and is either reserved or bit 62, or are owner, flags and file offset - start the same?
unfoldable pub clash : Rmap → Rmap → Bool
clash x r =
    overlaps x r
    && (exempt r || (exempt x || (alike r x && eqb (file_offset r + x.startblock) (file_offset x + r.startblock))))

-- 23: does no overlapping record clash?
abbrev pub unclashed : Rmap → List Rmap → Bool
unclashed x l = not (any (clash x) l)

-- x joined behind the record found, and before it
unfoldable pub behind : Option Rmap → Rmap → Rmap
behind none x = x
behind (some r) x = joined r x

unfoldable pub ahead : Option Rmap → Rmap → Rmap
ahead none x = x
ahead (some s) x = joined x s

-- the first record in the list that x continues
abbrev pub share_before : Rmap → List Rmap → Rmap
share_before x l = behind (first (λ r. continues r x) l) x

-- then the first that continues the result
abbrev pub share_after : Rmap → List Rmap → List Rmap
share_after y l = place (ahead (first (continues y) l) y) (replace (continues y) nothing l)

abbrev pub insert_shared : Rmap → List Rmap → List Rmap
insert_shared x l = share_after (share_before x l) (replace (λ r. continues r x) nothing l)

-- ---- remove

-- is r of the owner and flags of x, and does it contain x?
unfoldable pub contains : Rmap → Rmap → Bool
contains x r = alike r x && (leb r.startblock x.startblock && leb (end x) (end r))

-- 24: does a record of that owner and flags contain it?
abbrev pub contained : Rmap → List Rmap → Bool
contained x l = any (contains x) l

-- does the file offset of r line up with that of x? Reserved and bit 62 always do.
unfoldable pub lines_up : Rmap → Rmap → Bool
lines_up x r = exempt r || eqb (file_offset r + x.startblock) (file_offset x + r.startblock)

-- the test whose first record is cut: one that lines up, else any
unfoldable pub chosen : Rmap → List Rmap → Rmap → Bool
chosen x l r = cond (any (λ s. contains x s && lines_up x s) l) (contains x r && lines_up x r) (contains x r)

-- the index of that record
abbrev pub cut_at : Rmap → List Rmap → ℕ
cut_at x l = index_where (chosen x l) l

-- what is left of w before x
unfoldable pub front : Rmap → Rmap → List Rmap
front x w =
    cond (ltb w.startblock x.startblock)
    (record { startblock = w.startblock; blockcount = x.startblock - w.startblock; owner = w.owner; offset = w.offset } ∷ [])
    []

-- what is left of w after x: its file offset moves on by the blocks skipped, unless reserved or bit 62
unfoldable pub later : Rmap → Rmap → Rmap
later x w =
    record {
      startblock = end x;
      blockcount = end w - end x;
      owner = w.owner;
      offset = cond (exempt w) w.offset (w.offset + (end x - w.startblock));
    }

unfoldable pub place_later : Rmap → Rmap → List Rmap → List Rmap
place_later x w l = cond (ltb (end x) (end w)) (place (later x w) l) l

-- x taken out of the record w that is chosen
unfoldable pub cut_out : Rmap → List Rmap → Option Rmap → List Rmap
cut_out x l none = l
cut_out x l (some w) = place_later x w (replace (chosen x l) (front x) l)

abbrev pub remove : Rmap → List Rmap → List Rmap
remove x l = cut_out x l (first (chosen x l) l)
