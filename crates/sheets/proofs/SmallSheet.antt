-- A sheet of sixteen changes, which are two blocks: of all three kinds, and one of them eleven times. The writer writes it, it reads back, and it is the only
-- one for its changes.
-- Assumes nothing.
use Prim.Native.Nat.{ℕ, zero, suc}
use native.Mathlib.Omega.{arith}
use mathlib.Core.Path.{◌≡◌, refl, ◌∙◌}
use mathlib.Core.List.{List, [], ◌∷◌, ◌++◌}
use lib.ListN.{length, replicate}
use Rattle.codec.specs.Bytes as bytes
use Rattle.codec.specs.Bytes.{IsBytes, be_bytes}
use Rattle.codec.specs.Question.{Values, none, done, refused}
use Rattle.codec.specs.Accepted as accepted
use Rattle.codec.specs.Records as records
use Rattle.codec.specs.Records.{bytes_of, rmaps}
use Rattle.codec.specs.declared.rmap.Rmap.{Rmap}
use Rattle.codec.proofs.FieldLists.{IsBytes-append, IsBytes-be_bytes}
use Rattle.codec.proofs.ListBytes.{IsBytes-bytes_of}
use Rattle.codec.proofs.Overwrites.{IsBytes-zeros}
use Rattle.codec.proofs.RecordKinds.{rmaps-lawful}
use Rattle.sheets.specs.Change as change
use Rattle.sheets.specs.Sheet.{sheet_of, read_outcome, write_outcome}
use Rattle.sheets.proofs.Sheets.{read-writes, only-sheet, enough-room}
use Rattle.sheets.proofs.Written.{sheet-bytes, written-reads}
use Rattle.sheets.proofs.Writing.{sheet-long}

-- start / count of an owner
abbrev pub extent : ℕ → ℕ → ℕ → Rmap
extent s c owner = record { startblock = s; blockcount = c; owner = owner; offset = 0 }

-- the 32 bytes of a change
abbrev pub change_bytes : ℕ → Rmap → List ℕ
change_bytes kind x = be_bytes 4 kind ++ (replicate 4 0 ++ bytes_of rmaps (x ∷ []))

-- the same change n times, before others
abbrev pub again : ℕ → List ℕ → List ℕ → List ℕ
again zero c l = l
again (suc n) c l = c ++ again n c l

-- 5 takes 3/2; 5 takes 2/2, which others hold; 7 lets 0/4 go; 6 takes 8/1; 7 lets 0/4 go eleven times more; 9 lets 1/2 go
unfoldable pub sixteen : List ℕ
sixteen =
    change_bytes 1 (extent 3 2 5)
    ++ (change_bytes 3 (extent 2 2 5)
    ++ (change_bytes 2 (extent 0 4 7)
    ++ (change_bytes 1 (extent 8 1 6) ++ again 11 (change_bytes 2 (extent 0 4 7)) (change_bytes 2 (extent 1 2 9)))))

-- the writer writes it, into 1,024 bytes
pub written : write_outcome sixteen 1024 ≡ done (sheet_of sixteen)
unfolding sixteen write_outcome change.good_changes change.good_change accepted.whole bytes.bytes_at bytes.be_of bytes.be_bytes records.bytes_of records.field_bytes
written = refl

-- and not into a byte fewer
short : write_outcome sixteen 1023 ≡ refused 26 none
unfolding sixteen write_outcome change.good_changes change.good_change accepted.whole bytes.bytes_at bytes.be_of bytes.be_bytes records.bytes_of records.field_bytes
short = refl

pub two_blocks : length (sheet_of sixteen) ≡ 1024
unfolding sixteen bytes.be_bytes records.bytes_of records.field_bytes
two_blocks = sheet-long sixteen ∙ refl

pub sixteen-long : length sixteen ≡ 512
unfolding sixteen bytes.be_bytes records.bytes_of records.field_bytes
sixteen-long = refl

change-bytes : (kind : ℕ) (x : Rmap) → IsBytes (change_bytes kind x)
change-bytes kind x =
    IsBytes-append (be_bytes 4 kind) (replicate 4 0 ++ bytes_of rmaps (x ∷ [])) (IsBytes-be_bytes 4 kind)
    (IsBytes-append (replicate 4 0) (bytes_of rmaps (x ∷ [])) (IsBytes-zeros 4) (IsBytes-bytes_of rmaps rmaps-lawful (x ∷ [])))

again-bytes : (n : ℕ) (c l : List ℕ) → IsBytes c → IsBytes l → IsBytes (again n c l)
again-bytes zero c l h k = k
again-bytes (suc n) c l h k = IsBytes-append c (again n c l) h (again-bytes n c l h k)

pub sixteen-bytes : IsBytes sixteen
unfolding sixteen
sixteen-bytes =
    IsBytes-append (change_bytes 1 (extent 3 2 5)) _ (change-bytes 1 (extent 3 2 5))
    (IsBytes-append (change_bytes 3 (extent 2 2 5)) _ (change-bytes 3 (extent 2 2 5))
    (IsBytes-append (change_bytes 2 (extent 0 4 7)) _ (change-bytes 2 (extent 0 4 7))
    (IsBytes-append (change_bytes 1 (extent 8 1 6)) _ (change-bytes 1 (extent 8 1 6))
    (again-bytes 11 (change_bytes 2 (extent 0 4 7)) (change_bytes 2 (extent 1 2 9)) (change-bytes 2 (extent 0 4 7)) (change-bytes 2 (extent 1 2 9))))))

pub small-sheet-bytes : IsBytes (sheet_of sixteen)
small-sheet-bytes = sheet-bytes sixteen sixteen-bytes

-- it reads back
pub read_back : read_outcome (sheet_of sixteen) 512 ≡ done sixteen
read_back = written-reads sixteen (sheet_of sixteen) 1024 512 sixteen-bytes written (omega (arith, sixteen-long))

-- written again it is the same, and a sheet that reads so is no other
written-again : write_outcome sixteen 1024 ≡ done (sheet_of sixteen)
written-again = read-writes (sheet_of sixteen) sixteen 512 1024 small-sheet-bytes read_back (omega (arith, two_blocks))

no_other : (t : List ℕ) → IsBytes t → read_outcome t 512 ≡ done sixteen → t ≡ sheet_of sixteen
no_other t h e = only-sheet t (sheet_of sixteen) sixteen 512 512 h small-sheet-bytes e read_back

-- with room for 30 changes reading it is not refused by 26
roomy : (v : Values) → read_outcome (sheet_of sixteen) 960 ≡ refused 26 v → ⊥
roomy v = enough-room.reads (sheet_of sixteen) 960 v (omega (arith, two_blocks))
