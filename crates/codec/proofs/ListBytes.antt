-- Bytes and lists of records, whole: what bytes hold can be stored, and the bytes of records are bytes and whole records.
-- Assumes nothing.
use mathlib.Core.Path.{◌≡◌, ap, ◌∙◌}
use mathlib.Core.Bool.{true}
use mathlib.Core.List.{List, [], ◌∷◌}
use Prim.Native.Nat.{ℕ, ◌/◌, ◌%◌}
use native.Mathlib.Nat.{div-mul-le_self, mul-mod_left}
use native.Mathlib.Omega.{arith}
use lib.ListN.{length}
use borrow.Author.Tests.{eq-eqb, eqb-true}
use Rattle.codec.specs.Bytes.{IsBytes}
use Rattle.codec.specs.Records.{Kind, records_of, bytes_of, AllStorable}
use Rattle.codec.specs.Accepted.{whole}
use Rattle.codec.proofs.FieldLists.{IsBytes-append}
use Rattle.codec.proofs.RecordLists.{Lawful, length-bytes_of, storable-first_records}

-- 19 as a fact
pub whole-facts : (size : ℕ) (l : List ℕ) → whole size l ≡ true → length l % size ≡ 0
unfolding whole
whole-facts size l e = eqb-true (length l % size) 0 e

pub facts-whole : (size : ℕ) (l : List ℕ) → length l % size ≡ 0 → whole size l ≡ true
unfolding whole
facts-whole size l e = eq-eqb (length l % size) 0 e

module _ {R : Type 0} (k : Kind R) (law : Lawful k) where
  pub storable-records_of : (l : List ℕ) → IsBytes l → AllStorable k (records_of k l)
  unfolding records_of
  storable-records_of l b = storable-first_records k law (length l / k.size) l (div-mul-le_self (length l) k.size) b

  pub IsBytes-bytes_of : (rs : List R) → IsBytes (bytes_of k rs)
  unfolding bytes_of
  IsBytes-bytes_of [] i = omega arith
  IsBytes-bytes_of (r ∷ rs) i = IsBytes-append (k.encode r) (bytes_of k rs) (law.bytes-encode r) (IsBytes-bytes_of rs) i

  pub whole-bytes_of : (rs : List R) → whole k.size (bytes_of k rs) ≡ true
  whole-bytes_of rs =
      facts-whole k.size (bytes_of k rs) (ap (λ (n : ℕ). n % k.size) (length-bytes_of k law rs) ∙ mul-mod_left (length rs) k.size)
