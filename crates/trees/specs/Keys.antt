-- The keys of a child: what a node says of the records under it.
-- Assumes nothing.
use Rattle.std.specs.Prelude.{ℕ, ◌+◌, ◌-◌, ◌*◌, ◌/◌, ◌%◌, ◌<◌, ◌≡◌, Bool, true, cond, List, [], ◌∷◌, ◌++◌, ltb, eqb, length, take, drop}
use Rattle.codec.specs.Bytes.{bytes_at}
use Rattle.codec.specs.Records.{Kind, field_bytes, records_of, rmaps}
use Rattle.codec.specs.Rmaps.{off_limit, exempt, good}
use Rattle.codec.specs.declared.rmap.Rmap.{Rmap}
use Rattle.trees.specs.declared.keys.RmapKey.{RmapKey}
use Rattle.trees.specs.Build.{padded}

-- the records from one to another of a list of bytes
abbrev pub records_between : {R : Type 0} → Kind R → List ℕ → ℕ → ℕ → List R
records_between k l from to = take (to - from) (drop from (records_of k l))

-- ---- the reverse map

-- start (4), owner (8) and the whole offset (8)
abbrev pub key_widths : List ℕ
key_widths = 4 ∷ 8 ∷ 8 ∷ []

abbrev pub key_bytes : RmapKey → List ℕ
key_bytes k = field_bytes key_widths (k.start ∷ k.owner ∷ k.offset ∷ [])

abbrev pub low_key : Rmap → RmapKey
low_key r = record { start = r.startblock; owner = r.owner; offset = r.offset }

-- count - 1 is added to the start, and to the file offset unless the owner is reserved or bit 62 is set (`EveryHighKey` of specs/HighKeys.antt)
unfoldable pub high_key : Rmap → RmapKey
high_key r =
    record {
      start = r.startblock + (r.blockcount - 1);
      owner = r.owner;
      offset = cond (exempt r) r.offset (r.offset + (r.blockcount - 1));
    }

-- by start, owner as unsigned, file offset: is j below k?
unfoldable pub key_below : RmapKey → RmapKey → Bool
key_below j k =
    cond (eqb j.start k.start)
    (cond (eqb j.owner k.owner) (ltb (j.offset % off_limit) (k.offset % off_limit)) (ltb j.owner k.owner))
    (ltb j.start k.start)

-- the greater of two keys, the later of equals
unfoldable pub greater : RmapKey → RmapKey → RmapKey
greater j k = cond (key_below k j) j k

-- the greatest of a key and the high keys of the records after it, the last of equals
unfoldable pub greatest : RmapKey → List Rmap → RmapKey
greatest k [] = k
greatest k (r ∷ rs) = greatest (greater k (high_key r)) rs

-- no child of a built tree is without records: this is the key of none
abbrev pub no_key : RmapKey
no_key = record { start = 0; owner = 0; offset = 0 }

-- the first record's key, and the greatest high key (`EveryHighest` of specs/HighKeys.antt)
abbrev pub lowest : List Rmap → RmapKey
lowest [] = no_key
lowest (r ∷ rs) = low_key r

abbrev pub highest : List Rmap → RmapKey
highest [] = no_key
highest (r ∷ rs) = greatest (high_key r) rs

unfoldable pub rmap_keys : List Rmap → List ℕ
rmap_keys rs = key_bytes (lowest rs) ++ key_bytes (highest rs)

-- each record of a list of bytes is good by 20
abbrev pub AllGood : List ℕ → Type 0
AllGood l = (i : ℕ) → i < length l / rmaps.size → good (rmaps.decode (bytes_at l (i * rmaps.size) rmaps.size)) ≡ true

-- ---- the other kinds: the first bytes of the first record, w of them (the counts' start, a whole free extent)

-- no child of a built tree is without records: zeros stand for what is not there
unfoldable pub first_key : ℕ → List ℕ → List ℕ
first_key w b = padded w (take w b)
