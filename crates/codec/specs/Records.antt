-- Records: what the bytes of a record hold, the bytes of a record, and the same of a list of records that stand one after another.
-- Assumes nothing.
use Rattle.std.specs.Prelude.{ℕ, zero, suc, ◌/◌, ◌^◌, ◌<◌, List, [], ◌∷◌, ◌++◌, length, get_or, take, drop}
use Rattle.codec.specs.Bytes.{be_of, be_bytes}
use Rattle.codec.specs.declared.rmap.Rmap.{Rmap}
use Rattle.codec.specs.declared.refcount.Refcount.{Refcount}
use Rattle.codec.specs.declared.free_extent.FreeExtent.{FreeExtent}

-- ---- fields: big-endian numbers of the widths ws, one after another

unfoldable pub fields_of : List ℕ → List ℕ → List ℕ
fields_of [] bs = []
fields_of (w ∷ ws) bs = be_of (take w bs) ∷ fields_of ws (drop w bs)

unfoldable pub field_bytes : List ℕ → List ℕ → List ℕ
field_bytes [] vs = []
field_bytes (w ∷ ws) vs = be_bytes w (get_or vs 0 0) ++ field_bytes ws (drop 1 vs)

-- ---- a kind of record

pub record Kind (R : Type 0) : Type 1 where
  -- how many bytes a record has
  pub size : ℕ
  -- what its bytes hold
  pub decode : List ℕ → R
  -- the bytes of a record
  pub encode : R → List ℕ
  -- the records that bytes can hold
  pub Storable : R → Type 0

module _ {R : Type 0} (k : Kind R) where
  -- the first n records of a list of bytes
  unfoldable pub first_records : ℕ → List ℕ → List R
  first_records zero l = []
  first_records (suc n) l = k.decode (take k.size l) ∷ first_records n (drop k.size l)

  -- the records of a list of bytes
  unfoldable pub records_of : List ℕ → List R
  records_of l = first_records (length l / k.size) l

  -- the bytes of a list of records
  unfoldable pub bytes_of : List R → List ℕ
  bytes_of [] = []
  bytes_of (r ∷ rs) = k.encode r ++ bytes_of rs

  -- each record of a list can be stored
  abbrev pub AllStorable : List R → Type 0
  AllStorable [] = Unit {0}
  AllStorable (r ∷ rs) = k.Storable r × AllStorable rs

-- ---- the reverse map: start (4), count (4), owner (8), offset (8)

abbrev pub rmap_widths : List ℕ
rmap_widths = 4 ∷ 4 ∷ 8 ∷ 8 ∷ []

abbrev pub rmap_from : List ℕ → Rmap
rmap_from f = record { startblock = get_or f 0 0; blockcount = get_or f 1 0; owner = get_or f 2 0; offset = get_or f 3 0 }

abbrev pub rmap_fields : Rmap → List ℕ
rmap_fields r = r.startblock ∷ r.blockcount ∷ r.owner ∷ r.offset ∷ []

pub record RmapFits (r : Rmap) : Type 0 where
  pub startblock : r.startblock < 2 ^ 32
  pub blockcount : r.blockcount < 2 ^ 32
  pub owner : r.owner < 2 ^ 64
  pub offset : r.offset < 2 ^ 64

abbrev pub rmaps : Kind Rmap
rmaps =
    record {
      size = 24;
      decode = λ bs. rmap_from (fields_of rmap_widths bs);
      encode = λ r. field_bytes rmap_widths (rmap_fields r);
      Storable = RmapFits;
    }

-- ---- shared counts: start (4, bit 31 marks staging), count (4), owners (4)

abbrev pub refcount_widths : List ℕ
refcount_widths = 4 ∷ 4 ∷ 4 ∷ []

abbrev pub refcount_from : List ℕ → Refcount
refcount_from f = record { startblock = get_or f 0 0; blockcount = get_or f 1 0; refcount = get_or f 2 0 }

abbrev pub refcount_fields : Refcount → List ℕ
refcount_fields r = r.startblock ∷ r.blockcount ∷ r.refcount ∷ []

pub record RefcountFits (r : Refcount) : Type 0 where
  pub startblock : r.startblock < 2 ^ 32
  pub blockcount : r.blockcount < 2 ^ 32
  pub refcount : r.refcount < 2 ^ 32

abbrev pub refcounts : Kind Refcount
refcounts =
    record {
      size = 12;
      decode = λ bs. refcount_from (fields_of refcount_widths bs);
      encode = λ r. field_bytes refcount_widths (refcount_fields r);
      Storable = RefcountFits;
    }

-- ---- free extents: start (4), count (4)

abbrev pub extent_widths : List ℕ
extent_widths = 4 ∷ 4 ∷ []

abbrev pub extent_from : List ℕ → FreeExtent
extent_from f = record { startblock = get_or f 0 0; blockcount = get_or f 1 0 }

abbrev pub extent_fields : FreeExtent → List ℕ
extent_fields e = e.startblock ∷ e.blockcount ∷ []

pub record ExtentFits (e : FreeExtent) : Type 0 where
  pub startblock : e.startblock < 2 ^ 32
  pub blockcount : e.blockcount < 2 ^ 32

abbrev pub free_extents : Kind FreeExtent
free_extents =
    record {
      size = 8;
      decode = λ bs. extent_from (fields_of extent_widths bs);
      encode = λ e. field_bytes extent_widths (extent_fields e);
      Storable = ExtentFits;
    }
