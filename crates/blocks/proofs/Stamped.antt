-- A block that is stamped keeps its length and what stands after the header, is bytes, and passes the check.
-- Assumes nothing.
use Prim.Native.Nat.{ℕ, ◌+◌, ◌≤◌, ◌<◌, ◌^◌}
use mathlib.Core.Path.{◌≡◌, refl, ap, ap₂, sym, ◌∙◌}
use mathlib.Core.Bool.{Bool, true, false, cond}
use mathlib.Core.List.{List, [], ◌∷◌, ◌++◌, append_assoc}
use native.Mathlib.Omega.{arith}
use borrow.Author.Tests.{eq-eqb, le-leb, eqb-true}
use lib.Dec.{eqb}
use lib.ListN.{length, take, drop, length-append}
use lib.Seq.{take_at}
use Rattle.codec.specs.Bytes.{IsBytes, bytes_at, with_bytes, be_of, be_bytes, le_of, le_bytes}
use Rattle.codec.specs.Crc.{crc32c_of}
use Rattle.codec.specs.Question.{done}
use Rattle.codec.proofs.Parts.{length-with_bytes, drop-after}
use Rattle.codec.proofs.Numbers.{be_of-be_bytes-lt, length-le_bytes}
use Rattle.codec.proofs.Fields.{le-read-back}
use Rattle.codec.proofs.FieldLists.{IsBytes-append, IsBytes-be_bytes}
use Rattle.codec.proofs.Overwrites.{IsBytes-le_bytes, IsBytes-with_bytes, bytes_at-past, with_bytes-again}
use Rattle.codec.proofs.CrcRange.{crc32c_of-lt}
use Rattle.blocks.specs.declared.geometry.Geometry.{Geometry}
use Rattle.blocks.specs.declared.kind.TreeKind.{TreeKind}
use Rattle.blocks.specs.Offsets.{magic_at, level_at, numrecs_at, blkno_at, lsn_at, uuid_at, owner_at, crc_at, v5_header_len}
use Rattle.blocks.specs.Geometry.{geometry_ok, linear_of, address_of, Fits}
use Rattle.blocks.specs.Tree.{header_len, has_tree, magic_of, capacity}
use Rattle.blocks.specs.Check.{block_crc, leftsib_in, rightsib_in, header_says, check_block}
use Rattle.blocks.specs.Stamp.{siblings, plain_head, identity_head, with_crc, stamped}
use Rattle.blocks.proofs.Laws.{bounded, header-least, header-five, address-small, same-all}
use Rattle.blocks.proofs.Heads.{plain-length, identity-length}

-- ---- the fields of a header, whatever follows

module _ (kind : TreeKind) (version level numrecs left right : ℕ) (t : List ℕ) where
  abbrev plain : List ℕ
  plain = plain_head kind version level numrecs left right

  magic-read : be_of (bytes_at (plain ++ t) magic_at 4) ≡ magic_of kind version
  unfolding bytes_at be_bytes
  magic-read = be_of-be_bytes-lt 4 (magic_of kind version) ((bounded kind).magic-small version)

  level-read : level < 2 ^ 16 → be_of (bytes_at (plain ++ t) level_at 2) ≡ level
  unfolding bytes_at be_bytes
  level-read h = be_of-be_bytes-lt 2 level h

  records-read : numrecs < 2 ^ 16 → be_of (bytes_at (plain ++ t) numrecs_at 2) ≡ numrecs
  unfolding bytes_at be_bytes
  records-read h = be_of-be_bytes-lt 2 numrecs h

  left-read : left < 2 ^ 32 → leftsib_in (plain ++ t) ≡ left
  unfolding bytes_at be_bytes
  left-read h = be_of-be_bytes-lt 4 left h

  right-read : right < 2 ^ 32 → rightsib_in (plain ++ t) ≡ right
  unfolding bytes_at be_bytes
  right-read h = be_of-be_bytes-lt 4 right h

module _ (g : Geometry) (kind : TreeKind) (block level numrecs left right : ℕ) (t : List ℕ) (fits : Fits g) where
  abbrev p : List ℕ
  p = plain_head kind g.version level numrecs left right

  address_read : address_of g (linear_of g block) < 2 ^ 64 → be_of (bytes_at (p ++ identity_head g block ++ t) blkno_at 8) ≡ address_of g (linear_of g block)
  unfolding bytes_at be_bytes
  address_read h = be_of-be_bytes-lt 8 (address_of g (linear_of g block)) h

  lsn-read : be_of (bytes_at (p ++ identity_head g block ++ t) lsn_at 8) ≡ g.last_lsn
  unfolding bytes_at be_bytes
  lsn-read = be_of-be_bytes-lt 8 g.last_lsn fits.lsn_fits

  uuid-read : bytes_at (p ++ identity_head g block ++ t) uuid_at 16 ≡ g.meta_uuid
  unfolding bytes_at be_bytes
  uuid-read =
      ap (take 16) (append_assoc g.meta_uuid (be_bytes 4 g.agno) t) ∙ take_at g.meta_uuid (be_bytes 4 g.agno ++ t) 16 fits.uuid_long

  owner-read : be_of (bytes_at (p ++ identity_head g block ++ t) owner_at 4) ≡ g.agno
  unfolding be_bytes
  owner-read =
      let x : List ℕ = be_bytes 8 (address_of g (linear_of g block)) ++ be_bytes 8 g.last_lsn ++ g.meta_uuid in
      let q : List ℕ = p ++ x in
      let e : length q ≡ owner_at = simp length-append (omega (arith, fits.uuid_long)) in
      ap (λ (l : List ℕ). be_of (bytes_at l owner_at 4)) (ap (λ (l : List ℕ). l ++ t) (sym (append_assoc p x (be_bytes 4 g.agno))) ∙ append_assoc q (be_bytes 4 g.agno) t)
      ∙ ap be_of (bytes_at-past q (be_bytes 4 g.agno ++ t) owner_at 4 e)
      ∙ be_of-be_bytes-lt 4 g.agno fits.agno_fits

-- ---- a block with its check

module _ (h : List ℕ) (long : v5_header_len ≤ length h) where
  pub check-fits : crc_at + length (le_bytes 4 (block_crc h)) ≤ length h
  check-fits = omega (arith, length-le_bytes 4 (block_crc h))

  pub with_crc-length : length (with_crc h) ≡ length h
  with_crc-length = length-with_bytes h crc_at (le_bytes 4 (block_crc h)) check-fits

  -- the check's own field is no part of the check
  with_crc-same : block_crc (with_crc h) ≡ block_crc h
  with_crc-same = ap crc32c_of (with_bytes-again h crc_at (le_bytes 4 (block_crc h)) (0 ∷ 0 ∷ 0 ∷ 0 ∷ []) check-fits (length-le_bytes 4 (block_crc h)))

  pub crc-read : IsBytes h → le_of (bytes_at (with_crc h) crc_at 4) ≡ block_crc (with_crc h)
  unfolding be_bytes
  crc-read bytes =
      le-read-back h crc_at 4 (block_crc h) long (crc32c_of-lt (with_bytes h crc_at (0 ∷ 0 ∷ 0 ∷ 0 ∷ [])) (IsBytes-with_bytes h crc_at (0 ∷ 0 ∷ 0 ∷ 0 ∷ []) bytes (IsBytes-be_bytes 4 0)))
      ∙ sym with_crc-same

-- ---- a block passes where each of its fields is as expected

module _
    (g : Geometry) (kind : TreeKind) (block level numrecs left right len : ℕ) (s : List ℕ)
    (ok : geometry_ok g ≡ true) (tree : has_tree kind g.version ≡ true)
    (size : length s ≡ len) (long : header_len g.version ≤ len) (room : numrecs ≤ capacity kind g.version level len)
    (magic : be_of (bytes_at s magic_at 4) ≡ magic_of kind g.version) (at : be_of (bytes_at s level_at 2) ≡ level) (records : be_of (bytes_at s numrecs_at 2) ≡ numrecs)
    (before : leftsib_in s ≡ left) (next : rightsib_in s ≡ right)
  where
    passes-4 : eqb g.version 5 ≡ false → check_block g kind block level s ≡ done (header_says g kind level numrecs left right len)
    unfolding check_block
    passes-4 v = rw (size, v, ok, le-leb _ _ long, tree, eq-eqb _ _ magic, eq-eqb _ _ at, records, before, next, le-leb _ _ room)

    passes-5 : eqb g.version 5 ≡ true
        → le_of (bytes_at s crc_at 4) ≡ block_crc s
        → bytes_at s uuid_at 16 ≡ g.meta_uuid
        → be_of (bytes_at s owner_at 4) ≡ g.agno
        → be_of (bytes_at s blkno_at 8) ≡ address_of g (linear_of g block)
        → be_of (bytes_at s lsn_at 8) ≤ g.last_lsn
        → check_block g kind block level s ≡ done (header_says g kind level numrecs left right len)
    unfolding check_block
    passes-5 v crc uuid owner address known =
        rw (size, v, ok, le-leb _ _ long, tree, eq-eqb _ _ magic, eq-eqb _ _ crc, uuid, same-all g.meta_uuid, eq-eqb _ _ owner, eq-eqb _ _ address, le-leb _ _ known, eq-eqb _ _ at, records, before, next, le-leb _ _ room)

-- ---- the stamp

module _
    (g : Geometry) (kind : TreeKind) (block level numrecs left right : ℕ) (b : List ℕ)
    (uuid : length g.meta_uuid ≡ 16) (long : header_len g.version ≤ length b)
  where
    abbrev front : List ℕ
    front = plain_head kind g.version level numrecs left right

    abbrev whole : List ℕ
    whole = front ++ identity_head g block

    abbrev made : List ℕ
    made = stamped g kind block level numrecs left right b

    front_fits : 0 + length front ≤ length b
    front_fits = omega (arith, header-least g.version, plain-length kind g.version level numrecs left right)

    whole_length : length whole ≡ crc_at
    whole_length = length-append front (identity_head g block) ∙ ap₂ ◌+◌ (plain-length kind g.version level numrecs left right) (identity-length g block uuid)

    -- by the version: what holds of both forms holds of the stamped block
    by-version : (P : List ℕ → Type 0)
        → (eqb g.version 5 ≡ true → P (with_crc (with_bytes b 0 whole)))
        → (eqb g.version 5 ≡ false → P (with_bytes b 0 front))
        → P made
    unfolding stamped
    by-version P five four = go (eqb g.version 5) refl
      where
        go : (t : Bool) → eqb g.version 5 ≡ t → P (cond t (with_crc (with_bytes b 0 whole)) (with_bytes b 0 front))
        go true v = five v
        go false v = four v

    module _ (v : eqb g.version 5 ≡ true) where
      long-5 : v5_header_len ≤ length b
      long-5 = omega (arith, header-five g.version (eqb-true _ _ v))

      whole-fits : 0 + length whole ≤ length b
      whole-fits = omega (arith, whole_length, long-5)

      length-5 : length (with_bytes b 0 whole) ≡ length b
      length-5 = length-with_bytes b 0 whole whole-fits

      head-long : v5_header_len ≤ length (with_bytes b 0 whole)
      head-long = omega (arith, length-5, long-5)

    pub stamped-length : length made ≡ length b
    stamped-length =
        by-version (λ (l : List ℕ). length l ≡ length b)
        (λ v. with_crc-length (with_bytes b 0 whole) (head-long v) ∙ length-5 v)
        (λ v. length-with_bytes b 0 front front_fits)

    -- what stands after the header is as it was
    body_kept : (n : ℕ) → header_len g.version ≤ n → drop n made ≡ drop n b
    body_kept n h =
        by-version (λ (l : List ℕ). drop n l ≡ drop n b)
        (λ v.
        let far : v5_header_len ≤ n = omega (arith, header-five g.version (eqb-true _ _ v)) in
        let c : List ℕ = le_bytes 4 (block_crc (with_bytes b 0 whole)) in
        drop-after (with_bytes b 0 whole) crc_at c (check-fits (with_bytes b 0 whole) (head-long v)) n (omega (arith, length-le_bytes 4 (block_crc (with_bytes b 0 whole))))
        ∙ drop-after b 0 whole (whole-fits v) n (omega (arith, whole_length)))
        (λ v. drop-after b 0 front front_fits n (omega (arith, header-least g.version, plain-length kind g.version level numrecs left right)))

    front_bytes : IsBytes front
    front_bytes =
        IsBytes-append (be_bytes 4 (magic_of kind g.version) ++ be_bytes 2 level ++ be_bytes 2 numrecs) (siblings left right)
        (IsBytes-append (be_bytes 4 (magic_of kind g.version) ++ be_bytes 2 level) (be_bytes 2 numrecs)
        (IsBytes-append (be_bytes 4 (magic_of kind g.version)) (be_bytes 2 level) (IsBytes-be_bytes 4 (magic_of kind g.version)) (IsBytes-be_bytes 2 level))
        (IsBytes-be_bytes 2 numrecs))
        (IsBytes-append (be_bytes 4 left) (be_bytes 4 right) (IsBytes-be_bytes 4 left) (IsBytes-be_bytes 4 right))

    module _ (fits : Fits g) where
      identity-bytes : IsBytes (identity_head g block)
      identity-bytes =
          let address : ℕ = address_of g (linear_of g block) in
          IsBytes-append (be_bytes 8 address ++ be_bytes 8 g.last_lsn ++ g.meta_uuid) (be_bytes 4 g.agno)
          (IsBytes-append (be_bytes 8 address ++ be_bytes 8 g.last_lsn) g.meta_uuid
          (IsBytes-append (be_bytes 8 address) (be_bytes 8 g.last_lsn) (IsBytes-be_bytes 8 address) (IsBytes-be_bytes 8 g.last_lsn))
          fits.uuid_bytes)
          (IsBytes-be_bytes 4 g.agno)

      module _ (bytes : IsBytes b) where
        head_bytes : IsBytes (with_bytes b 0 whole)
        head_bytes = IsBytes-with_bytes b 0 whole bytes (IsBytes-append front (identity_head g block) front_bytes identity-bytes)

        bytes-kept : IsBytes made
        bytes-kept =
            by-version IsBytes
            (λ v. IsBytes-with_bytes (with_bytes b 0 whole) crc_at (le_bytes 4 (block_crc (with_bytes b 0 whole))) head_bytes (IsBytes-le_bytes 4 (block_crc (with_bytes b 0 whole))))
            (λ v. IsBytes-with_bytes b 0 front bytes front_bytes)

        -- a stamped block passes the check, with the records and siblings that it was stamped with
        module _
            (ok : geometry_ok g ≡ true) (tree : has_tree kind g.version ≡ true)
            (number : block < 2 ^ 32) (level_fits : level < 2 ^ 16) (records-fit : numrecs < 2 ^ 16)
            (left_fits : left < 2 ^ 32) (right_fits : right < 2 ^ 32)
            (room : numrecs ≤ capacity kind g.version level (length b))
          where
            on-4 : eqb g.version 5 ≡ false → check_block g kind block level (with_bytes b 0 front) ≡ done (header_says g kind level numrecs left right (length b))
            unfolding with_bytes
            on-4 v =
                let d : List ℕ = drop (0 + length front) b in
                passes-4 g kind block level numrecs left right (length b) (front ++ d) ok tree (length-with_bytes b 0 front front_fits) long room
                (magic-read kind g.version level numrecs left right d)
                (level-read kind g.version level numrecs left right d level_fits)
                (records-read kind g.version level numrecs left right d records-fit)
                (left-read kind g.version level numrecs left right d left_fits)
                (right-read kind g.version level numrecs left right d right_fits)
                v

            on-5 : eqb g.version 5 ≡ true → check_block g kind block level (with_crc (with_bytes b 0 whole)) ≡ done (header_says g kind level numrecs left right (length b))
            unfolding with_bytes
            on-5 v =
                let h : List ℕ = with_bytes b 0 whole in
                let i : List ℕ = identity_head g block in
                let c : List ℕ = le_bytes 4 (block_crc h) in
                let t : List ℕ = c ++ drop (crc_at + length c) h in
                let is : with_crc h ≡ whole ++ t =
                append_assoc (take crc_at h) c (drop (crc_at + length c) h)
                ∙ ap (λ (l : List ℕ). l ++ t) (take_at whole (drop (0 + length whole) b) crc_at whole_length) in
                let is_plain : with_crc h ≡ front ++ (i ++ t) = is ∙ append_assoc front i t in
                passes-5 g kind block level numrecs left right (length b) (with_crc h) ok tree (with_crc-length h (head-long v) ∙ length-5 v) long room
                (ap (λ (l : List ℕ). be_of (bytes_at l magic_at 4)) is_plain ∙ magic-read kind g.version level numrecs left right (i ++ t))
                (ap (λ (l : List ℕ). be_of (bytes_at l level_at 2)) is_plain ∙ level-read kind g.version level numrecs left right (i ++ t) level_fits)
                (ap (λ (l : List ℕ). be_of (bytes_at l numrecs_at 2)) is_plain ∙ records-read kind g.version level numrecs left right (i ++ t) records-fit)
                (ap leftsib_in is_plain ∙ left-read kind g.version level numrecs left right (i ++ t) left_fits)
                (ap rightsib_in is_plain ∙ right-read kind g.version level numrecs left right (i ++ t) right_fits)
                v
                (crc-read h (head-long v) head_bytes)
                (ap (λ (l : List ℕ). bytes_at l uuid_at 16) is ∙ uuid-read g kind block level numrecs left right t fits)
                (ap (λ (l : List ℕ). be_of (bytes_at l owner_at 4)) is ∙ owner-read g kind block level numrecs left right t fits)
                (ap (λ (l : List ℕ). be_of (bytes_at l blkno_at 8)) is ∙ address_read g kind block level numrecs left right t fits (address-small g ok block number))
                (omega (arith, ap (λ (l : List ℕ). be_of (bytes_at l lsn_at 8)) is ∙ lsn-read g kind block level numrecs left right t fits))

            passes : check_block g kind block level made ≡ done (header_says g kind level numrecs left right (length b))
            passes = by-version (λ (l : List ℕ). check_block g kind block level l ≡ done (header_says g kind level numrecs left right (length b))) on-5 on-4

-- ---- the same, of a geometry in memory

module _
    (g : Geometry) (kind : TreeKind) (block level numrecs left right : ℕ) (b : List ℕ)
    (fits : Fits g) (long : header_len g.version ≤ length b)
  where
    pub stamped-body : (n : ℕ) → header_len g.version ≤ n → drop n (stamped g kind block level numrecs left right b) ≡ drop n b
    stamped-body = body_kept g kind block level numrecs left right b fits.uuid_long long

    module _ (bytes : IsBytes b) where
      pub stamped-bytes : IsBytes (stamped g kind block level numrecs left right b)
      stamped-bytes = bytes-kept g kind block level numrecs left right b fits.uuid_long long fits bytes

      module _
          (ok : geometry_ok g ≡ true) (tree : has_tree kind g.version ≡ true)
          (number : block < 2 ^ 32) (level_fits : level < 2 ^ 16) (records-fit : numrecs < 2 ^ 16)
          (left_fits : left < 2 ^ 32) (right_fits : right < 2 ^ 32)
          (room : numrecs ≤ capacity kind g.version level (length b))
        where
          pub stamped-passes : check_block g kind block level (stamped g kind block level numrecs left right b) ≡ done (header_says g kind level numrecs left right (length b))
          stamped-passes =
              passes g kind block level numrecs left right b fits.uuid_long long fits bytes ok tree number level_fits records-fit left_fits right_fits room
