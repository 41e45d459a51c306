-- The laws of splices over the bytes of the old list, as the code meets them.
-- Assumes nothing.
use Prim.Native.Nat.{ℕ, ◌+◌, ◌-◌, ◌*◌, ◌/◌, ◌%◌, ◌^◌, ◌≤◌, ◌<◌}
use native.Mathlib.Omega.{arith}
use mathlib.Core.Path.{◌≡◌, refl, sym, ap, ◌∙◌}
use mathlib.Core.Bool.{Bool, true, false, not, cond}
use mathlib.Core.List.{List, [], ◌∷◌}
use lib.Dec.{leb, eqb}
use lib.ListN.{length, get_or}
use borrow.Author.Tests.{lt-ltb, le-ltb, le-leb, lt-leb, eqb-false}
use Rattle.codec.specs.Bytes.{bytes_at, with_bytes}
use Rattle.codec.specs.Question.{none, done, refused}
use Rattle.codec.specs.Records.{records_of, bytes_of, rmaps}
use Rattle.codec.specs.Rmaps.{end, flags, reserved, mapping, exempt, least, accepted, good}
use Rattle.codec.specs.declared.rmap.Rmap.{Rmap}
use Rattle.codec.proofs.RecordLists.{length-records_of}
use Rattle.lists.specs.declared.EditRefusal.{EditRefusal}
use Rattle.lists.specs.declared.EditRefusal.TheVariants as why
use Rattle.std.specs.Prelude.{Some, None, Ok, Err}
use Rattle.lists.specs.declared.splice.Edit.{Edit}
use Rattle.lists.specs.declared.splice.Part.{Part}
use Rattle.lists.specs.declared.splice.Splice.{Splice}
use Rattle.lists.specs.Held.{held_none, no_overlap}
use Rattle.lists.specs.RmapEdits.{index_where, any, continues, joined, overlaps, later}
use Rattle.lists.specs.Edits.{written, allowed, edited}
use Rattle.lists.specs.Answer.{edit_number, length_of, EditIs}
use Rattle.lists.specs.Splice.{edit_before26, parts_of, part_count, list_of, PartsGood, PreparedIs, prepared_outcome}
use Rattle.lists.specs.Inner.Searches.{TakeGood, AskedIs}
use Rattle.lists.specs.Inner.Splicing.{edit_outcome, join_at, SpliceIs, roomed}
use Rattle.lists.proofs.Cases.{or_l}
use Rattle.lists.proofs.Index.{index-le, any-index}
use Rattle.lists.proofs.Holding.{overlaps-tell}
use Rattle.lists.proofs.RmapOrder.{file_end, each, accepted-facts, good-facts, facts-good}
use Rattle.lists.proofs.Joining.{join-out, join-miss, join-hit, join-fits}
use Rattle.lists.proofs.Scanning.{read_at}
use Rattle.lists.proofs.Writing.{size-good}
use Rattle.lists.proofs.Splicing.{prepare-done, prepare-refused, room-asked}

-- ---- records and indices

pub found-le : (p : Rmap → Bool) (b : List ℕ) (i : ℕ) → i ≡ index_where p (records_of rmaps b) → i ≤ length b / 24
found-le p b i e = omega (arith, index-le p (records_of rmaps b), length-records_of rmaps b)

pub good-end : (x : Rmap) → good x ≡ true → end x ≤ 2 ^ 31
good-end x e = (good-facts x e).1

pub good-at : (b : List ℕ) (i : ℕ) (w : Rmap) → accepted (records_of rmaps b) ≡ true → i < length b / 24 → w ≡ rmaps.decode (bytes_at b (i * 24) 24) → good w ≡ true
good-at b i w a h d =
    let l : List Rmap = records_of rmaps b in
    rw (read_at b i w h d) (facts-good (get_or l i least) (each least l i (accepted-facts l a) (rw (length-records_of rmaps b) h)).0)

-- the file offset moves on below bit 62
pub moved-fits : (w : Rmap) (n : ℕ) → good w ≡ true → exempt w ≡ false → n ≤ w.blockcount → w.offset < 2 ^ 64 → w.offset + n < 2 ^ 64
unfolding exempt mapping file_end
moved-fits w n g e h k =
    let f : file_end w ≤ 2 ^ 54 = (good-facts w g).2 in
    let o : w.offset % 2 ^ 54 + w.blockcount ≤ 2 ^ 54 = rw e at f in
    let r : reserved w.owner ≡ false = or_l (reserved w.owner) (mapping (flags w)) e in
    let m : eqb (w.offset / 2 ^ 54 / 2 ^ 8 % 2) 1 ≡ false = rw r at e in
    let q : w.offset / 2 ^ 54 / 2 ^ 8 % 2 ≡ 1 → ⊥ = eqb-false (w.offset / 2 ^ 54 / 2 ^ 8 % 2) 1 m in
    omega arith

pub later-is : (x w : Rmap) (m n o : ℕ) → m ≡ end x → n ≡ end w → o ≡ cond (exempt w) w.offset (w.offset + (m - w.startblock))
    → record { startblock = m; blockcount = n - m; owner = w.owner; offset = o } ≡ later x w
unfolding later
later-is x w m n o p q e = rw (e, p, q) refl

-- ---- a join

module _ (b : List ℕ) (behind : Bool) (i : ℕ) (x : Rmap) where
  pub joined-out : length b / 24 ≤ i → None ≡ join_at behind (records_of rmaps b) i x
  joined-out h = join-out behind (records_of rmaps b) i x (rw (length-records_of rmaps b) h)

  module _ (r low high : Rmap) (k : i < length b / 24) (d : r ≡ rmaps.decode (bytes_at b (i * 24) 24)) (el : low ≡ cond behind r x) (eh : high ≡ cond behind x r) where
    within : i < length (records_of rmaps b)
    within = rw (length-records_of rmaps b) k

    pub joined-miss : continues low high ≡ false → None ≡ join_at behind (records_of rmaps b) i x
    joined-miss h = join-miss behind (records_of rmaps b) i x r within (read_at b i r k d) (rw (el, eh) at h)

    pub joined-hit : (j : Rmap) → j ≡ joined low high → continues low high ≡ true → Some j ≡ join_at behind (records_of rmaps b) i x
    joined-hit j e h = rw (e, el, eh) (join-hit behind (records_of rmaps b) i x r within (read_at b i r k d) (rw (el, eh) at h))

    pub joined-fits : accepted (records_of rmaps b) ≡ true → end x ≤ 2 ^ 31 → continues low high ≡ true → low.blockcount + high.blockcount < 2 ^ 32
    joined-fits a g h = rw (el, eh) (join-fits behind (records_of rmaps b) i x r a g within (read_at b i r k d) (rw (el, eh) at h))

-- ---- splices

pub ready-is : (b : List ℕ) (front : ℕ) (first second : Part) (rest m n : ℕ) → PartsGood (length b / 24) front first second rest → m ≡ part_count first → n ≡ part_count second
    → SpliceIs (records_of rmaps b) front first second rest (record { front = front; first = first; second = second; rest = rest; size = (front + m + n + (length b / 24 - rest)) * 24 })
ready-is b front first second rest m n g e f =
    let s = length-records_of rmaps b in
    record { list = refl; good = size-good (records_of rmaps b) front first second rest ((front + m + n + (length b / 24 - rest)) * 24) (rw s g) (rw (s, e, f) refl) }

module _ (e : Edit) (b : List ℕ) (x : Rmap) where
  pub prepared-is : TakeGood b x → (a : ℕ) (p q : Part) (z : ℕ) (s : Splice) → (allowed e x (records_of rmaps b)).holds ≡ true → edited e x (records_of rmaps b) ≡ parts_of (records_of rmaps b) a p q z
      → SpliceIs (records_of rmaps b) a p q z s → PreparedIs e b x (Ok s)
  unfolding prepared_outcome
  prepared-is g a p q z s h f r = (ap (λ (l : List Rmap). done l) r.list ∙ prepare-done e b x g (parts_of (records_of rmaps b) a p q z) h f, r.good)

  pub refused-is : TakeGood b x → (q : EditRefusal) → (allowed e x (records_of rmaps b)).holds ≡ false → (allowed e x (records_of rmaps b)).number ≡ edit_number q → (allowed e x (records_of rmaps b)).values ≡ none
      → PreparedIs e b x (Err q)
  unfolding prepared_outcome
  refused-is g q h n v = (prepare-refused e b x g (edit_number q) h n v, tt)

  pub asked_is : (q : EditRefusal) → AskedIs e b x (Err q) → PreparedIs e b x (Err q)
  unfolding prepared_outcome edit_before26
  asked_is q h = (sym (h (allowed e x (records_of rmaps b) ∷ []) (done (edited e x (records_of rmaps b)))), tt)

  -- ---- 26, and the write

  module _ (o : List ℕ) where
    pub edit-refused : (q : EditRefusal) → PreparedIs e b x (Err q)
        → EditIs (edit_outcome e b x (length o)) (Err q) o o
    unfolding prepared_outcome roomed written
    edit-refused q h =
        let a : refused (edit_number q) none ≡ edit_outcome e b x (length o) = ap (roomed (length o)) h.0 ∙ room-asked e b x (length o) in
        record { said = ap (length_of rmaps) a; wrote = ap (written rmaps o) a }

    module _ (p : Splice) (h : PreparedIs e b x (Ok p)) where
      pub edit-short : length o < p.size → EditIs (edit_outcome e b x (length o)) (Err why.Room) o o
      unfolding prepared_outcome roomed written
      edit-short k =
          let l : List Rmap = list_of (records_of rmaps b) p in
          let n : leb (length (bytes_of rmaps l)) (length o) ≡ false = lt-leb (length (bytes_of rmaps l)) (length o) (omega (arith, h.1.size)) in
          let a : roomed (length o) (done l) ≡ edit_outcome e b x (length o) = ap (roomed (length o)) h.0 ∙ room-asked e b x (length o) in
          let c : refused 26 none ≡ edit_outcome e b x (length o) = rw n at a in
          record { said = ap (length_of rmaps) c; wrote = ap (written rmaps o) c }

      pub edit-done : (o₁ : List ℕ) → p.size ≤ length o → o₁ ≡ with_bytes o 0 (bytes_of rmaps (list_of (records_of rmaps b) p))
          → EditIs (edit_outcome e b x (length o)) (Ok p.size) o o₁
      unfolding prepared_outcome roomed written
      edit-done o₁ k w =
          let l : List Rmap = list_of (records_of rmaps b) p in
          let n : leb (length (bytes_of rmaps l)) (length o) ≡ true = le-leb (length (bytes_of rmaps l)) (length o) (omega (arith, h.1.size)) in
          let a : roomed (length o) (done l) ≡ edit_outcome e b x (length o) = ap (roomed (length o)) h.0 ∙ room-asked e b x (length o) in
          let c : done l ≡ edit_outcome e b x (length o) = rw n at a in
          record { said = ap (λ (m : ℕ). done m) h.1.size ∙ ap (length_of rmaps) c; wrote = w ∙ ap (written rmaps o) c }

-- ---- 23 of both inserts by the index of the first record that is in the way

module _ (p : Rmap → Bool) (b : List ℕ) (i : ℕ) (e : i ≡ index_where p (records_of rmaps b)) where
  pub none_found : length b / 24 ≤ i → not (any p (records_of rmaps b)) ≡ true
  none_found h =
      ap not (any-index p (records_of rmaps b) ∙ le-ltb (index_where p (records_of rmaps b)) (length (records_of rmaps b)) (omega (arith, length-records_of rmaps b)))

  pub one_found : i < length b / 24 → not (any p (records_of rmaps b)) ≡ false
  one_found h =
      ap not (any-index p (records_of rmaps b) ∙ lt-ltb (index_where p (records_of rmaps b)) (length (records_of rmaps b)) (omega (arith, length-records_of rmaps b)))

-- of `insert`, on an accepted list, that is a block held
module _ (b : List ℕ) (x : Rmap) (g : TakeGood b x) (i : ℕ) (e : i ≡ index_where (overlaps x) (records_of rmaps b)) where
  told : held_none (records_of rmaps b) x.startblock x.blockcount ≡ no_overlap x (records_of rmaps b)
  told = overlaps-tell x (records_of rmaps b) g.ordered g.extent

  pub unheld-found : length b / 24 ≤ i → held_none (records_of rmaps b) x.startblock x.blockcount ≡ true
  unheld-found h = told ∙ none_found (overlaps x) b i e h

  pub held_found : i < length b / 24 → held_none (records_of rmaps b) x.startblock x.blockcount ≡ false
  held_found h = told ∙ one_found (overlaps x) b i e h
