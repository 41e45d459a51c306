-- The splices are the edits: their parts, and their questions.
-- Assumes nothing.
use Prim.Native.Nat.{ℕ, zero, suc, ◌+◌, ◌-◌, ◌%◌, ◌≤◌, ◌<◌}
use native.Mathlib.Omega.{arith}
use native.Mathlib.Nat.{sub_self}
use native.Mathlib.Numerals.{add-one}
use mathlib.Core.Path.{◌≡◌, refl, sym, ap, ◌∙◌}
use mathlib.Core.Bool.{Bool, true, false, cond}
use mathlib.Core.List.{List, [], ◌∷◌, ◌++◌, append_assoc, append-nil}
use lib.Dec.{ltb}
use lib.ListN.{length, get_or, take, drop, drop_of_length-le}
use borrow.Author.Tests.{eq-eqb, ne_eqb}
use Rattle.codec.specs.Question.{none, Outcome, done, refused, Question, ask, answer}
use Rattle.codec.specs.Records.{records_of, rmaps}
use Rattle.codec.specs.Accepted.{whole}
use Rattle.codec.specs.Rmaps.{end, follows, least, accepted, good}
use Rattle.codec.specs.declared.check.ListRefusal.TheVariants.{Length, RmapOrder}
use Rattle.codec.specs.declared.rmap.Rmap.{Rmap}
use Rattle.lists.specs.declared.EditRefusal.TheVariants as why
use Rattle.lists.specs.declared.splice.Edit.{Edit}
use Rattle.lists.specs.declared.splice.Edit.TheVariants.{Insert, InsertShared, Remove}
use Rattle.std.specs.Prelude.{Option, Some, None, is_some, unwrap_or}
use Rattle.std.specs.Bool.{then_some}
use Rattle.lists.specs.RmapEdits.{index_where, insert, insert_shared, contained, remove, continues, joined, chosen, front, later}
use Rattle.lists.specs.Edits.{map_questions, fits, insert_outcome, insert_shared_outcome, remove_outcome, allowed, edited, edit_questions}
use Rattle.lists.specs.Answer.{edit_number}
use Rattle.lists.specs.Splice.{edit_before26, between, piece_of, parts_of, PartsGood}
use Rattle.lists.specs.Inner.Searches.{seat, TakeGood}
use Rattle.lists.specs.Inner.Splicing.{edit_outcome, previous, roomed}
use Rattle.lists.proofs.Cases.{split, tests}
use Rattle.lists.proofs.Found.{contains-ends}
use Rattle.lists.proofs.Index.{index-le}
use Rattle.lists.proofs.RmapOrder.{accepted-facts, good-facts}
use Rattle.lists.proofs.Inserting.{after}
use Rattle.lists.proofs.Joining.{low_join, high_join, join-out, join-in}
use Rattle.lists.proofs.Sharing.{insert-is, low_index, high_index, low-found, high-found, high_same, low-before-high, seat-before-low, share-joined, seat-before-high, share-alone}
use Rattle.lists.proofs.Removing.{strict_index, any_index, chosen-index, contained-index, cut-contains, cut-before-seat, cut-is}

-- ---- the questions on the list and on the extent

module _ (b : List ℕ) (x : Rmap) (qs : List Question) (o : Outcome (List Rmap)) where
  pub asked-length : (length b % 24 ≡ 0 → ⊥) → answer (map_questions b x ++ qs) o ≡ refused (edit_number (why.List Length)) none
  unfolding whole
  asked-length h = rw (ne_eqb (length b % 24) 0 h) refl

  module _ (h : length b % 24 ≡ 0) where
    pub asked-order : accepted (records_of rmaps b) ≡ false → answer (map_questions b x ++ qs) o ≡ refused (edit_number (why.List RmapOrder)) none
    unfolding whole
    asked-order g = rw (eq-eqb (length b % 24) 0 h, g) refl

    pub asked-extent : accepted (records_of rmaps b) ≡ true → good x ≡ false → answer (map_questions b x ++ qs) o ≡ refused (edit_number why.Extent) none
    unfolding whole
    asked-extent g f = rw (eq-eqb (length b % 24) 0 h, g, f) refl

  pub asked-good : TakeGood b x → answer (map_questions b x ++ qs) o ≡ answer qs o
  unfolding whole
  asked-good g = rw (eq-eqb (length b % 24) 0 g.aligned, g.ordered, g.extent) refl

-- ---- the question of each edit, and what a prepared edit comes to

module _ (e : Edit) (b : List ℕ) (x : Rmap) where
  abbrev l : List Rmap
  l = records_of rmaps b

  pub prepare-done : TakeGood b x → (rs : List Rmap) → (allowed e x l).holds ≡ true → edited e x l ≡ rs → done rs ≡ edit_before26 e b x
  unfolding edit_before26
  prepare-done g rs h f = sym (asked-good b x (allowed e x l ∷ []) (done (edited e x l)) g ∙ rw (h, f) refl)

  pub prepare-refused : TakeGood b x → (n : ℕ) → (allowed e x l).holds ≡ false → (allowed e x l).number ≡ n → (allowed e x l).values ≡ none → refused n none ≡ edit_before26 e b x
  unfolding edit_before26
  prepare-refused g n h f v = sym (asked-good b x (allowed e x l ∷ []) (done (edited e x l)) g ∙ rw (h, f, v) refl)

-- 26 comes last
room-last : (qs : List Question) (rs : List Rmap) (room : ℕ) → answer (qs ++ (ask 26 (fits rmaps rs room) ∷ [])) (done rs) ≡ roomed room (answer qs (done rs))
unfolding roomed
room-last [] rs room = refl
room-last (q ∷ qs) rs room = split q.holds (λ h. rw h (room-last qs rs room)) (λ h. rw h refl)

pub room-asked : (e : Edit) (b : List ℕ) (x : Rmap) (room : ℕ) → roomed room (edit_before26 e b x) ≡ edit_outcome e b x room
unfolding edit_before26 insert_outcome insert_shared_outcome remove_outcome
room-asked Insert b x room = sym (room-last (edit_questions Insert b x) (insert x (records_of rmaps b)) room)
room-asked InsertShared b x room = sym (room-last (edit_questions InsertShared b x) (insert_shared x (records_of rmaps b)) room)
room-asked Remove b x room = sym (room-last (edit_questions Remove b x) (remove x (records_of rmaps b)) room)

-- ---- insert

between_none : (l : List Rmap) (a : ℕ) → between l a a ≡ []
between_none l a = rw (sub_self a) refl

previous-is : (at n i : ℕ) → i ≡ previous at n → i < n → suc i ≡ at
unfolding previous
previous-is zero n i e h = absurd (omega arith)
previous-is (suc k) n i e h = omega arith

module _ (x : Rmap) (l : List Rmap) (n : ℕ) (en : n ≡ length l) (at i a z : ℕ) (h j : Option Rmap) (y w : Rmap) (ea : at ≡ after x l) (eh : h ≡ high_join l at x)
    (ey : y ≡ unwrap_or h x) (ei : i ≡ previous at n) (ej : j ≡ low_join l i y) (ew : w ≡ unwrap_or j y) (e₁ : a ≡ cond (is_some j) i at) (e₂ : z ≡ cond (is_some h) (at + 1) at) where
  at-le : at ≤ n
  at-le = omega (arith, index-le (λ r. ltb x.startblock r.startblock) l)

  front-le : a ≤ at
  front-le =
      split (is_some j)
      (λ t. let k : i < length l = join-in true l i y (ap (λ o. is_some o) (sym ej) ∙ t) in
      let s = previous-is at n i ei (omega arith) in
      let f : a ≡ i = rw t at e₁ in omega arith)
      (λ t. let f : a ≡ at = rw t at e₁ in omega arith)

  rest_le : (at ≤ z) × (z ≤ n)
  rest_le =
      split (is_some h)
      (λ t. let k : at < length l = join-in false l at x (ap (λ o. is_some o) (sym eh) ∙ t) in
      let f : z ≡ at + 1 = rw t at e₂ in (omega arith, omega arith))
      (λ t. let f : z ≡ at = rw t at e₂ in (omega arith, omega (arith, at-le)))

  pub insert-parts : insert x l ≡ parts_of l a (record { rmap = Some w; from = at; to = at }) (record { rmap = None; from = at; to = at }) z
  unfolding parts_of
  insert-parts =
      let f : z ≡ cond (is_some h) (suc at) at = e₂ ∙ rw (add-one at) refl in
      let whole : insert x l ≡ take a l ++ (w ∷ drop z l) = rw (e₁, f, ew, ej, ey, eh, ei, en) (insert-is x l at ea) in
      whole ∙ rw (between_none l at) (simp (append_assoc, append-nil))

  pub insert-good : PartsGood n a (record { rmap = Some w; from = at; to = at }) (record { rmap = None; from = at; to = at }) z
  insert-good =
      let k = front-le in
      let r = rest_le in
      record { front = omega (arith, at-le); first = (omega arith, at-le); second = (omega arith, at-le); rest = r.1; count = omega (arith, at-le) }

-- ---- insert_shared

-- what follows the record joined behind
rest-drop : (l : List Rmap) (y : Rmap) (j : ℕ) → j ≡ high_index y l → drop (cond (is_some (high_join l j y)) (j + 1) j) l ≡ drop (j + 1) l
rest-drop l y j e =
    split (ltb j (length l))
    (λ f. let h : high_index y l < length l = omega tests in rw (e, ← high-found l y h) refl)
    (λ f. let h : length l ≤ j = omega tests in
    let k : length l ≤ j + 1 = omega arith in
    rw (← join-out false l j y h) (drop_of_length-le l h ∙ sym (drop_of_length-le l k)))

module _ (b : List ℕ) (x : Rmap) (g : TakeGood b x) (n : ℕ) (en : n ≡ length (records_of rmaps b)) (i j p low mid z : ℕ) (t h : Option Rmap) (y w : Rmap)
    (ei : i ≡ low_index x (records_of rmaps b)) (et : t ≡ low_join (records_of rmaps b) i x) (ey : y ≡ unwrap_or t x) (ej : j ≡ high_index x (records_of rmaps b))
    (eh : h ≡ high_join (records_of rmaps b) j y) (ew : w ≡ unwrap_or h y) (ep : p ≡ seat w (records_of rmaps b))
    (e₁ : low ≡ cond (is_some t) i p) (e₂ : mid ≡ cond (is_some t) (i + 1) p) (e₃ : z ≡ cond (is_some h) (j + 1) j) where
  abbrev rs : List Rmap
  rs = records_of rmaps b

  shared-rest : (j ≤ z) × (z ≤ n)
  shared-rest =
      split (is_some h)
      (λ t. let k : j < length rs = join-in false rs j _ (ap (λ o. is_some o) (sym eh) ∙ t) in
      let f : z ≡ j + 1 = rw t at e₃ in (omega arith, omega arith))
      (λ t. let f : z ≡ j = rw t at e₃ in (omega arith, omega (arith, index-le (λ r. continues x r) rs)))

  -- what the two cases have in common
  record Shared : Type 0 where
    list : insert_shared x rs ≡ take p rs ++ (w ∷ (between rs p low ++ between rs mid j ++ drop z rs))
    seat-low : p ≤ low
    low-mid : low ≤ mid
    mid-high : mid ≤ j

  shared : Shared
  shared =
      let acc = accepted-facts rs g.ordered in
      let pos = (good-facts x g.extent).0 in
      split (ltb i (length rs))
      (λ e.
      let hi : i < length rs = omega tests in
      let is : t ≡ Some (joined (get_or rs i least) x) = et ∙ rw ei (sym (low-found rs x (rw ei at hi))) in
      let js : is_some t ≡ true = rw is refl in
      let ey : y ≡ joined (get_or rs i least) x = ey ∙ rw is refl in
      let lo : low ≡ i = e₁ ∙ rw js refl in
      let mi : mid ≡ i + 1 = e₂ ∙ rw js refl in
      let jy : j ≡ high_index y rs = ej ∙ rw ey (high_same x rs acc i ei hi) in
      let rest : drop z rs ≡ drop (j + 1) rs = rw (e₃, eh) (rest-drop rs y j jy) in
      let up : p ≤ i = rw (ep, ew, eh, jy, ey) (seat-before-low x rs acc i ei hi) in
      let lt : i < j = rw (jy, ey) (low-before-high x rs acc i ei hi) in
      record {
        list = rw (lo, mi, rest, ep, ew, eh, jy, ey) (share-joined x rs acc i ei hi);
        seat-low = omega arith;
        low-mid = omega arith;
        mid-high = omega arith;
      })
      (λ e.
      let hi : length rs ≤ i = omega tests in
      let is : t ≡ None = et ∙ sym (join-out true rs i x hi) in
      let js : is_some t ≡ false = rw is refl in
      let ey : y ≡ x = ey ∙ rw is refl in
      let lo : low ≡ p = e₁ ∙ rw js refl in
      let mi : mid ≡ p = e₂ ∙ rw js refl in
      let rest : drop z rs ≡ drop (j + 1) rs = rw (e₃, eh) (rest-drop rs y j (ej ∙ rw ey refl)) in
      let up : p ≤ j = rw (ep, ew, eh, ej, ey) (seat-before-high x rs acc pos (rw ei at hi)) in
      record {
        list = rw (lo, mi, between_none rs p, rest, ep, ew, eh, ej, ey) (share-alone x rs acc pos (rw ei at hi));
        seat-low = omega arith;
        low-mid = omega arith;
        mid-high = omega arith;
      })

  pub shared-parts : insert_shared x rs ≡ parts_of rs p (record { rmap = Some w; from = p; to = low }) (record { rmap = None; from = mid; to = j }) z
  unfolding parts_of
  shared-parts = shared.list ∙ simp append_assoc

  pub shared-good : PartsGood n p (record { rmap = Some w; from = p; to = low }) (record { rmap = None; from = mid; to = j }) z
  shared-good =
      let a = shared.seat-low in
      let b = shared.low-mid in
      let c = shared.mid-high in
      let r = shared-rest in
      record { front = omega arith; first = (a, omega arith); second = (c, omega arith); rest = r.1; count = omega arith }

-- ---- remove

piece-le : (o : Option Rmap) → length (piece_of o) ≤ 1
piece-le None = omega arith
piece-le (Some r) = omega arith

-- a record that is there only where a test holds
piece-if : (t : Bool) (r : Rmap) → piece_of (then_some t r) ≡ cond t (r ∷ []) []
piece-if true r = refl
piece-if false r = refl

module _ (b : List ℕ) (x : Rmap) (g : TakeGood b x) (n : ℕ) (en : n ≡ length (records_of rmaps b)) (i j at : ℕ) (ei : i ≡ strict_index x (records_of rmaps b))
    (ej : j ≡ any_index x (records_of rmaps b)) (ea : at ≡ cond (ltb i n) i j) where
  chosen_at : at ≡ index_where (chosen x (records_of rmaps b)) (records_of rmaps b)
  chosen_at = ea ∙ rw (ei, ej, en) (sym (chosen-index x (records_of rmaps b)))

  pub contained-at : contained x (records_of rmaps b) ≡ ltb at n
  contained-at = contained-index x (records_of rmaps b) ∙ rw (chosen_at, en) refl

  module _ (w : Rmap) (hi : at < n) (ew : w ≡ get_or (records_of rmaps b) at least) where
    pub cut-ends : (w.startblock ≤ x.startblock) × (end x ≤ end w)
    cut-ends =
        rw ew
        (contains-ends x (get_or (records_of rmaps b) at least)
        (cut-contains x (records_of rmaps b) (accepted-facts (records_of rmaps b) g.ordered) (good-facts x g.extent).0 at chosen_at (rw en at hi)))

    module _ (p : ℕ) (f k : Rmap) (m z : ℕ) (s t : Option Rmap) (ep : p ≡ seat k (records_of rmaps b)) (ek : k ≡ later x w)
        (ef : f ≡ record { startblock = w.startblock; blockcount = x.startblock - w.startblock; owner = w.owner; offset = w.offset }) (em : m ≡ end x) (ez : z ≡ end w)
        (es : s ≡ then_some (ltb w.startblock x.startblock) f) (et : t ≡ then_some (ltb m z) k) where
      pub remove-parts : remove x (records_of rmaps b)
          ≡ parts_of (records_of rmaps b) at (record { rmap = s; from = at + 1; to = p }) (record { rmap = t; from = p; to = p }) p
      unfolding parts_of front
      remove-parts =
          let l : List Rmap = records_of rmaps b in
          let c : Rmap = get_or l at least in
          rw (es, et, piece-if, piece-if, ef, em, ez, ep, ek, ew, between_none l (seat (later x c) l), append-nil (cond (ltb (end x) (end c)) (later x c ∷ []) []))
          (cut-is x l (accepted-facts l g.ordered) (good-facts x g.extent).0 at chosen_at (rw en at hi))

      pub remove-good : PartsGood n at (record { rmap = s; from = at + 1; to = p }) (record { rmap = t; from = p; to = p }) p
      remove-good =
          let l : List Rmap = records_of rmaps b in
          let up : at + 1 ≤ p = rw (ep, ek, ew) (cut-before-seat x l (accepted-facts l g.ordered) (good-facts x g.extent).0 at chosen_at (rw en at hi)) in
          let le : p ≤ n = rw (ep, en) (index-le (follows k) l) in
          let one = piece-le s in
          let two = piece-le t in
          record { front = omega arith; first = (up, le); second = (omega arith, le); rest = le; count = omega arith }
