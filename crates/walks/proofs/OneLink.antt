-- `OneLinkWrong`: the walk does not go by the siblings; and two linked images of one walk name the same siblings.
-- Assumes nothing.
use Prim.Native.Nat.{ℕ, zero, suc, ◌+◌, ◌-◌, ◌*◌, ◌^◌, ◌≤◌, ◌<◌, max}
use native.Mathlib.Omega.{arith}
use native.Mathlib.Decide.{dec_lt}
use mathlib.Core.Path.{◌≡◌, refl, sym, ap, ◌∙◌, subst}
use mathlib.Core.Bool.{Bool, true, false, cond, ◌&&◌, and-eq-true_iff}
use mathlib.Core.Logic.{◌⊎◌, ⊎_elim, inl, inr}
use mathlib.Core.List.{List, [], ◌∷◌, ◌++◌}
use borrow.Author.Tests.{eqb-true}
use lib.Dec.{eqb, ltb, leb}
use lib.ListN.{length, take, drop}
use Rattle.codec.specs.Bytes.{IsBytes, bytes_at, be_of}
use Rattle.codec.specs.Question.{none, Outcome, done, refused, answer, map_outcome}
use Rattle.codec.proofs.Meaning.{done-means}
use Rattle.codec.proofs.RecordLists.{inside as inside_of}
use Rattle.codec.proofs.Parts.{bytes_at-same, bytes_at-elsewhere, length-with_bytes}
use Rattle.codec.proofs.Overwrites.{IsBytes-bytes_at}
use Rattle.blocks.specs.declared.geometry.Geometry.{Geometry}
use Rattle.blocks.specs.declared.kind.TreeKind.{TreeKind}
use Rattle.blocks.specs.declared.check.Header.{Header}
use Rattle.blocks.specs.Geometry.{among, null_ag_block}
use Rattle.blocks.specs.Tree.{header_len, ptr_len}
use Rattle.blocks.specs.Check.{leftsib_in, rightsib_in, check_block}
use Rattle.blocks.specs.Stamp.{relinked}
use Rattle.blocks.proofs.Accepted.{accepted}
use Rattle.blocks.proofs.Relinked.{relinked-length, relinked-body, relinked-left, relinked-right, relinked-checks}
use Rattle.walks.specs.Walk.{Visit, visit_of, Look, bad, good, Trace, finished, spent, failed, met, after, run, fit, visits, at_level, by_level, Shape, block_in, first_pointer, pointers, under, look_of, look_in}
use Rattle.walks.specs.Shapes.{shape_of, header_in}
use Rattle.walks.specs.WalkCall.{if_finished, Lent, walk_in, walk_questions, walk_of}
use Rattle.walks.specs.Links.{next, linked, levels_linked, leftsib_of, rightsib_of, says_linked, relinked_in, OneLinkWrong}
use Rattle.walks.proofs.LookLaws.{look-header, header-good, part-long}
use Rattle.walks.proofs.Following.{run-same}

-- ---- every block visited was good

abbrev Good : (Visit → Look) → Visit → Type 0
Good look v = (below : List Visit) × (bytes : List ℕ) × (look v ≡ good below bytes)

abbrev Goods : (Visit → Look) → List Visit → Type 0
Goods look [] = Unit {0}
Goods look (v ∷ vs) = Good look v × Goods look vs

run-goods : (look : Visit → Look) (n : ℕ) (due : List Visit) → Goods look (visits (run look n due))
unfolding run visits
run-goods look zero [] = tt
run-goods look zero (v ∷ due) = tt
run-goods look (suc n) [] = tt
run-goods look (suc n) (v ∷ due) = go (look v) refl (run-goods look n)
  where
    go : (l : Look) → look v ≡ l → ((ws : List Visit) → Goods look (visits (run look n ws))) → Goods look (visits (after v (λ below. run look n (below ++ due)) l))
    go (bad m x) e later = tt
    go (good below bytes) e later = ((below, bytes, e), later (below ++ due))

fit-goods : (look : Visit → Look) (p r : ℕ) (t : Trace) → Goods look (visits t) → Goods look (visits (fit p r t))
unfolding fit visits
fit-goods look p r finished h = tt
fit-goods look p r spent h = tt
fit-goods look p r (failed n x) h = tt
fit-goods look p r (met v b t) h = go (ltb 0 p && leb (length b) r) (fit-goods look (p - 1) (r - length b) t h.1)
  where
    go : (c : Bool) → Goods look (visits (fit (p - 1) (r - length b) t)) → Goods look (visits (cond c (met v b (fit (p - 1) (r - length b) t)) (failed 15 none)))
    go true later = (h.0, later)
    go false later = tt

-- ---- a block among those of a level

among-cons : (b x : ℕ) (xs : List ℕ) (P : Type 0) → (b ≡ x → P) → (among b xs ≡ true → P) → among b (x ∷ xs) ≡ true → P
among-cons b x xs P here there h = go (eqb b x) refl h
  where
    go : (t : Bool) → eqb b x ≡ t → cond t true (among b xs) ≡ true → P
    go true e f = here (eqb-true b x e)
    go false e f = there f

among-append : (b : ℕ) (xs ys : List ℕ) → among b (xs ++ ys) ≡ true → (among b xs ≡ true) ⊎ (among b ys ≡ true)
among-append b [] ys h = inr h
among-append b (x ∷ xs) ys h = go (eqb b x) h (among-append b xs ys)
  where
    go : (t : Bool) → cond t true (among b (xs ++ ys)) ≡ true → (among b (xs ++ ys) ≡ true → (among b xs ≡ true) ⊎ (among b ys ≡ true))
        → (cond t true (among b xs) ≡ true) ⊎ (among b ys ≡ true)
    go true f rec = inl refl
    go false f rec = rec f

-- its level
level-of : (b n : ℕ) (vs : List Visit) → among b (by_level n vs) ≡ true → (l : ℕ) × (l < n) × (among b (at_level l vs) ≡ true)
unfolding by_level
level-of b zero vs h = cc
level-of b (suc n) vs h =
    ⊎_elim
    (λ e. let q = level-of b n vs e in (q.0, omega (arith, q.1), q.2))
    (λ e. (n, omega arith, e))
    (among-append b (by_level n vs) (at_level n vs) h)

-- its visit
record Visited (look : Visit → Look) (b : ℕ) : Type 0 where
  visit : Visit
  numbered : visit.block ≡ b
  looked : Good look visit

visit-of : (look : Visit → Look) (b l : ℕ) (vs : List Visit) → Goods look vs → among b (at_level l vs) ≡ true → Visited look b
unfolding at_level
visit-of look b l [] g h = cc
visit-of look b l (v ∷ vs) g h = go (eqb v.level l) h (visit-of look b l vs g.1)
  where
    go : (t : Bool) → among b (cond t (v.block ∷ at_level l vs) (at_level l vs)) ≡ true → (among b (at_level l vs) ≡ true → Visited look b) → Visited look b
    go true e later = among-cons b v.block (at_level l vs) (Visited look b) (λ q. record { visit = v; numbered = sym q; looked = g.0 }) later e
    go false e later = later e

-- ---- two linked images of one walk

module _ (left right left' right' : ℕ → ℕ) where
  -- the siblings of each block are the same
  linked-same : (before : ℕ) (bs : List ℕ) → linked left right before bs ≡ true → linked left' right' before bs ≡ true
      → (b : ℕ) → among b bs ≡ true → (left b ≡ left' b) × (right b ≡ right' b)
  unfolding linked
  linked-same before [] h k b a = cc
  linked-same before (x ∷ bs) h k b a =
      let h0 = (and-eq-true_iff (eqb (left x) before) (eqb (right x) (next bs) && linked left right x bs)).0 h in
      let h1 = (and-eq-true_iff (eqb (right x) (next bs)) (linked left right x bs)).0 h0.1 in
      let k0 = (and-eq-true_iff (eqb (left' x) before) (eqb (right' x) (next bs) && linked left' right' x bs)).0 k in
      let k1 = (and-eq-true_iff (eqb (right' x) (next bs)) (linked left' right' x bs)).0 k0.1 in
      let l : left x ≡ left' x = eqb-true _ _ h0.0 ∙ sym (eqb-true _ _ k0.0) in
      let r : right x ≡ right' x = eqb-true _ _ h1.0 ∙ sym (eqb-true _ _ k1.0) in
      among-cons b x bs ((left b ≡ left' b) × (right b ≡ right' b))
      (λ e. subst (λ (y : ℕ). (left y ≡ left' y) × (right y ≡ right' y)) (sym e) (l, r))
      (λ e. linked-same x bs h1.1 k1.1 b e) a

level-linked : (left right : ℕ → ℕ) (n l : ℕ) (vs : List Visit) → l < n → levels_linked left right n vs ≡ true → linked left right null_ag_block (at_level l vs) ≡ true
unfolding levels_linked
level-linked left right zero l vs h e = absurd (omega arith)
level-linked left right (suc n) l vs h e =
    let q = (and-eq-true_iff (levels_linked left right n vs) (linked left right null_ag_block (at_level n vs))).0 e in
    elim (dec_lt l n) [
      | yes k ↦ level-linked left right n l vs k q.0
      | no k ↦ (let s : l ≡ n = omega arith in subst (λ (x : ℕ). linked left right null_ag_block (at_level x vs) ≡ true) (sym s) q.1)
    ]

finished-true : (t : Trace) (x : Bool) → if_finished t x false ≡ true → x ≡ true
finished-true finished x h = h
finished-true spent x h = cc
finished-true (failed n v) x h = cc
finished-true (met v b t) x h = finished-true t x h

-- ---- what is under a block goes by what stands after its header

pointers-same : (part part' : List ℕ) (level at n : ℕ) → ((k : ℕ) → at ≤ k → drop k part' ≡ drop k part) → pointers part' at level n ≡ pointers part at level n
unfolding pointers bytes_at
pointers-same part part' level at zero h = refl
pointers-same part part' level at (suc n) h =
    ap (λ (l : List ℕ). visit_of (be_of (take ptr_len l)) level ∷ pointers part' (at + ptr_len) level n) (h at (omega arith))
    ∙ ap (λ (l : List Visit). visit_of (be_of (take ptr_len (drop at part))) level ∷ l) (pointers-same part part' level (at + ptr_len) n (λ k q. h k (omega arith)))

under_same : (s : Shape) (part part' : List ℕ) (level n : ℕ) → ((k : ℕ) → s.header ≤ k → drop k part' ≡ drop k part) → under s part' level n ≡ under s part level n
unfolding under bytes_at
under_same s part part' zero n h = ap (λ (l : List ℕ). good [] (take (n * s.record_length) l)) (h s.header (omega arith))
under_same s part part' (suc level) n h = ap (λ (l : List Visit). good l []) (pointers-same part part' level (first_pointer s) n (λ k q. h k (omega arith)))

-- ---- the image with one block named anew

-- a look is the same where the block check and what is under the block are
look-same : (s : Shape) (im im' : List ℕ) (v : Visit) → length im' ≡ length im
    → s.check v.block v.level (block_in s.size im' v.block) ≡ s.check v.block v.level (block_in s.size im v.block)
    → ((n : ℕ) → under s (block_in s.size im' v.block) v.level n ≡ under s (block_in s.size im v.block) v.level n)
    → look_in s im' v ≡ look_in s im v
unfolding look_in
look-same s im im' v long checks unders =
    ap (λ (k : ℕ). look_of (cond (inside k) (map_outcome (found im') (s.check v.block v.level (block_in s.size im' v.block))) (refused 14 none))) long
    ∙ ap (λ (o : Outcome ℕ). look_of (cond (inside (length im)) (map_outcome (found im') o) (refused 14 none))) checks
    ∙ ap (λ (o : Outcome Look). look_of (cond (inside (length im)) o (refused 14 none))) (go (s.check v.block v.level (block_in s.size im v.block)))
  where
    inside : ℕ → Bool
    inside k = leb ((v.block + 1) * s.size) k

    found : List ℕ → ℕ → Look
    found image = under s (block_in s.size image v.block) v.level

    go : (o : Outcome ℕ) → map_outcome (found im') o ≡ map_outcome (found im) o
    go (done n) = ap done (unders n)
    go (refused n x) = refl

module _ (g : Geometry) (kind : TreeKind) (image : List ℕ) (bytes : IsBytes image) (b left right level : ℕ) (h : Header)
    (inside : b * g.blocksize + g.blocksize ≤ length image) (passed : check_block g kind b level (block_in g.blocksize image b) ≡ done h) where
  abbrev size : ℕ
  size = g.blocksize

  abbrev sh : Shape
  sh = shape_of g kind

  abbrev part : List ℕ
  part = block_in size image b

  abbrev other : List ℕ
  other = relinked g left right part

  abbrev image' : List ℕ
  image' = relinked_in g image b left right

  long : header_len g.version ≤ length part
  long = (accepted g kind b level part h passed).long

  other-long : length other ≡ size
  other-long = relinked-length g left right part long ∙ part-long sh image b level inside

  fits : b * size + length other ≤ length image
  fits = omega (arith, other-long)

  image-long : length image' ≡ length image
  image-long = length-with_bytes image (b * size) other fits

  here : block_in size image' b ≡ other
  here = ap (bytes_at image' (b * size)) (sym other-long) ∙ bytes_at-same image (b * size) other fits

  there : (n : ℕ) → (n < b) ⊎ (b < n) → block_in size image' n ≡ block_in size image n
  there n o =
      bytes_at-elsewhere image (b * size) other fits (n * size) size
      (⊎_elim (λ k. inl (inside_of size n b k)) (λ k. inr (rw other-long (inside_of size b n k))) o)

  look-here : (l : ℕ) → look_in sh image' (visit_of b l) ≡ look_in sh image (visit_of b l)
  look-here l =
      look-same sh image image' (visit_of b l) image-long
      (ap (λ (p : List ℕ). map_outcome (λ (x : Header). x.numrecs) (check_block g kind b l p)) here ∙ relinked-checks g left right part long (IsBytes-bytes_at image (b * size) size bytes) kind b level h passed l)
      (λ n. ap (λ (p : List ℕ). under sh p l n) here ∙ under_same sh part other l n (relinked-body g left right part long))

  look-there : (v : Visit) → (v.block < b) ⊎ (b < v.block) → look_in sh image' v ≡ look_in sh image v
  look-there v o =
      look-same sh image image' v image-long
      (ap (λ (p : List ℕ). map_outcome (λ (x : Header). x.numrecs) (check_block g kind v.block v.level p)) (there v.block o))
      (λ n. ap (λ (p : List ℕ). under sh p v.level n) (there v.block o))

  looks-same : (v : Visit) → look_in sh image' v ≡ look_in sh image v
  looks-same v =
      elim (dec_lt v.block b) [
        | yes k ↦ look-there v (inl k)
        | no k ↦
            elim (dec_lt b v.block) [
              | yes j ↦ look-there v (inr j)
              | no j ↦ (
                  let e : v.block ≡ b = omega arith in
                  subst (λ (x : ℕ). look_in sh image' (visit_of x v.level) ≡ look_in sh image (visit_of x v.level)) (sym e) (look-here v.level))
            ]
      ]

  walk_same : (root levels limit places room : ℕ) → walk_in sh image' root levels limit places room ≡ walk_in sh image root levels limit places room
  unfolding walk_in
  walk_same root levels limit places room = ap (fit places room) (run-same (look_in sh image) (look_in sh image') looks-same limit (visit_of root (levels - 1) ∷ []))

  left_is : left < 2 ^ 32 → leftsib_of size image' b ≡ left
  left_is f = ap leftsib_in here ∙ relinked-left g left right part long f

  right_is : right < 2 ^ 32 → rightsib_of size image' b ≡ right
  right_is f = ap rightsib_in here ∙ relinked-right g left right part long f

  -- the walk is the same, and the levels can't be linked too
  told-apart : (root levels : ℕ) (m : Lent) (t : Trace) → walk_of g kind image root levels m ≡ done t → says_linked size image levels (done t) ≡ true
      → (l : ℕ) → l < levels → among b (at_level l (visits t)) ≡ true
      → left < 2 ^ 32 → right < 2 ^ 32 → (left ≡ leftsib_of size image b → right ≡ rightsib_of size image b → ⊥)
      → (walk_of g kind image' root levels m ≡ done t) × (says_linked size image' levels (done t) ≡ false)
  told-apart root levels m t e says l lt a lf rf differs = (
    ap (λ (x : Trace). answer (walk_questions g levels m) (done x)) (walk_same root levels (max g.agblocks 64) m.blocks m.bytes) ∙ e,
    go (says_linked size image' levels (done t)) refl,
  )
    where
      go : (x : Bool) → says_linked size image' levels (done t) ≡ x → x ≡ false
      go false q = refl
      go true q =
          let was = level-linked (leftsib_of size image) (rightsib_of size image) levels l (visits t) lt (finished-true t _ says) in
          let is = level-linked (leftsib_of size image') (rightsib_of size image') levels l (visits t) lt (finished-true t _ q) in
          let so = linked-same (leftsib_of size image) (rightsib_of size image) (leftsib_of size image') (rightsib_of size image') null_ag_block (at_level l (visits t)) was is b a in
          absurd (differs (sym (so.0 ∙ left_is lf)) (sym (so.1 ∙ right_is rf)))

-- a good look: the block lies in the image and passed
checked : (g : Geometry) (kind : TreeKind) (image : List ℕ) (v : Visit) → Good (look_in (shape_of g kind) image) v
    → (v.block * g.blocksize + g.blocksize ≤ length image)
    × (h : Header) × (check_block g kind v.block v.level (block_in g.blocksize image v.block) ≡ done h)
checked g kind image v (below, bytes, e) = go (header_in g kind image v) refl
  where
    go : (o : Outcome Header) → header_in g kind image v ≡ o
        → (v.block * g.blocksize + g.blocksize ≤ length image)
        × (h : Header) × (check_block g kind v.block v.level (block_in g.blocksize image v.block) ≡ done h)
    go (done h) q = let p = header-good g kind image v.block v.level h q in (p.0, h, p.1)
    go (refused n x) q =
        let f = sym e ∙ look-header g kind image v ∙ ap (λ (o : Outcome Header). look_of (map_outcome (λ h. under (shape_of g kind) (block_in g.blocksize image v.block) v.level h.numrecs) o)) q in
        cc

walk-goods : (g : Geometry) (kind : TreeKind) (image : List ℕ) (root levels limit places room : ℕ)
    → Goods (look_in (shape_of g kind) image) (visits (walk_in (shape_of g kind) image root levels limit places room))
unfolding walk_in
walk-goods g kind image root levels limit places room =
    fit-goods (look_in (shape_of g kind) image) places room (run (look_in (shape_of g kind) image) limit (visit_of root (levels - 1) ∷ []))
    (run-goods (look_in (shape_of g kind) image) limit (visit_of root (levels - 1) ∷ []))

pub one-link-wrong : OneLinkWrong
one-link-wrong g kind image root levels m t b left right bytes e says a lf rf differs =
    let walked = walk_in (shape_of g kind) image root levels (max g.agblocks 64) m.blocks m.bytes in
    let is : walked ≡ t = (done-means (walk_questions g levels m) walked t e).1 in
    let goods : Goods (look_in (shape_of g kind) image) (visits t) =
    subst (λ (x : Trace). Goods (look_in (shape_of g kind) image) (visits x)) is (walk-goods g kind image root levels (max g.agblocks 64) m.blocks m.bytes) in
    let l = level-of b levels (visits t) a in
    let v = visit-of (look_in (shape_of g kind) image) b l.0 (visits t) goods l.2 in
    let p : (b * g.blocksize + g.blocksize ≤ length image) × (h : Header) × (check_block g kind b v.visit.level (block_in g.blocksize image b) ≡ done h) =
    subst (λ (x : ℕ). (x * g.blocksize + g.blocksize ≤ length image) × (h : Header) × (check_block g kind x v.visit.level (block_in g.blocksize image x) ≡ done h)) v.numbered
    (checked g kind image v.visit v.looked) in
    told-apart g kind image bytes b left right v.visit.level p.1 p.0 p.2 root levels m t e says l.0 l.1 l.2 lf rf differs
