-- What a walk's answer means: number and values tell every two answers apart, the block list holds every visit, and the records are whole.
-- Assumes nothing.
use Prim.Native.Nat.{ℕ, zero, suc, ◌+◌, ◌-◌, ◌*◌, ◌/◌, ◌≤◌, ◌<◌, max}
use native.Mathlib.Nat.{add-mul, mul-div_cancel, zero-mul}
use native.Mathlib.Omega.{arith}
use mathlib.Core.Path.{◌≡◌, refl, sym, ap, ap₂, ◌∙◌, subst}
use mathlib.Core.Bool.{Bool, true, false, cond, ◌&&◌}
use mathlib.Core.List.{List, [], ◌∷◌, ◌++◌}
use lib.ListN.{length, length-append}
use lib.Dec.{leb, ltb, eqb}
use borrow.Author.Tests.{leb-true}
use Rattle.codec.specs.Question.{Values, none, Outcome, done, refused, map_outcome}
use Rattle.codec.proofs.Meaning.{done-means}
use Rattle.codec.proofs.Parts.{length-bytes_at}
use Rattle.std.specs.Prelude.{Result, Ok, Err}
use Rattle.blocks.specs.declared.geometry.Geometry.{Geometry}
use Rattle.blocks.specs.declared.kind.TreeKind.{TreeKind}
use Rattle.blocks.specs.declared.check.BlockRefusal.TheVariants.{BadGeometry, Short, NoTree, Uuid, BadField}
use Rattle.blocks.specs.declared.check.Field.TheVariants.{Magic, Crc, Owner, Address, Sequence, Level, Records}
use Rattle.blocks.specs.declared.check.Header.{Header}
use Rattle.blocks.specs.Geometry.{geometry_ok}
use Rattle.blocks.specs.Tree.{header_len, record_len}
use Rattle.blocks.specs.Check.{check_block}
use Rattle.blocks.proofs.Laws.{both_left, bounded}
use Rattle.blocks.proofs.Meaning.{refusal_of}
use Rattle.walks.specs.declared.refusal.WalkRefusal.{WalkRefusal}
use Rattle.walks.specs.declared.refusal.WalkRefusal.TheVariants as why
use Rattle.walks.specs.declared.walk.Walked.{Walked}
use Rattle.walks.specs.declared.refusal.StoppedWalk.{StoppedWalk}
use Rattle.walks.specs.Walk.{Visit, visit_of, Look, bad, good, Trace, finished, spent, failed, met, after, run, fit, visits, records, by_level, per_node, block_in, under, look_of, look_in}
use Rattle.walks.specs.Shapes.{shape_of, numrecs_of}
use Rattle.walks.specs.WalkCall.{Report, Lent, walk_questions, walk_of, walk_in}
use Rattle.walks.specs.WalkAnswer.{walk_number, walk_values, walked_report}
use Rattle.walks.proofs.LookLaws.{look-falls, part-long, leaf-inside}
use Rattle.walks.proofs.RunLaws.{visits-all}

-- ---- number and values tell answers apart

-- the refusal of a number and its values
abbrev of_number : ℕ → Values → WalkRefusal
of_number n v =
    cond (eqb n 11) why.Levels
    (cond (eqb n 12) why.Scratch (cond (eqb n 13) why.Visits (cond (eqb n 14) why.Outside (cond (eqb n 15) why.Full (why.Block (refusal_of n v))))))

number-back : (f : WalkRefusal) → of_number (walk_number f) (walk_values f) ≡ f
number-back why.Levels = refl
number-back why.Scratch = refl
number-back why.Visits = refl
number-back why.Outside = refl
number-back why.Full = refl
number-back (why.Block BadGeometry) = refl
number-back (why.Block Short) = refl
number-back (why.Block NoTree) = refl
number-back (why.Block Uuid) = refl
number-back (why.Block (BadField (Magic e f))) = refl
number-back (why.Block (BadField (Crc e f))) = refl
number-back (why.Block (BadField (Owner e f))) = refl
number-back (why.Block (BadField (Address e f))) = refl
number-back (why.Block (BadField (Sequence e f))) = refl
number-back (why.Block (BadField (Level e f))) = refl
number-back (why.Block (BadField (Records e f))) = refl

pub refusals-apart : (f h : WalkRefusal) → walk_number f ≡ walk_number h → walk_values f ≡ walk_values h → f ≡ h
refusals-apart f h e v = sym (number-back f) ∙ ap₂ of_number e v ∙ number-back h

abbrev of_report : Report → Result Walked StoppedWalk
of_report q =
    elim q.outcome [
      | done c ↦ Ok (record { visits = c.visits; records = c.records; bytes = c.bytes })
      | refused n v ↦ Err (record { refusal = of_number n v; visits = q.passed })
    ]

report-back : (r : Result Walked StoppedWalk) → of_report (walked_report r) ≡ r
report-back (Ok w) = refl
report-back (Err s) = ap (λ (f : WalkRefusal). Err (record { refusal = f; visits = s.visits })) (number-back s.refusal)

pub walked-apart : (r s : Result Walked StoppedWalk) → walked_report r ≡ walked_report s → r ≡ s
walked-apart r s e = sym (report-back r) ∙ ap of_report e ∙ report-back s

-- ---- the records of a walk are whole

-- the records' bytes of each block are a multiple of w
abbrev Wholes : ℕ → Trace → Type 0
Wholes w finished = Unit {0}
Wholes w spent = Unit {0}
Wholes w (failed n x) = Unit {0}
Wholes w (met v b t) = ((n : ℕ) × (length b ≡ n * w)) × Wholes w t

module _ (w : ℕ) (look : Visit → Look) (whole : (v : Visit) (below : List Visit) (bytes : List ℕ) → look v ≡ good below bytes → (n : ℕ) × (length bytes ≡ n * w)) where
  after-wholes : (n : ℕ) (v : Visit) (due : List Visit) (l : Look) → look v ≡ l → ((below : List Visit) → Wholes w (run look n (below ++ due)))
      → Wholes w (after v (λ below. run look n (below ++ due)) l)
  after-wholes n v due (bad m x) e h = tt
  after-wholes n v due (good below bytes) e h = (whole v below bytes e, h below)

  run-wholes : (n : ℕ) (due : List Visit) → Wholes w (run look n due)
  unfolding run
  run-wholes zero [] = tt
  run-wholes zero (v ∷ due) = tt
  run-wholes (suc n) [] = tt
  run-wholes (suc n) (v ∷ due) = after-wholes n v due (look v) refl (λ below. run-wholes n (below ++ due))

cut-wholes : (w : ℕ) (v : Visit) (b : List ℕ) (t : Trace) (x : Bool) → (n : ℕ) × (length b ≡ n * w) → Wholes w t → Wholes w (cond x (met v b t) (failed 15 none))
cut-wholes w v b t true h k = (h, k)
cut-wholes w v b t false h k = tt

fit-wholes : (w p r : ℕ) (t : Trace) → Wholes w t → Wholes w (fit p r t)
unfolding fit
fit-wholes w p r finished k = tt
fit-wholes w p r spent k = tt
fit-wholes w p r (failed n x) k = tt
fit-wholes w p r (met v b t) k = cut-wholes w v b (fit (p - 1) (r - length b) t) (ltb 0 p && leb (length b) r) k.0 (fit-wholes w (p - 1) (r - length b) t k.1)

wholes-length : (w : ℕ) (t : Trace) → Wholes w t → (n : ℕ) × (length (records t) ≡ n * w)
unfolding records
wholes-length w finished k = (0, sym (zero-mul w))
wholes-length w spent k = (0, sym (zero-mul w))
wholes-length w (failed n x) k = (0, sym (zero-mul w))
wholes-length w (met v b t) k =
    let m = wholes-length w t k.1 in
    (k.0.0 + m.0, length-append b (records t) ∙ ap₂ ◌+◌ k.0.1 m.1 ∙ sym (add-mul k.0.0 m.0 w))

module _ (g : Geometry) (kind : TreeKind) (image : List ℕ) (ok : geometry_ok g ≡ true) where
  under_whole : (block level : ℕ) (part : List ℕ) (d : Header) → length part ≡ g.blocksize → check_block g kind block level part ≡ done d
      → (below : List Visit) (bytes : List ℕ) → under (shape_of g kind) part level d.numrecs ≡ good below bytes → (n : ℕ) × (length bytes ≡ n * record_len kind)
  unfolding under
  under_whole block zero part d l e below bytes h =
      let i = leaf-inside g kind ok block 0 part d l e refl in
      let m = length-bytes_at part (header_len g.version) (d.numrecs * record_len kind) (omega (arith, i, l)) in
      (d.numrecs, cc)
  under_whole block (suc level) part d l e below bytes h = let z : [] ≡ bytes = cc in (0, sym (ap length z) ∙ sym (zero-mul (record_len kind)))

  pub look-whole : (v : Visit) (below : List Visit) (bytes : List ℕ) → look_in (shape_of g kind) image v ≡ good below bytes → (n : ℕ) × (length bytes ≡ n * record_len kind)
  unfolding look_in
  look-whole v below bytes h = outer (leb ((v.block + 1) * g.blocksize) (length image)) refl h
    where
      part : List ℕ
      part = block_in g.blocksize image v.block

      inner : length part ≡ g.blocksize → (o : Outcome Header) → check_block g kind v.block v.level part ≡ o → look_of (map_outcome (under (shape_of g kind) part v.level) (numrecs_of o)) ≡ good below bytes
          → (n : ℕ) × (length bytes ≡ n * record_len kind)
      inner l (done d) e f = under_whole v.block v.level part d l e below bytes f
      inner l (refused n x) e f = cc

      outer : (b : Bool) → leb ((v.block + 1) * g.blocksize) (length image) ≡ b
          → look_of (cond b (map_outcome (under (shape_of g kind) part v.level) (numrecs_of (check_block g kind v.block v.level part))) (refused 14 none)) ≡ good below bytes
          → (n : ℕ) × (length bytes ≡ n * record_len kind)
      outer true t f =
          let m : (v.block + 1) * g.blocksize ≡ v.block * g.blocksize + g.blocksize = add-mul v.block 1 g.blocksize ∙ omega arith in
          let u : v.block * g.blocksize + g.blocksize ≤ length image = omega (arith, leb-true ((v.block + 1) * g.blocksize) (length image) t) in
          inner (part-long (shape_of g kind) image v.block v.level u) (check_block g kind v.block v.level part) refl f
      outer false t f = cc

-- ---- an accepted call

walk-wholes : (g : Geometry) (kind : TreeKind) (image : List ℕ) (root levels limit places room : ℕ) → geometry_ok g ≡ true → Wholes (record_len kind) (walk_in (shape_of g kind) image root levels limit places room)
unfolding walk_in
walk-wholes g kind image root levels limit places room ok =
    fit-wholes (record_len kind) places room _ (run-wholes (record_len kind) (look_in (shape_of g kind) image) (look-whole g kind image ok) limit (visit_of root (levels - 1) ∷ []))

walk-listed : (g : Geometry) (kind : TreeKind) (image : List ℕ) (root levels limit places room : ℕ) → geometry_ok g ≡ true → 1 ≤ levels
    → (let t = walk_in (shape_of g kind) image root levels limit places room in length (by_level levels (visits t)) ≡ length (visits t))
unfolding walk_in
walk-listed g kind image root levels limit places room ok h =
    visits-all (look_in (shape_of g kind) image) levels (per_node (shape_of g kind)) limit places room root (look-falls g kind image ok) h

module _ (g : Geometry) (kind : TreeKind) (image : List ℕ) (root levels : ℕ) (m : Lent) (t : Trace) (e : walk_of g kind image root levels m ≡ done t) where
  -- the block list by level holds every visit
  pub blocks-listed : length (by_level levels (visits t)) ≡ length (visits t)
  blocks-listed =
      let k = done-means (walk_questions g levels m) (walk_in (shape_of g kind) image root levels (max g.agblocks 64) m.blocks m.bytes) t e in
      let l : 1 ≤ levels = leb-true 1 levels (both_left (leb 1 levels) (leb levels 9) k.0.1.0) in
      subst (λ (u : Trace). length (by_level levels (visits u)) ≡ length (visits u)) k.1 (walk-listed g kind image root levels (max g.agblocks 64) m.blocks m.bytes k.0.0 l)

  -- as many records as are reported take all the bytes
  pub records-whole : length (records t) / record_len kind * record_len kind ≡ length (records t)
  records-whole =
      let k = done-means (walk_questions g levels m) (walk_in (shape_of g kind) image root levels (max g.agblocks 64) m.blocks m.bytes) t e in
      let w : Wholes (record_len kind) t = subst (Wholes (record_len kind)) k.1 (walk-wholes g kind image root levels (max g.agblocks 64) m.blocks m.bytes k.0.0) in
      let n = wholes-length (record_len kind) t w in
      let p : 0 < record_len kind = omega (arith, (bounded kind).record-least) in
      rw (n.1, mul-div_cancel n.0 p)
