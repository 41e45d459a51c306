-- Every lookup counts as the whole walk does, and visits no block more often.
-- Assumes nothing.
use Rattle.std.proofs.Common.{◌≡◌, ℕ, zero, suc, ◌+◌, ◌-◌, ◌*◌, ◌%◌, ◌<◌, ◌≤◌, max, Bool, true, false, ◌&&◌, leb, List, [], ◌∷◌, ◌++◌, length, sym, refl, ap, ◌∙◌, subst, append-nil, arith, le-leb}
use Rattle.codec.specs.Bytes.{with_bytes}
use Rattle.codec.specs.Question.{Outcome, done}
use Rattle.codec.specs.Records.{records_of, rmaps}
use Rattle.codec.specs.Rmaps.{accepted}
use Rattle.codec.specs.declared.rmap.Rmap.{Rmap}
use Rattle.codec.proofs.Meaning.{done-means}
use Rattle.blocks.specs.declared.geometry.Geometry.{Geometry}
use Rattle.blocks.specs.declared.kind.TreeKind.TheVariants as kind
use Rattle.blocks.specs.Geometry.{geometry_ok}
use Rattle.walks.specs.Walk.{Visit, visit_of, Look, good, Trace, finished, run, visits, records, ending, Shape, block_in, pointers, first_pointer, look_in}
use Rattle.walks.specs.Shapes.{shape_of}
use Rattle.walks.specs.Path.{child_at, fan_of}
use Rattle.walks.specs.Forest.{Forest, empty, tree, roots, blocks_in, bytes_in, Stands, through, size_of}
use Rattle.walks.specs.WalkCall.{stack_places, walk_in, walk_questions}
use Rattle.walks.proofs.ForestLaws.{Finished, walk-whole, through-visits, through-records, forest-of}
use Rattle.walks.proofs.DescendLaws.{Looked, looked}
use Rattle.walks.proofs.WalkMeaning.{look-whole}
use Rattle.walks.proofs.FinishedWalks.{fit-finished}
use Rattle.walks.proofs.StackSizes.{larger-same, accepted-same}
use Rattle.trees.proofs.BuiltReturned.{finished-after}
use Rattle.lists.specs.Holders.{holders}
use Rattle.lookup.specs.Lookup.{kept_from, without, keeps, low_start, high_start, look_asked, stack_alone, descent_of, lookup_of, tallies, answers_after}
use Rattle.lookup.specs.Claims.{Theirs, records_under, ChildKeys, KeysTheirs, times, EveryLookup, EveryLookupStack, EveryAcceptedLookup}
use Rattle.lookup.proofs.Pruned.{pruned, pruned-roots, pruned-size, pruned-times, pruned-stands}
use Rattle.lookup.proofs.Keyed.{Rising, accepted-rising, Among, theirs-none, records_in, Whole, records-in, pruned-whole, Keyed, pruned-holders, tallies-same}

-- ---- a forest that is read whole

through-ending : (f : Forest) (t : Trace) → ending (through f t) ≡ ending t
unfolding through ending
through-ending empty t = refl
through-ending (tree v b below right) t = through-ending below (through right t) ∙ through-ending right t

ending-all : (f : Forest) → ending (through f finished) ≡ finished
unfolding ending
ending-all f = through-ending f finished

records-all : (f : Forest) → records (through f finished) ≡ bytes_in f
unfolding records
records-all f = through-records f finished ∙ append-nil (bytes_in f)

visits-all : (f : Forest) → visits (through f finished) ≡ blocks_in f
unfolding visits
visits-all f = through-visits f finished ∙ append-nil (blocks_in f)

kept-one : (v : Visit) → kept_from (λ _. true) 0 (v ∷ []) ≡ v ∷ []
unfolding kept_from
kept-one v = refl

-- ---- keys that are theirs, in the forest that the walk read

module _ (g : Geometry) (ok : geometry_ok g ≡ true) (image : List ℕ) (limit : ℕ) (asked : List ℕ) where
  abbrev sh : Shape
  sh = shape_of g kind.Rmap

  abbrev look : Visit → Look
  look = look_in sh image

  abbrev keep_of : Visit → ℕ → Bool
  keep_of v = keeps asked sh (block_in sh.size image v.block)

  -- the keys of a block's child, by its number
  abbrev Own : Visit → ℕ → List Rmap → Type 0
  Own v i rs = Theirs (low_start sh (block_in sh.size image v.block) i) (high_start sh (block_in sh.size image v.block) i) rs

  forest-whole : (f : Forest) → Stands look f → Whole f
  forest-whole empty s = tt
  forest-whole (tree v b below right) s =
      let n = look-whole g kind.Rmap image ok v (roots below) b s.0 in
      (omega (arith, n.1), forest-whole below s.1, forest-whole right s.2)

  -- what the walk from a tree's root reads
  under-root : (v : Visit) (b : List ℕ) (below : Forest) → look v ≡ good (roots below) b → Stands look below → suc (size_of below) ≤ limit → Whole below → length b % 24 ≡ 0
      → records_under sh image limit v ≡ records_of rmaps b ++ records_in below
  unfolding roots size_of bytes_in records_in records
  under-root v b below e s z w n =
      let f : Forest = tree v b below empty in
      let t : run look limit (v ∷ []) ≡ through f finished = walk-whole look f limit (e, s, tt) (omega arith) in
      ap (λ (x : Trace). records_of rmaps (records x)) t
      ∙ ap (records_of rmaps) (through-records f finished ∙ append-nil (bytes_in f))
      ∙ records-in f (n, w, tt)
      ∙ ap (λ (x : List Rmap). records_of rmaps b ++ x) (append-nil (records_in below))

  -- said of each of the trees side by side
  abbrev Each : (ℕ → List Rmap → Type 0) → ℕ → Forest → Type 0
  Each own i empty = Unit {0}
  Each own i (tree v b below right) = own i (records_of rmaps b ++ records_in below) × Each own (suc i) right

  each-child : (own : ℕ → List Rmap → Type 0) (part : List ℕ) (level i k : ℕ) (f : Forest) → roots f ≡ pointers part (first_pointer sh + i * 4) level k → Stands look f → size_of f ≤ limit
      → ((j : ℕ) → i ≤ j → j < i + k → own j (records_under sh image limit (child_at sh part level j)))
      → Each own i f
  unfolding roots pointers size_of
  each-child own part level i k empty e s z h = tt
  each-child own part level i zero (tree v b below right) e s z h = let q : ◌≡◌ {A = ℕ} 0 1 = cc in absurd (omega arith)
  each-child own part level i (suc k) (tree v b below right) e s z h =
      let hd : v ≡ child_at sh part level i = cc in
      let tl : roots right ≡ pointers part (first_pointer sh + i * 4 + 4) level k = cc in
      let at : first_pointer sh + i * 4 + 4 ≡ first_pointer sh + suc i * 4 = omega arith in
      let w : Whole (tree v b below right) = forest-whole (tree v b below right) s in (
        subst (own i) (ap (records_under sh image limit) (sym hd) ∙ under-root v b below s.0 s.1 (omega arith) w.1 w.0) (h i (omega arith) (omega arith)),
        each-child own part level (suc i) k right (tl ∙ ap (λ (x : ℕ). pointers part x level k) at) s.2 (omega arith) (λ j p q. h j (omega arith) (omega arith)),
      )

  each-unit : (i : ℕ) (f : Forest) → Each (λ _ _. Unit {0}) i f
  each-unit i empty = tt
  each-unit i (tree v b below right) = (tt, each-unit (suc i) right)

  keys-left : (vs ws : List Visit) → KeysTheirs sh image limit (vs ++ ws) → KeysTheirs sh image limit vs
  keys-left [] ws h = tt
  keys-left (v ∷ vs) ws h = (h.0, keys-left vs ws h.1)

  keys-right : (vs ws : List Visit) → KeysTheirs sh image limit (vs ++ ws) → KeysTheirs sh image limit ws
  keys-right [] ws h = h
  keys-right (v ∷ vs) ws h = keys-right vs ws h.1

  each_none : (own : ℕ → List Rmap → Type 0) (i : ℕ) (f : Forest) → roots f ≡ [] → Each own i f
  unfolding roots
  each_none own i empty e = tt
  each_none own i (tree v b below right) e = let q : ◌≡◌ {A = ℕ} 0 1 = cc in absurd (omega arith)

  -- of the trees below a block
  each_below : (v : Visit) (b : List ℕ) (below : Forest) → look v ≡ good (roots below) b → Stands look below → size_of below ≤ limit
      → (0 < v.level → ChildKeys sh image limit v) → Each (Own v) 0 below
  each_below v b below e s z h = by_level v.level refl
    where
      l : Looked sh image v.block v.level (roots below)
      l = looked g kind.Rmap ok image v.block v.level (roots below) b e

      by_level : (n : ℕ) → v.level ≡ n → Each (Own v) 0 below
      by_level zero q = each_none (Own v) 0 below (l.leaf q)
      by_level (suc n) q =
          let part : List ℕ = block_in sh.size image v.block in
          let up : 0 < v.level = omega arith in
          let at : first_pointer sh ≡ first_pointer sh + 0 * 4 = omega arith in
          each-child (Own v) part (v.level - 1) 0 (fan_of part) below (l.node up ∙ ap (λ (x : ℕ). pointers part x (v.level - 1) (fan_of part)) at) s z
          (λ j p r. h up j (omega arith))

  keyed : (own : ℕ → List Rmap → Type 0) (i : ℕ) (f : Forest) → Stands look f → size_of f ≤ limit → Each own i f → KeysTheirs sh image limit (blocks_in f) → Keyed keep_of Own own i f
  unfolding blocks_in size_of
  keyed own i empty s z e k = tt
  keyed own i (tree v b below right) s z e k = (
    e.0,
    keyed (Own v) 0 below s.1 (omega arith) (each_below v b below s.0 s.1 (omega arith) k.0) (keys-left (blocks_in below) (blocks_in right) k.1),
    keyed own (suc i) right s.2 (omega arith) e.1 (keys-right (blocks_in below) (blocks_in right) k.1),
  )

  -- ---- the descent

  leaves-out : (v : Visit) (below : List Visit) (b : List ℕ) → look v ≡ good below b → look_asked asked sh image v ≡ good (kept_from (keep_of v) 0 below) b
  unfolding look_asked
  leaves-out v below b e = ap (without (keep_of v)) e

  skips : (a : ℕ) → Among a asked → (v : Visit) (j m : ℕ) (rs : List Rmap) → Rising m rs → Own v j rs → keep_of v j ≡ false → holders rs a ≡ 0
  skips a h v j m rs r o e = theirs-none a m _ _ asked rs h r o e

  record Descended (root levels : ℕ) (t : Trace) : Type 0 where
    finishes : ending (descent_of asked sh image root levels limit) ≡ finished
    answers : tallies (records_of rmaps (records (descent_of asked sh image root levels limit))) asked ≡ tallies (records_of rmaps (records t)) asked
    visited : (b : ℕ) → times b (visits (descent_of asked sh image root levels limit)) ≤ times b (visits t)

  descended : (root levels : ℕ) → (let t = run look limit (visit_of root (levels - 1) ∷ []) in
      Finished t → accepted (records_of rmaps (records t)) ≡ true → KeysTheirs sh image limit (visits t) → Descended root levels t)
  unfolding descent_of
  descended root levels e acc keys =
      let start : List Visit = visit_of root (levels - 1) ∷ [] in
      let t : Trace = run look limit start in
      let ff = forest-of look limit start e in
      let f : Forest = ff.0 in
      let st : Stands look f = ff.2 in
      let all : (ℕ → Bool) = λ _. true in
      let p : Forest = pruned keep_of all 0 f in
      let is : t ≡ through f finished = ap (run look limit) (sym ff.1) ∙ walk-whole look f limit st ff.3 in
      let rs : roots p ≡ start = pruned-roots keep_of all 0 f ∙ ap (kept_from all 0) ff.1 ∙ kept-one (visit_of root (levels - 1)) in
      let pis : run (look_asked asked sh image) limit start ≡ through p finished =
      ap (run (look_asked asked sh image) limit) (sym rs)
      ∙ walk-whole (look_asked asked sh image) p limit (pruned-stands keep_of look (look_asked asked sh image) leaves-out all 0 f st) (omega (arith, pruned-size keep_of all 0 f, ff.3)) in
      let w : Whole f = forest-whole f st in
      let recs : records t ≡ bytes_in f = ap records is ∙ records-all f in
      let precs : records (run (look_asked asked sh image) limit start) ≡ bytes_in p = ap records pis ∙ records-all p in
      let vis : visits t ≡ blocks_in f = ap visits is ∙ visits-all f in
      let pvis : visits (run (look_asked asked sh image) limit start) ≡ blocks_in p = ap visits pis ∙ visits-all p in
      let each : records_of rmaps (records t) ≡ records_in f = ap (records_of rmaps) recs ∙ records-in f w in
      let peach : records_of rmaps (records (run (look_asked asked sh image) limit start)) ≡ records_in p = ap (records_of rmaps) precs ∙ records-in p (pruned-whole keep_of Own all 0 f w) in
      let rise : Rising 0 (records_in f) = subst (Rising 0) each (accepted-rising (records_of rmaps (records t)) acc) in
      let ky : Keyed keep_of Own (λ _ _. Unit {0}) 0 f = keyed (λ _ _. Unit {0}) 0 f st ff.3 (each-unit 0 f) (subst (KeysTheirs sh image limit) vis keys) in
      record {
        finishes = ap ending pis ∙ ending-all p;
        answers =
            tallies-same (records_of rmaps (records (run (look_asked asked sh image) limit start))) (records_of rmaps (records t)) asked
            (λ a h.
            ap (λ (x : List Rmap). holders x a) peach
            ∙ pruned-holders keep_of Own a (skips a h) (λ _ _. Unit {0}) all (λ j m x r u q. let z : ◌≡◌ {A = ℕ} 0 1 = cc in absurd (omega arith)) 0 0 f rise ky
            ∙ ap (λ (x : List Rmap). holders x a) (sym each));
        visited = λ b. subst (λ (x : List Visit). times b x ≤ times b (visits t)) (sym pvis) (subst (λ (x : List Visit). times b (blocks_in p) ≤ times b x) (sym vis) (pruned-times keep_of b all 0 f));
      }

-- ---- the claim

pub every-lookup : EveryLookup
unfolding walk_in
every-lookup g image root levels m t places asked answers h q =
    let limit : ℕ = max g.agblocks 64 in
    let sh : Shape = shape_of g kind.Rmap in
    let k = done-means (walk_questions g levels m) (walk_in sh image root levels limit m.blocks m.bytes) t h.walked in
    let ok : geometry_ok g ≡ true = k.0.0 in
    let some : (leb 1 levels && leb levels 9) ≡ true = k.0.1.0 in
    let r : Trace = run (look_in sh image) limit (visit_of root (levels - 1) ∷ []) in
    let whole = fit-finished m.blocks m.bytes r (ap ending k.1 ∙ h.ended) in
    let same : r ≡ t = sym whole.0 ∙ k.1 in
    let d : Descended g ok image limit asked root levels r =
    descended g ok image limit asked root levels whole.1 (ap (λ (x : Trace). accepted (records_of rmaps (records x))) same ∙ h.order)
    (subst (λ (x : Trace). KeysTheirs sh image limit (visits x)) (sym same) h.keys) in
    let u : Trace = descent_of asked sh image root levels limit in
    let is : lookup_of g image root levels places asked answers ≡ done u =
    rw (ok, some, le-leb stack_places places q.stack, q.order, le-leb (length asked) answers q.fits) in
    record {
      descent = u;
      admitted = is;
      finishes = d.finishes;
      answers = λ l.
          ap (λ (o : Outcome Trace). answers_after asked o l) is
          ∙ finished-after (with_bytes l 0 (tallies (records_of rmaps (records u)) asked)) _ u d.finishes
          ∙ ap (with_bytes l 0) (d.answers ∙ ap (λ (x : Trace). tallies (records_of rmaps (records x)) asked) same);
      visited = λ b. subst (λ (x : Trace). times b (visits u) ≤ times b (visits x)) same (d.visited b);
    }

-- ---- on nine pairs in the place of a larger stack

pub every-lookup-stack : EveryLookupStack
every-lookup-stack g image root levels places larger asked room p q = larger-same g kind.Rmap levels (stack_alone places) larger _ p q

pub every-accepted-lookup : EveryAcceptedLookup
every-accepted-lookup g image root levels places asked room h = accepted-same g kind.Rmap levels (stack_alone places) _ h
