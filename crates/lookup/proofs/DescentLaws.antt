-- Laws of the descent: what it keeps from visit to visit.
-- Assumes nothing.
use Rattle.std.proofs.Common.{◌≡◌, ℕ, zero, suc, ◌+◌, ◌-◌, ◌*◌, ◌%◌, ◌^◌, ◌<◌, ◌≤◌, Bool, true, cond, List, [], ◌∷◌, ◌++◌, length, get_or, sym, refl, ap, ◌∙◌, subst, add-zero, arith}
use Rattle.codec.specs.Question.{Values, none, done, refused, map_outcome}
use Rattle.codec.specs.Records.{first_records, records_of, rmaps}
use Rattle.codec.specs.declared.rmap.Rmap.{Rmap}
use Rattle.codec.proofs.RecordLists.{records_of-append, length-records_of}
use Rattle.codec.proofs.RecordKinds.{rmaps-lawful}
use Rattle.blocks.specs.declared.geometry.Geometry.{Geometry}
use Rattle.blocks.specs.declared.kind.TreeKind.TheVariants as kind
use Rattle.blocks.specs.declared.check.Header.{Header}
use Rattle.blocks.specs.Geometry.{geometry_ok}
use Rattle.walks.specs.Walk.{Visit, visit_of, Look, bad, good, bytes_found, Trace, finished, spent, failed, met, run, visits, records, Shape, block_in, pointers, first_pointer, look_in}
use Rattle.walks.specs.Shapes.{shape_of, header_in}
use Rattle.walks.specs.Path.{child_at, fan_of, children_from, due_in, path_of, Opened, with_pair, low_of}
use Rattle.walks.specs.WalkCall.{report_of}
use Rattle.walks.proofs.RunLaws.{run_none}
use Rattle.walks.proofs.PathLaws.{path-end}
use Rattle.walks.proofs.DescendLaws.{Looked, looked, path-with, opened-open}
use Rattle.lookup.specs.Lookup.{keeps, kept_from, without, look_asked, descent_of}
use Rattle.lookup.specs.Inner.Tally.{tallied, summed, Room}
use Rattle.lookup.specs.Inner.Descent.{Zeroed, Ready}
use Rattle.lookup.specs.Answer.{Visited, visits_report}
use Rattle.lookup.proofs.TallyLaws.{tallied-most, tallied-none, tallied-more}
use Rattle.lookup.proofs.SumLaws.{zero-summed}
use Rattle.lookup.proofs.FoundLaws.{found-records}

-- ---- the answer, from so many visits on

unfoldable pub report_from : ℕ → Trace → Visited
report_from v finished = record { outcome = done v; passed = v }
report_from v spent = record { outcome = refused 13 none; passed = v }
report_from v (failed n x) = record { outcome = refused n x; passed = v + 1 }
report_from v (met y b t) = report_from (v + 1) t

report-grows : (v b : ℕ) (t : Trace) → record { outcome = map_outcome (λ k. k.visits) (report_of 24 (v + length (visits t)) b t).outcome; passed = (report_of 24 (v + length (visits t)) b t).passed } ≡ report_from v t
unfolding report_from report_of visits
report-grows v b finished = ap (λ (n : ℕ). record { outcome = done n; passed = n }) (add-zero v)
report-grows v b spent = ap (λ (n : ℕ). record { outcome = refused 13 none; passed = n }) (add-zero v)
report-grows v b (failed n x) = ap (λ (m : ℕ). record { outcome = refused n x; passed = m + 1 }) (add-zero v)
report-grows v b (met y c t) =
    let e : v + suc (length (visits t)) ≡ v + 1 + length (visits t) = omega arith in
    ap (λ (n : ℕ). record { outcome = map_outcome (λ k. k.visits) (report_of 24 n b t).outcome; passed = (report_of 24 n b t).passed }) e ∙ report-grows (v + 1) b t

pub report-is : (t : Trace) → visits_report (done t) ≡ report_from 0 t
report-is t =
    let e : length (visits t) ≡ 0 + length (visits t) = omega arith in
    ap (λ (n : ℕ). record { outcome = map_outcome (λ k. k.visits) (report_of 24 n (length (records t)) t).outcome; passed = (report_of 24 n (length (records t)) t).passed }) e ∙ report-grows 0 (length (records t)) t

-- ---- the descent of what is still due

module _ (look : Visit → Look) (limit v : ℕ) (x : Visit) (due : List Visit) where
  rest-spent : limit ≤ v → run look (limit - v) (x ∷ due) ≡ spent
  unfolding run
  rest-spent h = let z : limit - v ≡ 0 = omega arith in rw z

  rest-good : v < limit → (below : List Visit) (bytes : List ℕ) → look x ≡ good below bytes → run look (limit - v) (x ∷ due) ≡ met x bytes (run look (limit - (v + 1)) (below ++ due))
  unfolding run
  rest-good h below bytes e = let z : limit - v ≡ suc (limit - (v + 1)) = omega arith in rw (z, e)

  rest-bad : v < limit → (n : ℕ) (y : Values) → look x ≡ bad n y → run look (limit - v) (x ∷ due) ≡ failed n y
  unfolding run
  rest-bad h n y e = let z : limit - v ≡ suc (limit - (v + 1)) = omega arith in rw (z, e)

-- after v blocks: the whole descent's answer is that of what is still due, and what is still due makes the counts what all of it makes
pub record Descending (look : Visit → Look) (limit : ℕ) (total : Trace) (asked counts₀ counts : List ℕ) (v : ℕ) (due : List Visit) : Type 0 where
  pub ended : report_from 0 total ≡ report_from v (run look (limit - v) due)
  pub counted : tallied (records_of rmaps (records (run look (limit - v) due))) asked counts ≡ tallied (records_of rmaps (records total)) asked counts₀
  pub within : v ≤ limit
  pub small : (i : ℕ) → i < length asked → get_or counts i 0 ≤ v * 8192

pub descending-first : (look : Visit → Look) (limit : ℕ) (asked counts : List ℕ) (due : List Visit) → ((i : ℕ) → i < length asked → get_or counts i 0 ≡ 0) → Descending look limit (run look limit due) asked counts counts 0 due
descending-first look limit asked counts due h =
    let e : limit ≡ limit - 0 = omega arith in
    record {
      ended = ap (λ (n : ℕ). report_from 0 (run look n due)) e;
      counted = ap (λ (n : ℕ). tallied (records_of rmaps (records (run look n due))) asked counts) (sym e);
      within = omega arith;
      small = λ i b. omega (arith, h i b);
    }

module _ {look : Visit → Look} {limit : ℕ} {total : Trace} {asked counts₀ counts : List ℕ} {v : ℕ} {due : List Visit} (k : Descending look limit total asked counts₀ counts v due) where
  -- no visits are left
  pub descending-spent : (x : Visit) (later : List Visit) → due ≡ x ∷ later → limit ≤ v → record { outcome = refused 13 none; passed = v } ≡ visits_report (done total)
  unfolding report_from
  descending-spent x later d h =
      sym (report-is total ∙ k.ended ∙ ap (λ (u : List Visit). report_from v (run look (limit - v) u)) d ∙ ap (report_from v) (rest-spent look limit v x later h))

  -- the next block is refused
  pub descending-stop : (x : Visit) (later : List Visit) → due ≡ x ∷ later → v < limit → (n : ℕ) (y : Values) → look x ≡ bad n y → record { outcome = refused n y; passed = v + 1 } ≡ visits_report (done total)
  unfolding report_from
  descending-stop x later d h n y e =
      sym (report-is total ∙ k.ended ∙ ap (λ (u : List Visit). report_from v (run look (limit - v) u)) d ∙ ap (report_from v) (rest-bad look limit v x later h n y e))

  -- nothing is due
  none_left : due ≡ [] → run look (limit - v) due ≡ finished
  none_left d = ap (run look (limit - v)) d ∙ run_none look (limit - v)

  pub descending-ended : due ≡ [] → record { outcome = done v; passed = v } ≡ visits_report (done total)
  unfolding report_from
  descending-ended d = sym (report-is total ∙ k.ended ∙ ap (report_from v) (none_left d))

  pub descending-counted : due ≡ [] → counts ≡ tallied (records_of rmaps (records total)) asked counts₀
  unfolding records records_of first_records
  descending-counted d =
      sym (tallied-none asked counts) ∙ ap (λ (t : Trace). tallied (records_of rmaps (records t)) asked counts) (sym (none_left d)) ∙ k.counted

  -- there is room for a leaf's records
  pub descending-room : (n : ℕ) → v < limit → limit < 2 ^ 32 → n ≤ 8192 → Room n asked counts
  descending-room n h b c i q = omega (arith, k.small i q)

  -- the next block is read
  pub descending-next : (x : Visit) (later below : List Visit) (bytes counts' : List ℕ) (due' : List Visit) → due ≡ x ∷ later → v < limit → look x ≡ good below bytes → length bytes % 24 ≡ 0 → length bytes ≤ 8192 * 24
      → counts' ≡ tallied (records_of rmaps bytes) asked counts → due' ≡ below ++ later → Descending look limit total asked counts₀ counts' (v + 1) due'
  unfolding report_from records
  descending-next x later below bytes counts' due' d h e whole few wrote pushed =
      let rest : Trace = run look (limit - (v + 1)) due' in
      let R : run look (limit - v) due ≡ met x bytes rest =
      ap (run look (limit - v)) d ∙ rest-good look limit v x later h below bytes e ∙ ap (λ (u : List Visit). met x bytes (run look (limit - (v + 1)) u)) (sym pushed) in
      record {
        ended = k.ended ∙ ap (report_from v) R;
        counted =
            ap (tallied (records_of rmaps (records rest)) asked) wrote
            ∙ tallied-more (records_of rmaps bytes) (records_of rmaps (records rest)) asked counts
            ∙ ap (λ (l : List Rmap). tallied l asked counts) (sym (records_of-append rmaps rmaps-lawful bytes (records rest) whole))
            ∙ ap (λ (t : Trace). tallied (records_of rmaps (records t)) asked counts) (sym R)
            ∙ k.counted;
        within = omega arith;
        small = λ i q. subst (λ (l : List ℕ). get_or l i 0 ≤ (v + 1) * 8192) (sym wrote) (omega (arith, tallied-most (records_of rmaps bytes) asked counts i, length-records_of rmaps bytes, k.small i q));
      }

-- ---- the children that are kept, on the pairs

kept-children : (keep : ℕ → Bool) (s : Shape) (part : List ℕ) (level i k : ℕ) → kept_from keep i (pointers part (first_pointer s + i * 4) level k) ≡ children_from keep s part level i k
unfolding kept_from pointers children_from
kept-children keep s part level i zero = refl
kept-children keep s part level i (suc k) =
    let e : first_pointer s + i * 4 + 4 ≡ first_pointer s + suc i * 4 = omega arith in
    let rest : kept_from keep (suc i) (pointers part (first_pointer s + i * 4 + 4) level k) ≡ children_from keep s part level (suc i) k =
    ap (λ (x : ℕ). kept_from keep (suc i) (pointers part x level k)) e ∙ kept-children keep s part level (suc i) k in
    ap (λ (l : List Visit). cond (keep i) (child_at s part level i ∷ l) l) rest

module _ (g : Geometry) (ok : geometry_ok g ≡ true) (image : List ℕ) (levels limit : ℕ) (asked : List ℕ) where
  abbrev sh : Shape
  sh = shape_of g kind.Rmap

  abbrev pub paths_of : List ℕ → ℕ → List Visit
  paths_of p l = path_of (due_in (keeps asked sh) sh image) p l (levels - l)

  -- before the first turn
  pub descent-begin : (root : ℕ) (stack answers : List ℕ) → Ready levels limit asked stack answers → Zeroed asked answers
      → Descending (look_asked asked sh image) limit (descent_of asked sh image root levels limit) asked (summed (length asked) answers) (summed (length asked) answers) 0
      (visit_of root (levels - 1) ∷ paths_of stack (levels - 1 + 1))
      × Opened sh image stack (levels - 1 + 1) levels
  unfolding descent_of
  descent-begin root stack answers r clear =
      let counts : List ℕ = summed (length asked) answers in
      let same : summed (length asked) answers ≡ answers = zero-summed (length asked) answers r.room clear in
      let up : levels - 1 + 1 ≡ levels = omega (arith, r.least) in
      let none : paths_of stack (levels - 1 + 1) ≡ [] = path-end (due_in (keeps asked sh) sh image) stack (levels - 1 + 1) levels (omega arith) in (
        subst (λ (d : List Visit). Descending (look_asked asked sh image) limit (run (look_asked asked sh image) limit (visit_of root (levels - 1) ∷ [])) asked counts counts 0 (visit_of root (levels - 1) ∷ d)) (sym none)
            (descending-first (look_asked asked sh image) limit asked counts (visit_of root (levels - 1) ∷ []) (λ i h. ap (λ (x : List ℕ). get_or x i 0) same ∙ clear i h)),
        record {
          places = r.deep;
          few = r.most;
          above = omega arith;
          within = omega arith;
          inside = λ l h k. absurd (omega arith);
          most = λ l h k. absurd (omega arith);
          next = λ l h k. absurd (omega arith);
        },
      )

  -- what a look finds, without the children that are skipped
  pub asked-bad : (v : Visit) (n : ℕ) (x : Values) → look_in sh image v ≡ bad n x → look_asked asked sh image v ≡ bad n x
  unfolding look_asked
  asked-bad v n x e = ap (without (keeps asked sh (block_in sh.size image v.block))) e

  asked-good : (v : Visit) (below : List Visit) (bytes : List ℕ) → look_in sh image v ≡ good below bytes
      → look_asked asked sh image v ≡ good (kept_from (keeps asked sh (block_in sh.size image v.block)) 0 below) bytes
  unfolding look_asked
  asked-good v below bytes e = ap (without (keeps asked sh (block_in sh.size image v.block))) e

  -- a turn: the block that is due is read
  turn : {total : Trace} {counts₀ counts : List ℕ} {v : ℕ} (stack : List ℕ) (block level : ℕ)
      → Descending (look_asked asked sh image) limit total asked counts₀ counts v (visit_of block level ∷ paths_of stack (level + 1))
      → Opened sh image stack (level + 1) levels → level < levels → v < limit
      → (below : List Visit) (bytes : List ℕ) → look_in sh image (visit_of block level) ≡ good below bytes → length bytes % 24 ≡ 0 → length bytes ≤ 8192 * 24
      → (counts' : List ℕ) → counts' ≡ tallied (records_of rmaps bytes) asked counts
      → Descending (look_asked asked sh image) limit total asked counts₀ counts' (v + 1) (paths_of (with_pair stack block level) (low_of level))
      × Opened sh image (with_pair stack block level) (low_of level) levels
  unfolding kept_from
  turn stack block level k o h less below bytes e whole few counts' wrote =
      let part : List ℕ = block_in sh.size image block in
      let lk : Looked sh image block level below = looked g kind.Rmap ok image block level below bytes e in
      let keep : (ℕ → Bool) = keeps asked sh part in
      let z : first_pointer sh ≡ first_pointer sh + 0 * 4 = omega arith in
      let all : fan_of part ≡ fan_of part - 0 = omega arith in
      let path : kept_from keep 0 below ++ paths_of stack (level + 1) ≡ paths_of (with_pair stack block level) (low_of level) =
      path-with (keeps asked sh) sh image stack block level levels (kept_from keep 0 below) o.places o.few h
      (λ q. ap (kept_from keep 0) (lk.leaf q))
      (λ up. ap (kept_from keep 0) (lk.node up ∙ ap (λ (x : ℕ). pointers part x (level - 1) (fan_of part)) z) ∙ kept-children keep sh part (level - 1) 0 (fan_of part)
      ∙ ap (children_from keep sh part (level - 1) 0) all) in (
        descending-next k (visit_of block level) (paths_of stack (level + 1)) (kept_from keep 0 below) bytes counts' (paths_of (with_pair stack block level) (low_of level)) refl less
            (asked-good (visit_of block level) below bytes e) whole few wrote (sym path),
        opened-open sh image stack block level levels below h lk o,
      )

  pub descent-turn : {total : Trace} {counts₀ counts : List ℕ} {v : ℕ} (stack : List ℕ) (block level : ℕ)
      → Descending (look_asked asked sh image) limit total asked counts₀ counts v (visit_of block level ∷ paths_of stack (level + 1))
      → Opened sh image stack (level + 1) levels → level < levels → v < limit
      → (h : Header) → header_in g kind.Rmap image (visit_of block level) ≡ done h
      → (counts' : List ℕ) → counts' ≡ tallied (records_of rmaps (bytes_found (look_in sh image (visit_of block level)))) asked counts
      → Descending (look_asked asked sh image) limit total asked counts₀ counts' (v + 1) (paths_of (with_pair stack block level) (low_of level))
      × Opened sh image (with_pair stack block level) (low_of level) levels
  descent-turn {total} {counts₀} {counts} {v} stack block level k o h less d e counts' wrote =
      let f = found-records g image block level asked counts ok d e in
      turn stack block level k o h less f.below f.bytes f.is f.whole f.few counts'
      (wrote ∙ ap (λ (l : Look). tallied (records_of rmaps (bytes_found l)) asked counts) f.is)

  -- the same where the pairs and their lowest level are at hand
  pub descent-opened : {total : Trace} {counts₀ counts counts' : List ℕ} {v low : ℕ} {stack p : List ℕ} {block level : ℕ} {h : Header}
      → Descending (look_asked asked sh image) limit total asked counts₀ counts v (visit_of block level ∷ paths_of stack (level + 1))
      → Opened sh image stack (level + 1) levels → level < levels → v < limit
      → header_in g kind.Rmap image (visit_of block level) ≡ done h
      → counts' ≡ tallied (records_of rmaps (bytes_found (look_in sh image (visit_of block level)))) asked counts
      → (low ≡ low_of level) × (p ≡ with_pair stack block level)
      → Descending (look_asked asked sh image) limit total asked counts₀ counts' (v + 1) (paths_of p low) × Opened sh image p low levels
  descent-opened {stack = stack} {block = block} {level = level} {h = h} k o less d e wrote w =
      rw (w.0, w.1) (descent-turn stack block level k o less d h e _ wrote)
