-- Laws of the walk: one visit against the definition, and what a walk keeps from visit to visit.
-- Assumes nothing.
use Prim.Native.Nat.{ℕ, zero, suc, ◌+◌, ◌-◌, ◌/◌, ◌^◌, ◌≤◌, ◌<◌}
use native.Mathlib.Nat.{add-zero}
use native.Mathlib.Omega.{arith}
use mathlib.Core.Path.{◌≡◌, refl, sym, ap, ap₂, ◌∙◌}
use mathlib.Core.List.{List, [], ◌∷◌, ◌++◌, append_assoc, append-nil}
use mathlib.Core.Bool.{Bool, true, false, cond, ◌&&◌, and-false}
use lib.ListN.{length, take, drop, length-append, take-append-drop}
use lib.Seq.{length-take-le, drop-drop}
use lib.Dec.{ltb, leb}
use borrow.Author.Tests.{lt-ltb, le-ltb, le-leb, lt-leb, ltb-true, ltb-false, leb-true}
use Rattle.codec.specs.Bytes.{with_bytes}
use Rattle.codec.specs.Question.{Values, none, done, refused}
use Rattle.codec.proofs.Parts.{length-with_bytes}
use Rattle.codec.proofs.Stores.{with_bytes-is, take-with_bytes, drop-with_bytes}
use Rattle.walks.specs.declared.visit.Count.{Count}
use Rattle.walks.specs.Walk.{Visit, Look, bad, good, Trace, finished, spent, failed, met, after, run, fit, visits, records}
use Rattle.walks.specs.OneVisit.{place_of, seen_of, next_of, step_of}
use Rattle.walks.specs.WalkCall.{Counts, Report, report_of, if_finished}
use Rattle.walks.specs.Underway.{rest_of, end_of, Walking}
use Rattle.walks.proofs.LevelLaws.{visit-place, seen-append}

-- ---- one visit's step

module _ (places room : ℕ) (c : Count) (below : List Visit) (bytes : List ℕ) where
  pub step-full : places ≤ c.visits → step_of places room c (good below bytes) ≡ refused 15 none
  unfolding step_of
  step-full h = rw (le-ltb c.visits places h)

  pub step-no-room : room - c.bytes < length bytes → step_of places room c (good below bytes) ≡ refused 15 none
  unfolding step_of
  step-no-room h = rw (lt-leb (length bytes) (room - c.bytes) h, and-false (ltb c.visits places))

  pub step-next : c.visits < places → length bytes ≤ room - c.bytes → step_of places room c (good below bytes) ≡ done (next_of c bytes)
  unfolding step_of
  step-next p q = rw (lt-ltb c.visits places p, le-leb (length bytes) (room - c.bytes) q)

  -- what an accepted visit tells
  pub step-good : (n : Count) → step_of places room c (good below bytes) ≡ done n → (c.visits < places) × (length bytes ≤ room - c.bytes) × (n ≡ next_of c bytes)
  unfolding step_of
  step-good n h = go (ltb c.visits places) (leb (length bytes) (room - c.bytes)) refl refl h
    where
      go : (x y : Bool) → ltb c.visits places ≡ x → leb (length bytes) (room - c.bytes) ≡ y → cond (x && y) (done (next_of c bytes)) (refused 15 none) ≡ done n
          → (c.visits < places) × (length bytes ≤ room - c.bytes) × (n ≡ next_of c bytes)
      go true true p q e = (ltb-true c.visits places p, leb-true (length bytes) (room - c.bytes) q, cc)
      go true false p q e = cc
      go false y p q e = cc

  -- and a refused one
  pub step_cut : (n : ℕ) (x : Values) → step_of places room c (good below bytes) ≡ refused n x
      → ((ltb 0 (places - c.visits) && leb (length bytes) (room - c.bytes)) ≡ false) × (n ≡ 15) × (x ≡ none)
  unfolding step_of
  step_cut n x h = go (ltb c.visits places) (leb (length bytes) (room - c.bytes)) refl refl h
    where
      go : (f g : Bool) → ltb c.visits places ≡ f → leb (length bytes) (room - c.bytes) ≡ g → cond (f && g) (done (next_of c bytes)) (refused 15 none) ≡ refused n x
          → ((ltb 0 (places - c.visits) && leb (length bytes) (room - c.bytes)) ≡ false) × (n ≡ 15) × (x ≡ none)
      go true true p q e = cc
      go true false p q e = (rw (q, and-false (ltb 0 (places - c.visits))), cc, cc)
      go false g p q e = (rw (le-ltb 0 (places - c.visits) (omega (arith, ltb-false c.visits places p))), cc, cc)

-- an accepted visit is one visit more
pub step_count : (places room : ℕ) (c n : Count) (l : Look) → step_of places room c l ≡ done n → n.visits ≡ c.visits + 1
unfolding step_of
step_count places room c n (bad k x) e = cc
step_count places room c n (good below bytes) e = ap (λ (k : Count). k.visits) (step-good places room c below bytes n e).2

-- ---- the walk of what is still due, after v blocks and b bytes

pub rest-done : (look : Visit → Look) (limit places room v b : ℕ) → rest_of look limit places room v b [] ≡ finished
unfolding rest_of run fit
rest-done look limit places room v b = go (limit - v)
  where
    go : (n : ℕ) → fit (places - v) (room - b) (run look n []) ≡ finished
    go zero = refl
    go (suc n) = refl

module _ (look : Visit → Look) (limit places room v b : ℕ) (x : Visit) (due : List Visit) where
  pub rest-spent : limit ≤ v → rest_of look limit places room v b (x ∷ due) ≡ spent
  unfolding rest_of run fit
  rest-spent h = let z : limit - v ≡ 0 = omega arith in rw z

  rest-after : v < limit → rest_of look limit places room v b (x ∷ due)
      ≡ fit (places - v) (room - b) (after x (λ below. run look (limit - (v + 1)) (below ++ due)) (look x))
  unfolding rest_of run
  rest-after h = let e : limit - v ≡ suc (limit - (v + 1)) = omega arith in rw e

  -- a block that is read is the walk's next one
  pub rest-good : v < limit → (below : List Visit) (bytes : List ℕ) → look x ≡ good below bytes → v < places → length bytes ≤ room - b
      → rest_of look limit places room v b (x ∷ due) ≡ met x bytes (rest_of look limit places room (v + 1) (b + length bytes) (below ++ due))
  unfolding rest_of fit
  rest-good h below bytes e p q =
      let t : Trace = run look (limit - (v + 1)) (below ++ due) in
      let f : ltb 0 (places - v) ≡ true = lt-ltb 0 (places - v) (omega arith) in
      let g : leb (length bytes) (room - b) ≡ true = le-leb (length bytes) (room - b) q in
      let m : places - v - 1 ≡ places - (v + 1) = omega arith in
      let n : room - b - length bytes ≡ room - (b + length bytes) = omega arith in
      rest-after h ∙ rw (e, f, g) (ap₂ (λ (m n : ℕ). met x bytes (fit m n t)) m n)

  -- a block that is refused ends it
  pub rest-stop : v < limit → (n : ℕ) (y : Values) → step_of places room (record { visits = v; bytes = b }) (look x) ≡ refused n y
      → rest_of look limit places room v b (x ∷ due) ≡ failed n y
  unfolding fit step_of
  rest-stop h n y e = rest-after h ∙ go (look x) e
    where
      c : Count
      c = record { visits = v; bytes = b }

      k : List Visit → Trace
      k below = run look (limit - (v + 1)) (below ++ due)

      go : (l : Look) → step_of places room c l ≡ refused n y → fit (places - v) (room - b) (after x k l) ≡ failed n y
      go (bad m z) f = cc
      go (good below bytes) f =
          let s = step_cut places room c below bytes n y f in
          rw s.0 (ap₂ failed (sym s.1) (sym s.2))

-- ---- the report of a walk from so many blocks and bytes on

module _ (w v b : ℕ) where
  pub end-finished : end_of w v b finished ≡ record { outcome = done (record { visits = v; records = b / w; bytes = b }); passed = v }
  unfolding report_of visits records
  end-finished = rw (add-zero v, add-zero b)

  pub end-spent : end_of w v b spent ≡ record { outcome = refused 13 none; passed = v }
  unfolding report_of visits records
  end-spent = rw (add-zero v)

  pub end-failed : (n : ℕ) (y : Values) → end_of w v b (failed n y) ≡ record { outcome = refused n y; passed = v + 1 }
  unfolding report_of visits records
  end-failed n y = rw (add-zero v)

  pub end-met : (x : Visit) (bytes : List ℕ) (t : Trace) → end_of w v b (met x bytes t) ≡ end_of w (v + 1) (b + length bytes) t
  unfolding report_of visits records
  end-met x bytes t =
      let m : v + suc (length (visits t)) ≡ v + 1 + length (visits t) = omega arith in
      let n : b + length (bytes ++ records t) ≡ b + length bytes + length (records t) = omega (arith, length-append bytes (records t)) in
      ap₂ (λ (m n : ℕ). report_of w m n t) m n

pub end_whole : (w : ℕ) (t : Trace) → end_of w 0 0 t ≡ report_of w (length (visits t)) (length (records t)) t
end_whole w t =
    let m : 0 + length (visits t) ≡ length (visits t) = omega arith in
    let n : 0 + length (records t) ≡ length (records t) = omega arith in
    ap₂ (λ (m n : ℕ). report_of w m n t) m n

-- a report of counts is a finished walk's, and a refusal is not
pub finished-is : {A : Type 0} (w v b : ℕ) (t : Trace) (k : Counts) (p : ℕ) (x y : A) → report_of w v b t ≡ record { outcome = done k; passed = p } → if_finished t x y ≡ x
unfolding report_of
finished-is w v b finished k p x y e = refl
finished-is w v b spent k p x y e = cc (ap (λ (r : Report). r.outcome) e)
finished-is w v b (failed n u) k p x y e = cc (ap (λ (r : Report). r.outcome) e)
finished-is w v b (met u bytes t) k p x y e = finished-is w v b t k p x y e

pub refused-is : {A : Type 0} (w v b : ℕ) (t : Trace) (n : ℕ) (u : Values) (p : ℕ) (x y : A) → report_of w v b t ≡ record { outcome = refused n u; passed = p } → if_finished t x y ≡ y
unfolding report_of
refused-is w v b finished n u p x y e = cc (ap (λ (r : Report). r.outcome) e)
refused-is w v b spent n u p x y e = refl
refused-is w v b (failed m z) n u p x y e = refl
refused-is w v b (met z bytes t) n u p x y e = refused-is w v b t n u p x y e

-- ---- what a walk keeps from visit to visit

module _ {look : Visit → Look} {limit places room w : ℕ} {total : Trace} {out₀ scratch out : List ℕ} {v b : ℕ} {due : List Visit}
    (k : Walking look limit places room w total out₀ scratch out v b due) where
  -- no visits are left
  pub walking-spent : (x : Visit) (later : List Visit) → due ≡ x ∷ later → limit ≤ v → record { outcome = refused 13 none; passed = v } ≡ end_of w 0 0 total
  walking-spent x later d h =
      sym (k.ended
      ∙ ap (λ (u : List Visit). end_of w v b (rest_of look limit places room v b u)) d
      ∙ ap (end_of w v b) (rest-spent look limit places room v b x later h)
      ∙ end-spent w v b)

  -- the next block is refused
  pub walking-stop : (x : Visit) (later : List Visit) → due ≡ x ∷ later → v < limit → (n : ℕ) (y : Values)
      → step_of places room (record { visits = v; bytes = b }) (look x) ≡ refused n y → record { outcome = refused n y; passed = v + 1 } ≡ end_of w 0 0 total
  walking-stop x later d h n y e =
      sym (k.ended
      ∙ ap (λ (u : List Visit). end_of w v b (rest_of look limit places room v b u)) d
      ∙ ap (end_of w v b) (rest-stop look limit places room v b x later h n y e)
      ∙ end-failed w v b n y)

  -- nothing is due
  walking-rest : due ≡ [] → rest_of look limit places room v b due ≡ finished
  walking-rest d = ap (rest_of look limit places room v b) d ∙ rest-done look limit places room v b

  pub walking-ended : due ≡ [] → record { outcome = done (record { visits = v; records = b / w; bytes = b }); passed = v } ≡ end_of w 0 0 total
  walking-ended d = sym (k.ended ∙ ap (end_of w v b) (walking-rest d) ∙ end-finished w v b)

  pub walking-seen : due ≡ [] → seen_of (take v scratch) ≡ visits total
  unfolding visits
  walking-seen d =
      sym (k.seen ∙ ap (λ (t : Trace). seen_of (take v scratch) ++ visits t) (walking-rest d) ∙ append-nil (seen_of (take v scratch)))

  pub walking-read : due ≡ [] → out ≡ with_bytes out₀ 0 (records total)
  unfolding records
  walking-read d =
      let r : records total ≡ take b out = k.read ∙ ap (λ (t : Trace). take b out ++ records t) (walking-rest d) ∙ append-nil (take b out) in
      let l : length (records total) ≡ b = ap length r ∙ length-take-le b out (omega (arith, k.stored, k.size)) in
      let m : b ≡ 0 + length (records total) = omega arith in
      sym (take-append-drop b out)
      ∙ ap₂ (λ (p q : List ℕ). p ++ q) (sym r) (k.tail ∙ ap (λ (n : ℕ). drop n out₀) m)
      ∙ sym (with_bytes-is out₀ 0 (records total))

  -- the next block is read
  pub walking-next : (x : Visit) (later below : List Visit) (bytes scratch' out' : List ℕ) (due' : List Visit) → due ≡ x ∷ later → v < limit → x.block < 2 ^ 32
      → look x ≡ good below bytes → v < places → length bytes ≤ room - b
      → scratch' ≡ with_bytes scratch v (place_of x ∷ []) → out' ≡ with_bytes out b bytes → due' ≡ below ++ later
      → Walking look limit places room w total out₀ scratch' out' (v + 1) (b + length bytes) due'
  unfolding visits records seen_of
  walking-next x later below bytes scratch' out' due' d h x32 e p q noted copied pushed =
      let rest : Trace = rest_of look limit places room (v + 1) (b + length bytes) due' in
      let R : rest_of look limit places room v b due ≡ met x bytes rest =
      ap (rest_of look limit places room v b) d
      ∙ rest-good look limit places room v b x later h below bytes e p q
      ∙ ap (λ (u : List Visit). met x bytes (rest_of look limit places room (v + 1) (b + length bytes) u)) (sym pushed) in
      let f : v + 1 ≤ length scratch = omega (arith, k.noting) in
      let g : b + length bytes ≤ length out = omega (arith, k.stored, k.size) in
      let T : seen_of (take (v + 1) scratch') ≡ seen_of (take v scratch) ++ (x ∷ []) =
      ap (λ (s : List ℕ). seen_of (take (v + 1) s)) noted
      ∙ ap seen_of (take-with_bytes scratch v (place_of x ∷ []) f)
      ∙ seen-append (take v scratch) (place_of x ∷ [])
      ∙ ap (λ (y : Visit). seen_of (take v scratch) ++ (y ∷ [])) (visit-place x x32) in
      record {
        ended = k.ended ∙ ap (end_of w v b) R ∙ end-met w v b x bytes rest;
        seen =
            k.seen
            ∙ ap (λ (t : Trace). seen_of (take v scratch) ++ visits t) R
            ∙ sym (append_assoc (seen_of (take v scratch)) (x ∷ []) (visits rest))
            ∙ ap (λ (t : List Visit). t ++ visits rest) (sym T);
        read =
            k.read
            ∙ ap (λ (t : Trace). take b out ++ records t) R
            ∙ sym (append_assoc (take b out) bytes (records rest))
            ∙ ap (λ (t : List ℕ). t ++ records rest) (sym (ap (take (b + length bytes)) copied ∙ take-with_bytes out b bytes g));
        tail =
            ap (drop (b + length bytes)) copied
            ∙ drop-with_bytes out b bytes g
            ∙ sym (drop-drop (length bytes) b out)
            ∙ ap (drop (length bytes)) k.tail
            ∙ drop-drop (length bytes) b out₀;
        within = omega arith;
        placed = omega arith;
        stored = omega (arith, k.stored);
        size = ap length copied ∙ length-with_bytes out b bytes g ∙ k.size;
        noting = omega (arith, k.noting, ap length noted ∙ length-with_bytes scratch v (place_of x ∷ []) f);
      }

-- before the first visit
pub walking-first : (look : Visit → Look) (limit places w : ℕ) (scratch out : List ℕ) (due : List Visit) → places ≤ length scratch
    → Walking look limit places (length out) w (fit places (length out) (run look limit due)) out scratch out 0 0 due
unfolding rest_of visits records seen_of
walking-first look limit places w scratch out due noting =
    let x : places - 0 ≡ places = omega arith in
    let y : length out - 0 ≡ length out = omega arith in
    let z : limit - 0 ≡ limit = omega arith in
    let R : rest_of look limit places (length out) 0 0 due ≡ fit places (length out) (run look limit due) =
    ap₂ (λ (a b : ℕ). fit a b (run look (limit - 0) due)) x y ∙ ap (λ (k : ℕ). fit places (length out) (run look k due)) z in
    record {
      ended = ap (end_of w 0 0) (sym R);
      seen = ap visits (sym R);
      read = ap records (sym R);
      tail = refl;
      within = omega arith;
      placed = omega arith;
      stored = omega arith;
      size = refl;
      noting = noting;
    }
