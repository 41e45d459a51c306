-- `EveryWalk`: a finished walk is the walk of a tree that stands in the image.
-- Assumes nothing.
use Prim.Native.Nat.{ℕ, ◌-◌, max}
use mathlib.Core.Path.{◌≡◌, refl, sym, ap, ◌∙◌}
use mathlib.Core.Bool.{Bool, true, false, cond, ◌&&◌}
use mathlib.Core.List.{List, [], ◌∷◌, append-nil}
use lib.ListN.{length}
use lib.Dec.{ltb, leb}
use Rattle.codec.specs.Question.{none, Outcome, done, refused}
use Rattle.codec.proofs.Meaning.{done-means}
use Rattle.blocks.specs.declared.geometry.Geometry.{Geometry}
use Rattle.blocks.specs.declared.kind.TreeKind.{TreeKind}
use Rattle.walks.specs.Walk.{Visit, visit_of, Look, Trace, finished, spent, failed, met, run, fit, visits, records, ending, look_in}
use Rattle.walks.specs.WalkCall.{Counts, report_of, report, Lent, walk_in, walk_questions, walk_of}
use Rattle.walks.specs.Shapes.{shape_of}
use Rattle.walks.specs.Forest.{blocks_in, bytes_in, through, ReadTree, EveryWalk}
use Rattle.walks.proofs.ForestLaws.{Finished, forest-of, walk-whole, through-visits, through-records}

-- a walk that finished with lists of so many places and bytes is the walk without them
pub fit-finished : (p r : ℕ) (t : Trace) → ending (fit p r t) ≡ finished → (fit p r t ≡ t) × Finished t
unfolding fit ending
fit-finished p r finished e = (refl, tt)
fit-finished p r spent e = cc
fit-finished p r (failed n x) e = cc
fit-finished p r (met v b t) e = go (ltb 0 p && leb (length b) r) (fit-finished (p - 1) (r - length b) t) e
  where
    go : (c : Bool) → (ending (fit (p - 1) (r - length b) t) ≡ finished → (fit (p - 1) (r - length b) t ≡ t) × Finished t)
        → ending (cond c (met v b (fit (p - 1) (r - length b) t)) (failed 15 none)) ≡ finished
        → (cond c (met v b (fit (p - 1) (r - length b) t)) (failed 15 none) ≡ met v b t) × Finished t
    go true rec f = (ap (met v b) (rec f).0, (rec f).1)
    go false rec f = cc

-- over any way to look at a block
run-reads : (look : Visit → Look) (limit places room : ℕ) (root : Visit) (t : Trace)
    → fit places room (run look limit (root ∷ [])) ≡ t → ending t ≡ finished → ReadTree look root t
unfolding visits records
run-reads look limit places room root t e h =
    let f = fit-finished places room (run look limit (root ∷ [])) (ap ending e ∙ h) in
    let o = forest-of look limit (root ∷ []) f.1 in
    let q : t ≡ through o.0 finished =
    sym e ∙ f.0 ∙ ap (run look limit) (sym o.1) ∙ walk-whole look o.0 limit o.2 o.3 in
    record {
      forest = o.0;
      rooted = o.1;
      stands = o.2;
      visited = ap visits q ∙ through-visits o.0 finished ∙ append-nil (blocks_in o.0);
      in_order = ap records q ∙ through-records o.0 finished ∙ append-nil (bytes_in o.0);
    }

-- ---- a call

-- counts are the answer of a walk that finished
counts_end : (w v b : ℕ) (t : Trace) (c : Counts) → (report_of w v b t).outcome ≡ done c → ending t ≡ finished
unfolding report_of ending
counts_end w v b finished c e = refl
counts_end w v b spent c e = cc
counts_end w v b (failed n x) c e = cc
counts_end w v b (met u bytes t) c e = counts_end w v b t c e

counts-finish : (w : ℕ) (c : Counts) (o : Outcome Trace) → (report w o).outcome ≡ done c → (t : Trace) × (o ≡ done t) × (ending t ≡ finished)
counts-finish w c (done t) e = (t, refl, counts_end w (length (visits t)) (length (records t)) t c e)
counts-finish w c (refused n x) e = cc

walk-reads : (g : Geometry) (kind : TreeKind) (image : List ℕ) (root levels : ℕ) (m : Lent) (t : Trace) → walk_of g kind image root levels m ≡ done t → ending t ≡ finished
    → ReadTree (look_in (shape_of g kind) image) (visit_of root (levels - 1)) t
unfolding walk_in
walk-reads g kind image root levels m t e h =
    run-reads (look_in (shape_of g kind) image) (max g.agblocks 64) m.blocks m.bytes (visit_of root (levels - 1)) t
    (done-means (walk_questions g levels m) (walk_in (shape_of g kind) image root levels (max g.agblocks 64) m.blocks m.bytes) t e).1 h

pub every-walk : EveryWalk
every-walk g kind image root levels m =
    record { reads = walk-reads g kind image root levels m; finishes = λ w c e. counts-finish w c (walk_of g kind image root levels m) e }
