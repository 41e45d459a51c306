-- What the call of a lookup says and leaves, from what it comes to.
-- Assumes nothing.
use Prim.Native.Nat.{ℕ}
use mathlib.Core.Path.{◌≡◌, ap}
use mathlib.Core.List.{List}
use lib.ListN.{length}
use Rattle.blocks.specs.declared.geometry.Geometry.{Geometry}
use Rattle.lookup.specs.declared.lookup.LookedUp.{LookedUp}
use Rattle.lookup.specs.declared.refusal.StoppedLookup.{StoppedLookup}
use Rattle.std.specs.Prelude.{Result}
use Rattle.lookup.specs.Lookup.{lookup_of}
use Rattle.lookup.specs.Answer.{Visited, looked_up_report, LookupIs}
use Rattle.tree_calls.specs.LookupFigures.{ReportsVisits, LookupSays}
use Rattle.tree_calls.proofs.Reporting.{reports}

module _ {g g' : Geometry} (image : List ℕ) (root levels : ℕ) (asked : List ℕ) {a r : ℕ} {figures said stack stack' answers answers' : List ℕ} (e : g ≡ g') where
  pub lookup-said : {looked : Result LookedUp StoppedLookup}
      → LookupIs asked (lookup_of g image root levels (length stack) asked (length answers)) looked stack stack' answers answers'
      → ReportsVisits (looked_up_report looked) a figures → (r ≡ a) × (said ≡ figures)
      → LookupSays asked (lookup_of g' image root levels (length stack) asked (length answers)) r said stack stack' answers answers'
  lookup-said is h s =
      rw (← e)
      (record {
        answer = reports h (ap (λ (p : Visited). p.outcome) is.answer) (ap (λ (p : Visited). p.passed) is.answer) s;
        stack_is = is.stack_is;
        answers_are = is.answers_are;
      })
