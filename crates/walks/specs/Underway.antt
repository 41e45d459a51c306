-- A walk under way: what was read of it lies in the lent memory, and the walk of what is still due is the rest of it.
-- Assumes nothing.
use Rattle.std.specs.Prelude.{ℕ, ◌+◌, ◌-◌, ◌≤◌, ◌≡◌, List, ◌++◌, length, take, drop}
use Rattle.walks.specs.Walk.{Visit, Look, Trace, run, fit, visits, records}
use Rattle.walks.specs.WalkCall.{Report, report_of}
use Rattle.walks.specs.OneVisit.{seen_of}

-- the walk of what is due after v blocks and b bytes, of at most limit visits in all, with lists of so many places and bytes
unfoldable pub rest_of : (Visit → Look) → ℕ → ℕ → ℕ → ℕ → ℕ → List Visit → Trace
rest_of look limit places room v b due = fit (places - v) (room - b) (run look (limit - v) due)

-- the report of a walk after v blocks and b bytes, for records of w bytes
abbrev pub end_of : ℕ → ℕ → ℕ → Trace → Report
end_of w v b t = report_of w (v + length (visits t)) (b + length (records t)) t

-- after v blocks and b bytes: the whole walk is what was read, in the lent memory, and the walk of what is still due
pub record Walking (look : Visit → Look) (limit places room w : ℕ) (total : Trace) (out₀ scratch out : List ℕ) (v b : ℕ) (due : List Visit) : Type 0 where
  pub ended : end_of w 0 0 total ≡ end_of w v b (rest_of look limit places room v b due)
  pub seen : visits total ≡ seen_of (take v scratch) ++ visits (rest_of look limit places room v b due)
  pub read : records total ≡ take b out ++ records (rest_of look limit places room v b due)
  pub tail : drop b out ≡ drop b out₀
  pub within : v ≤ limit
  pub placed : v ≤ places
  pub stored : b ≤ room
  pub size : length out ≡ room
  pub noting : places ≤ length scratch
