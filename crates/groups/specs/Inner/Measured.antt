-- What the first half of an edit of both lists promises: all questions but 26 are asked, the new reverse map is prepared, and what is to be written
-- is measured.
-- Assumes nothing.
use Rattle.std.specs.Prelude.{ℕ, ◌≡◌, List, Result, Ok, Err}
use Rattle.codec.specs.Question.{none, done, refused, Question, answer}
use Rattle.codec.specs.Records.{records_of, rmaps, refcounts}
use Rattle.codec.specs.declared.rmap.Rmap.{Rmap}
use Rattle.lists.specs.declared.EditRefusal.{EditRefusal}
use Rattle.lists.specs.Answer.{edit_number}
use Rattle.lists.specs.Splice.{list_of, SpliceGood}
use Rattle.groups.specs.declared.measured.Measure.{Measure}
use Rattle.groups.specs.Joint.{NewLists}
use Rattle.groups.specs.LetGo.{letting, let_go_questions}
use Rattle.groups.specs.TakeHeld.{raising, take_held_questions}
use Rattle.groups.specs.Answer.{sizes}

-- the questions hold, and m is a splice and a measure of g, whose reverse map comes of the old one l
pub record ReadyIs (qs : List Question) (g : NewLists) (l : List Rmap) (m : Measure) : Type 0 where
  pub asked : answer qs (done g) ≡ done g
  pub splice : SpliceGood l m.splice
  pub list : list_of l m.splice ≡ g.map
  pub measured : m.sizes ≡ sizes g

abbrev pub MeasuredIs : List Question → NewLists → List Rmap → Result Measure EditRefusal → Type 0
MeasuredIs qs g l (Err q) = answer qs (done g) ≡ refused (edit_number q) none
MeasuredIs qs g l (Ok m) = ReadyIs qs g l m

abbrev pub LetGoMeasured : List ℕ → List ℕ → Rmap → Result Measure EditRefusal → Type 0
LetGoMeasured map counts x r =
    let m : List Rmap = records_of rmaps map in
    MeasuredIs (let_go_questions map counts x) (letting x m (records_of refcounts counts)) m r

abbrev pub TakeHeldMeasured : List ℕ → List ℕ → Rmap → Result Measure EditRefusal → Type 0
TakeHeldMeasured map counts x r =
    let m : List Rmap = records_of rmaps map in
    MeasuredIs (take_held_questions map counts x) (raising x m (records_of refcounts counts)) m r
