-- What an accepted letting go does, from lent bytes to both new lists and the free extents; and 26 is asked last of all.
-- Assumes nothing.
use Prim.Native.Nat.{ℕ}
use mathlib.Core.Bool.{true}
use mathlib.Core.Path.{◌≡◌, refl, subst}
use mathlib.Core.List.{List, [], ◌∷◌, ◌++◌}
use Rattle.codec.specs.Bytes.{IsBytes}
use Rattle.codec.specs.Question.{Values, done, refused, Question, ask}
use Rattle.codec.specs.Records.{records_of, rmaps, refcounts}
use Rattle.codec.specs.Rmaps as rmap
use Rattle.codec.specs.declared.rmap.Rmap.{Rmap}
use Rattle.codec.proofs.Meaning.{AllHold, done-means}
use Rattle.codec.proofs.RecordKinds.{rmaps-lawful, refcounts-lawful}
use Rattle.codec.proofs.ListBytes.{storable-records_of}
use Rattle.lists.specs.Release.{unshared}
use Rattle.lists.proofs.RmapOrder.{good-facts}
use Rattle.lists.proofs.Laws.{GivenUp, remove-gives, LetGo, release-lets}
use Rattle.groups.specs.Joint.{NewLists, fit_all}
use Rattle.groups.specs.LetGo.{letting, let_go_questions, let_go_outcome}
use Rattle.groups.proofs.Asking.{others, last-asked}

module _ (map counts : List ℕ) (x : Rmap) (room counts_room free_room : ℕ) where
  abbrev g : NewLists
  g = letting x (records_of rmaps map) (records_of refcounts counts)

  abbrev room-question : Question
  room-question = ask 26 (fit_all g room counts_room free_room)

  -- a lack of room is told only where every other question holds
  pub room-last : (v : Values) → let_go_outcome map counts x room counts_room free_room ≡ refused 26 v → AllHold (let_go_questions map counts x)
  unfolding let_go_outcome
  room-last v e = (last-asked 26 v (let_go_questions map counts x) room-question g (unfold others in refl) e).0

  -- ---- what an accepted letting go leaves

  pub record Went (w : NewLists) : Type 0 where
    pub map-after : GivenUp x (records_of rmaps map) w.map
    pub counts-after : LetGo x.startblock x.blockcount (records_of refcounts counts) w.counts w.free
    pub free-is : w.free ≡ unshared (records_of refcounts counts) x.startblock x.blockcount

  pub let_go-law : (w : NewLists) → IsBytes map → IsBytes counts → let_go_outcome map counts x room counts_room free_room ≡ done w → Went w
  unfolding let_go_outcome
  let_go-law w hm hc e =
      let k = done-means (let_go_questions map counts x ++ (room-question ∷ [])) g w e in
      let q = k.0 in
      let good : rmap.good x ≡ true = q.1.1.0 in
      let h = good-facts x good in
      subst Went k.1
      (record {
        map-after = remove-gives x (records_of rmaps map) good q.1.1.1.0 q.1.0 (storable-records_of rmaps rmaps-lawful map hm);
        counts-after =
            release-lets x.startblock x.blockcount (records_of refcounts counts) h.1 q.1.1.1.1.1.0
            (storable-records_of refcounts refcounts-lawful counts hc);
        free-is = refl;
      })
