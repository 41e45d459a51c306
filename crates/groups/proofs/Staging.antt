-- What lets go and takes of held blocks leave in the counts besides the owners: every join is made, and staging lies over the same blocks.
-- Assumes nothing.
use Prim.Native.Nat.{ℕ}
use mathlib.Core.Path.{◌≡◌, subst}
use mathlib.Core.List.{List, [], ◌∷◌, ◌++◌}
use Rattle.codec.specs.Bytes.{IsBytes}
use Rattle.codec.specs.Question.{done, ask}
use Rattle.codec.specs.Records.{records_of, rmaps, refcounts}
use Rattle.codec.specs.declared.rmap.Rmap.{Rmap}
use Rattle.codec.proofs.Meaning.{done-means}
use Rattle.codec.proofs.RecordKinds.{refcounts-lawful}
use Rattle.codec.proofs.ListBytes.{storable-records_of}
use Rattle.lists.specs.Settled.{Settled}
use Rattle.lists.proofs.RmapOrder.{good-facts}
use Rattle.lists.proofs.Settling.{release-settles, raise-settles}
use Rattle.groups.specs.Joint.{NewLists, fit_all}
use Rattle.groups.specs.LetGo.{letting, let_go_questions, let_go_outcome}
use Rattle.groups.specs.TakeHeld.{raising, take_held_questions, take_held_outcome}

module _ (map counts : List ℕ) (x : Rmap) (small : IsBytes counts) where
  pub let_go-settles : (room counts_room free_room : ℕ) (w : NewLists) → let_go_outcome map counts x room counts_room free_room ≡ done w
      → Settled (records_of refcounts counts) w.counts
  unfolding let_go_outcome
  let_go-settles room counts_room free_room w e =
      let g : NewLists = letting x (records_of rmaps map) (records_of refcounts counts) in
      let k = done-means (let_go_questions map counts x ++ (ask 26 (fit_all g room counts_room free_room) ∷ [])) g w e in
      let q = k.0 in
      subst (λ (w : NewLists). Settled (records_of refcounts counts) w.counts) k.1
      (release-settles x.startblock x.blockcount (records_of refcounts counts) (good-facts x q.1.1.0).1 q.1.1.1.1.1.0
      (storable-records_of refcounts refcounts-lawful counts small))

  pub take_held-settles : (room counts_room : ℕ) (w : NewLists) → take_held_outcome map counts x room counts_room ≡ done w
      → Settled (records_of refcounts counts) w.counts
  unfolding take_held_outcome
  take_held-settles room counts_room w e =
      let g : NewLists = raising x (records_of rmaps map) (records_of refcounts counts) in
      let k = done-means (take_held_questions map counts x ++ (ask 26 (fit_all g room counts_room 0) ∷ [])) g w e in
      let q = k.0 in
      subst (λ (w : NewLists). Settled (records_of refcounts counts) w.counts) k.1
      (raise-settles x.startblock x.blockcount (records_of refcounts counts) (good-facts x q.1.1.1.1.0).1 q.1.1.1.0
      (storable-records_of refcounts refcounts-lawful counts small))
