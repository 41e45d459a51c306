-- What an accepted take of held blocks does, from lent bytes to both new lists.
-- Assumes nothing.
use Prim.Native.Nat.{ℕ, ◌<◌}
use mathlib.Core.Bool.{true}
use mathlib.Core.Path.{◌≡◌, subst}
use mathlib.Core.List.{List, [], ◌∷◌, ◌++◌}
use Rattle.codec.specs.Bytes.{IsBytes}
use Rattle.codec.specs.Question.{done, ask}
use Rattle.codec.specs.Records.{records_of, RmapFits, rmaps, refcounts}
use Rattle.codec.specs.Rmaps as rmap
use Rattle.codec.specs.declared.rmap.Rmap.{Rmap}
use Rattle.codec.proofs.Meaning.{done-means}
use Rattle.codec.proofs.RecordKinds.{rmaps-lawful, refcounts-lawful}
use Rattle.codec.proofs.ListBytes.{storable-records_of}
use Rattle.lists.specs.Extent.{within}
use Rattle.lists.specs.Holders.{holders}
use Rattle.lists.proofs.RmapOrder.{good-facts}
use Rattle.lists.proofs.Laws.{Taken, insert_shared-takes}
use Rattle.lists.proofs.Holding.{held-means}
use Rattle.lists.proofs.Raising.{Lifted, raise-lifts}
use Rattle.groups.specs.Joint.{NewLists, fit_all}
use Rattle.groups.specs.TakeHeld.{raising, take_held_questions, take_held_outcome}

module _ (map counts : List ℕ) (x : Rmap) (room counts_room : ℕ) where
  abbrev g : NewLists
  g = raising x (records_of rmaps map) (records_of refcounts counts)

  pub record TookAll (w : NewLists) : Type 0 where
    pub map-after : Taken x (records_of rmaps map) w.map
    pub counts-after : Lifted x.startblock x.blockcount (records_of refcounts counts) w.counts
    pub all_held : (b : ℕ) → 0 < within x.startblock x.blockcount 1 b → 0 < holders (records_of rmaps map) b

  pub take_held-law : (w : NewLists) → IsBytes map → IsBytes counts → RmapFits x → take_held_outcome map counts x room counts_room ≡ done w → TookAll w
  unfolding take_held_outcome
  take_held-law w hm hc f e =
      let k = done-means (take_held_questions map counts x ++ (ask 26 (fit_all g room counts_room 0) ∷ [])) g w e in
      let q = k.0 in
      let good : rmap.good x ≡ true = q.1.1.1.1.0 in
      let h = good-facts x good in
      subst TookAll k.1
      (record {
        map-after = insert_shared-takes x (records_of rmaps map) good q.1.1.1.1.1.0 q.1.0 f (storable-records_of rmaps rmaps-lawful map hm);
        counts-after =
            raise-lifts x.startblock x.blockcount (records_of refcounts counts) h.1 q.1.1.1.0 q.1.1.1.1.1.1.1.1.0
            (storable-records_of refcounts refcounts-lawful counts hc);
        all_held = held-means (records_of rmaps map) x.startblock x.blockcount q.1.1.1.1.1.1.1.0;
      })
