-- In an accepted list each extent comes before every later one: by block it starts before it.
-- Assumes nothing.
use Prim.Native.Nat.{ℕ, zero, suc, ◌<◌}
use native.Mathlib.Omega.{arith}
use mathlib.Core.Path.{◌≡◌}
use mathlib.Core.Bool.{true}
use mathlib.Core.List.{List, [], ◌∷◌}
use lib.ListN.{length, get_or}
use Rattle.codec.specs.Accepted.{in_order}
use Rattle.codec.specs.declared.free_extent.FreeExtent.{FreeExtent}
use Rattle.free.specs.declared.order.Order.{Order}
use Rattle.free.specs.declared.order.Order.TheVariants.{ByBlock}
use Rattle.free.specs.Free.{good, follows, least, accepted}
use Rattle.free.specs.Inner.Searches.{start_of}
use Rattle.free.proofs.Cases.{tests, conj}
use Rattle.free.proofs.Extents.{before, before-trans, follows-before}

module _ (o : Order) where
  pub after_first : (q : FreeExtent) (l : List FreeExtent) → good q ≡ true → in_order good (follows o) q l ≡ true → (j : ℕ) → j < length l → before o q (get_or l j least) ≡ true
  unfolding in_order
  after_first q [] g a j h = absurd (omega arith)
  after_first q (r ∷ l) g a zero h = let f : follows o q r ≡ true = search conj in follows-before o q r g f
  after_first q (r ∷ l) g a (suc j) h =
      let k : good r ≡ true = search conj in
      let f : follows o q r ≡ true = search conj in
      let t : in_order good (follows o) r l ≡ true = search conj in
      before-trans o q r (get_or l j least) (follows-before o q r g f) (after_first r l k t j (omega arith))

  in_order_lem : (q : FreeExtent) (l : List FreeExtent) → in_order good (follows o) q l ≡ true
      → (i j : ℕ) → i < j → j < length l → before o (get_or l i least) (get_or l j least) ≡ true
  unfolding in_order
  in_order_lem q [] a i j h b = absurd (omega arith)
  in_order_lem q (r ∷ l) a i zero h b = absurd (omega arith)
  in_order_lem q (r ∷ l) a zero (suc j) h b =
      let k : good r ≡ true = search conj in
      let t : in_order good (follows o) r l ≡ true = search conj in
      after_first r l k t j (omega arith)
  in_order_lem q (r ∷ l) a (suc i) (suc j) h b = let t : in_order good (follows o) r l ≡ true = search conj in in_order_lem r l t i j (omega arith) (omega arith)

pub starts-ascend : (l : List FreeExtent) → accepted ByBlock l ≡ true → (i j : ℕ) → i < j → j < length l → start_of l i < start_of l j
unfolding before
starts-ascend l a i j h b = let t : before ByBlock (get_or l i least) (get_or l j least) ≡ true = in_order_lem ByBlock least l a i j h b in omega tests
