-- `lists::join::push` meets its contract.
use native.Mathlib.Omega.{arith}
use Rattle.lists.specs.Inner.Passes.{writes_counts}
use Rattle.lists.proofs.CountJoins.{share-none, share-zero, push-none, joined-short, push-join, push-next}
use borrow.Author.Rules.{rules}
use Rattle.lists.proofs.join.push.Goals as goal

pub returns-then-z-a : goal.returns-then-z-a
returns-then-z-a c = push-none _ _ _ _ _ c.requires.fits (search rules) (share-none _ _ _ (search rules))

pub returns-then-n-eq0 : goal.returns-then-n-eq0
returns-then-n-eq0 c = push-none _ _ _ _ _ c.requires.fits (search rules) (share-zero _ _ _ (search rules))

pub overflow_add-result : goal.overflow_add-result
overflow_add-result c = let x = c.args in
    let p = c.requires in
    omega (arith, joined-short (writes_counts x.pass) x.j x.a x.z x.n (search rules) (search rules) p.lies p.fits p.a_le_z.1 (cc))

pub returns-then-goes_on : goal.returns-then-goes_on
returns-then-goes_on c = let p = c.requires in push-join _ _ _ _ _ (search rules) (search rules) p.lies p.fits p.a_le_z.1 _ (cc)

pub returns : goal.returns
returns c = let p = c.requires in push-next _ _ _ _ _ (search rules) (search rules) p.lies p.fits p.a_le_z.1 _ _ _ p.room (cc) c.finish-at.ensures.value c.finish-at.ensures.after
