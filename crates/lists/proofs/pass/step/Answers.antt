-- `lists::pass::step` meets its contract.
use lib.ListN.{length}
use Rattle.lists.specs.Inner.Passes.{raises, writes_counts, writes_free}
use Rattle.lists.proofs.Passing.{fill-before}
use Rattle.lists.proofs.pass.step.Goals as goal

pub fill-filled-requires-clause-room : goal.fill-filled-requires-clause-room
fill-filled-requires-clause-room c = let x = c.args in
    (fill-before (raises x.edit.how) (writes_counts x.pass) (writes_free x.pass) x.edit.start x.edit.end x.w x.r x.new.now (length x.free.now) c.requires c.min-z.result c.min-z.ensures).1.1
