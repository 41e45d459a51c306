-- `trees::build::Source::stamp_at` meets its contract.
use Rattle.trees.proofs.build.Source.stamp_at.Goals as goal

pub returns : goal.returns
returns c = c.stamp.ensures
