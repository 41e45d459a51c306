use Rattle.std.proofs.Common.{rules}
use Rattle.codec.specs.Bytes.{bytes_at}
use Rattle.show.proofs.images.part.Goals as goal

pub returns-clause-bytes : goal.returns-clause-bytes
unfolding bytes_at
returns-clause-bytes c = search rules
