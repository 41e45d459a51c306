-- `lists::write::put_piece` meets its contract.
use native.Mathlib.Omega.{arith}
use Rattle.lists.proofs.Writing.{piece_bytes, wrote-piece, wrote_nothing}
use Rattle.lists.proofs.write.put_piece.Goals as goal

pub encode-requires : goal.encode-requires
encode-requires c = omega (arith, piece_bytes c.args.piece _ c.in-Some.is)

pub returns-in-Some : goal.returns-in-Some
returns-in-Some c = wrote-piece c.args.piece _ _ _ _ c.in-Some.is c.encode.ensures

pub returns-in-None : goal.returns-in-None
returns-in-None c = wrote_nothing c.args.piece _ _ c.in-None.is
