-- `blocks::stamp::stamp_identity` meets its contract: writes, one after the other, are one.
use borrow.Author.Rules.{rules}
use mathlib.Core.Path.{◌≡◌, refl, ap, ◌∙◌}
use mathlib.Core.List.{◌++◌}
use native.Mathlib.Omega.{arith}
use lib.ListN.{length}
use Rattle.codec.specs.Bytes.{be_bytes}
use Rattle.blocks.proofs.Heads.{with_bytes-two}
use Rattle.blocks.specs.Offsets.{blkno_at, lsn_at, uuid_at, owner_at}
use Rattle.blocks.specs.Geometry.{linear_of, address_of}
use Rattle.blocks.proofs.Laws.{address-fits}
use Rattle.blocks.proofs.stamp.stamp_identity.Goals as goal

pub address-requires : goal.address-requires
address-requires c =
    let a = c.args in
    rw c.linear.ensures (address-fits a.g c.requires.0 a.block.0 (search rules))

pub copy-requires : goal.copy-requires
copy-requires c =
    let uuid_long : length c.args.g.meta_uuid ≡ 16 = search rules in
    omega (arith, uuid_long, c.requires.1)

pub returns : goal.returns
unfolding be_bytes
returns c =
    let uuid_long : length c.args.g.meta_uuid ≡ 16 = search rules in
    let a = c.args in
    let b = a.b.now in
    let d = be_bytes 8 c.address.result.0 in
    let u = a.g.meta_uuid in
    let long : length u ≡ 16 = uuid_long in
    let at : c.address.result.0 ≡ address_of a.g (linear_of a.g a.block.0) =
    c.address.ensures ∙ ap (address_of a.g) c.linear.ensures in
    let two = with_bytes-two b blkno_at d (be_bytes 8 a.g.last_lsn) _ _ lsn_at c.put_be64.ensures c.put_be64-2.ensures refl (omega arith) in
    let three = with_bytes-two b blkno_at (d ++ be_bytes 8 a.g.last_lsn) u _ _ uuid_at two c.copy.ensures refl (omega arith) in
    rw (← at)
    (with_bytes-two b blkno_at (d ++ be_bytes 8 a.g.last_lsn ++ u) (be_bytes 4 a.g.agno) _ _ owner_at three c.put_be32.ensures (omega arith) (omega arith))
