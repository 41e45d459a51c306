-- `blocks::stamp::stamp` meets its contract: the two parts are one write, and the check is put over it.
use borrow.Author.Rules.{rules}
use mathlib.Core.Path.{◌≡◌, ap, ◌∙◌}
use mathlib.Core.List.{◌++◌}
use native.Mathlib.Omega.{arith}
use lib.ListN.{length}
use borrow.Author.Tests.{eq-eqb, ne_eqb}
use Rattle.codec.specs.Bytes.{with_bytes, le_bytes}
use Rattle.blocks.proofs.Heads.{with_bytes-two, plain-length, identity-length}
use Rattle.blocks.specs.Offsets.{magic_at, blkno_at, crc_at}
use Rattle.blocks.specs.Stamp.{plain_head, identity_head, with_crc, stamped}
use Rattle.blocks.proofs.Laws.{header-least, header-five}
use Rattle.blocks.proofs.stamp.stamp.Goals as goal

pub stamp_plain-requires : goal.stamp_plain-requires
stamp_plain-requires c = omega (arith, header-least c.args.g.version)

pub stamp_identity-requires : goal.stamp_identity-requires
stamp_identity-requires c = (c.requires.0, omega (arith, header-five c.args.g.version c.if-g-eq5.true))

pub crc32c_with_zeroed_crc-crc-requires : goal.crc32c_with_zeroed_crc-crc-requires
crc32c_with_zeroed_crc-crc-requires c = omega (arith, header-five c.args.g.version c.if-g-eq5.true)

pub put_le32-requires : goal.put_le32-requires
put_le32-requires c = omega (arith, header-five c.args.g.version c.if-g-eq5.true)

pub returns-then-g-eq5 : goal.returns-then-g-eq5
unfolding stamped
returns-then-g-eq5 c =
    let uuid_long : length c.args.g.meta_uuid ≡ 16 = search rules in
    let head : let a = c.args in c.stamp_identity.new.b ≡ with_bytes a.b.now magic_at (plain_head a.kind a.g.version a.level a.numrecs a.left.0 a.right.0 ++ identity_head a.g a.block.0) = let a = c.args in
    let plain = plain-length a.kind a.g.version a.level a.numrecs a.left.0 a.right.0 in
    let identity = identity-length a.g a.block.0 (uuid_long) in
    let long = header-five a.g.version c.if-g-eq5.true in
    with_bytes-two a.b.now magic_at (plain_head a.kind a.g.version a.level a.numrecs a.left.0 a.right.0) (identity_head a.g a.block.0) _ _ blkno_at
    c.stamp_plain.ensures
    c.stamp_identity.ensures
    (omega arith)
    (omega (arith, c.requires)) in
    rw (eq-eqb _ _ c.if-g-eq5.true)
    (c.put_le32.ensures
    ∙ ap (λ n. with_bytes c.stamp_identity.new.b crc_at (le_bytes 4 n)) c.crc32c_with_zeroed_crc-crc.ensures
    ∙ ap with_crc (head))

pub returns-else-g-eq5 : goal.returns-else-g-eq5
unfolding stamped
returns-else-g-eq5 c = rw (ne_eqb _ _ c.if-g-eq5.false) c.stamp_plain.ensures
