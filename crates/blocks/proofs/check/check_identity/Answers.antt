-- `blocks::check::check_identity` meets its contract: question 1 leaves room for the address.
use borrow.Author.Rules.{rules}
use Rattle.blocks.proofs.Laws.{address-fits}
use Rattle.blocks.proofs.check.check_identity.Goals as goal

pub address-expected-requires : goal.address-expected-requires
address-expected-requires c =
    let a = c.args in
    rw c.linear.ensures (address-fits a.g c.requires.0 a.block.0 (search rules))
