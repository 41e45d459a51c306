use Rattle.std.proofs.Common.{◌≡◌, drop}
use Rattle.show.specs.Images.{stored_each}
use Rattle.show.proofs.images.store_each.Given as goal

-- what is left to store comes to what there was to store
abbrev pub invariant-loop-number : goal.invariant-loop-number
invariant-loop-number l =
    stored_each l.rest l.size (drop l.number-index l.numbers) l.image ≡ stored_each l.blocks l.size l.numbers l.initial.image
