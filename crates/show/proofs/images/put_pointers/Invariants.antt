use Rattle.std.proofs.Common.{◌≡◌, drop}
use Rattle.show.specs.Images.{with_pointers}
use Rattle.show.proofs.images.put_pointers.Given as goal

-- what is left to put in comes to what there was to put in
abbrev pub invariant-loop-pointer : goal.invariant-loop-pointer
invariant-loop-pointer l = with_pointers l.node l.at (drop l.pointer-index l.pointers) ≡ with_pointers l.initial.node l.first l.pointers
