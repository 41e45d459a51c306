-- A walk under a higher sequence number: unless 30 refused it, it comes to the same. The statement is `EveryLaterWalk`; proofs/LaterWalks.antt proves it, and
-- crates/trees/proofs/SmallTree.antt has a walk that meets its premises.
-- Assumes nothing.
use Rattle.std.specs.Prelude.{ℕ, ◌≤◌, ◌≡◌, List}
use Rattle.codec.specs.Question.{Values, Outcome, done, refused}
use Rattle.blocks.specs.declared.geometry.Geometry.{Geometry}
use Rattle.blocks.specs.declared.kind.TreeKind.{TreeKind}
use Rattle.blocks.specs.Geometry.{with_lsn}
use Rattle.walks.specs.Walk.{Trace, failed, ending}
use Rattle.walks.specs.WalkCall.{Lent, walk_of}

-- no block that was read is newer than the log: what a call comes to is no refusal by 30
abbrev pub NoneNewer : Outcome Trace → Type 0
NoneNewer (done t) = (v : Values) → ending t ≡ failed 30 v → ⊥
NoneNewer (refused k v) = Unit {0}

-- On every image, built by anyone: a walk that 30 did not refuse under one number comes to the same under every higher one, refused or not. What a call
-- promises goes by what it comes to alone (`WalkIs`, and `LinkingIs` of the link check).
abbrev pub EveryLaterWalk : Type 0
EveryLaterWalk =
    (g : Geometry) (kind : TreeKind) (image : List ℕ) (root levels : ℕ) (m : Lent) (n : ℕ)
    → g.last_lsn ≤ n → NoneNewer (walk_of g kind image root levels m)
    → walk_of (with_lsn g n) kind image root levels m ≡ walk_of g kind image root levels m
