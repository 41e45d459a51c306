-- Unless 30 refused it, a lookup comes to the same under every higher sequence number.
-- Assumes nothing.
use Rattle.std.proofs.Common.{◌≡◌, ℕ, ◌-◌, ◌≤◌, max, Bool, ◌⊎◌, List, [], ◌∷◌, ap, inl, inr}
use Rattle.blocks.specs.declared.geometry.Geometry.{Geometry}
use Rattle.blocks.specs.declared.kind.TreeKind.TheVariants as kind
use Rattle.blocks.specs.Geometry.{with_lsn}
use Rattle.blocks.proofs.Later.{later-geometry}
use Rattle.walks.specs.Walk.{Visit, visit_of, Look, good, bad, Trace, run, block_in, look_in}
use Rattle.walks.specs.Shapes.{shape_of}
use Rattle.walks.specs.WalkCall.{stack_places}
use Rattle.walks.proofs.Following.{OutLook, run-follows}
use Rattle.walks.proofs.LaterWalks.{Newer, look-later, asked-same}
use Rattle.lookup.specs.Lookup.{keeps, without, look_asked, lookup_questions, descent_of}
use Rattle.lookup.specs.Claims.{EveryLaterLookup}

module _ (g : Geometry) (n : ℕ) (higher : g.last_lsn ≤ n) (image asked : List ℕ) where
  -- a look without the children that are skipped is as much a refusal
  asked-later : (v : Visit) → (look_asked asked (shape_of (with_lsn g n) kind.Rmap) image v ≡ look_asked asked (shape_of g kind.Rmap) image v)
      ⊎ OutLook Newer (look_asked asked (shape_of g kind.Rmap) image v)
  unfolding look_asked
  asked-later v = go (look_in (shape_of g kind.Rmap) image v) (look_in (shape_of (with_lsn g n) kind.Rmap) image v) (look-later g n higher kind.Rmap image v)
    where
      keep : ℕ → Bool
      keep = keeps asked (shape_of g kind.Rmap) (block_in g.blocksize image v.block)

      go : (l l' : Look) → (l' ≡ l) ⊎ OutLook Newer l → (without keep l' ≡ without keep l) ⊎ OutLook Newer (without keep l)
      go l l' (inl e) = inl (ap (without keep) e)
      go (bad k x) l' (inr o) = inr o
      go (good below bytes) l' (inr o) = absurd o

pub every-later-lookup : EveryLaterLookup
unfolding descent_of
every-later-lookup g image root levels places asked room n higher h =
    let limit : ℕ = max g.agblocks 64 in
    let due : List Visit = visit_of root (levels - 1) ∷ [] in
    let here : Trace = run (look_asked asked (shape_of g kind.Rmap) image) limit due in
    let there : Trace = run (look_asked asked (shape_of (with_lsn g n) kind.Rmap) image) limit due in
    rw (later-geometry g n)
    (asked-same (lookup_questions stack_places g levels places asked room) here there
    (run-follows Newer (look_asked asked (shape_of g kind.Rmap) image) (look_asked asked (shape_of (with_lsn g n) kind.Rmap) image) (asked-later g n higher image asked) limit due)
    h)
