-- What a refusal of the block check means, and that the number and the values tell every two answers apart.
-- Assumes nothing.
use Prim.Native.Nat.{ℕ}
use mathlib.Core.Path.{◌≡◌, refl, ap, sym, ◌∙◌}
use mathlib.Core.Bool.{cond}
use mathlib.Core.List.{List}
use lib.Dec.{eqb}
use Rattle.codec.specs.Question.{Values, none, two, Outcome, done, refused}
use Rattle.codec.proofs.Meaning.{Failed, refused-means}
use Rattle.blocks.specs.declared.geometry.Geometry.{Geometry}
use Rattle.blocks.specs.declared.kind.TreeKind.{TreeKind}
use Rattle.blocks.specs.declared.check.Field.TheVariants.{Magic, Crc, Owner, Address, Sequence, Level, Records}
use Rattle.blocks.specs.declared.check.BlockRefusal.{BlockRefusal}
use Rattle.blocks.specs.declared.check.BlockRefusal.TheVariants.{BadGeometry, Short, NoTree, Uuid, BadField}
use Rattle.blocks.specs.declared.check.Header.{Header}
use Rattle.std.specs.Prelude.{Result, Ok, Err}
use Rattle.blocks.specs.Refusal.{refusal_number, refusal_values, checked_outcome}
use Rattle.blocks.specs.Check.{block_questions, check_block}

-- the refusal of a number and its values
abbrev pub refusal_of : ℕ → Values → BlockRefusal
refusal_of n none = cond (eqb n 1) BadGeometry (cond (eqb n 2) Short (cond (eqb n 3) NoTree Uuid))
refusal_of n (two e f) =
    BadField (cond (eqb n 4) (Magic e f) (cond (eqb n 5) (Crc e f) (cond (eqb n 7) (Owner e f) (cond (eqb n 8) (Address e f) (cond (eqb n 30) (Sequence e f) (cond (eqb n 9) (Level e f) (Records e f)))))))

refusal-back : (f : BlockRefusal) → refusal_of (refusal_number f) (refusal_values f) ≡ f
refusal-back BadGeometry = refl
refusal-back Short = refl
refusal-back NoTree = refl
refusal-back Uuid = refl
refusal-back (BadField (Magic e f)) = refl
refusal-back (BadField (Crc e f)) = refl
refusal-back (BadField (Owner e f)) = refl
refusal-back (BadField (Address e f)) = refl
refusal-back (BadField (Sequence e f)) = refl
refusal-back (BadField (Level e f)) = refl
refusal-back (BadField (Records e f)) = refl

abbrev checked_of : Outcome Header → Result Header BlockRefusal
checked_of (done h) = Ok h
checked_of (refused n v) = Err (refusal_of n v)

checked-back : (r : Result Header BlockRefusal) → checked_of (checked_outcome r) ≡ r
checked-back (Ok h) = refl
checked-back (Err f) = ap Err (refusal-back f)

pub checked-apart : (r s : Result Header BlockRefusal) → checked_outcome r ≡ checked_outcome s → r ≡ s
checked-apart r s e = sym (checked-back r) ∙ ap checked_of e ∙ checked-back s

-- a refusal: the question of its number failed, with those values, and all before it held
pub refusal-means : (g : Geometry) (kind : TreeKind) (block level : ℕ) (b : List ℕ) (f : BlockRefusal) → checked_outcome (Err f) ≡ check_block g kind block level b → Failed (block_questions g kind block level b) (refusal_number f) (refusal_values f)
unfolding check_block
refusal-means g kind block level b f e = refused-means (block_questions g kind block level b) _ (refusal_number f) (refusal_values f) (sym e)
