-- The number (docs/QUESTIONS.md) and the values of each case of a refusal, and what a check of a block comes to.
-- Assumes nothing.
use Rattle.std.specs.Prelude.{ℕ, Result, Ok, Err}
use Rattle.codec.specs.Question.{Values, none, two, Outcome, done, refused}
use Rattle.blocks.specs.declared.check.Field.{Field}
use Rattle.blocks.specs.declared.check.Field.TheVariants.{Magic, Crc, Owner, Address, Sequence, Level, Records}
use Rattle.blocks.specs.declared.check.BlockRefusal.{BlockRefusal}
use Rattle.blocks.specs.declared.check.BlockRefusal.TheVariants.{BadGeometry, Short, NoTree, Uuid, BadField}
use Rattle.blocks.specs.declared.check.Header.{Header}

abbrev pub field_number : Field → ℕ
field_number (Magic e f) = 4
field_number (Crc e f) = 5
field_number (Owner e f) = 7
field_number (Address e f) = 8
field_number (Sequence e f) = 30
field_number (Level e f) = 9
field_number (Records e f) = 10

abbrev pub field_values : Field → Values
field_values (Magic e f) = two e f
field_values (Crc e f) = two e f
field_values (Owner e f) = two e f
field_values (Address e f) = two e f
field_values (Sequence e f) = two e f
field_values (Level e f) = two e f
field_values (Records e f) = two e f

abbrev pub refusal_number : BlockRefusal → ℕ
refusal_number BadGeometry = 1
refusal_number Short = 2
refusal_number NoTree = 3
refusal_number Uuid = 6
refusal_number (BadField f) = field_number f

abbrev pub refusal_values : BlockRefusal → Values
refusal_values BadGeometry = none
refusal_values Short = none
refusal_values NoTree = none
refusal_values Uuid = none
refusal_values (BadField f) = field_values f

abbrev pub checked_outcome : Result Header BlockRefusal → Outcome Header
checked_outcome (Ok h) = done h
checked_outcome (Err f) = refused (refusal_number f) (refusal_values f)
