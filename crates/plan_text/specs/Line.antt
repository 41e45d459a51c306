-- The line that the plan program reads: the tree, the block size and the number of records, parted by one space each. One newline or none
-- ends the input.
-- Assumes nothing.
use Rattle.std.specs.Prelude.{ℕ, suc, ◌+◌, ◌-◌, ◌*◌, ◌≤◌, ◌≡◌, Bool, true, cond, ◌&&◌, List, [], ◌∷◌, ltb, leb, eqb, length, take, drop}
use Rattle.std.specs.Prelude.{Option, None, Some}
use Rattle.blocks.specs.declared.kind.TreeKind.{TreeKind}
use Rattle.blocks.specs.declared.kind.TreeKind.TheVariants.{Rmap, Refcount}
use Rattle.blocks.specs.Check.{same}
use Rattle.plan_text.specs.declared.line.Request.{Request}

-- without the newline that ends it, if one does
unfoldable pub chomp : List ℕ → List ℕ
chomp [] = []
chomp (b ∷ []) = cond (eqb b 10) [] (b ∷ [])
chomp (b ∷ c ∷ l) = b ∷ chomp (c ∷ l)

-- the place of the first space, or the length where there is none
unfoldable pub space_at : List ℕ → ℕ
space_at [] = 0
space_at (b ∷ l) = cond (eqb b 32) 0 (suc (space_at l))

abbrev pub has_space : List ℕ → Bool
has_space l = ltb (space_at l) (length l)

-- what stands before the first space, and what stands after it
abbrev pub word : List ℕ → List ℕ
word l = take (space_at l) l

abbrev pub rest : List ℕ → List ℕ
rest l = drop (space_at l + 1) l

-- `rmap`, `refcount`
abbrev pub rmap_name : List ℕ
rmap_name = 114 ∷ 109 ∷ 97 ∷ 112 ∷ []

abbrev pub refcount_name : List ℕ
refcount_name = 114 ∷ 101 ∷ 102 ∷ 99 ∷ 111 ∷ 117 ∷ 110 ∷ 116 ∷ []

unfoldable pub kind_of : List ℕ → Option TreeKind
kind_of name = cond (same name rmap_name) (Some Rmap) (cond (same name refcount_name) (Some Refcount) None)

-- 1 to 18 digits
abbrev pub is_digit : ℕ → Bool
is_digit b = leb 48 b && leb b 57

unfoldable pub all_digits : List ℕ → Bool
all_digits [] = true
all_digits (b ∷ l) = is_digit b && all_digits l

unfoldable pub is_number : List ℕ → Bool
is_number l = (leb 1 (length l) && leb (length l) 18) && all_digits l

-- v, then the digits of a list
unfoldable pub value_from : ℕ → List ℕ → ℕ
value_from v [] = v
value_from v (b ∷ l) = value_from (v * 10 + (b - 48)) l

abbrev pub value : List ℕ → ℕ
value l = value_from 0 l

-- the three parts
unfoldable pub request_of : Option TreeKind → List ℕ → List ℕ → Option Request
request_of None size records = None
request_of (Some kind) size records =
    cond (is_number size && is_number records) (Some (record { kind = kind; blocksize = value size; records = value records })) None

unfoldable pub line_of : List ℕ → Option Request
line_of l = cond (has_space l && has_space (rest l)) (request_of (kind_of (word l)) (word (rest l)) (rest (rest l))) None

-- what the input asks for, if it is such a line
abbrev pub request : List ℕ → Option Request
request input = line_of (chomp input)

-- an input of 48 bytes or more asks for nothing: the longest line that asks for a plan has a name of 8 bytes, two numbers of 18 digits, two
-- spaces and a newline. proofs/LongLines.antt proves it, with that line and one byte more as instances.
abbrev pub LongAsksNothing : Type 0
LongAsksNothing = (input : List ℕ) → 48 ≤ length input → request input ≡ None
