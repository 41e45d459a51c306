-- What the questions of a sheet decide: a bad CRC in any block is 32 whatever the rules say, then a broken rule is 33, then a short output 26.
-- Assumes nothing.
use Prim.Native.Nat.{ℕ, ◌≤◌, ◌<◌}
use mathlib.Core.Path.{◌≡◌, refl, sym, ◌∙◌}
use mathlib.Core.Bool.{true, false}
use mathlib.Core.List.{List}
use lib.Dec.{leb}
use lib.ListN.{length}
use borrow.Author.Tests.{le-leb, lt-leb}
use Rattle.codec.specs.Question.{Values, none, done, refused}
use Rattle.codec.proofs.Meaning.{never}
use Rattle.codec.proofs.Tests.{split}
use Rattle.sheets.specs.Sheet.{crcs_hold, rules_hold, sheet_changes, check_outcome, read_outcome}

module _ (s : List ℕ) where
  -- ---- the questions alone

  pub asked-crc : crcs_hold s ≡ false → check_outcome s ≡ refused 32 none
  unfolding check_outcome
  asked-crc e = rw e refl

  pub asked-rule : crcs_hold s ≡ true → rules_hold s ≡ false → check_outcome s ≡ refused 33 none
  unfolding check_outcome
  asked-rule c e = rw (c, e) refl

  pub asked-done : crcs_hold s ≡ true → rules_hold s ≡ true → check_outcome s ≡ done (length (sheet_changes s))
  unfolding check_outcome
  asked-done c e = rw (c, e) refl

  -- a sheet that passed them
  pub record Passed : Type 0 where
    pub crcs : crcs_hold s ≡ true
    pub rules : rules_hold s ≡ true

  pub passed : (k : ℕ) → check_outcome s ≡ done k → Passed
  passed k e =
      split (crcs_hold s)
      (λ c. split (rules_hold s) (λ r. record { crcs = c; rules = r }) (λ r. absurd (never k 33 none (sym e ∙ asked-rule c r))))
      (λ c. absurd (never k 32 none (sym e ∙ asked-crc c)))

  pub passed-long : (k : ℕ) → check_outcome s ≡ done k → k ≡ length (sheet_changes s)
  passed-long k e = let h = passed k e in let q : done k ≡ done (length (sheet_changes s)) = sym e ∙ asked-done h.crcs h.rules in cc

  -- ---- the call

  module _ (room : ℕ) where
    pub read-crc : crcs_hold s ≡ false → read_outcome s room ≡ refused 32 none
    unfolding read_outcome
    read-crc e = rw e refl

    pub read-rule : crcs_hold s ≡ true → rules_hold s ≡ false → read_outcome s room ≡ refused 33 none
    unfolding read_outcome
    read-rule c e = rw (c, e) refl

    -- refused by the questions, it is refused so
    pub read-refused : (m : ℕ) (v : Values) → check_outcome s ≡ refused m v → read_outcome s room ≡ refused m v
    read-refused m v e =
        split (crcs_hold s)
        (λ c. split (rules_hold s)
        (λ r. absurd (never (length (sheet_changes s)) m v (sym (asked-done c r) ∙ e)))
        (λ r. read-rule c r ∙ (let q : refused 33 none ≡ refused m v = sym (asked-rule c r) ∙ e in cc)))
        (λ c. read-crc c ∙ (let q : refused 32 none ≡ refused m v = sym (asked-crc c) ∙ e in cc))

    read_short : Passed → leb (length (sheet_changes s)) room ≡ false → read_outcome s room ≡ refused 26 none
    unfolding read_outcome
    read_short h k = rw (h.crcs, h.rules, k) refl

    read_fits : Passed → leb (length (sheet_changes s)) room ≡ true → read_outcome s room ≡ done (sheet_changes s)
    unfolding read_outcome
    read_fits h k = rw (h.crcs, h.rules, k) refl

    pub read-room : Passed → room < length (sheet_changes s) → read_outcome s room ≡ refused 26 none
    read-room h k = read_short h (lt-leb (length (sheet_changes s)) room k)

    pub read_done : Passed → length (sheet_changes s) ≤ room → read_outcome s room ≡ done (sheet_changes s)
    read_done h k = read_fits h (le-leb (length (sheet_changes s)) room k)

    -- an accepted sheet passed them, and gave its changes
    pub read-passed : (l : List ℕ) → read_outcome s room ≡ done l → Passed
    read-passed l e =
        split (crcs_hold s)
        (λ c. split (rules_hold s) (λ r. record { crcs = c; rules = r }) (λ r. absurd (never l 33 none (sym e ∙ read-rule c r))))
        (λ c. absurd (never l 32 none (sym e ∙ read-crc c)))

    pub read-changes : (l : List ℕ) → read_outcome s room ≡ done l → sheet_changes s ≡ l
    read-changes l e =
        let h = read-passed l e in
        split (leb (length (sheet_changes s)) room)
        (λ t. let q : done (sheet_changes s) ≡ done l = sym (read_fits h t) ∙ e in cc)
        (λ t. absurd (never l 26 none (sym e ∙ read_short h t)))
