-- A sheet that kf_write_sheet wrote is read back by kf_read_sheet.
-- Assumes nothing.
use Prim.Native.Nat.{ℕ, ◌+◌, ◌*◌}
use native.Mathlib.Decide.{dec_le}
use native.Mathlib.Omega.{arith}
use mathlib.Core.Path.{◌≡◌, refl, ap, ◌∙◌}
use mathlib.Core.List.{List}
use lib.ListN.{length, get_or, take, drop, replicate}
use lib.Seq.{take_at}
use Rattle.codec.specs.Bytes.{with_bytes}
use Rattle.codec.specs.Output.{out_after}
use Rattle.codec.specs.Question.{Outcome, done, map_outcome}
use Rattle.codec.proofs.Stores.{with_bytes-is}
use Rattle.codec.proofs.Tests.{split}
use Rattle.interface.specs.Interface.{number_of, figures_of}
use Rattle.sheets.specs.Change.{good_list}
use Rattle.sheets.specs.Sheet.{blocks_for, sheet_of, read_outcome, write_outcome}
use Rattle.sheets.proofs.Written.{written-reads}
use Rattle.sheets.proofs.Writing.{write-refused, write-short, write_done}
use Rattle.sheets.proofs.SmallSheet.{sixteen, sixteen-bytes, sixteen-long, written, two_blocks}
use Rattle.list_calls.specs.ListCalls.{length_figures, SheetSays}
use Rattle.list_calls.specs.ReadBack.{sheet_written, ReadBack, EveryReadBack}

-- the first bytes of an output, as many as a result has
front : (out bytes : List ℕ) → take (length bytes) (with_bytes out 0 bytes) ≡ bytes
front out bytes = ap (take (length bytes)) (with_bytes-is out 0 bytes) ∙ take_at bytes (drop (0 + length bytes) out) (length bytes) refl

-- a call that comes to a result says its length, and leaves it at the front
says-length : {o : Outcome (List ℕ)} (bytes : List ℕ) {r : ℕ} {said out out' : List ℕ} → o ≡ done bytes → SheetSays o r said out out'
    → ReadBack bytes r said out'
says-length bytes {r} {said} {out} {out'} e p =
    record {
      number = p.answer.number ∙ ap (λ (q : Outcome (List ℕ)). number_of (map_outcome length q)) e;
      figures = p.answer.figures ∙ ap (λ (q : Outcome (List ℕ)). figures_of length_figures (map_outcome length q)) e;
      list = ap (take (length bytes)) (p.wrote ∙ ap (λ (q : Outcome (List ℕ)). out_after q out) e) ∙ front out bytes;
    }

-- a writing that answered 0 came to the sheet
number : Outcome (List ℕ) → ℕ
number o = number_of (map_outcome length o)

wrote-sheet : (l : List ℕ) (room : ℕ) → 0 ≡ number (write_outcome l room) → write_outcome l room ≡ done (sheet_of l)
unfolding number
wrote-sheet l room z =
    split (good_list l)
    (λ g. elim (dec_le (blocks_for l * 512) room) [
      | yes h ↦ write_done l room g h
      | no q ↦ absurd (let e : ◌≡◌ {A = ℕ} 0 26 = z ∙ ap number (write-short l room g (omega arith)) in omega arith)
    ])
    (λ g. absurd (let e : ◌≡◌ {A = ℕ} 0 33 = z ∙ ap number (write-refused l room g) in omega arith))

pub every-read-back : EveryReadBack
unfolding number
every-read-back l said sheet sheet' h p r said' changes changes' k q =
    let e : write_outcome l (length sheet) ≡ done (sheet_of l) = wrote-sheet l (length sheet) p.answer.number in
    let w = says-length (sheet_of l) e p in
    let s : sheet_written said sheet' ≡ sheet_of l = ap (λ (f : List ℕ). take (get_or f 0 0) sheet') w.figures ∙ w.list in
    let f : read_outcome (sheet_written said sheet') (length changes) ≡ done l =
    ap (λ (x : List ℕ). read_outcome x (length changes)) s ∙ written-reads l (sheet_of l) (length sheet) (length changes) h e k in
    says-length l f q

-- ---- an instance: sixteen changes, in two blocks, read into 600 bytes

abbrev blank : List ℕ
blank = replicate 1024 0

abbrev sheet : List ℕ
sheet = with_bytes blank 0 (sheet_of sixteen)

writes-small : SheetSays (write_outcome sixteen 1024) 0 (length_figures 1024) blank sheet
writes-small = record { answer = record { number = rw written refl; figures = rw (written, two_blocks) refl }; wrote = rw written refl }

reads-small : (r : ℕ) (said changes : List ℕ) → SheetSays (read_outcome (sheet_written (length_figures 1024) sheet) 600) r said (replicate 600 0) changes
    → ReadBack sixteen r said changes
reads-small r said changes = every-read-back sixteen (length_figures 1024) blank sheet sixteen-bytes writes-small r said (replicate 600 0) changes (omega (arith, sixteen-long))
