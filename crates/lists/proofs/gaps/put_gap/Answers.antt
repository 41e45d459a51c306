-- `lists::gaps::put_gap` meets its contract.
use native.Mathlib.Omega.{arith}
use mathlib.Core.Path.{sym, ap, ◌∙◌}
use Rattle.codec.specs.Bytes.{with_bytes}
use Rattle.lists.specs.Inner.Passes.{writes_free}
use Rattle.lists.proofs.Puts.{put-yes, put-no}
use Rattle.lists.proofs.FreeGaps.{gap-none, gap-some}
use borrow.Author.Rules.{rules}
use Rattle.lists.proofs.gaps.put_gap.Goals as goal
use Rattle.lists.proofs.gaps.put_gap.Goals.{then-writes_free, else-writes_free}

pub returns-then-z-a : goal.returns-then-z-a
returns-then-z-a c = let a = c.args in let all = gap-none (writes_free a.pass) a.free.now a.at a.a a.z (search rules) in record { value = all.0; free_after = all.1 }

pub encode-requires : goal.encode-requires
encode-requires c = let a = c.args in omega (arith, c.requires.z_in_bounds (sym c.writes_free.ensures ∙ c.if-writes_free.true), (gap-some a.at a.a a.z (search rules)).0)

pub returns : goal.returns
returns c = let a = c.args in
    let f = gap-some a.at a.a a.z (search rules) in
    record {
      value = f.0;
      free_after =
          elim c.if-writes_free.branch [
            | then-writes_free w ↦
                put-yes (writes_free a.pass) a.free.now _ a.at _ (sym c.writes_free.ensures ∙ w.if-writes_free.true) (w.free-is ∙ w.encode.ensures ∙ ap (with_bytes a.free.now a.at) f.1)
            | else-writes_free w ↦ w.free-is ∙ put-no (writes_free a.pass) a.free.now a.at _ (sym c.writes_free.ensures ∙ w.if-writes_free.false)
          ];
    }
