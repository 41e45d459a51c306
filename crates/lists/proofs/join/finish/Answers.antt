-- `lists::join::finish` meets its contract.
use mathlib.Core.Path.{sym, ap, ◌∙◌}
use Rattle.codec.specs.Bytes.{with_bytes}
use Rattle.lists.specs.Inner.Passes.{writes_counts}
use Rattle.lists.proofs.Puts.{put-yes, put-no}
use Rattle.lists.proofs.CountJoins.{finish-none, finish-some}
use borrow.Author.Rules.{rules}
use Rattle.lists.proofs.join.finish.Goals as goal
use Rattle.lists.proofs.join.finish.Goals.{then-writes_counts, else-writes_counts}

pub returns-then-j-eq0 : goal.returns-then-j-eq0
returns-then-j-eq0 c = let a = c.args in let all = finish-none (writes_counts a.pass) a.j a.new.now (search rules) in record { value = all.0; after = all.1 }

pub encode-requires : goal.encode-requires
encode-requires c = c.requires.room (sym c.writes_counts.ensures ∙ c.if-writes_counts.true) (search rules)

pub returns : goal.returns
returns c = let a = c.args in
    let f = finish-some a.j (search rules) in
    record {
      value = f.0;
      after =
          elim c.if-writes_counts.branch [
            | then-writes_counts w ↦
                put-yes (writes_counts a.pass) a.new.now _ a.j.at _ (sym c.writes_counts.ensures ∙ w.if-writes_counts.true) (w.new-is ∙ w.encode.ensures ∙ ap (with_bytes a.new.now a.j.at) f.1)
            | else-writes_counts w ↦ w.new-is ∙ put-no (writes_counts a.pass) a.new.now a.j.at _ (sym c.writes_counts.ensures ∙ w.if-writes_counts.false)
          ];
    }
