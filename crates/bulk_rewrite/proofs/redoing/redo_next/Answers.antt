use Rattle.std.proofs.Common.{◌≡◌, ◌-◌, length, min, ap, ◌∙◌, None}
use Rattle.rule_runs.proofs.Lists.{no_more}
use Rattle.bulk_rewrite.proofs.Redone.{many-redone, none-told}
use Rattle.bulk_rewrite.proofs.redoing.redo_next.Goals as goal

pub returns-in_default-clause-texts : goal.returns-in_default-clause-texts
returns-in_default-clause-texts c =
    let none : c.in_ok-hits.field-0 ≡ None = no_more c.in_ok-hits.field-0 c.in_default.not-Some in
    none-told c.args.answers.now c.next_alike.new.self c.args.redoing.now.originals c.args.place _ c.args.redoing.now (c.in_ok-hits.ensures.end none) (rw none at c.in_ok-hits.ensures.next)

pub returns-clause-texts : goal.returns-clause-texts
returns-clause-texts c =
    let count : c.min-count.result ≡ min c.in-Some.hits.count (length c.args.redoing.now.originals - c.args.place) = c.min-count.ensures ∙ ap (λ n. min c.in-Some.hits.count (n - c.args.place)) c.originals.ensures in
    many-redone c.args.answers.now c.next_alike.new.self c.in-Some.hits c.told_fate.result c.args.redoing.now.originals c.args.place c.min-count.result c.args.redoing.now c.redo.new.self (rw c.in-Some.is at c.in_ok-hits.ensures.next) c.told_fate.ensures count c.in_ok-redo.ensures.texts
