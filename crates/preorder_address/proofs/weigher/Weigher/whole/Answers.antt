use Rattle.std.proofs.Common.{◌+◌, ◌∙◌, ap}
use Rattle.segment_counts.specs.Counting.{told_before}
use Rattle.preorder_address.proofs.Weighers.{call-whole}
use Rattle.preorder_address.proofs.weigher.Weigher.whole.Goals as goal

pub returns-in-Call : goal.returns-in-Call
returns-in-Call c = λ G g a b k p.
    let args = c.args in
    let rule = c.in-Call.rule in
    call-whole args.self.now G args.counts.now a g args.label rule c.in-Call.is args.kids c.before-in-Call.result b k (c.before-in-Call.ensures ∙ ap (λ m. told_before m args.counts.now.rows rule (args.kids + 1)) c.measure.ensures)
