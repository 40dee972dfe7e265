use Rattle.std.proofs.Common.{refl, sym}
use Rattle.preorder_address.proofs.Marking.{is-mark}
use Rattle.preorder_address.proofs.marks.mark_at.Goals as goal

pub returns-clause-mark : goal.returns-clause-mark
returns-clause-mark c = λ names g k h.
    let here = c.if-not-begins_at.ensures.yes refl in
    is-mark names g k c.args.walk.now c.args.passed h here.1 (sym here.0)
