use Rattle.std.proofs.Common.{◌≡◌, ◌-◌, ℕ, arith, length, subst}
use Rattle.preorder_address.specs.Marks.{HasPassed, IsMark}
use Rattle.preorder_address.specs.declared.marks.Mark.{Mark}
use Rattle.preorder_address.proofs.Marking.{both-told}
use Rattle.preorder_address.proofs.spot.first_mark.Goals as goal

pub returns-clause-start : goal.returns-clause-start
returns-clause-start c = λ names e h.
    let a = c.args in
    let G = a.grammar.now.rules in
    let last : a.rule ≡ length G - 1 = omega (arith, e) in
    both-told (IsMark names G) (λ (mark : Mark). mark.key ≡ a.walk.now.key) c.mark_at.result
    (c.mark_at.ensures.mark names a.grammar.now c.requires.keyed (subst (λ (r : ℕ). HasPassed names G r a.walk.now a.passed) last h)) c.mark_at.ensures.key
