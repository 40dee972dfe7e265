use Rattle.std.proofs.Common.{◌≡◌, ◌-◌, ℕ, arith, length, subst, sym}
use Rattle.slt_grammar.specs.declared.tour_walk.TourWalk.{TourWalk}
use Rattle.preorder_address.specs.Marks.{HasPassed}
use Rattle.preorder_address.specs.declared.marks.Mark.{Mark}
use Rattle.preorder_address.specs.Numberings.{measure_of}
use Rattle.preorder_address.proofs.SpotFinding.{weighs-none}
use Rattle.preorder_address.proofs.Marking.{passed-mark}
use Rattle.preorder_address.proofs.spot.begin.Goals as goal

pub returns-in-Some-clause-passed : goal.returns-in-Some-clause-passed
returns-in-Some-clause-passed c = λ names a.
    let G = c.args.grammar.now.rules in
    let mark : Mark = c.in-Some.mark in
    let last : c.args.wanted.rule ≡ length G - 1 = omega (arith, c.if-wanted-start.true, c.rules-start.ensures.value) in
    let met = passed-mark names G mark (c.in-Some.ensures.mark names G a) in
    subst (λ (r : ℕ). HasPassed names G r c.walk.result mark.passed) (sym last) (subst (λ (w : TourWalk). HasPassed names G (length G - 1) w mark.passed) (sym c.walk.ensures) met)

pub returns-clause-under : goal.returns-clause-under
returns-clause-under c = omega (arith, weighs-none (measure_of c.args.by))
