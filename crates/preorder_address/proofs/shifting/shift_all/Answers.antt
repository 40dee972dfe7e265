use Rattle.std.proofs.Common.{rules, IfSome, List, Option, get_or, option_to_list, subst, arith}
use Rattle.rule_arena.specs.declared.key.Key.{Key}
use Rattle.preorder_address.specs.Shifted.{ComesOf}
use Rattle.preorder_address.specs.declared.marks.Mark.{Mark}
use Rattle.preorder_address.proofs.MarkShifts.{left-more, rest-more, rest-set}
use Rattle.preorder_address.proofs.shifting.shift_all.Goals as goal
use Rattle.preorder_address.proofs.shifting.shift_all.Goals.{in-Some, in_default}

pub loop-next-preserved : goal.loop-next-preserved
loop-next-preserved c =
    let shift = c.args.shift.now in
    let gone : List Key = option_to_list c.args.gone.now in
    let olds : List Mark = c.args.marks.now in
    let xs : List Mark = c.loop-next.marks in
    let kept = c.loop-next.kept in
    let next = c.loop-next.next in
    let d : Mark = c.index-marks-next.result in
    let old : Mark = get_or xs next d in
    let I = c.loop-next.invariant in
    elim c.match-shifted.branch [
      | in-Some w ↦
          let mark = w.in-Some.mark in
          let comes : ComesOf shift gone old mark = subst (λ (r : Option Mark). IfSome r (ComesOf shift gone old)) w.in-Some.is c.shifted.ensures in
          rw (w.marks-is, w.kept-is)
          (record {
            few = omega (arith, I.few);
            within = search rules;
            rest = rest-set olds xs kept next mark I.few I.rest;
            left = left-more shift gone olds xs kept next d mark I.few (omega (arith, c.loop-next-test.true)) I.rest I.left comes;
          })
      | in_default w ↦
          rw (w.marks-is, w.kept-is)
          (record {
            few = omega (arith, I.few);
            within = omega (arith, c.loop-next-test.true);
            rest = rest-more olds xs next I.rest;
            left = I.left;
          })
    ]
