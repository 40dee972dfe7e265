use Rattle.std.proofs.Common.{arith, subst}
use Rattle.rule_arena.specs.declared.label.Label.{Label}
use Rattle.value_cursor.specs.Cursors.{found, left_at}
use Rattle.value_cursor.specs.Kept.{again_of, labels_of}
use Rattle.value_cursor.specs.Stops.{IsLabelOf}
use Rattle.value_cursor.proofs.Going.{again-left, call-below}
use Rattle.value_cursor.proofs.Leaving.{last-below}
use Rattle.value_cursor.proofs.cursor.tell_again.Goals as goal

pub begin-requires-clause-rule : goal.begin-requires-clause-rule
begin-requires-clause-rule g c =
    let call = subst (λ (l : Label). IsLabelOf c.args.grammar.now.rules c.args.here.now l) c.in-Call.is c.requires.label in
    omega (arith, call-below c.args.grammar.now c.requires.keyed c.args.calls.now.items c.args.here.now c.requires.stops c.in-Call.rule call, last-below c.args.grammar.now c.requires.keyed c.args.calls.now.items c.args.here.now c.requires.stops)

pub returns-then-begin-clause-left : goal.returns-then-begin-clause-left
returns-then-begin-clause-left g c =
    let call = subst (λ (l : Label). IsLabelOf c.args.grammar.now.rules c.args.here.now l) c.in-Call.is c.requires.label in
    again-left c.args.grammar.now c.requires.keyed c.args.calls.now.items c.args.here.now c.requires.stops c.in-Call.rule call (labels_of (again_of c.begin.new.self)) (left_at c.args.grammar.now.rules (found c.pass.result c.pass.new.here) c.pass.new.calls.items) c.if-begin.ensures.again c.pass.ensures.left
