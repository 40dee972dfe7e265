use Rattle.std.proofs.Common.{Some, ap}
use Rattle.value_cursor.specs.Cursors.{found, left_at}
use Rattle.value_cursor.proofs.Keeping.{told-more}
use Rattle.value_cursor.proofs.kept.tell.Goals as goal

pub returns-then-not-tell_stop-clause-told : goal.returns-then-not-tell_stop-clause-told
returns-then-not-tell_stop-clause-told g c =
    let G = c.args.grammar.now.rules in
    let calls = c.tell_stop.new.calls.items in
    let left = left_at G (found c.tell_stop.result c.tell_stop.new.here) calls in (
      left,
      told-more (left_at G (Some c.args.here.now) c.args.calls.now.items) (left_at G (Some c.loop-here.here) c.loop-here.calls.items) left c.args.tokens.now.items c.loop-here.tokens.items c.tell_stop.new.tokens.items c.loop-here.invariant.told c.tell_stop.ensures.told,
      λ t. ap (λ b. left_at G (found b c.tell_stop.new.here) calls) c.if-not-tell_stop.true,
    )
