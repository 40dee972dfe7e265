use Rattle.std.proofs.Common.{arith}
use Rattle.slt_grammar.proofs.KeyedLemmas.{key_at-within}
use Rattle.rule_pruning.proofs.call_search.root_caller.Goals as goal

pub returns-clause-none : goal.returns-clause-none
returns-clause-none c = λ r key h k S.
    let w = key_at-within c.args.grammar.now.rules r 0 key k in
    let t = c.loop-caller-test.false in
    let v = c.rules-caller-end.ensures.value in
    c.loop-caller.invariant r key h (omega (arith, w.0, t, v)) k S
