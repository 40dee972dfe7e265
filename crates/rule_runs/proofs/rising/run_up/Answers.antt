use Rattle.std.proofs.Common.{◌∙◌, ◌≡◌, ◌-◌, ap, sym, arith, reverse, length}
use Rattle.slt_grammar.specs.Grammars.{body_at}
use Rattle.slt_grammar.specs.Keyed.{rules_of}
use Rattle.slt_grammar.proofs.KeyedLemmas.{length-rules_of}
use Rattle.rule_runs.specs.Entries.{key_of}
use Rattle.rule_runs.proofs.Once.{reads-start, reads-fewer, stacked-start, start-pair}
use Rattle.rule_runs.proofs.rising.run_up.Goals as goal

pub begin-requires : goal.begin-requires
begin-requires g c =
    let A = g.A.Rising.algebra c.args.automaton.now in
    let G = rules_of c.args.grammar.now.rules in
    let n : c.rules.result - 1 ≡ length G - 1 = omega (arith, c.rules.ensures.value, length-rules_of c.args.grammar.now.rules) in
    rw (n, c.new.ensures.items) (start-pair A G c.rules.ensures.grammar)

pub returns-in_err-frame-clause-steps : goal.returns-in_err-frame-clause-steps
returns-in_err-frame-clause-steps g c =
    let A = g.A.Rising.algebra c.args.automaton.now in
    let G = rules_of c.args.grammar.now.rules in
    let k = c.begin.ensures.steps in
    let n : c.rules.result - 1 ≡ length G - 1 = omega (arith, c.rules.ensures.value, length-rules_of c.args.grammar.now.rules) in
    (_, reads-start A G (c.begin.new.steps - c.args.steps.now) c.rules.ensures.grammar (rw (← n) (omega arith)))

pub run_on-requires-clause-start : goal.run_on-requires-clause-start
run_on-requires-clause-start g c =
    let A = g.A.Rising.algebra c.args.automaton.now in
    let G = rules_of c.args.grammar.now.rules in
    let n : c.rules.result - 1 ≡ length G - 1 = omega (arith, c.rules.ensures.value, length-rules_of c.args.grammar.now.rules) in
    (c.in_ok-frame.ensures.stands A, ap key_of c.in_ok-frame.ensures.pair ∙ ap (λ x. (x, c.new.result.items)) n ∙ ap (λ xs. (length G - 1, xs)) c.new.ensures.items)

pub run_on-requires-clause-left : goal.run_on-requires-clause-left
run_on-requires-clause-left g c =
    let G = rules_of c.args.grammar.now.rules in
    c.in_ok-frame.ensures.cost ∙ ap (λ p. length (body_at G p.rule)) (sym c.in_ok-frame.ensures.pair)

pub run_on-requires-clause-stacked : goal.run_on-requires-clause-stacked
run_on-requires-clause-stacked g c =
    let A = g.A.Rising.algebra c.args.automaton.now in
    let G = rules_of c.args.grammar.now.rules in
    stacked-start A G c.in_ok-frame.frame c.new-stack.result.items c.new-labels.result.items (reverse c.begin.new.labels.items) c.new-stack.ensures.items c.new-labels.ensures.items (c.in_ok-frame.ensures.none A) c.in_ok-frame.ensures.labels

pub returns-clause-steps : goal.returns-clause-steps
returns-clause-steps g c =
    let A = g.A.Rising.algebra c.args.automaton.now in
    let G = rules_of c.args.grammar.now.rules in
    let k = c.begin.ensures.steps in
    let e = ap (λ p. length (body_at G p.rule)) c.in_ok-frame.ensures.pair in
    let h = c.run_on.ensures.steps in
    (h.0, reads-fewer A G h.0 _ _ h.1 (omega (arith, k, e)))
