use Rattle.std.proofs.Common.{◌≡◌, ◌-◌, ◌∙◌, [], ap, arith, length}
use Rattle.slt_grammar.specs.Grammars.{body_at}
use Rattle.slt_grammar.specs.Keyed.{rules_of}
use Rattle.rule_runs.specs.Risen.{keys, pair_at}
use Rattle.rule_runs.proofs.Triples.{start-last, start-falls, falls-none, falls-start, falls-fewer}
use Rattle.rule_runs.proofs.KeptNotes.{unread-most}
use Rattle.rule_runs.proofs.falling.run_down.Goals as goal

pub returns-in_err-start-clause-steps : goal.returns-in_err-start-clause-steps
returns-in_err-start-clause-steps g c = ([], falls-none (g.A.Rising.algebra c.args.automaton.now) (g.A.Falling.downward c.args.automaton.now) (rules_of c.args.grammar.now.rules) _ (omega arith))

pub begin-requires-clause-there : goal.begin-requires-clause-there
begin-requires-clause-there g c =
    let A = g.A.Rising.algebra c.args.automaton.now in
    let W = g.A.Falling.downward c.args.automaton.now in
    let G = rules_of c.args.grammar.now.rules in
    let kn = ap (λ r. r.known) c.risen.view_is in
    let last = start-last A W G c.args.risen.now.known c.requires.run in
    omega (arith, c.len.ensures ∙ ap (λ es. length (keys es)) kn, last.1)

pub begin-requires-clause-met : goal.begin-requires-clause-met
begin-requires-clause-met g c =
    let A = g.A.Rising.algebra c.args.automaton.now in
    let W = g.A.Falling.downward c.args.automaton.now in
    let G = rules_of c.args.grammar.now.rules in
    let kn = ap (λ r. r.known) c.risen.view_is in
    start-falls A W G c.args.risen.now.known c.requires.run c.rules-rules.ensures.grammar (c.len.result - 1) c.in_ok-start.field-0 (ap (λ n. n - 1) c.len.ensures ∙ ap (λ es. length (keys es) - 1) kn) c.in_ok-start.ensures

pub returns-in_err-frame-clause-steps : goal.returns-in_err-frame-clause-steps
returns-in_err-frame-clause-steps g c =
    let A = g.A.Rising.algebra c.args.automaton.now in
    let W = g.A.Falling.downward c.args.automaton.now in
    let G = rules_of c.args.grammar.now.rules in
    let kn = ap (λ r. r.known) c.risen.view_is in
    let k = c.begin.ensures.steps in
    (_, falls-start A W G c.args.risen.now.known c.requires.run c.rules-rules.ensures.grammar (record { pair = c.len.result - 1; down = c.in_ok-start.field-0 }) (c.begin.new.steps - c.args.steps.now) (ap (λ n. n - 1) c.len.ensures ∙ ap (λ es. length (keys es) - 1) kn) c.in_ok-start.ensures (omega arith))

pub returns-in_err-frame-clause-reads : goal.returns-in_err-frame-clause-reads
returns-in_err-frame-clause-reads g c =
    let h = c.begin.ensures.reads in
    omega (arith, unread-most (rules_of c.args.grammar.now.rules) (keys c.args.risen.now.known) c.args.bodies.now)

pub run_on-requires-clause-start : goal.run_on-requires-clause-start
run_on-requires-clause-start g c =
    let es = c.args.risen.now.known in
    let kn = ap (λ r. r.known) c.risen.view_is in
    let n : c.len.result - 1 ≡ length (keys es) - 1 = ap (λ n. n - 1) c.len.ensures ∙ ap (λ es. length (keys es) - 1) kn in
    c.in_ok-frame.ensures.spot ∙ ap (λ x. record { pair = x; down = c.in_ok-start.field-0 }) n ∙ ap (λ d. record { pair = length (keys es) - 1; down = d }) c.in_ok-start.ensures

pub run_on-requires-clause-read : goal.run_on-requires-clause-read
run_on-requires-clause-read g c = rw c.in_ok-frame.ensures.spot c.in_ok-frame.ensures.read

pub returns-clause-steps : goal.returns-clause-steps
returns-clause-steps g c =
    let A = g.A.Rising.algebra c.args.automaton.now in
    let W = g.A.Falling.downward c.args.automaton.now in
    let G = rules_of c.args.grammar.now.rules in
    let k = c.begin.ensures.steps in
    let e = ap (λ s. length (body_at G (pair_at (keys c.args.risen.now.known) s.pair).0)) c.in_ok-frame.ensures.spot in
    let h = c.run_on.ensures.steps in
    (h.0, falls-fewer A W G h.0 _ _ h.1 (omega (arith, k, e)))

pub returns-clause-reads : goal.returns-clause-reads
returns-clause-reads g c =
    let h = c.in_ok-frame.ensures.once in
    let k = c.run_on.ensures.reads in
    omega (arith, unread-most (rules_of c.args.grammar.now.rules) (keys c.args.risen.now.known) c.args.bodies.now)
