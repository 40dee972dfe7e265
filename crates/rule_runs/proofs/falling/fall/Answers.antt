use Rattle.std.proofs.Common.{◌≡◌, ◌∙◌, [], sym, ap, subst, arith, length, All, Some, slice_get}
use Rattle.slt_grammar.specs.Automata.{hits}
use Rattle.slt_grammar.specs.Grammars.{value}
use Rattle.slt_grammar.specs.Keyed.{rules_of}
use Rattle.rule_runs.specs.Hits.{numbers, symbols_in}
use Rattle.rule_runs.specs.Notes.{AreNoted}
use Rattle.rule_runs.specs.Risen.{keys}
use Rattle.rule_runs.proofs.Triples.{falls-none}
use Rattle.rule_runs.proofs.Answering.{fallen-count, fallen-listed, fallen-answered, listed-where}
use Rattle.rule_runs.proofs.falling.fall.Goals as goal

pub new-requires : goal.new-requires
new-requires g c = omega (arith, c.requires.run.noted.within, ap (λ r. length r.kept) c.risen.view_is, c.len-pairs.ensures, ap (λ r. length (keys r.known)) c.risen.view_is)

pub returns-in_err-bodies-clause-steps : goal.returns-in_err-bodies-clause-steps
returns-in_err-bodies-clause-steps g c = ([], falls-none (g.A.Rising.algebra c.args.automaton.now) (g.A.Falling.downward c.args.automaton.now) (rules_of c.args.grammar.now.rules) _ (omega arith))

pub returns-in_err-known-clause-steps : goal.returns-in_err-known-clause-steps
returns-in_err-known-clause-steps g c = ([], falls-none (g.A.Rising.algebra c.args.automaton.now) (g.A.Falling.downward c.args.automaton.now) (rules_of c.args.grammar.now.rules) _ (omega arith))

pub run_down-requires-clause-run : goal.run_down-requires-clause-run
run_down-requires-clause-run g c = c.requires.run.run

pub run_down-requires-clause-kept : goal.run_down-requires-clause-kept
run_down-requires-clause-kept g c =
    let A = g.A.Rising.algebra c.args.automaton.now in
    let G = rules_of c.args.grammar.now.rules in
    let ks = keys c.args.risen.now.known in
    let kn = ap (λ r. r.known) c.risen.view_is in
    c.in_ok-bodies.ensures.kept A G ks (sym (c.len-pairs.ensures ∙ ap (λ es. length (keys es)) kn)) (subst (λ ms. AreNoted A G ks ms) (sym (ap (λ r. r.kept) c.risen.view_is)) c.requires.run.noted)

pub returns-clause-count : goal.returns-clause-count
returns-clause-count g c =
    fallen-count (g.A.Rising.algebra c.args.automaton.now) (g.A.Falling.downward c.args.automaton.now) (value (rules_of c.args.grammar.now.rules)) c.run_down.new.lists c.in_ok-whole.whole c.in_ok-whole.ensures.fallen

pub returns-clause-listed : goal.returns-clause-listed
returns-clause-listed g c = listed-where c.run_down.new.lists c.in_ok-whole.whole c.args.listed (c.in_ok-whole.ensures.kept ∙ ap (λ l. l.kept) c.new-lists.ensures)

pub returns-clause-hits : goal.returns-clause-hits
returns-clause-hits g c =
    let A = g.A.Rising.algebra c.args.automaton.now in
    let W = g.A.Falling.downward c.args.automaton.now in
    let t = value (rules_of c.args.grammar.now.rules) in
    let h = c.in_ok-whole.ensures.fallen in
    fallen-listed A W t c.run_down.new.lists c.in_ok-whole.whole h (λ found. numbers found ≡ hits A W t) h.numbered

pub returns-clause-symbols : goal.returns-clause-symbols
returns-clause-symbols g c =
    let A = g.A.Rising.algebra c.args.automaton.now in
    let W = g.A.Falling.downward c.args.automaton.now in
    let t = value (rules_of c.args.grammar.now.rules) in
    let h = c.in_ok-whole.ensures.fallen in
    fallen-listed A W t c.run_down.new.lists c.in_ok-whole.whole h (All (λ hit. slice_get (symbols_in t) hit.number ≡ Some hit.symbol)) h.symbols

pub invariant_of-result : goal.invariant_of-result
invariant_of-result g c =
    fallen-answered (g.A.Rising.algebra c.args.automaton.now) (g.A.Falling.downward c.args.automaton.now) (value (rules_of c.args.grammar.now.rules)) c.run_down.new.lists c.in_ok-whole.whole c.in_ok-whole.ensures.fallen
