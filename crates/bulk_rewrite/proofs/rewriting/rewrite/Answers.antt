use Rattle.slt_grammar.specs.Keyed.{rules_of}
use Rattle.slt_grammar.specs.Grammars.{IsGrammar}
use Rattle.bulk_rewrite.proofs.Grammars.{grammar-made, value-made}
use Rattle.bulk_rewrite.proofs.Checked.{is-memory}
use Rattle.bulk_rewrite.proofs.rewriting.rewrite.Goals as goal

pub returns-in-Ok-clause-value : goal.returns-in-Ok-clause-value
returns-in-Ok-clause-value g c =
    let A = g.A.Rising.algebra c.args.automaton.now in
    let W = g.A.Falling.downward c.args.automaton.now in
    let R = g.A.Rewriter.rewriting c.args.automaton.now in
    let G = rules_of c.args.grammar.now.rules in
    let once = c.in_ok-rules.ensures.made in
    rw c.in-Ok.ensures.rules (value-made A W G c.rules-rules.ensures.grammar R (g.met.A.Rewriter.lawful c.args.automaton.now) once.triples c.in_ok-rules.rules once.made once.start)

pub returns-in-Ok-clause-swept : goal.returns-in-Ok-clause-swept
returns-in-Ok-clause-swept g c = rw c.in-Ok.ensures.rules c.in-Ok.ensures.swept

pub refused-requires : goal.refused-requires
refused-requires g c =
    let A = g.A.Rising.algebra c.args.automaton.now in
    let W = g.A.Falling.downward c.args.automaton.now in
    let R = g.A.Rewriter.rewriting c.args.automaton.now in
    let G = rules_of c.args.grammar.now.rules in
    let once = c.in_ok-rules.ensures.made in
    let h : IsGrammar c.in_ok-rules.rules = grammar-made A W G c.rules-rules.ensures.grammar R (g.met.A.Rewriter.lawful c.args.automaton.now) once.triples c.in_ok-rules.rules once.made once.start in
    is-memory c.in_ok-rules.rules c.in-Err.fault h c.in_ok-rules.ensures.swept c.in-Err.ensures.fault
