use Rattle.slt_grammar.specs.Keyed.{rules_of}
use Rattle.rule_runs.specs.Risen.{keys}
use Rattle.rule_runs.proofs.Triples.{pair-of, start-last}
use Rattle.bulk_rewrite.proofs.Driving.{finished, finished-swept}
use Rattle.bulk_rewrite.proofs.making.finish.Goals as goal

pub returns-clause-made : goal.returns-clause-made
returns-clause-made g c =
    let A = g.A.Rising.algebra c.args.automaton.now in
    let W = g.A.Falling.downward c.args.automaton.now in
    let R = g.A.Rewriter.rewriting c.args.automaton.now in
    let G = rules_of c.args.grammar.now.rules in
    let es = c.args.risen.now.known in
    let ks = keys es in
    let m = c.args.making in
    let pair = pair-of A W G es c.requires.run m.frame.spot.pair c.requires.whole.tables.there in
    let e = c.in_ok-push.ensures.ok in
    rw (e, c.count_kept.ensures, c.deref.ensures.value) (finished A W G R ks m pair (start-last A W G es c.requires.run).0 c.requires.whole c.requires.last)

pub returns-clause-swept : goal.returns-clause-swept
returns-clause-swept g c =
    let A = g.A.Rising.algebra c.args.automaton.now in
    let W = g.A.Falling.downward c.args.automaton.now in
    let R = g.A.Rewriter.rewriting c.args.automaton.now in
    let G = rules_of c.args.grammar.now.rules in
    let es = c.args.risen.now.known in
    let ks = keys es in
    let m = c.args.making in
    let pair = pair-of A W G es c.requires.run m.frame.spot.pair c.requires.whole.tables.there in
    let e = c.in_ok-push.ensures.ok in
    rw (e, c.count_kept.ensures, c.deref.ensures.value) (finished-swept A W G R ks m pair c.requires.whole c.requires.last)
