use Rattle.slt_grammar.specs.Automata.{hits}
use Rattle.slt_grammar.specs.Grammars.{value}
use Rattle.slt_grammar.specs.Keyed.{rules_of}
use Rattle.store_core.proofs.Finding.{finds-all}
use Rattle.store_core.proofs.selecting.run_downward.Goals as goal

pub returns-clause-finds : goal.returns-clause-finds
returns-clause-finds g c =
    let e = c.fall.ensures in
    finds-all (hits (g.A.Rising.algebra c.args.automaton.now) (g.A.Falling.downward c.args.automaton.now) (value (rules_of c.args.grammar.now.rules))) (value (rules_of c.args.grammar.now.rules)) c.args.listed c.fall.result e.count e.listed e.hits e.symbols
