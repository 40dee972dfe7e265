use Rattle.std.proofs.Common.{[], arith}
use Rattle.rule_runs.proofs.Triples.{falls-none}
use Rattle.slt_grammar.specs.Grammars.{value}
use Rattle.slt_grammar.specs.Keyed.{rules_of}
use Rattle.store_core.proofs.Finding.{finds-all}
use Rattle.store_core.proofs.StateCounts.{both-few}
use Rattle.store_core.proofs.selecting.run_both_ways.Goals as goal

pub returns-clause-finds : goal.returns-clause-finds
returns-clause-finds g c =
    let e = c.fall.ensures in
    finds-all _ (value (rules_of c.args.grammar.now.rules)) c.args.listed c.fall.result e.count e.listed e.hits e.symbols

pub returns-clause-reads : goal.returns-clause-reads
returns-clause-reads g c = λ parts outer few.
    let up = c.in_ok-risen.ensures in
    let down = c.fall.ensures in
    let all = both-few _ _ (rules_of c.args.grammar.now.rules) c.rules-rules.ensures.grammar parts outer few up.steps.0 down.steps.0 _ _ up.steps.1 down.steps.1 in
    omega (arith, all, up.counted, down.counted)

pub returns-in_err-risen-clause-reads : goal.returns-in_err-risen-clause-reads
returns-in_err-risen-clause-reads g c = λ parts outer few.
    let up = c.in_err-risen.ensures in
    let none = falls-none _ _ (rules_of c.args.grammar.now.rules) 0 (omega arith) in
    let all = both-few _ _ (rules_of c.args.grammar.now.rules) c.rules-rules.ensures.grammar parts outer few up.steps.0 [] _ 0 up.steps.1 none in
    omega (arith, all, up.counted)
