use Rattle.std.proofs.Common.{◌∙◌}
use Rattle.slt_grammar.specs.Automata.{hits}
use Rattle.slt_grammar.specs.Grammars.{value}
use Rattle.slt_grammar.specs.Keyed.{rules_of}
use Rattle.bulk_rewrite.proofs.FirstFound.{counts-nothing}
use Rattle.bulk_rewrite.proofs.hit_runs.hits_nothing.Goals as goal

pub returns-clause-nothing : goal.returns-clause-nothing
returns-clause-nothing g c =
    let H = hits (g.A.Rising.algebra c.args.automaton.now) (g.A.Falling.downward c.args.automaton.now) (value (rules_of c.args.grammar.now.rules)) in
    counts-nothing H c.count.result (c.count.ensures.count ∙ c.in_ok-fallen.ensures.count)
