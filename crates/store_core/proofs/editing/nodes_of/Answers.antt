use Rattle.std.proofs.Common.{◌∙◌}
use Rattle.slt_grammar.specs.Grammars.{value}
use Rattle.slt_grammar.specs.Keyed.{rules_of}
use Rattle.segment_counts.proofs.Coded.{weight-coded}
use Rattle.store_core.proofs.editing.nodes_of.Goals as goal

pub returns : goal.returns
returns c = λ t i.
    let s = c.args.store.now in
    let G = rules_of s.grammar.rules in
    c.total.ensures.nodes s.names G i.counts c.rules-rules.ensures.grammar ∙ weight-coded s.names t (value G) i.stand.code
