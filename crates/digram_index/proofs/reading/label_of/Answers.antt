use Rattle.std.proofs.Common.{Some, sym, ap, ◌∙◌}
use Rattle.rule_arena.specs.Terms.{Node}
use Rattle.rule_arena.proofs.NodeLemmas.{key_of_node}
use Rattle.slt_grammar.specs.Keyed.{nodes_at}
use Rattle.digram_index.proofs.LevelLemmas.{same_some}
use Rattle.digram_index.proofs.reading.label_of.Goals as goal

pub returns : goal.returns
returns c = λ r p n e k.
    let there = key_of_node (nodes_at c.args.grammar.now.rules r) p n e ∙ ap Some k in
    ap (λ (x : Node). x.label) (same_some n _ (sym e ∙ c.site.ensures.node r p there))
