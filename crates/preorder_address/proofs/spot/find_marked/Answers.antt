use Rattle.std.proofs.Common.{◌≡◌, ◌-◌, arith, ap, length, sum_by}
use Rattle.slt_grammar.specs.Keyed.{rules_of}
use Rattle.segment_counts.specs.Weights.{node_weight}
use Rattle.slt_grammar.proofs.KeyedLemmas.{length-rules_of}
use Rattle.segment_counts.specs.Counting.{told}
use Rattle.segment_counts.specs.declared.counts.Measure.TheVariants.{Nodes}
use Rattle.preorder_address.specs.declared.numbering.Numbering.TheVariants as by
use Rattle.preorder_address.proofs.Locating.{leads}
use Rattle.preorder_address.proofs.Naming.{value-last}
use Rattle.preorder_address.proofs.spot.find_marked.Goals as goal

pub descend-requires-clause-number : goal.descend-requires-clause-number
descend-requires-clause-number g c =
    let a = c.args in
    omega (arith, c.if-number-total.false, c.total.ensures.nodes a.names.now (rules_of a.grammar.now.rules) c.requires.counts c.limit-limit.ensures.keyed.grammar, ap (sum_by node_weight) (value-last a.grammar.now.rules))

pub returns-clause-leads : goal.returns-clause-leads
returns-clause-leads g c =
    let a = c.args in
    let last : length a.grammar.now.rules - 1 ≡ a.counts.now.rules - 1 = omega (arith, c.requires.counts.rules, length-rules_of a.grammar.now.rules) in
    leads by.Nodes a.counts.now (length a.grammar.now.rules - 1) a.number last (omega (arith, c.if-number-total.false, c.total.ensures.kept, ap (λ r. told Nodes a.counts.now.rows r 0) last)) a.grammar.now c.limit-limit.ensures.keyed (a.names.now, c.requires.counts)
