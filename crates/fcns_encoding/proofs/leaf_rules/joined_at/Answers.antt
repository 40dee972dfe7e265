use Rattle.std.proofs.Common.{◌^◌, Some, ap, ◌∙◌, arith}
use Rattle.rule_arena.specs.declared.label.Label.TheVariants.{Bottom}
use Rattle.slt_grammar.proofs.RuleMeanings.{call-earlier}
use Rattle.fcns_encoding.proofs.CellLemmas.{has_get}
use Rattle.fcns_encoding.proofs.LeafSteps.{joined-leaf, joined-symbol}
use Rattle.fcns_encoding.proofs.leaf_rules.joined_at.Goals as goal

pub overflow_add-result : goal.overflow_add-result
overflow_add-result c =
    let low = call-earlier (2 ^ 63) c.args.at c.in-Call.rule c.args.labels.now c.requires.calls c.in-Call.is in omega (arith, low, c.requires.above)

pub returns-in-Some-clause-joined : goal.returns-in-Some-clause-joined
returns-in-Some-clause-joined c =
    joined-leaf c.args.places.now c.args.above c.in-Symbol.symbol c.in-Some.leaf c.args.at c.args.labels.now (has_get c.args.labels.now c.args.at Bottom c.requires.there ∙ ap Some c.in-Symbol.is) c.in-Some.ensures.some.0 c.in-Some.ensures.some.1

pub returns-in-None-clause-joined : goal.returns-in-None-clause-joined
returns-in-None-clause-joined c =
    joined-symbol c.args.places.now c.args.above c.in-Symbol.symbol c.args.at c.args.labels.now (has_get c.args.labels.now c.args.at Bottom c.requires.there ∙ ap Some c.in-Symbol.is) c.in-None.ensures.none
