use Rattle.rule_arena.specs.Terms.{Node}
use Rattle.preorder_address.proofs.Heading.{heading-last, last-there, last-label}
use Rattle.preorder_address.proofs.nodes.label_of.Goals as goal

pub site-requires : goal.site-requires
site-requires g c =
    let a = c.args in
    let l = heading-last a.grammar.now.rules a.descent c.loop-level.descent c.loop-level.last a.steps.now c.loop-level.steps c.loop-level.invariant c.in_default.ensures.levels.0 c.requires.leads.0 c.requires.leads.1 c.requires.leads.2 c.in-Some-last.key c.in-Some-last.is in
    last-there a.grammar.now.rules c.in-Some-last.key c.requires.leads.1 l

pub returns-clause-label : goal.returns-clause-label
returns-clause-label g c = λ r f leads.
    let a = c.args in
    let l = heading-last a.grammar.now.rules a.descent c.loop-level.descent c.loop-level.last a.steps.now c.loop-level.steps c.loop-level.invariant c.in_default.ensures.levels.0 r f leads c.in-Some-last.key c.in-Some-last.is in
    let x : Node = record { key = c.in-Some-last.key; label = c.site.result.label; kids = c.site.result.arity } in
    last-label a.grammar.now.rules c.in-Some-last.key f l x c.site.ensures.node
