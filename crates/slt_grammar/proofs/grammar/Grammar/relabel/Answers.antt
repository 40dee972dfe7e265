use Rattle.std.proofs.Common.{◌≡◌, ap, arith}
use Rattle.slt_grammar.specs.Keyed.{Keyed}
use Rattle.slt_grammar.specs.Holding.{seen, terms_of}
use Rattle.slt_grammar.proofs.KeptRelabels.{seen-relabelled, kept-relabelled}
use Rattle.slt_grammar.proofs.Held.{node-is}
use Rattle.slt_grammar.proofs.ChangedValues.{relabelling-changes}
use Rattle.slt_grammar.proofs.KeptLemmas.{lawful, counted}
use Rattle.slt_grammar.proofs.OtherValues.{others-keep}
use Rattle.slt_grammar.proofs.grammar.Grammar.relabel.Goals as goal

pub relabel-requires : goal.relabel-requires
relabel-requires c =
    let see : seen c.self.inside.order.order c.self.inside.ranks.items (terms_of c.self.inside.arena c.self.inside.roots.items) ≡ c.args.self.now.rules = ap (λ (k : Keyed). k.rules) c.self.view_is in
    node-is c.self.inside.arena c.self.inside.roots.items c.self.inside.ranks.items c.self.inside.order.order c.args.self.now.rules c.self.invariant.rules see c.requires.here.rule c.requires.here.place c.args.at c.requires.here.there

pub invariant_of-self : goal.invariant_of-self
invariant_of-self c =
    let see : seen c.self.inside.order.order c.self.inside.ranks.items (terms_of c.self.inside.arena c.self.inside.roots.items) ≡ c.args.self.now.rules = ap (λ (k : Keyed). k.rules) c.self.view_is in
    kept-relabelled c.self.inside.arena c.self.inside.roots.items c.self.inside.ranks.items c.self.inside.calls.items c.self.inside.order.order c.self.inside.size c.args.self.now.rules c.self.invariant see
    c.args.at c.args.symbol c.requires.here c.relabel.new.self c.relabel.ensures.changed c.relabel.ensures.others c.requires.symbol c.requires.label

pub returns-clause-rules : goal.returns-clause-rules
returns-clause-rules c = λ S.
    let see : seen c.self.inside.order.order c.self.inside.ranks.items (terms_of c.self.inside.arena c.self.inside.roots.items) ≡ c.args.self.now.rules = ap (λ (k : Keyed). k.rules) c.self.view_is in
    seen-relabelled c.self.inside.arena c.self.inside.roots.items c.self.inside.ranks.items c.self.inside.calls.items c.self.inside.order.order c.self.inside.size c.args.self.now.rules c.self.invariant see
    c.args.at c.args.symbol S c.relabel.new.self c.relabel.ensures.changed c.relabel.ensures.others

pub returns-clause-value : goal.returns-clause-value
returns-clause-value c = λ S.
    let see : seen c.self.inside.order.order c.self.inside.ranks.items (terms_of c.self.inside.arena c.self.inside.roots.items) ≡ c.args.self.now.rules = ap (λ (k : Keyed). k.rules) c.self.view_is in
    relabelling-changes c.args.self.now.rules _ c.args.at c.args.symbol
    (lawful c.self.inside.arena c.self.inside.roots.items c.self.inside.ranks.items c.self.inside.calls.items c.self.inside.order.order c.self.inside.size c.args.self.now.rules c.self.invariant see)
    S (returns-clause-rules c S.node.here)

pub returns-clause-size : goal.returns-clause-size
returns-clause-size c =
    let see : seen c.self.inside.order.order c.self.inside.ranks.items (terms_of c.self.inside.arena c.self.inside.roots.items) ≡ c.args.self.now.rules = ap (λ (k : Keyed). k.rules) c.self.view_is in
    omega (arith, (invariant_of-self c).counted.real, (counted c.self.inside.arena c.self.inside.roots.items c.self.inside.ranks.items c.self.inside.calls.items c.self.inside.order.order c.self.inside.size c.args.self.now.rules c.self.invariant see).real)

pub returns-clause-values : goal.returns-clause-values
returns-clause-values c = λ S. others-keep c.args.self.now.rules _ S.node.here.rule _ S.start (returns-clause-rules c S.node.here)
