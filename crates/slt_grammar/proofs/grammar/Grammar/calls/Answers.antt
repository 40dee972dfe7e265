use Rattle.std.proofs.Common.{◌≡◌, ◌∙◌, List, length, ap, arith}
use Rattle.slt_grammar.specs.Grammars.{calls_of}
use Rattle.slt_grammar.specs.Keyed.{Keyed, KeyedRule, rules_of}
use Rattle.slt_grammar.specs.Holding.{seen, terms_of}
use Rattle.slt_grammar.proofs.Orders.{get-any}
use Rattle.slt_grammar.proofs.grammar.Grammar.calls.Goals as goal

pub index-requires : goal.index-requires
index-requires c =
    let see : seen c.self.inside.order.order c.self.inside.ranks.items (terms_of c.self.inside.arena c.self.inside.roots.items) ≡ c.args.self.now.rules = ap (λ (k : Keyed). k.rules) c.self.view_is in
    omega (arith, ap (λ (G : List KeyedRule). length G) see, c.self.invariant.counted.many, c.requires, c.self.inside.calls.ok)

pub returns : goal.returns
returns c =
    let see : seen c.self.inside.order.order c.self.inside.ranks.items (terms_of c.self.inside.arena c.self.inside.roots.items) ≡ c.args.self.now.rules = ap (λ (k : Keyed). k.rules) c.self.view_is in
    c.index.ensures ∙ get-any c.self.inside.calls.items c.args.rule c.index.result.now 0 (omega (arith, ap (λ (G : List KeyedRule). length G) see, c.self.invariant.counted.many, c.requires))
    ∙ c.self.invariant.counted.each c.args.rule (omega (arith, ap (λ (G : List KeyedRule). length G) see, c.requires)) ∙ ap (λ (G : List KeyedRule). calls_of (rules_of G) c.args.rule) see
