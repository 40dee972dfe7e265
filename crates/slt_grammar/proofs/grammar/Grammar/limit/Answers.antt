use Rattle.std.proofs.Common.{◌≡◌, ap}
use Rattle.slt_grammar.specs.Keyed.{Keyed}
use Rattle.slt_grammar.specs.Holding.{seen, terms_of}
use Rattle.slt_grammar.proofs.Held.{is_keyed}
use Rattle.slt_grammar.proofs.grammar.Grammar.limit.Goals as goal

pub returns-clause-keyed : goal.returns-clause-keyed
returns-clause-keyed c =
    let see : seen c.self.inside.order.order c.self.inside.ranks.items (terms_of c.self.inside.arena c.self.inside.roots.items) ≡ c.args.self.now.rules = ap (λ (k : Keyed). k.rules) c.self.view_is in
    is_keyed c.self.inside.arena c.self.inside.roots.items c.self.inside.ranks.items c.self.inside.order.order c.args.self.now c.self.invariant.rules c.self.invariant.lawful c.limit.ensures.sound c.limit.ensures.few
    see (ap (λ (k : Keyed). k.limit) c.self.view_is)
