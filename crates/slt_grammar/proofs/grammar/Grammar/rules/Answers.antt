use Rattle.std.proofs.Common.{◌≡◌, ap, arith}
use Rattle.slt_grammar.specs.Keyed.{Keyed}
use Rattle.slt_grammar.specs.Holding.{seen, terms_of}
use Rattle.slt_grammar.proofs.Held.{many-rules}
use Rattle.slt_grammar.proofs.grammar.Grammar.rules.Goals as goal

pub returns-clause-value : goal.returns-clause-value
returns-clause-value c =
    let see : seen c.self.inside.order.order c.self.inside.ranks.items (terms_of c.self.inside.arena c.self.inside.roots.items) ≡ c.args.self.now.rules = ap (λ (k : Keyed). k.rules) c.self.view_is in
    omega (arith, many-rules c.self.inside.arena c.self.inside.roots.items c.self.inside.ranks.items c.self.inside.order.order c.args.self.now.rules c.self.invariant.rules see, c.len.ensures, c.self.inside.roots.ok)
