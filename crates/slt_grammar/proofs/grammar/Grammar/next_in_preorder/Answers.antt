use Rattle.std.proofs.Common.{◌≡◌, ◌∙◌, ◌+◌, List, [], get_or, ap}
use Rattle.rule_arena.specs.Terms.{Node, key_in}
use Rattle.slt_grammar.specs.Keyed.{Keyed}
use Rattle.slt_grammar.specs.Holding.{seen, terms_of}
use Rattle.slt_grammar.proofs.Seen.{key-placed}
use Rattle.slt_grammar.proofs.Held.{node-is, nodes-are}
use Rattle.slt_grammar.proofs.grammar.Grammar.next_in_preorder.Goals as goal

pub next_in_preorder-requires : goal.next_in_preorder-requires
next_in_preorder-requires g c =
    let see : seen c.self.inside.order.order c.self.inside.ranks.items (terms_of c.self.inside.arena c.self.inside.roots.items) ≡ c.args.self.now.rules = ap (λ (k : Keyed). k.rules) c.self.view_is in
    node-is c.self.inside.arena c.self.inside.roots.items c.self.inside.ranks.items c.self.inside.order.order c.args.self.now.rules c.self.invariant.rules see c.requires.0 c.requires.1 c.args.key c.requires.2

pub returns-clause-next : goal.returns-clause-next
returns-clause-next g c = λ r p e.
    let see : seen c.self.inside.order.order c.self.inside.ranks.items (terms_of c.self.inside.arena c.self.inside.roots.items) ≡ c.args.self.now.rules = ap (λ (k : Keyed). k.rules) c.self.view_is in
    ap (λ (ns : List Node). key_in ns (p + 1)) (nodes-are c.self.inside.arena c.self.inside.roots.items c.self.inside.ranks.items c.self.inside.order.order c.args.self.now.rules c.self.invariant.rules see r)
    ∙ key-placed c.self.inside.order.order (get_or (terms_of c.self.inside.arena c.self.inside.roots.items) r []) (p + 1)
    ∙ c.next_in_preorder.ensures.next (node-is c.self.inside.arena c.self.inside.roots.items c.self.inside.ranks.items c.self.inside.order.order c.args.self.now.rules c.self.invariant.rules see r p c.args.key e)
