use Rattle.std.proofs.Common.{◌≡◌, ◌∙◌, ◌+◌, ℕ, List, [], get_or, length, ap, sym}
use Rattle.std.proofs.lemmas.List.{length-map}
use Rattle.rule_arena.specs.Preorder.{subterm}
use Rattle.rule_arena.specs.Terms.{Node, key_in, kids_of}
use Rattle.slt_grammar.specs.Keyed.{Keyed}
use Rattle.slt_grammar.specs.Holding.{seen, terms_of}
use Rattle.slt_grammar.specs.Placing.{placed, placed_node}
use Rattle.slt_grammar.proofs.Placed.{subterm-placed}
use Rattle.slt_grammar.proofs.Seen.{key-placed}
use Rattle.slt_grammar.proofs.Held.{node-is, nodes-are}
use Rattle.slt_grammar.proofs.grammar.Grammar.next_past_term.Goals as goal

pub next_past_term-requires : goal.next_past_term-requires
next_past_term-requires g c =
    let see : seen c.self.inside.order.order c.self.inside.ranks.items (terms_of c.self.inside.arena c.self.inside.roots.items) ≡ c.args.self.now.rules = ap (λ (k : Keyed). k.rules) c.self.view_is in
    node-is c.self.inside.arena c.self.inside.roots.items c.self.inside.ranks.items c.self.inside.order.order c.args.self.now.rules c.self.invariant.rules see c.requires.0 c.requires.1 c.args.key c.requires.2

pub returns-clause-next : goal.returns-clause-next
returns-clause-next g c = λ r p e.
    let see : seen c.self.inside.order.order c.self.inside.ranks.items (terms_of c.self.inside.arena c.self.inside.roots.items) ≡ c.args.self.now.rules = ap (λ (k : Keyed). k.rules) c.self.view_is in
    let body : List Node = get_or (terms_of c.self.inside.arena c.self.inside.roots.items) r [] in
    let z : length (subterm kids_of (placed c.self.inside.order.order body) p) ≡ length (subterm kids_of body p) =
    ap length (sym (subterm-placed c.self.inside.order.order body p)) ∙ length-map (subterm kids_of body p) (placed_node c.self.inside.order.order) in
    ap (λ (ns : List Node). key_in ns (p + length (subterm kids_of ns p))) (nodes-are c.self.inside.arena c.self.inside.roots.items c.self.inside.ranks.items c.self.inside.order.order c.args.self.now.rules c.self.invariant.rules see r)
    ∙ key-placed c.self.inside.order.order body (p + length (subterm kids_of (placed c.self.inside.order.order body) p))
    ∙ ap (λ (q : ℕ). key_in body (p + q)) z
    ∙ c.next_past_term.ensures.next (node-is c.self.inside.arena c.self.inside.roots.items c.self.inside.ranks.items c.self.inside.order.order c.args.self.now.rules c.self.invariant.rules see r p c.args.key e)
