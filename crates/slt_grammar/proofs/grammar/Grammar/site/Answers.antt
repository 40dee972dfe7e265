use Rattle.std.proofs.Common.{◌≡◌, ◌∙◌, List, [], Some, get_or, slice_get, ap, sym}
use Rattle.rule_arena.specs.Terms.{Node, parent_in}
use Rattle.rule_arena.specs.declared.label.Label.{Label}
use Rattle.slt_grammar.specs.Keyed.{Keyed}
use Rattle.slt_grammar.specs.Holding.{seen, terms_of}
use Rattle.slt_grammar.proofs.Seen.{known-at, known-node, node-placed, parent-placed}
use Rattle.slt_grammar.proofs.Held.{node-is, nodes-are}
use Rattle.slt_grammar.proofs.grammar.Grammar.site.Goals as goal

pub site-site-requires : goal.site-site-requires
site-site-requires g c =
    let see : seen c.self.inside.order.order c.self.inside.ranks.items (terms_of c.self.inside.arena c.self.inside.roots.items) ≡ c.args.self.now.rules = ap (λ (k : Keyed). k.rules) c.self.view_is in
    node-is c.self.inside.arena c.self.inside.roots.items c.self.inside.ranks.items c.self.inside.order.order c.args.self.now.rules c.self.invariant.rules see c.requires.0 c.requires.1 c.args.key c.requires.2

pub place_label-requires : goal.place_label-requires
place_label-requires g c =
    let see : seen c.self.inside.order.order c.self.inside.ranks.items (terms_of c.self.inside.arena c.self.inside.roots.items) ≡ c.args.self.now.rules = ap (λ (k : Keyed). k.rules) c.self.view_is in
    let n : Node = record { key = c.args.key; label = c.site-site.result.label; kids = c.site-site.result.arity } in
    let r = c.requires.0 in
    known-node c.self.inside.order.order (get_or (terms_of c.self.inside.arena c.self.inside.roots.items) r []) c.requires.1 n (c.site-site.ensures.node (node-is c.self.inside.arena c.self.inside.roots.items c.self.inside.ranks.items c.self.inside.order.order c.args.self.now.rules c.self.invariant.rules see r c.requires.1 c.args.key c.requires.2))
    (known-at c.self.inside.order.order (terms_of c.self.inside.arena c.self.inside.roots.items) r c.self.invariant.rules.known)

pub returns-clause-node : goal.returns-clause-node
returns-clause-node g c = λ r p e.
    let see : seen c.self.inside.order.order c.self.inside.ranks.items (terms_of c.self.inside.arena c.self.inside.roots.items) ≡ c.args.self.now.rules = ap (λ (k : Keyed). k.rules) c.self.view_is in
    let n : Node = record { key = c.args.key; label = c.site-site.result.label; kids = c.site-site.result.arity } in
    ap (λ (ns : List Node). slice_get ns p) (nodes-are c.self.inside.arena c.self.inside.roots.items c.self.inside.ranks.items c.self.inside.order.order c.args.self.now.rules c.self.invariant.rules see r)
    ∙ node-placed c.self.inside.order.order (get_or (terms_of c.self.inside.arena c.self.inside.roots.items) r []) p n (c.site-site.ensures.node (node-is c.self.inside.arena c.self.inside.roots.items c.self.inside.ranks.items c.self.inside.order.order c.args.self.now.rules c.self.invariant.rules see r p c.args.key e))
    ∙ ap (λ (l : Label). let m : Node = record { key = c.args.key; label = l; kids = c.site-site.result.arity } in Some m) (sym c.place_label.ensures)

pub returns-clause-parent : goal.returns-clause-parent
returns-clause-parent g c = λ r p e.
    let see : seen c.self.inside.order.order c.self.inside.ranks.items (terms_of c.self.inside.arena c.self.inside.roots.items) ≡ c.args.self.now.rules = ap (λ (k : Keyed). k.rules) c.self.view_is in
    ap (λ (ns : List Node). parent_in ns p) (nodes-are c.self.inside.arena c.self.inside.roots.items c.self.inside.ranks.items c.self.inside.order.order c.args.self.now.rules c.self.invariant.rules see r)
    ∙ parent-placed c.self.inside.order.order (get_or (terms_of c.self.inside.arena c.self.inside.roots.items) r []) p
    ∙ c.site-site.ensures.parent (node-is c.self.inside.arena c.self.inside.roots.items c.self.inside.ranks.items c.self.inside.order.order c.args.self.now.rules c.self.invariant.rules see r p c.args.key e)
