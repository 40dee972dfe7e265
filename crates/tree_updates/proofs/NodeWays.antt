-- The nodes of a document and the ways to them.
use Rattle.std.proofs.Common.{◌≡◌, ℕ, ◌-◌, ◌<◌, ◌≤◌, List, [], ◌∷◌, length, ap, refl, arith, sum_by}
use Rattle.plain_tree.specs.declared.kind.Kind.{Kind}
use Rattle.plain_tree.specs.Tree.{Tree, none, more, node_count}
use Rattle.rule_arena.specs.declared.label.Label.{Label}
use Rattle.slt_grammar.specs.Bodies.{IsTerm}
use Rattle.slt_grammar.specs.Coding.{Codes}
use Rattle.slt_grammar.specs.Algebras.{ranks_of}
use Rattle.slt_grammar.specs.Grammars.{IsGrammar, body_at, value}
use Rattle.slt_grammar.specs.Holding.{IsLawful}
use Rattle.slt_grammar.specs.Keyed.{IsKeyed, Keyed, KeyedRule, nodes_at, rules_of}
use Rattle.slt_grammar.specs.Segments.{preorder}
use Rattle.slt_grammar.specs.declared.level.Level.{Level}
use Rattle.segment_counts.specs.Weights.{node_weight}
use Rattle.segment_counts.proofs.Coded.{nodes-coded}
use Rattle.path_isolation.specs.Chains.{IsChain}
use Rattle.path_isolation.specs.Isolations.{DifferInStart, room_along, start_of}
use Rattle.path_isolation.proofs.Walks.{length-body}
use Rattle.slt_grammar.proofs.KeyedLemmas.{length-rules_of}
use Rattle.preorder_address.proofs.Naming.{value-last}
use Rattle.preorder_address.specs.declared.numbering.Numbering.TheVariants.{Nodes}
use Rattle.tree_updates.specs.Ways.{HasNode, LeadToNode, levels_to, room_to}
use Rattle.tree_updates.proofs.Numbered.{numbered}

-- a node of the document is one of the value
pub node-low : (names : List (Kind × List ℕ)) (G : List KeyedRule) (t : Tree) (n : ℕ) → Codes names (more t none) (value (rules_of G)) → n < node_count t
    → n < sum_by node_weight (preorder (rules_of G) (length G - 1))
node-low names G t n c low = omega (arith, low, nodes-coded names (more t none) (value (rules_of G)) c [], ap (sum_by node_weight) (value-last G))

-- levels that are those to a node
pub lead-there : (names : List (Kind × List ℕ)) (G : List KeyedRule) (t : Tree) (n : ℕ) (ls : List Level) → Codes names (more t none) (value (rules_of G)) → n < node_count t → ls ≡ levels_to G n → LeadToNode G ls n
lead-there names G t n ls c low e = record { located = e; low = node-low names G t n c low }

-- they are a chain
pub chain-to : (K : Keyed) (sound : IsKeyed K) (n : ℕ) (low : n < sum_by node_weight (preorder (rules_of K.rules) (length K.rules - 1))) → (ps : List ℕ) × IsChain K.rules (levels_to K.rules n) ps
chain-to K sound n low = let N = numbered Nodes K sound n low in (N.places, N.chain)

some-term : (ranks : List ℕ) (ls : List Label) → IsTerm ranks ls → 0 < length ls
some-term ranks [] t = absurd t
some-term ranks (l ∷ ls) t = omega arith

-- the start has nodes
pub start-some : (G : List KeyedRule) → IsGrammar (rules_of G) → 0 < length (nodes_at G (start_of G))
start-some G g =
    let some = g.some in
    let n = length-rules_of G in
    omega (arith, some-term (ranks_of (rules_of G)) (body_at (rules_of G) (start_of G)) (g.each (start_of G) (omega (arith, some, n))).shaped.term, length-body G (start_of G))

-- rules differ from themselves in the start at most
pub same-rules : (G : List KeyedRule) → DifferInStart G G
same-rules G = record { many = refl; others = λ r h. refl }

-- what is enough for all ways through rules that differ in the start alone is enough for a node's
pub enough-room : (G : List KeyedRule) (most : ℕ) → ((H : List KeyedRule) (levels : List Level) (ps : List ℕ) → DifferInStart G H → IsLawful H → IsChain H levels ps → room_along H levels ≤ most)
    → (h : Keyed) (n : ℕ) → HasNode G h n → room_to h.rules n ≤ most
enough-room G most enough h n H =
    let c = chain-to h H.keyed n H.low in
    enough h.rules (levels_to h.rules n) c.0 H.differ (record { grammar = H.keyed.grammar; arities = H.keyed.arities }) c.1

-- a node of a grammar's own value
pub own-node : (names : List (Kind × List ℕ)) (h : Keyed) (sound : IsKeyed h) (t : Tree) (n : ℕ) → Codes names (more t none) (value (rules_of h.rules)) → n < node_count t → HasNode h.rules h n
own-node names h sound t n c low = record { keyed = sound; differ = same-rules h.rules; low = node-low names h.rules t n c low }

pub some-rules : (G : List KeyedRule) → IsGrammar (rules_of G) → 0 < length G
some-rules G g = let some = g.some in omega (arith, some, length-rules_of G)
