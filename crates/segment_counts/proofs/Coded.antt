-- The code of a list of trees has as many nodes as the trees.
use Rattle.std.proofs.Common.{◌≡◌, ℕ, ◌+◌, List, [], ap, ◌∙◌, arith, sum_by}
use Rattle.std.proofs.lemmas.List.Sums.{sum_by-cons}
use Rattle.plain_tree.specs.declared.kind.Kind.{Kind}
use Rattle.plain_tree.specs.Tree.{Tree, node, Trees, none, more, node_count, node_count_all}
use Rattle.rule_arena.specs.declared.label.Label.{Label}
use Rattle.rule_arena.specs.declared.label.Label.TheVariants.{Bottom, Symbol}
use Rattle.slt_grammar.specs.Coding.{Codes}
use Rattle.slt_grammar.specs.Segments.{listed}
use Rattle.slt_grammar.specs.Terms.{Term}
use Rattle.segment_counts.specs.Weights.{node_weight}

pub nodes-coded : (names : List (Kind × List ℕ)) (ts : Trees) (term : Term) → Codes names ts term → (k : List Label) → sum_by node_weight (listed term k) ≡ node_count_all ts + sum_by node_weight k
nodes-coded names none term c k = ap (λ t. sum_by node_weight (listed t k)) c ∙ omega (arith, sum_by-cons node_weight Bottom k)
nodes-coded names (more (node kind n v ks) ts) term c k =
    ap (λ t. sum_by node_weight (listed t k)) c.6 ∙ omega (arith, sum_by-cons node_weight (Symbol c.0) (listed c.1 (listed c.2 k)), nodes-coded names ks c.1 c.4 (listed c.2 k), nodes-coded names ts c.2 c.5 k)

-- and that of a document as many as the document has
pub weight-coded : (names : List (Kind × List ℕ)) (t : Tree) (term : Term) → Codes names (more t none) term → sum_by node_weight (listed term []) ≡ node_count t
weight-coded names t term code = omega (arith, nodes-coded names (more t none) term code [])
