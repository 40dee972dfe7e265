-- How much more one code weighs than another, by the trees for which they stand.
use Rattle.std.proofs.Common.{◌≡◌, ℕ, ◌+◌, List, [], length, ap, sym, ◌∙◌, arith, sum_by}
use Rattle.plain_tree.specs.declared.kind.Kind.{Kind}
use Rattle.plain_tree.specs.Tree.{Tree, node, Trees, none, more, node_count}
use Rattle.rule_arena.specs.declared.label.Label.{Label}
use Rattle.slt_grammar.specs.Bodies.{params}
use Rattle.slt_grammar.specs.Coding.{Codes}
use Rattle.slt_grammar.specs.Grammars.{value}
use Rattle.slt_grammar.specs.Segments.{listed}
use Rattle.slt_grammar.specs.Standing.{StandsFor}
use Rattle.slt_grammar.specs.Terms.{Term}
use Rattle.slt_grammar.specs.declared.rules.Rule.{Rule}
use Rattle.slt_grammar.proofs.Standing.{texts-one}
use Rattle.segment_counts.specs.Changes.{HasMore}
use Rattle.segment_counts.specs.Weights.{text_weight}
use Rattle.segment_counts.proofs.Coded.{weight-coded}
use Rattle.preorder_address.proofs.TreePlaces.{texts-coded}

-- codes have no parameters
coded-closed : (names : List (Kind × List ℕ)) (ts : Trees) (term : Term) → Codes names ts term → (k : List Label) → params (listed term k) ≡ params k
coded-closed names none term c k = ap (λ t. params (listed t k)) c
coded-closed names (more (node kind n v ks) ts) term c k = ap (λ t. params (listed t k)) c.6 ∙ coded-closed names ks c.1 c.4 (listed c.2 k) ∙ coded-closed names ts c.2 c.5 k

values-weighed : (G : List Rule) (names : List (Kind × List ℕ)) (values : List (List ℕ)) (t : Tree) → StandsFor G names values t → sum_by (text_weight names) (listed (value G) []) ≡ length values
values-weighed G names values t s = omega (arith, texts-coded names (more t none) (value G) s.code [], ap length (texts-one t ∙ sym s.texts))

-- the value of a grammar that stands for a document with so many more nodes and values weighs so much more
pub has-more : (G H : List Rule) (names : List (Kind × List ℕ)) (values values' : List (List ℕ)) (t u : Tree) (nodes texts : ℕ) → StandsFor G names values t → StandsFor H names values' u
    → node_count u ≡ node_count t + nodes → length values' ≡ length values + texts → HasMore names (value G) (value H) nodes texts
has-more G H names values values' t u nodes texts a b n m = record {
  closed = coded-closed names (more t none) (value G) a.code [];
  closed_too = coded-closed names (more u none) (value H) b.code [];
  nodes_are = omega (arith, weight-coded names t (value G) a.code, weight-coded names u (value H) b.code, n);
  texts_are = omega (arith, values-weighed G names values t a, values-weighed H names values' u b, m);
}
