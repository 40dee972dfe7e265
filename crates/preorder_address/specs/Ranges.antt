-- Some of a node's kids, one after another, and their parameters.
use Rattle.std.specs.Prelude.{◌≡◌, ℕ, ◌+◌, ◌≤◌, List, [], ◌∷◌, take, drop, sum}
use Rattle.rule_arena.specs.Terms.{Node}
use Rattle.slt_grammar.specs.Bodies.{params}
use Rattle.slt_grammar.specs.Keyed.{KeyedRule, nodes_at, rules_of}
use Rattle.slt_grammar.specs.Segments.{preorder}
use Rattle.segment_counts.specs.Weights.{node_weight}
use Rattle.preorder_address.specs.Sites.{labels_before, term_weights}
use Rattle.preorder_address.specs.Weighing.{params_at}
use Rattle.preorder_address.specs.declared.spot_extent.KidRange.{KidRange}
use Rattle.preorder_address.specs.declared.spot_extent.RangeWeight.{RangeWeight}

-- how many parameters each of the terms of a body has
abbrev pub term_params : List Node → List ℕ
term_params [] = []
term_params (x ∷ xs) = (params_at x.label + sum (take x.kids (term_params xs))) ∷ drop x.kids (term_params xs)

-- what these of some weights are together
abbrev pub range_sum : KidRange → List ℕ → ℕ
range_sum range weights = sum (take range.count (drop range.first weights))

-- these kids of the node at a place of a rule have so many nodes, and those that the arguments for these parameters have
pub record WeighsRange (G : List KeyedRule) (r p : ℕ) (x : Node) (range : KidRange) (found : RangeWeight) : Type 0 where
  pub weighs : (args : List ℕ) → range_sum range (take x.kids (term_weights node_weight (rules_of G) (drop (params (labels_before G r p)) args) (drop (p + 1) (nodes_at G r)))) ≡ found.nodes + range_sum found.params args
  pub within : found.params.first + found.params.count ≤ params (preorder (rules_of G) r)
