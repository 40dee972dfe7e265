-- What rows have to be where a grammar changes.
use Rattle.std.specs.Prelude.{◌≡◌, ℕ, ◌+◌, ◌-◌, ◌*◌, ◌<◌, ◌^◌, List, [], get_or, sum_by}
use Rattle.plain_tree.specs.declared.kind.Kind.{Kind}
use Rattle.slt_grammar.specs.Bodies.{params}
use Rattle.slt_grammar.specs.Segments.{listed, segment}
use Rattle.slt_grammar.specs.Terms.{Term}
use Rattle.segment_counts.specs.Counting.{CountTable, no_row, no_weights, weight_by}
use Rattle.segment_counts.specs.Weights.{weigh}
use Rattle.segment_counts.specs.declared.counts.Measure.{Measure}
use Rattle.segment_counts.specs.declared.counts.Measure.TheVariants.{Nodes, Texts}
use Rattle.segment_counts.specs.declared.counts.Weights.{Weights}

-- the row has the weights of the value's segments, and each weight of the value fits 64 bits
pub record IsRowOf (names : List (Kind × List ℕ)) (value : Term) (row : List Weights) : Type 0 where
  pub each : (m : Measure) (i : ℕ) → weight_by m (get_or row i no_weights) ≡ sum_by (weigh names m) (segment i (listed value []))
  pub small : (m : Measure) → sum_by (weigh names m) (listed value []) < 2 ^ 64

-- the weights of a rule without parameters that has so many nodes, and so many of them with a text
abbrev pub leaf_weights : ℕ → ℕ → Weights
leaf_weights nodes texts = record { nodes = nodes; texts = texts; all = 2 * nodes + 1 }

-- more and fewer nodes and texts
abbrev pub raised : Weights → ℕ → ℕ → Weights
raised w nodes texts = record { nodes = w.nodes + nodes; texts = w.texts + texts; all = w.all + 2 * nodes }

abbrev pub lowered : Weights → ℕ → ℕ → Weights
lowered w nodes texts = record { nodes = w.nodes - nodes; texts = w.texts - texts; all = w.all - 2 * nodes }

-- the weights of the last rule's first segment
abbrev pub start_weights : CountTable → Weights
start_weights C = get_or (get_or C.rows (C.rules - 1) no_row) 0 no_weights

-- the value has no parameters, so many nodes, and so many of them with a text
pub record IsWeighed (names : List (Kind × List ℕ)) (value : Term) (nodes texts : ℕ) : Type 0 where
  pub closed : params (listed value []) ≡ 0
  pub nodes_are : sum_by (weigh names Nodes) (listed value []) ≡ nodes
  pub texts_are : sum_by (weigh names Texts) (listed value []) ≡ texts

-- two values without parameters, of which the second has so many more nodes, and so many more with a text
pub record HasMore (names : List (Kind × List ℕ)) (first second : Term) (nodes texts : ℕ) : Type 0 where
  pub closed : params (listed first []) ≡ 0
  pub closed_too : params (listed second []) ≡ 0
  pub nodes_are : sum_by (weigh names Nodes) (listed second []) ≡ sum_by (weigh names Nodes) (listed first []) + nodes
  pub texts_are : sum_by (weigh names Texts) (listed second []) ≡ sum_by (weigh names Texts) (listed first []) + texts
