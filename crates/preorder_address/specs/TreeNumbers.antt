-- What the nodes of a tree are, by their numbers.
use Rattle.std.specs.Prelude.{◌≡◌, ℕ, ◌+◌, ◌-◌, ◌*◌, ◌<◌, List, [], ◌∷◌, ◌++◌, length, take, get_or, Option, None, Some, option_map, unwrap_or, slice_get}
use Rattle.plain_tree.specs.declared.kind.Kind.{Kind}
use Rattle.plain_tree.specs.Tree.{Tree, node, Trees, none, more, node_count, node_count_all}
use Rattle.plain_tree.specs.declared.kind.Kind.TheVariants.{Attribute}
use Rattle.plain_tree.specs.Numbers.{nodes, nodes_all, kind_of, values_of}

-- the kind of node n
abbrev pub kind_at : Tree → ℕ → Option Kind
kind_at t n = option_map kind_of (slice_get (nodes t) n)

-- how many nodes are below node n
abbrev pub extent_at : Tree → ℕ → Option ℕ
extent_at t n = option_map (λ s. node_count s - 1) (slice_get (nodes t) n)

-- how many values belong to the nodes before node n
abbrev pub text_rank_at : Tree → ℕ → Option ℕ
text_rank_at t n = option_map (λ s. length (values_of (take n (nodes t)))) (slice_get (nodes t) n)

-- the nodes of a list of trees in document order, each with its place, where a node takes a place before its kids and one behind them
abbrev pub placed : ℕ → Trees → List (ℕ × Tree)
placed from none = []
placed from (more (node kind name value kids) ts) =
    (from, node kind name value kids) ∷ (placed (from + 1) kids ++ placed (from + 2 + 2 * node_count_all kids) ts)

-- the siblings behind each node of a list of trees, in document order
abbrev pub siblings_behind : Trees → List Trees
siblings_behind none = []
siblings_behind (more (node kind name value kids) ts) = ts ∷ (siblings_behind kids ++ siblings_behind ts)

-- the place behind the kids of node n
abbrev pub end_at : Tree → ℕ → Option ℕ
end_at t n = option_map (λ e. e.0 + 2 * node_count e.1 - 1) (slice_get (placed 0 (more t none)) n)

-- how many places the attributes have that stand before all other trees
abbrev pub attribute_places : Trees → ℕ
attribute_places (more (node Attribute name value kids) ts) = 2 * node_count_all kids + 2 + attribute_places ts
attribute_places ts = 0

abbrev pub kids_of : Tree → Trees
kids_of (node kind name value kids) = kids

-- the place of the first kid of node n behind its attributes, or that behind its kids
abbrev pub after_attributes_at : Tree → ℕ → Option ℕ
after_attributes_at t n = option_map (λ e. e.0 + 1 + attribute_places (kids_of e.1)) (slice_get (placed 0 (more t none)) n)

-- how many attributes stand before all other nodes
abbrev pub attributes_in : List Tree → ℕ
attributes_in (node Attribute name value kids ∷ ts) = attributes_in ts + 1
attributes_in ts = 0

-- how many attributes node n has
abbrev pub attributes_at : Tree → ℕ → ℕ
attributes_at t n = unwrap_or (option_map (λ s. attributes_in (nodes_all (kids_of s))) (slice_get (nodes t) n)) 0

-- the number of the first of some trees, if there is one, where it is this
abbrev pub number_of_first : ℕ → Trees → Option ℕ
number_of_first n none = None
number_of_first n (more t ts) = Some n

-- the number of the sibling that stands next behind node n, if there is one
abbrev pub next_sibling_at : Tree → ℕ → Option (Option ℕ)
next_sibling_at t n = option_map (λ s. number_of_first (n + node_count s) (get_or (siblings_behind (more t none)) n none)) (slice_get (nodes t) n)

-- the parent of each node of a list of trees, in document order, where the first has this number and this is the parent of them all
abbrev pub parents : Option ℕ → ℕ → Trees → List (Option ℕ)
parents up first none = []
parents up first (more (node kind name value kids) ts) = up ∷ (parents (Some first) (first + 1) kids ++ parents up (first + 1 + node_count_all kids) ts)

-- the number of the parent of node n of a list of trees, if it has one
abbrev pub parent_at : Trees → ℕ → Option (Option ℕ)
parent_at ts n = slice_get (parents None 0 ts) n

-- node n of a list of trees is below node m
abbrev pub IsBelow : Trees → ℕ → ℕ → Type 0
IsBelow ts m n = (s : Tree) × (slice_get (nodes_all ts) m ≡ Some s) × (m < n) × (n < m + node_count s)

-- node n is below this node and no later one, or below none
abbrev pub IsLastAbove : Trees → ℕ → Option ℕ → Type 0
IsLastAbove ts n None = (m : ℕ) → IsBelow ts m n → ⊥
IsLastAbove ts n (Some m) = IsBelow ts m n × ((k : ℕ) → m < k → IsBelow ts k n → ⊥)
