-- Nodes by their number in document order (XPath 1.0, section 5).
use Rattle.std.specs.Prelude.{ℕ, Bool, true, false, List, [], ◌∷◌, ◌++◌, map, filter}
use Rattle.plain_tree.specs.declared.kind.Kind.{Kind}
use Rattle.plain_tree.specs.declared.kind.Kind.TheVariants.{Document, Element, Attribute, Text, Comment, Instruction}
use Rattle.plain_tree.specs.Tree.{Tree, node, Trees, none, more}

abbrev mutual
  -- a tree and the nodes below it, in document order; the number of a node is its place
  pub nodes : Tree → List Tree
  nodes (node kind name value kids) = node kind name value kids ∷ nodes_all kids

  pub nodes_all : Trees → List Tree
  nodes_all none = []
  nodes_all (more t ts) = nodes t ++ nodes_all ts

-- attributes, texts, comments and instructions have a value
abbrev pub has_value : Kind → Bool
has_value Document = false
has_value Element = false
has_value Attribute = true
has_value Text = true
has_value Comment = true
has_value Instruction = true

abbrev pub kind_of : Tree → Kind
kind_of (node kind name value kids) = kind

abbrev pub value_of : Tree → List ℕ
value_of (node kind name value kids) = value

-- the values of those nodes that have one
abbrev pub values_of : List Tree → List (List ℕ)
values_of ts = map value_of (filter (λ s. has_value (kind_of s)) ts)

-- the values, in document order, of all nodes that have one
abbrev pub texts : Tree → List (List ℕ)
texts t = values_of (nodes t)

-- and those of a list of trees
abbrev pub texts_all : Trees → List (List ℕ)
texts_all ts = values_of (nodes_all ts)
