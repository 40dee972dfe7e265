-- The parents of what is still to come in labels: each label is a term's root, a symbol's first term has the symbol as its parent, and its
-- second one the symbol's own parent. A parameter stands for a term with as many nodes as `args` says, one parameter after another.
use Rattle.std.specs.Prelude.{◌≡◌, ℕ, zero, suc, ◌+◌, ◌<◌, ◌≤◌, List, [], ◌∷◌, length, Option, None, Some, drop, take, get_or, slice_get}
use Rattle.rule_arena.specs.Terms.{Node}
use Rattle.rule_arena.specs.declared.label.Label.{Label}
use Rattle.rule_arena.specs.declared.label.Label.TheVariants.{Symbol, Param}
use Rattle.slt_grammar.specs.Bodies.{params}
use Rattle.slt_grammar.specs.Keyed.{KeyedRule, nodes_at, rules_of}
use Rattle.slt_grammar.specs.Segments.{preorder}
use Rattle.slt_grammar.specs.declared.rules.Rule.{Rule}
use Rattle.segment_counts.specs.Weights.{node_weight}
use Rattle.preorder_address.specs.Sites.{labels_before, laden, shape, term_weights}
use Rattle.preorder_address.specs.declared.parent.Edge.{Edge}
use Rattle.preorder_address.specs.declared.parent.Entry.{Entry}

-- the parents of the terms behind labels, where the labels begin with number `first` and `up` has the parents of the terms from there on
abbrev pub parents_behind : List ℕ → ℕ → List (Option ℕ) → List Label → List (Option ℕ)
parents_behind args first up [] = up
parents_behind args first up (Param ∷ ls) = parents_behind (drop 1 args) (first + get_or args 0 0) (drop 1 up) ls
parents_behind args first up (Symbol f ∷ ls) = parents_behind args (first + 1) (Some first ∷ up) ls
parents_behind args first up (l ∷ ls) = parents_behind args first (drop 1 up) ls

-- the parent of symbol n
abbrev pub parent_among : List ℕ → ℕ → List (Option ℕ) → List Label → ℕ → Option ℕ
parent_among args first up [] n = None
parent_among args first up (Param ∷ ls) n = parent_among (drop 1 args) (first + get_or args 0 0) (drop 1 up) ls n
parent_among args first up (Symbol f ∷ ls) zero = get_or up 0 None
parent_among args first up (Symbol f ∷ ls) (suc n) = parent_among args (first + 1) (Some first ∷ up) ls n
parent_among args first up (l ∷ ls) n = parent_among args first (drop 1 up) ls n

-- the parent of the term behind labels that stand where this is the next term's parent
abbrev pub parent_behind : List ℕ → ℕ → Option ℕ → List Label → Option ℕ
parent_behind args first up ls = get_or (parents_behind args first (up ∷ []) ls) 0 None

-- the labels before parameter i
abbrev pub until : List Label → ℕ → List Label
until [] i = []
until (Param ∷ ls) zero = []
until (Param ∷ ls) (suc i) = Param ∷ until ls i
until (l ∷ ls) i = l ∷ until ls i

-- over how many first terms of symbols the way to a node's kid goes, in what the node means
abbrev pub first_terms : List Rule → Label → ℕ → ℕ
first_terms G l kid = length (parents_behind [] 0 [] (until (shape G l) kid))

-- the parent of a node's kid, where the way to it goes over one
abbrev pub parent_of_kid : List Rule → List ℕ → ℕ → Label → ℕ → Option ℕ
parent_of_kid G args first l kid = get_or (parents_behind args first [] (until (shape G l) kid)) 0 None

-- how many nodes each of a node's kids has
abbrev pub kid_sizes : List KeyedRule → List ℕ → ℕ → ℕ → Node → List ℕ
kid_sizes G args r p x = take x.kids (term_weights node_weight (rules_of G) (drop (params (labels_before G r p)) args) (drop (p + 1) (nodes_at G r)))

-- the edge's node stands at this place of a rule, and the way to its kid goes over a first term
pub record IsEntry (G : List KeyedRule) (r : ℕ) (edge : Edge) (p : ℕ) (x : Node) : Type 0 where
  pub there : slice_get (nodes_at G r) p ≡ Some x
  pub key : x.key ≡ edge.key
  pub label : x.label ≡ edge.label
  pub kid : edge.kid < x.kids
  pub enters : 0 < first_terms (rules_of G) edge.label edge.kid

-- the parent that an edge tells
abbrev pub told_by : List KeyedRule → ℕ → Edge → ℕ → Node → List ℕ → ℕ → Option ℕ
told_by G r edge p x args first = parent_of_kid (rules_of G) (kid_sizes G args r p x) (first + laden node_weight args (labels_before G r p)) edge.label edge.kid

-- the parent of the node at a place of a rule's body is told by the edge, or with none it is the parent of the rule's value
abbrev pub TellsParent : List KeyedRule → ℕ → ℕ → Option Edge → Type 0
TellsParent G r p None = (args : List ℕ) (first : ℕ) (up : Option ℕ) → parent_behind args first up (labels_before G r p) ≡ up
TellsParent G r p (Some edge) =
    (q : ℕ) × (x : Node) × IsEntry G r edge q x × ((args : List ℕ) (first : ℕ) (up : Option ℕ) → parent_behind args first up (labels_before G r p) ≡ told_by G r edge q x args first)

-- the entry tells this parent, and the numbers of its rule's value are below the limit
pub record EntryTells (G : List KeyedRule) (limit : ℕ) (entry : Entry) (up : Option ℕ) : Type 0 where
  pub place : ℕ
  pub node : Node
  pub is_entry : IsEntry G entry.rule entry.edge place node
  pub small : entry.frame.before + laden node_weight entry.frame.args (preorder (rules_of G) entry.rule) ≤ limit
  pub parent : up ≡ told_by G entry.rule entry.edge place node entry.frame.args entry.frame.before

-- there is no parent, or the entry tells it
abbrev pub Tells : List KeyedRule → ℕ → Option Entry → Option ℕ → Type 0
Tells G limit None up = up ≡ None
Tells G limit (Some entry) up = EntryTells G limit entry up
