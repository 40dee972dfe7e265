-- The code of a list of nodes: first child, next sibling.
use Rattle.std.specs.Prelude.{◌≡◌, ℕ, List, Some, slice_get}
use Rattle.plain_tree.specs.declared.kind.Kind.{Kind}
use Rattle.plain_tree.specs.Tree.{node, Trees, none, more}
use Rattle.slt_grammar.specs.Terms.{Term, Leaf, Node}

-- The term codes the nodes before a last term: that term for none, else the symbol of the first node's kind and name, over
-- the code of its kids and the code of the nodes behind it. A symbol is the place of its pair in the table of names.
abbrev pub CodesTo : List (Kind × List ℕ) → Term → Trees → Term → Type 0
CodesTo names last none term = term ≡ last
CodesTo names last (more (node kind name value kids) ts) term =
    (symbol : ℕ) × (below : Term) × (behind : Term)
    × (slice_get names symbol ≡ Some (kind, name)) × CodesTo names Leaf kids below × CodesTo names last ts behind × (term ≡ Node symbol below behind)

-- the term codes the nodes: its last term is bottom
abbrev pub Codes : List (Kind × List ℕ) → Trees → Term → Type 0
Codes names = CodesTo names Leaf
