-- What an edit brings into a document, and takes out of it.
use Rattle.std.specs.Prelude.{ℕ, ◌+◌, ◌*◌, Bool, false, ◌||◌, if◌then◌else◌, List, [], ◌∷◌, Option, None, Some}
use Rattle.std.specs.Str.{bytes_eq}
use Rattle.plain_tree.specs.declared.edit.Edit.{Edit}
use Rattle.plain_tree.specs.declared.edit.Edit.TheVariants.{Rename, Insert, Append, Delete, Value, Attr, Copy}
use Rattle.plain_tree.specs.declared.kind.Kind.TheVariants.{Attribute}
use Rattle.plain_tree.specs.Meetings.{below_at}
use Rattle.plain_tree.specs.NodePairs.{Pair, pairs_of_trees}
use Rattle.plain_tree.specs.Numbers.{kind_of}
use Rattle.plain_tree.specs.Places.{Place, place_at}
use Rattle.plain_tree.specs.Siblings.{from_node, first_kids}
use Rattle.plain_tree.specs.Tree.{Tree, node, Trees, none, more, trees, node_count_all}

-- how many nodes and bottoms a grammar of the document may grow by, but for rules that are called where the edit is made
abbrev pub added : Edit → ℕ
added (Rename n name) = 0
added (Insert n fragment) = 2 * node_count_all (trees fragment)
added (Append n fragment) = 2 * node_count_all (trees fragment)
added (Delete n) = 0
added (Value n value) = 0
added (Attr n name value) = 2
added (Copy n) = 3

-- the kind of the node at a place, if there is one, with another name
abbrev pub renamed_pair : List ℕ → Option Place → List Pair
renamed_pair name None = []
renamed_pair name (Some p) = (kind_of p.here, name) ∷ []

-- the kinds with names that an edit brings: those of its fragment's nodes in document order, that of the node that it renames, with the new
-- name, or that of its attribute
abbrev pub new_pairs : Tree → Edit → List Pair
new_pairs t (Rename n name) = renamed_pair name (place_at t n)
new_pairs t (Insert n fragment) = pairs_of_trees (trees fragment)
new_pairs t (Append n fragment) = pairs_of_trees (trees fragment)
new_pairs t (Attr n name value) = (Attribute, name) ∷ []
new_pairs t e = []

-- whether an attribute with this name is among the kids of an element
abbrev pub has_attribute : List ℕ → Trees → Bool
has_attribute name (more (node Attribute n value kids) ts) = bytes_eq n name || has_attribute name ts
has_attribute name ts = false

-- how many nodes come with an edit, and how many go
abbrev pub nodes_come : Tree → Edit → ℕ
nodes_come t (Insert n fragment) = node_count_all (trees fragment)
nodes_come t (Append n fragment) = node_count_all (trees fragment)
nodes_come t (Attr n name value) = if has_attribute name (first_kids (from_node n (more t none))) then 0 else 1
nodes_come t (Copy n) = below_at t n + 1
nodes_come t e = 0

abbrev pub nodes_go : Tree → Edit → ℕ
nodes_go t (Delete n) = below_at t n + 1
nodes_go t e = 0
