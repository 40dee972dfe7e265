-- Where siblings become neighbours by an edit.
use Rattle.std.specs.Prelude.{ℕ, ◌+◌, ◌-◌, List, [], ◌∷◌}
use Rattle.plain_tree.specs.declared.edit.Edit.{Edit}
use Rattle.plain_tree.specs.declared.edit.Edit.TheVariants.{Insert, Append, Delete, Copy}
use Rattle.plain_tree.specs.Siblings.{from_node, first_kids, joined_at}
use Rattle.plain_tree.specs.Tree.{Tree, Trees, none, more, trees, node_count_all}

-- how many nodes are below node n of a tree, and 0 where it has none
abbrev pub below_at : Tree → ℕ → ℕ
below_at t n = node_count_all (first_kids (from_node n (more t none)))

-- the numbers, in the document with an edit but for texts that meet, of the nodes behind which a sibling may have come to stand, the last first:
-- the last that came and the last that stood before it, or the last before one that is gone
abbrev pub seams : Tree → Edit → List ℕ
seams t (Insert n fragment) = (n + (node_count_all (trees fragment) - 1)) ∷ (n - 1) ∷ []
seams t (Append n fragment) = (n + below_at t n) ∷ []
seams t (Delete n) = (n - 1) ∷ []
seams t (Copy n) = (n + below_at t n) ∷ (n - 1) ∷ []
seams t e = []

-- each of these nodes, one after the other, is one with the sibling behind it, where both are texts
abbrev pub joined_at_each : List ℕ → Trees → Trees
joined_at_each [] ts = ts
joined_at_each (n ∷ ns) ts = joined_at_each ns (joined_at n ts)
