-- The visits that are left of a walk, by where it stands.
use Rattle.std.specs.Prelude.{◌≡◌, List, [], ◌∷◌}
use Rattle.plain_tree.specs.declared.nodes.Node.{Node}
use Rattle.plain_tree.specs.declared.walk.Frame.{Frame}
use Rattle.plain_tree.specs.declared.walk.Place.{Place}
use Rattle.plain_tree.specs.declared.walk.Place.TheVariants.{Before, Inside, Done}
use Rattle.plain_tree.specs.Tree.{trees}
use Rattle.plain_tree.specs.NodeTree.{tree_of, trees_of}
use Rattle.plain_tree.specs.Visits.{TreeVisit, Opened, Closed, visits_then, all_visits_then}

-- of an open node: the visits of the other kids, and its own end
abbrev pub left_of : Frame → List TreeVisit → List TreeVisit
left_of frame after = all_visits_then (trees (trees_of frame.rest.now)) (Closed (tree_of frame.node.now) ∷ after)

-- of open nodes, the innermost last
abbrev pub left_in : List Frame → List TreeVisit → List TreeVisit
left_in [] after = after
left_in (frame ∷ frames) after = left_in frames (left_of frame after)

abbrev pub left_at : Place → List TreeVisit → List TreeVisit
left_at (Before n) after = visits_then (tree_of n.now) after
left_at (Inside frame) after = left_of frame after
left_at Done after = []

-- a place just inside a node: all its kids are left
abbrev pub IsInside : Place → Node → Type 0
IsInside place n = (after : List TreeVisit) → Opened (tree_of n) ∷ left_at place after ≡ visits_then (tree_of n) after
