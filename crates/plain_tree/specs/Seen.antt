-- The visits that a walk answers.
use Rattle.std.specs.Prelude.{◌≡◌, List, [], ◌∷◌, Option, Some, None}
use Rattle.plain_tree.specs.declared.walk.Visit.{Visit}
use Rattle.plain_tree.specs.declared.walk.Visit.TheVariants.{Open, Close}
use Rattle.plain_tree.specs.NodeTree.{tree_of}
use Rattle.plain_tree.specs.Visits.{TreeVisit, Opened, Closed}

-- the visit for which one of the program stands
abbrev pub visit_of : Visit → TreeVisit
visit_of (Open n) = Opened (tree_of n.now)
visit_of (Close n) = Closed (tree_of n.now)

-- the first visit that is left and then the rest, and None exactly where none is left
abbrev pub IsNext : List TreeVisit → Option Visit → List TreeVisit → Type 0
IsNext old None new = (old ≡ []) × (new ≡ [])
IsNext old (Some visit) new = old ≡ visit_of visit ∷ new
