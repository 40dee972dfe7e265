-- What a walk meets, in document order.
use Rattle.std.specs.Prelude.{◌≡◌, ℕ, List, [], ◌∷◌}
use Rattle.std.proofs.Common.{ap}
use Rattle.std.specs.Coded.{Coded, coded_list, coded_ℕ}
use base.Stored.{coded_via}
use Rattle.plain_tree.specs.Tree.{Tree, node, Trees, none, more, tree_parts, tree_code-inj}

-- a node before its kids, or after them
pub data TreeVisit : Type 0 where
  Opened : (node : Tree) → TreeVisit
  Closed : (node : Tree) → TreeVisit

-- the visits of a tree, and then what follows: it is opened, its kids are visited in order, it is closed
abbrev mutual
  pub visits_then : Tree → List TreeVisit → List TreeVisit
  visits_then (node kind name value kids) after =
      Opened (node kind name value kids) ∷ all_visits_then kids (Closed (node kind name value kids) ∷ after)

  pub all_visits_then : Trees → List TreeVisit → List TreeVisit
  all_visits_then none after = after
  all_visits_then (more t ts) after = visits_then t (all_visits_then ts after)

abbrev pub visits : Tree → List TreeVisit
visits t = visits_then t []

-- the trees that were opened, in order
abbrev pub opened : List TreeVisit → List Tree
opened [] = []
opened (Opened t ∷ vs) = t ∷ opened vs
opened (Closed t ∷ vs) = opened vs

-- The one to one code of visits, which a model asks for: a mark, and the tree's parts.
abbrev pub visit_parts : TreeVisit → List (List ℕ)
visit_parts (Opened t) = [] ∷ tree_parts t []
visit_parts (Closed t) = (0 ∷ []) ∷ tree_parts t []

pub visit_parts-inj : (a b : TreeVisit) → visit_parts a ≡ visit_parts b → a ≡ b
visit_parts-inj (Opened s) (Opened t) e =
    let parts : tree_parts s [] ≡ tree_parts t [] = cc in ap Opened (tree_code-inj s t parts)
visit_parts-inj (Opened s) (Closed t) e = cc
visit_parts-inj (Closed s) (Opened t) e = cc
visit_parts-inj (Closed s) (Closed t) e =
    let parts : tree_parts s [] ≡ tree_parts t [] = cc in ap Closed (tree_code-inj s t parts)

abbrev pub visit_code : Coded TreeVisit
visit_code = coded_via (coded_list (coded_list coded_ℕ)) visit_parts visit_parts-inj
