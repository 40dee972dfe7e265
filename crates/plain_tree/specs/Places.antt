-- Where nodes stand.
use Rattle.std.specs.Prelude.{ℕ, zero, suc, ◌-◌, nat_lt, if◌then◌else◌, Option, None, Some}
use Rattle.plain_tree.specs.declared.kind.Kind.{Kind}
use Rattle.plain_tree.specs.Edits.{chained}
use Rattle.plain_tree.specs.Tree.{Tree, node, Trees, none, more, node_count_all}

-- where a node stands: under a node of which kind, if under any, and between which siblings
pub record Place : Type 0 where
  pub above : Option Kind
  pub before : Trees
  pub here : Tree
  pub behind : Trees

-- the place of node n of trees that stand under such a node, behind these siblings
abbrev pub place_in : Option Kind → Trees → ℕ → Trees → Option Place
place_in above before n none = None
place_in above before zero (more t ts) = Some (record { above = above; before = before; here = t; behind = ts })
place_in above before (suc n) (more (node kind name value kids) ts) =
    if nat_lt n (node_count_all kids) then (place_in (Some kind) none n kids)
    else place_in above (chained more before (more (node kind name value kids) none)) (n - node_count_all kids) ts

-- the place of node n of a tree
abbrev pub place_at : Tree → ℕ → Option Place
place_at t n = place_in None none n (more t none)
