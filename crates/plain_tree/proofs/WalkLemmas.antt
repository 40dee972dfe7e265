-- Walks.
use Rattle.std.proofs.Common.{◌≡◌, ◌++◌, List, [], ◌∷◌, refl, append_assoc, append-nil}
use Rattle.plain_tree.specs.declared.walk.Frame.{Frame}
use Rattle.plain_tree.specs.Tree.{Tree, node, Trees, none, more}
use Rattle.plain_tree.specs.Numbers.{nodes, nodes_all}
use Rattle.plain_tree.specs.Visits.{TreeVisit, Closed, visits, visits_then, all_visits_then, opened}
use Rattle.plain_tree.specs.Walks.{left_in, left_of}

-- one more node is open
pub left_in-append : (frames : List Frame) (frame : Frame) (after : List TreeVisit) → left_in (frames ++ frame ∷ []) after ≡ left_of frame (left_in frames after)
left_in-append [] frame after = refl
left_in-append (f ∷ frames) frame after = left_in-append frames frame (left_of f after)

mutual
  opened-visits_then : (t : Tree) (after : List TreeVisit) → opened (visits_then t after) ≡ nodes t ++ opened after
  opened-visits_then (node k n v ks) after = rw (opened-all_visits_then ks (Closed (node k n v ks) ∷ after))

  opened-all_visits_then : (ts : Trees) (after : List TreeVisit) → opened (all_visits_then ts after) ≡ nodes_all ts ++ opened after
  opened-all_visits_then none after = refl
  opened-all_visits_then (more t ts) after = rw (opened-visits_then t (all_visits_then ts after), opened-all_visits_then ts after) (simp append_assoc)

pub opened-visits : (t : Tree) → opened (visits t) ≡ nodes t
opened-visits t = rw (opened-visits_then t [], append-nil) refl
