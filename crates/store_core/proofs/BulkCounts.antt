-- An edit of all nodes of a query leaves no more nodes than there were.
use Rattle.std.proofs.Common.{◌≡◌, ◌≤◌, ℕ, suc, ◌+◌, List, [], ◌∷◌, Bool, true, false, if◌then◌else◌, arith}
use Rattle.plain_tree.specs.declared.kind.Kind.TheVariants.{Document, Element, Attribute, Text, Comment, Instruction}
use Rattle.plain_tree.specs.Joined.{behind_text, join_front}
use Rattle.plain_tree.specs.Tree.{Tree, node, Trees, none, more, node_count, node_count_all}
use Rattle.bulk_rewrite.specs.Joining.{Rests, deleted, joined_rests, kept_rests, meets}
use Rattle.bulk_rewrite.specs.Numbered.{has}
use Rattle.bulk_rewrite.specs.Renaming.{renamed}
use Rattle.bulk_rewrite.proofs.Standings.{count-renamed}
use Rattle.store_core.specs.BulkEditing.{BulkEdit, Renaming, Deletion, edited_all}

either : {X : Type 0} (P : X → Type 0) (b : Bool) (x y : X) → P x → P y → P (if b then x else y)
either P true x y p q = p
either P false x y p q = q

abbrev rest_count : Rests → ℕ
rest_count [] = 0
rest_count ((gap, t) ∷ ts) = node_count t + rest_count ts

behind-few : (ts : Trees) → node_count_all (behind_text ts) ≤ node_count_all ts
behind-few none = omega arith
behind-few (more (node Document n v ks) ts) = omega arith
behind-few (more (node Element n v ks) ts) = omega arith
behind-few (more (node Attribute n v ks) ts) = omega arith
behind-few (more (node Text n v ks) ts) = omega arith
behind-few (more (node Comment n v ks) ts) = omega arith
behind-few (more (node Instruction n v ks) ts) = omega arith

front-few : (t : Tree) (ts : Trees) → node_count_all (join_front t ts) ≤ node_count t + node_count_all ts
front-few (node Document n v ks) ts = omega arith
front-few (node Element n v ks) ts = omega arith
front-few (node Attribute n v ks) ts = omega arith
front-few (node Text n v ks) ts = omega (arith, behind-few ts)
front-few (node Comment n v ks) ts = omega arith
front-few (node Instruction n v ks) ts = omega arith

joined-few : (ts : Rests) → node_count_all (joined_rests ts) ≤ rest_count ts
joined-few [] = omega arith
joined-few ((gap, t) ∷ ts) =
    either (λ us. node_count_all us ≤ node_count t + rest_count ts) (meets t ts) (join_front t (joined_rests ts)) (more t (joined_rests ts))
    (omega (arith, front-few t (joined_rests ts), joined-few ts)) (omega (arith, joined-few ts))

mutual
  deleted-few : (taken : ℕ → Bool) (n : ℕ) (t : Tree) → node_count (deleted taken n t) ≤ node_count t
  deleted-few taken n (node k m v ks) = omega (arith, joined-few (kept_rests taken (suc n) false ks), kept-few taken (suc n) false ks)

  kept-few : (taken : ℕ → Bool) (n : ℕ) (gap : Bool) (ts : Trees) → rest_count (kept_rests taken n gap ts) ≤ node_count_all ts
  kept-few taken n gap none = omega arith
  kept-few taken n gap (more t ts) =
      let next : ℕ = n + node_count t in
      either (λ us. rest_count us ≤ node_count t + node_count_all ts) (taken n) (kept_rests taken next true ts) ((gap, deleted taken n t) ∷ kept_rests taken next false ts)
      (omega (arith, kept-few taken next true ts)) (omega (arith, deleted-few taken n t, kept-few taken next false ts))

renamed-same : (taken : ℕ → Bool) (name : List ℕ) (n : ℕ) (t : Tree) → node_count (renamed taken name n t) ≡ node_count t
renamed-same taken name n (node k m v ks) = omega (arith, count-renamed taken name (suc n) ks)

pub edited-few : (edit : BulkEdit) (numbers : List ℕ) (t : Tree) → node_count (edited_all edit numbers t) ≤ node_count t
edited-few (Renaming name) numbers t = omega (arith, renamed-same (has numbers) name 0 t)
edited-few Deletion numbers t = deleted-few (has numbers) 0 t
