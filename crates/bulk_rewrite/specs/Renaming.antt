-- Nodes that are renamed.
use Rattle.std.specs.Prelude.{ℕ, suc, ◌+◌, List, Bool, false, Some, if◌then◌else◌}
use Rattle.plain_tree.specs.Tree.{Tree, node, Trees, none, more, node_count}
use Rattle.bulk_rewrite.specs.Rewriting.{Rewriting}

-- nothing is lost, and each node that is hit gets another symbol
abbrev pub renaming : {D : Type 0} → (ℕ → ℕ) → Rewriting D
renaming new = record { lost = λ d. false; becomes = λ f d hit. Some (if hit then new f else f) }

abbrev mutual
  -- a tree whose root has a number, with another name for nodes of some numbers
  pub renamed : (ℕ → Bool) → List ℕ → ℕ → Tree → Tree
  renamed taken name n (node kind old value kids) = node kind (if taken n then name else old) value (renamed_all taken name (suc n) kids)

  pub renamed_all : (ℕ → Bool) → List ℕ → ℕ → Trees → Trees
  renamed_all taken name n none = none
  renamed_all taken name n (more t ts) = more (renamed taken name n t) (renamed_all taken name (n + node_count t) ts)
