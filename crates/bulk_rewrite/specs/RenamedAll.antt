-- Documents all of whose nodes with some numbers are renamed.
use Rattle.std.specs.Prelude.{◌≡◌, ◌⊎◌, ℕ, suc, List, [], ◌∷◌, ◌++◌, Bool, true, All, map, take, if◌then◌else◌}
use Rattle.plain_tree.specs.Lawful.{IsDocument}
use Rattle.plain_tree.specs.NodePairs.{Pair}
use Rattle.plain_tree.specs.Numbers.{kind_of, nodes}
use Rattle.plain_tree.specs.Tree.{Tree}
use Rattle.slt_grammar.specs.Standing.{StandsFor}
use Rattle.slt_grammar.specs.declared.rules.Rule.{Rule}
use Rattle.fcns_encoding.specs.Interning.{Interns}
use Rattle.bulk_rewrite.specs.Numbered.{has}
use Rattle.bulk_rewrite.specs.Refusing.{is_renamable}
use Rattle.bulk_rewrite.specs.Renaming.{renamed}
use Rattle.bulk_rewrite.specs.declared.renaming_all.BulkError.{BulkError}
use Rattle.bulk_rewrite.specs.declared.renaming_all.BulkError.TheVariants.{NotAllowed, Memory}

-- those of nodes, the first of which has a number, whose numbers are taken
abbrev pub taken_nodes : (ℕ → Bool) → ℕ → List Tree → List Tree
taken_nodes taken n [] = []
taken_nodes taken n (t ∷ ts) = (if taken n then t ∷ [] else []) ++ taken_nodes taken (suc n) ts

-- the nodes of a tree with these numbers, in document order
abbrev pub nodes_with : List ℕ → Tree → List Tree
nodes_with numbers t = taken_nodes (has numbers) 0 (nodes t)

-- only elements, attributes and instructions have these numbers, and with the name for them the tree is a document
pub record MayRename (numbers name : List ℕ) (t : Tree) : Type 0 where
  pub named : All (λ s. is_renamable (kind_of s) ≡ true) (nodes_with numbers t)
  pub document : IsDocument (renamed (has numbers) name 0 t)

-- their kinds with the name, in document order
abbrev pub renamed_pairs : List ℕ → List ℕ → Tree → List Pair
renamed_pairs numbers name t = map (λ s. (kind_of s, name)) (nodes_with numbers t)

-- The rules stand with the new names and the same texts for the document with the name for the nodes with these numbers. The names grew by
-- the pairs that this brings.
pub record AreRenamed (numbers name : List ℕ) (old new : List Pair) (H : List Rule) (values : List (List ℕ)) (t : Tree) : Type 0 where
  pub allowed : MayRename numbers name t
  pub stand : StandsFor H new values (renamed (has numbers) name 0 t)
  pub names : Interns old (renamed_pairs numbers name t) new

-- Why the nodes are not renamed, and what becomes of the names then: where memory was wanting they are as before, or the nodes may be renamed
-- and some first ones of the pairs have come.
abbrev pub IsRefusedFor : BulkError → List ℕ → List ℕ → List Pair → List Pair → Tree → Type 0
IsRefusedFor NotAllowed numbers name old new t = (MayRename numbers name t → ⊥) × (new ≡ old)
IsRefusedFor Memory numbers name old new t = (new ≡ old) ⊎ (MayRename numbers name t × ((k : ℕ) × Interns old (take k (renamed_pairs numbers name t)) new))
