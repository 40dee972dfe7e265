-- Grammar files of documents.
use Rattle.std.specs.Prelude.{◌≤◌, ◌^◌, ℕ, List}
use Rattle.plain_tree.specs.Tree.{Tree, node_count}
use Rattle.grammar_file.specs.Files.{IsFileOf}
use Rattle.store_core.specs.Worlds.{Parts, PartsStandFor}

-- the bytes are the file of these parts, which stand for the document
pub record IsFileOfDocument (bytes : List ℕ) (parts : Parts) (tree : Tree) : Type 0 where
  pub file : IsFileOf bytes parts.names parts.rules parts.texts
  pub stand : PartsStandFor parts tree

-- the bytes are the file of no parts that stand for a document
abbrev pub IsNoFile : List ℕ → Type 0
IsNoFile bytes = (parts : Parts) (tree : Tree) → IsFileOfDocument bytes parts tree → ⊥

-- they are the file of parts that stand for a document of 2^63 nodes or more
pub record IsFileOfMany (bytes : List ℕ) : Type 0 where
  pub parts : Parts
  pub tree : Tree
  pub file : IsFileOfDocument bytes parts tree
  pub many : 2 ^ 63 ≤ node_count tree
