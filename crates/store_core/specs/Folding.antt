-- What a document was folded into while it was read.
use Rattle.std.specs.Prelude.{◌≤◌, ◌<◌, ◌^◌, ℕ, List, [], Option}
use Rattle.tree_outside.specs.Files.{Told}
use Rattle.plain_tree.specs.Tree.{Tree, node_count}
use Rattle.slt_grammar.specs.Grammars.{IsGrammar, IsSwept}
use Rattle.slt_grammar.specs.Keyed.{rules_of}
use Rattle.slt_grammar.specs.Ranks.{greatest_rank}
use Rattle.slt_grammar.specs.Standing.{StandsFor}
use Rattle.fcns_encoding.specs.Interning.{Interns, pairs_of_tree}
use Rattle.fcns_encoding.specs.declared.folder.Folded.{Folded}
use Rattle.store_core.specs.Feeding.{ReadsDocument}
use Rattle.store_core.specs.Machine.{HoldsDocument}
use Rattle.store_core.specs.Worlds.{State, world}

-- it stands for the document, with the names in the order of their first nodes, and no rule has more than one parameter
pub record IsFoldOf (t : Tree) (f : Folded) : Type 0 where
  pub stand : StandsFor (rules_of f.grammar.rules) f.names f.texts.texts t
  pub names : Interns [] (pairs_of_tree t) f.names
  pub grammar : IsGrammar (rules_of f.grammar.rules)
  pub swept : IsSwept (rules_of f.grammar.rules)
  pub ranks : greatest_rank (rules_of f.grammar.rules) ≤ 1

-- the document is the one that was left of the open file
pub record FoldsOpen (told : Option Told) (f : Folded) : Type 0 where
  pub tree : Tree
  pub reads : ReadsDocument told tree
  pub fold : IsFoldOf tree f

-- the document is that of the file with this name, and its nodes are fewer than 2^30
pub record FoldsFile (name : List ℕ) (told : Option Told) (count : ℕ) (f : Folded) : Type 0 where
  pub tree : Tree
  pub held : (state : State) → HoldsDocument name (world state told count) tree
  pub small : node_count tree < 2 ^ 30
  pub fold : IsFoldOf tree f
