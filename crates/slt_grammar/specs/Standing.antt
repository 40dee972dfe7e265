-- What it is that rules, names and texts stand for a document.
use Rattle.std.specs.Prelude.{◌≡◌, ℕ, List, Some, slice_get}
use Rattle.plain_tree.specs.declared.kind.Kind.{Kind}
use Rattle.plain_tree.specs.Tree.{Tree, none, more}
use Rattle.plain_tree.specs.Numbers.{texts}
use Rattle.plain_tree.specs.Lawful.{IsDocument, IsLawfulName}
use Rattle.plain_tree.specs.NameTable.{AreDistinct}
use Rattle.slt_grammar.specs.Grammars.{value}
use Rattle.slt_grammar.specs.Coding.{Codes}
use Rattle.slt_grammar.specs.declared.rules.Rule.{Rule}

pub record StandsFor (G : List Rule) (names : List (Kind × List ℕ)) (values : List (List ℕ)) (t : Tree) : Type 0 where
  pub document : IsDocument t
  pub distinct : AreDistinct names
  pub lawful : (i : ℕ) (kind : Kind) (name : List ℕ) → slice_get names i ≡ Some (kind, name) → IsLawfulName kind name
  pub code : Codes names (more t none) (value G)
  pub texts : values ≡ texts t
