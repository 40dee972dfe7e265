-- What it is that bytes are the file of names, rules and texts.
use Rattle.std.specs.Prelude.{◌≡◌, ◌<◌, ℕ, List, [], ◌∷◌, Some, length, slice_get}
use Rattle.std.specs.List.{AllByRecursion}
use Rattle.plain_tree.specs.declared.kind.Kind.{Kind}
use Rattle.plain_tree.specs.Lawful.{IsLawfulName}
use Rattle.plain_tree.specs.NameTable.{AreDistinct}
use Rattle.slt_grammar.specs.Grammars.{IsGrammar, IsSwept}
use Rattle.slt_grammar.specs.Names.{NodeLabel, Symbol}
use Rattle.slt_grammar.specs.declared.rules.Rule.{Rule}
use Rattle.grammar_file.specs.FileBytes.{AreBytesOf}

-- distinct pairs, of which each name is lawful for its kind
pub record AreNames (names : List (Kind × List ℕ)) : Type 0 where
  pub distinct : AreDistinct names
  pub lawful : (i : ℕ) (kind : Kind) (name : List ℕ) → slice_get names i ≡ Some (kind, name) → IsLawfulName kind name

-- each symbol is the place of one of so many names
abbrev pub SymbolsBelow : ℕ → List NodeLabel → Type 0
SymbolsBelow names [] = Unit {0}
SymbolsBelow names (Symbol f ∷ ls) = (f < names) × SymbolsBelow names ls
SymbolsBelow names (l ∷ ls) = SymbolsBelow names ls

abbrev pub AreNamed : ℕ → List Rule → Type 0
AreNamed names = AllByRecursion (λ R. SymbolsBelow names R.body)

-- a grammar over so many names, of which each rule but the last is called
pub record AreRules (names : ℕ) (G : List Rule) : Type 0 where
  pub grammar : IsGrammar G
  pub swept : IsSwept G
  pub named : AreNamed names G

-- the bytes are a file of these parts, of either version
pub record IsFileOf (bytes : List ℕ) (names : List (Kind × List ℕ)) (G : List Rule) (texts : List (List ℕ)) : Type 0 where
  pub lawful : AreNames names
  pub grammar : AreRules (length names) G
  pub whole : AreBytesOf bytes names G texts
