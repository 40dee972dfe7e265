-- What holds of grammar files.
use Rattle.std.specs.Prelude.{◌≡◌, ◌≤◌, ℕ, List, length}
use Rattle.plain_tree.specs.declared.kind.Kind.{Kind}
use Rattle.slt_grammar.specs.Grammars.{IsGrammar}
use Rattle.slt_grammar.specs.declared.rules.Rule.{Rule}
use Rattle.grammar_file.specs.Numbers.{number_bytes, number_of, AreOneNumber}
use Rattle.grammar_file.specs.FileBytes.{AreBytesOf}

-- the file of a grammar, of either version, is that of one grammar alone, and of its names and texts
abbrev pub EqualFilesHaveEqualParts : Type 0
EqualFilesHaveEqualParts = (bytes : List ℕ) (names others : List (Kind × List ℕ)) (G H : List Rule) (texts values : List (List ℕ)) → IsGrammar G → IsGrammar H
    → AreBytesOf bytes names G texts → AreBytesOf bytes others H values → (names ≡ others) × (G ≡ H) × (texts ≡ values)

-- the bytes of a number are one number, and that one
abbrev pub NumbersAreReadBack : Type 0
NumbersAreReadBack = (n : ℕ) → AreOneNumber (number_bytes n) × (number_of (number_bytes n) ≡ n)

-- and no fewer bytes are
abbrev pub NumbersAreShortest : Type 0
NumbersAreShortest = (n : ℕ) (bytes : List ℕ) → AreOneNumber bytes → number_of bytes ≡ n → length (number_bytes n) ≤ length bytes
