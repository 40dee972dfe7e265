-- Files and the documents for which their parts stand.
use Rattle.std.proofs.Common.{ℕ, List}
use Rattle.plain_tree.specs.declared.kind.Kind.{Kind}
use Rattle.plain_tree.specs.Tree.{Tree}
use Rattle.slt_grammar.specs.Standing.{StandsFor}
use Rattle.slt_grammar.specs.declared.rules.Rule.{Rule}
use Rattle.grammar_file.specs.Files.{IsFileOf}
use Rattle.grammar_file.proofs.Unique.{equal-files}

-- a file whose parts stand for no document is the file of no parts that do
pub no-document :
    (bytes : List ℕ) (names others : List (Kind × List ℕ)) (G H : List Rule) (texts values : List (List ℕ)) (t : Tree) → IsFileOf bytes names G texts → IsFileOf bytes others H values
    → StandsFor H others values t → ((u : Tree) → StandsFor G names texts u → ⊥) → ⊥
no-document bytes names others G H texts values t f g stand lacks =
    let (n, r, x) = equal-files bytes names others G H texts values f.grammar.grammar g.grammar.grammar f.whole g.whole in
    lacks t (rw (n, r, x) stand)
