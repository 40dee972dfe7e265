-- What holds of codes and of the names that they use.
use Rattle.std.specs.Prelude.{◌≡◌, ℕ, List, [], ◌∷◌, ◌++◌, Some, slice_get}
use Rattle.rule_arena.specs.declared.label.Label.{Label}
use Rattle.plain_tree.specs.declared.kind.Kind.{Kind}
use Rattle.plain_tree.specs.Tree.{Tree, Trees, none, more, trees}
use Rattle.plain_tree.specs.Numbers.{texts}
use Rattle.plain_tree.specs.Lawful.{IsDocument, IsLawfulName, AreLawfulTrees}
use Rattle.plain_tree.specs.NameTable.{AreDistinct}
use Rattle.slt_grammar.specs.Terms.{Term, Hole, holes_of, substitute}
use Rattle.slt_grammar.specs.Grammars.{IsGrammar, IsSwept, value}
use Rattle.slt_grammar.specs.Coding.{Codes, CodesTo}
use Rattle.slt_grammar.specs.Standing.{StandsFor}
use Rattle.slt_grammar.specs.declared.rules.Rule.{Rule}
use Rattle.fcns_encoding.specs.Labels.{term_labels, one_rule}
use Rattle.fcns_encoding.specs.Interning.{Pair, Interns, pairs_of_tree, pairs_of_trees}

-- each pair of a table is allowed
abbrev pub AreLawful : List Pair → Type 0
AreLawful names = (i : ℕ) (kind : Kind) (name : List ℕ) → slice_get names i ≡ Some (kind, name) → IsLawfulName kind name

-- the one rule of a term without holes is a swept grammar, and its value is the term
abbrev pub OneRuleMeansItsTerm : Type 0
OneRuleMeansItsTerm = (term : Term) → holes_of term ≡ [] → IsGrammar (one_rule term) × IsSwept (one_rule term) × (value (one_rule term) ≡ term)

-- the one rule of a document's code stands, with the document's texts, for the document
abbrev pub OneRuleStandsForItsDocument : Type 0
OneRuleStandsForItsDocument =
    (t : Tree) (names : List Pair) (term : Term) → IsDocument t → AreDistinct names → AreLawful names → Codes names (more t none) term
    → IsGrammar (one_rule term) × IsSwept (one_rule term) × StandsFor (one_rule term) names (texts t) t

-- what encode answers stands, as the body of the one rule and with the names that have grown, for the document
abbrev pub EncodedStandsForItsDocument : Type 0
EncodedStandsForItsDocument =
    (t : Tree) (old new : List Pair) (body : List Label) → IsDocument t → AreDistinct old → AreLawful old → Interns old (pairs_of_tree t) new
    → ((term : Term) × Codes new (more t none) term × (body ≡ term_labels term)) → let G : List Rule = record { rank = 0; body = body } ∷ [] in IsGrammar G × IsSwept G × StandsFor G new (texts t) t

-- names that have grown have each earlier name at its place, so that what was a code is one
abbrev pub CodesAreKept : Type 0
CodesAreKept =
    (old pairs new : List Pair) → Interns old pairs new
    → ((i : ℕ) (pair : Pair) → slice_get old i ≡ Some pair → slice_get new i ≡ Some pair) × ((ts : Trees) (term : Term) → Codes old ts term → Codes new ts term)

-- no pair stands twice in names that have grown
abbrev pub NamesStayDistinct : Type 0
NamesStayDistinct = (old pairs new : List Pair) → Interns old pairs new → AreDistinct old → AreDistinct new

-- lawful names that have grown by a document's pairs are lawful
abbrev pub NamesAreLawful : Type 0
NamesAreLawful = (t : Tree) (old new : List Pair) → IsDocument t → Interns old (pairs_of_tree t) new → AreLawful old → AreLawful new

-- and so are those that have grown by the pairs of a list of lawful trees
abbrev pub ListNamesAreLawful : Type 0
ListNamesAreLawful = (ts : Trees) (old new : List Pair) → AreLawfulTrees ts → Interns old (pairs_of_trees ts) new → AreLawful old → AreLawful new

-- a code that ends in a parameter, with the code of other nodes in its place, codes its nodes and then the others
abbrev pub CodeGoesBefore : Type 0
CodeGoesBefore =
    (names : List Pair) (last : Term) (ss ts : List Tree) (front back : Term) → CodesTo names (Hole 0) (trees ss) front → CodesTo names last (trees ts) back
    → CodesTo names last (trees (ss ++ ts)) (substitute front (back ∷ []))
