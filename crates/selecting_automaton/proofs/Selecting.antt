-- What a selector hits.
use Rattle.std.proofs.Common.{◌≡◌, ℕ, List, ◌∙◌}
use Rattle.plain_tree.specs.declared.kind.Kind.{Kind}
use Rattle.plain_tree.specs.NameTable.{AreDistinct}
use Rattle.plain_tree.specs.Tree.{Tree, none, more}
use Rattle.slt_grammar.specs.Automata.{hits}
use Rattle.slt_grammar.specs.Terms.{Term}
use Rattle.text_list.specs.Marking.{mark_of}
use Rattle.text_list.proofs.MarkingLemmas.{mark_of-tells}
use Rattle.xpath_parser.specs.Comparing.{literals_of}
use Rattle.xpath_parser.specs.Meaning.{selected}
use Rattle.xpath_parser.specs.Queries.{Paths}
use Rattle.value_tests.specs.MarkedCodes.{CodesMarked}
use Rattle.selecting_automaton.specs.Program.{selecting}
use Rattle.selecting_automaton.specs.Wanting.{wanted, kinds_of}
use Rattle.selecting_automaton.specs.Words.{Selection, word_algebra, word_downward}
use Rattle.selecting_automaton.proofs.Coded.{hits-select}
use Rattle.selecting_automaton.proofs.Literals.{all-marked}
use Rattle.selecting_automaton.proofs.Packing.{word-hits}

-- the turns of a query, over the kinds of the names, hit what the query selects
pub selector-selects :
    (names : List (Kind × List ℕ)) (s : Selection) (ps : Paths) → AreDistinct names → s.kinds ≡ kinds_of names → s.turns ≡ selecting (wanted names (mark_of (literals_of ps))) ps
    → (t : Tree) (term : Term) → CodesMarked names (mark_of (literals_of ps)) (more t none) term → hits (word_algebra s) (word_downward s) term ≡ selected t ps
selector-selects names s ps distinct kinds turns t term code =
    let literals : List (List ℕ) = literals_of ps in
    word-hits s term ∙ rw (kinds, turns) (hits-select names (mark_of literals) t term ps (mark_of-tells literals) distinct (all-marked literals) code)
