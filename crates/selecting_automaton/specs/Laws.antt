-- Laws of selectors.
use Rattle.std.specs.Prelude.{◌≡◌, ℕ, ◌≤◌, List}
use Rattle.xpath_parser.specs.Limits.{IsLarge}
use Rattle.xpath_parser.specs.Meant.{meant_paths}
use Rattle.xpath_parser.specs.Spelled.{Spells}
use Rattle.xpath_parser.specs.Trees.{Paths}
use Rattle.selecting_automaton.specs.Sizes.{parts_inside, steps_outside}
use Rattle.slt_grammar.specs.Automata.{hits}
use Rattle.slt_grammar.specs.Terms.{Term}
use Rattle.selecting_automaton.specs.Turning.{list_algebra, list_downward}
use Rattle.selecting_automaton.specs.Wanting.{eyes}
use Rattle.selecting_automaton.specs.Words.{Selection, word_algebra, word_downward}

abbrev pub WordsAreLists : Type 0
WordsAreLists = (s : Selection) (term : Term) → hits (word_algebra s) (word_downward s) term ≡ hits (list_algebra (eyes s.kinds) s.turns) (list_downward (eyes s.kinds) s.turns) term

abbrev pub SpelledAreSmall : Type 0
SpelledAreSmall = (bytes : List ℕ) (ps : Paths) → Spells bytes ps → (IsLarge ps → ⊥) → (parts_inside (meant_paths bytes ps) ≤ 64) × (steps_outside (meant_paths bytes ps) ≤ 64)
