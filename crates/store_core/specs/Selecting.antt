-- What queries select in the document that is held.
use Rattle.std.specs.Prelude.{◌≡◌, ◌↔◌, ℕ, Bool, true, false, List, All, Some, IfSome, IsSome, IsTrue, length, slice_get}
use Rattle.plain_tree.specs.NodePairs.{Pair}
use Rattle.plain_tree.specs.Tree.{Tree, none, more}
use Rattle.slt_grammar.specs.Automata.{hits}
use Rattle.slt_grammar.specs.Terms.{Term}
use Rattle.selecting_automaton.specs.Bounds.{HasFewStates}
use Rattle.selecting_automaton.specs.Words.{Selection, word_algebra, word_downward}
use Rattle.rule_runs.specs.Answering.{Fallen}
use Rattle.rule_runs.specs.Hits.{numbers, symbols_in}
use Rattle.text_list.specs.Marking.{mark_of}
use Rattle.value_tests.specs.MarkedCodes.{CodesMarked}
use Rattle.xpath_parser.specs.Comparing.{literals_of, paths_compare}
use Rattle.xpath_parser.specs.Limits.{IsLarge, inside, outside}
use Rattle.xpath_parser.specs.Meaning.{selected}
use Rattle.xpath_parser.specs.Meant.{meant_paths}
use Rattle.xpath_parser.specs.Spelled.{Spells}
use Rattle.xpath_parser.specs.Queries as queries
use Rattle.xpath_parser.specs.Trees.{Paths}
use Rattle.store_core.specs.Worlds.{Parts, PartsStandFor, World, parts_in}

-- How many nodes of a term were found, which are these, and just where they are to be listed, which with their symbols.
pub record Finds (numbers_found : List ℕ) (t : Term) (listed : Bool) (found : Fallen) : Type 0 where
  pub count : found.count ≡ length numbers_found
  pub listed_where : IsSome found.hits ↔ IsTrue listed
  pub hit : IfSome found.hits (λ hs. numbers hs ≡ numbers_found)
  pub symbols : IfSome found.hits (All (λ hit. slice_get (symbols_in t) hit.number ≡ Some hit.symbol))

-- the bytes are no query
abbrev pub SpellsNoQuery : List ℕ → Type 0
SpellsNoQuery query = (paths : Paths) → Spells query paths → ⊥

-- they are one that passes the limits
abbrev pub SpellsLarge : List ℕ → Type 0
SpellsLarge query = (paths : Paths) × Spells query paths × IsLarge paths

-- they are one within the limits that compares texts or attribute values
abbrev pub SpellsComparison : List ℕ → Type 0
SpellsComparison query = (paths : Paths) × Spells query paths × (IsLarge paths → ⊥) × (paths_compare (meant_paths query paths) ≡ true)

-- they are one within the limits that compares none
abbrev pub SpellsPlain : List ℕ → Type 0
SpellsPlain query = (paths : Paths) × Spells query paths × (IsLarge paths → ⊥) × (paths_compare (meant_paths query paths) ≡ false)

-- what a query within the limits means, as it was read
pub record IsReading (query : List ℕ) (meant : queries.Paths) : Type 0 where
  pub paths : Paths
  pub spelled : Spells query paths
  pub within : IsLarge paths → ⊥
  pub means : meant ≡ meant_paths query paths

-- Over codes with these names, in which texts that equal literals of the query have symbols of their own, the selector hits the nodes that
-- the query selects, which is within the limits. It has few states for the query's parts of filters and steps.
pub record IsSelectorOf (query : List ℕ) (names : List Pair) (selector : Selection) : Type 0 where
  pub paths : Paths
  pub spelled : Spells query paths
  pub within : IsLarge paths → ⊥
  pub selects : (tree : Tree) (term : Term) → CodesMarked names (mark_of (literals_of (meant_paths query paths))) (more tree none) term → hits (word_algebra selector) (word_downward selector) term ≡ selected tree (meant_paths query paths)
  pub states : HasFewStates (word_algebra selector) (word_downward selector) (inside paths) (outside paths)

-- it compares nothing
pub record IsPlainSelectorOf (query : List ℕ) (names : List Pair) (selector : Selection) : Type 0 where
  pub of : IsSelectorOf query names selector
  pub plain : paths_compare (meant_paths query of.paths) ≡ false

-- the query, which is within the limits, selects the nodes with these numbers of the document that is held
pub record Selects (query : List ℕ) (w : World) (tree : Tree) (numbers : List ℕ) : Type 0 where
  pub parts : Parts
  pub held : parts_in w.state ≡ Some parts
  pub stand : PartsStandFor parts tree
  pub paths : Paths
  pub spelled : Spells query paths
  pub within : IsLarge paths → ⊥
  pub answer : numbers ≡ selected tree (meant_paths query paths)

-- it selects so many nodes
abbrev pub SelectsSoMany : List ℕ → World → Tree → ℕ → Type 0
SelectsSoMany query w tree count = (numbers : List ℕ) × Selects query w tree numbers × (count ≡ length numbers)

-- the query selects so many nodes as were found and, where those are listed, just these
pub record HasSelected (query : List ℕ) (w : World) (tree : Tree) (found : Fallen) : Type 0 where
  pub answer : List ℕ
  pub selects : Selects query w tree answer
  pub count : found.count ≡ length answer
  pub listed : IfSome found.hits (λ hs. numbers hs ≡ answer)
