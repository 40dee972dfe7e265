-- How many reads of grammar nodes queries take, and edits of all nodes that they select.
use Rattle.std.specs.Prelude.{◌≡◌, ◌≤◌, ℕ, ◌+◌, ◌*◌, ◌^◌, List, [], ◌∷◌, map, Some}
use Rattle.slt_grammar.specs.Grammars.{whole}
use Rattle.slt_grammar.specs.Ranks.{greatest_rank}
use Rattle.slt_grammar.specs.declared.rules.Rule.{Rule}
use Rattle.text_list.specs.Marking.{mark_of}
use Rattle.value_tests.specs.MarkedInstances.{marked_nodes}
use Rattle.xpath_parser.specs.Comparing.{literals_of}
use Rattle.xpath_parser.specs.Limits.{inside, outside}
use Rattle.xpath_parser.specs.Meant.{meant_paths}
use Rattle.xpath_parser.specs.Spelled.{Spells}
use Rattle.xpath_parser.specs.Trees.{Paths}
use Rattle.store_core.specs.Acts.{Act, query_edited, query_listed}
use Rattle.store_core.specs.Selecting.{SpellsComparison, SpellsLarge, SpellsNoQuery}
use Rattle.store_core.specs.Worlds.{Parts, State, parts_in}

-- Two for each node of a rule's body, for each list of states of its arguments: once upward, and downward for each state there. Of
-- states there are at most 4 ^ parts upward, for so many parts in filters, and 8 ^ (steps + 1) downward, for so many steps.
abbrev pub most_reads : List Rule → ℕ → ℕ → ℕ
most_reads G parts steps = 2 * whole G * 4 ^ (greatest_rank G * parts) * (1 + 8 ^ (steps + 1))

-- Four for each node of the body of each instance of a rule to which a text comes that equals one of these literals, and none without
-- literals.
abbrev pub marked_reads : Parts → List (List ℕ) → ℕ
marked_reads parts [] = 0
marked_reads parts (v ∷ vs) = 4 * marked_nodes parts.names (map (mark_of (v ∷ vs)) parts.texts) parts.rules

-- the query was answered of what is held with so few reads, and bytes that are no query, or one above the limits, were refused without any
pub record ReadsFew (query : List ℕ) (parts : Parts) (before now : ℕ) : Type 0 where
  pub few : (paths : Paths) → Spells query paths → now ≤ before + (most_reads parts.rules (inside paths) (outside paths) + marked_reads parts (literals_of (meant_paths query paths)))
  pub none : SpellsNoQuery query → now ≡ before
  pub large : SpellsLarge query → now ≡ before

-- a command that lists or counts the nodes of a query takes so few reads
abbrev pub AsksFew : Act → State → ℕ → ℕ → Type 0
AsksFew act state before now = (query : List ℕ) (parts : Parts) → query_listed act ≡ Some query → parts_in state ≡ Some parts → ReadsFew query parts before now

-- All nodes of the query were edited, or the edit was refused, with so few reads. Bytes that are no query, one above the limits, or one that
-- compares, were refused without any.
pub record EditsFew (query : List ℕ) (parts : Parts) (before now : ℕ) : Type 0 where
  pub few : (paths : Paths) → Spells query paths → now ≤ before + 2 * most_reads parts.rules (inside paths) (outside paths)
  pub none : SpellsNoQuery query → now ≡ before
  pub large : SpellsLarge query → now ≡ before
  pub compares : SpellsComparison query → now ≡ before

-- a command that edits all nodes of a query takes so few reads
abbrev pub AsksFewEdits : Act → State → ℕ → ℕ → Type 0
AsksFewEdits act state before now = (query : List ℕ) (parts : Parts) → query_edited act ≡ Some query → parts_in state ≡ Some parts → EditsFew query parts before now
