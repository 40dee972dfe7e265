-- What isolating one chain does.
use Rattle.std.specs.Prelude.{◌≡◌, ℕ, ◌+◌, ◌-◌, ◌<◌, ◌≤◌, List, [], length, drop, take, get_or, Some, slice_get}
use Rattle.rule_arena.specs.declared.key.Key.{Key}
use Rattle.rule_arena.specs.declared.label.Label.TheVariants.{Bottom}
use Rattle.slt_grammar.specs.Algebras.{ranks_of, all_meanings}
use Rattle.slt_grammar.specs.Bodies.{real_nodes}
use Rattle.slt_grammar.specs.ChangedValues.{term_around}
use Rattle.slt_grammar.specs.Grammars.{body_at, size}
use Rattle.slt_grammar.specs.Holding.{IsLawful}
use Rattle.slt_grammar.specs.Keyed.{KeyedRule, key_at, nodes_at, rules_of}
use Rattle.slt_grammar.specs.KeyedEdits.{label_at}
use Rattle.slt_grammar.specs.Terms.{Term, Hole, term_algebra}
use Rattle.slt_grammar.specs.declared.level.Level.{Level}
use Rattle.path_isolation.specs.Chains.{Leads, led, last_label, meaning_with, weight_of}

-- the last rule
abbrev pub start_of : List KeyedRule → ℕ
start_of G = length G - 1

-- there are as many rules, and all but the start are the same
pub record DifferInStart (G H : List KeyedRule) : Type 0 where
  pub many : length H ≡ length G
  pub others : (r : ℕ) → r + 1 < length G → slice_get H r ≡ slice_get G r

-- the value with a hole for the node to which a chain leads, at these places
abbrev pub term_around_end : List KeyedRule → List Level → List ℕ → Term
term_around_end G levels ps = led term_algebra G levels ps (λ _. Hole 0) []

-- The key stands in the start's body, at the node to which the chain leads: it has that node's label, and around it stands
-- what stands around that node in the value.
pub record IsIsolated (G H : List KeyedRule) (levels : List Level) (ps : List ℕ) (key : Key) : Type 0 where
  pub place : ℕ
  pub there : key_at H (start_of G) place ≡ Some key
  pub label : label_at H (start_of G) place ≡ last_label G Bottom levels ps
  pub around : term_around (rules_of H) place ≡ term_around_end G levels ps

-- the place of a chain's first node
abbrev pub first_place : List ℕ → ℕ
first_place ps = get_or ps 0 0

-- the starts have the same nodes up to the first node of a chain at these places, and the key stands there or behind
pub record IsSameInFront (G H : List KeyedRule) (ps : List ℕ) (key : Key) : Type 0 where
  pub nodes : take (first_place ps) (nodes_at H (start_of H)) ≡ take (first_place ps) (nodes_at G (start_of G))
  pub place : ℕ
  pub there : key_at H (start_of H) place ≡ Some key
  pub behind : first_place ps ≤ place

-- how many nodes come, and how many calls go, where each call of a chain is inlined once
abbrev pub come_along : List KeyedRule → List Level → ℕ
come_along G levels = weight_of real_nodes G (drop 1 levels)

abbrev pub calls_along : List Level → ℕ
calls_along levels = length (drop 1 levels)

-- for how many nodes there has to be room
abbrev pub room_along : List KeyedRule → List Level → ℕ
room_along G levels = weight_of length G (drop 1 levels)

-- the start alone differs, and all rules mean what they meant
pub record IsRestated (G H : List KeyedRule) : Type 0 where
  pub differ : DifferInStart G H
  pub ranks : ranks_of (rules_of H) ≡ ranks_of (rules_of G)
  pub means : all_meanings term_algebra (rules_of H) ≡ all_meanings term_algebra (rules_of G)

-- on the way from G: the key stands in the start's body of H, which is G's before the chain's first node, and from it these levels lead to where the
-- chain led
pub record Walk (G : List KeyedRule) (levels : List Level) (qs : List ℕ) (H : List KeyedRule) (here : Key) (ls : List Level) : Type 0 where
  pub restated : IsRestated G H
  pub lawful : IsLawful H
  pub place : ℕ
  pub ps : List ℕ
  pub there : key_at H (start_of G) place ≡ Some here
  pub front : take (first_place qs) (nodes_at H (start_of G)) ≡ take (first_place qs) (nodes_at G (start_of G))
  pub behind : first_place qs ≤ place
  pub leads : Leads H (label_at H (start_of G) place) ls ps
  pub label : last_label H (label_at H (start_of G) place) ls ps ≡ last_label G Bottom levels qs
  pub node : (F : List Term → Term) → meaning_with term_algebra (rules_of H) (body_at (rules_of H) (start_of G)) place (led term_algebra H ls ps F) [] ≡ led term_algebra G levels qs F []
  pub size : size (rules_of H) + (weight_of real_nodes H ls + calls_along levels) ≡ size (rules_of G) + (come_along G levels + length ls)
