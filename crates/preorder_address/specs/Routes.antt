-- The levels that lead to a node with a number.
use Rattle.std.specs.Prelude.{ℕ, zero, suc, ◌+◌, List, [], ◌∷◌, Option, Some, None, sum_by}
use Rattle.rule_arena.specs.Terms.{Node}
use Rattle.slt_grammar.specs.Keyed.{KeyedRule, rules_of}
use Rattle.slt_grammar.specs.Segments.{part_of, node_tour}
use Rattle.rule_arena.specs.declared.label.Label.{Label}
use Rattle.rule_arena.specs.declared.label.Label.TheVariants.{Call}
use Rattle.slt_grammar.specs.Tours.{Stop}
use Rattle.segment_counts.specs.Weights.{count_before}
use Rattle.slt_grammar.specs.declared.level.Level.{Level}

-- what is left of n after c, where it reaches so far
abbrev pub past : ℕ → ℕ → Option ℕ
past n zero = Some n
past zero (suc c) = None
past (suc n) (suc c) = past n c

-- a stop, and what is left of a number there
pub record Found : Type 0 where
  pub at : Stop Node
  pub offset : ℕ

-- here, or what is found later
abbrev pub chosen : Option ℕ → Found → (ℕ → Option Found) → Option Found
chosen None here later = Some here
chosen (Some n) here later = later n

-- the stop in which a number falls
abbrev pub sought : (Stop Node → ℕ) → List (Stop Node) → ℕ → Option Found
sought W [] n = None
sought W (m ∷ ms) n = chosen (past n (W m)) (record { at = m; offset = n }) (λ k. sought W ms k)

-- how many numbers fall into a stop
abbrev pub stop_weight : (Label → ℕ) → List KeyedRule → Stop Node → ℕ
stop_weight w G m = sum_by w (part_of (rules_of G) m.item.label m.part)

-- a call leads on
abbrev pub onward : Label → (ℕ → List Level) → List Level
onward (Call q) f = f q
onward l f = []

-- the level of a stop that was found, and those behind it
abbrev pub routed : ℕ → Option Found → (ℕ → ℕ → ℕ → List Level) → List Level
routed r None f = []
routed r (Some m) f = record { rule = r; key = m.at.item.key } ∷ onward m.at.item.label (λ q. f q m.at.part m.offset)

-- the levels to number n of a rule, at most `most`
abbrev pub route : (Label → ℕ) → List KeyedRule → ℕ → ℕ → ℕ → List Level
route w G zero r n = []
route w G (suc most) r n = routed r (sought (stop_weight w G) (node_tour G r) n) (λ q i o. route w G most q (count_before w (rules_of G) q i + o))

-- the levels to number n of a rule
abbrev pub route_to : (Label → ℕ) → List KeyedRule → ℕ → ℕ → List Level
route_to w G r n = route w G (suc r) r n
