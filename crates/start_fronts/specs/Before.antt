-- What stands before the nodes of a grammar's start, and changes that keep it.
use Rattle.std.specs.Prelude.{◌≡◌, ◌≢◌, ℕ, ◌-◌, List, [], ◌∷◌, All, Some, length, map, take}
use Rattle.rule_arena.specs.Terms.{Node, key_of, kids_of}
use Rattle.rule_arena.specs.declared.key.Key.{Key}
use Rattle.rule_arena.specs.declared.label.Label.{Label}
use Rattle.slt_grammar.specs.Copying.{copied}
use Rattle.slt_grammar.specs.Keyed.{KeyedRule, key_at, nodes_at, rules_of}
use Rattle.slt_grammar.specs.Segments.{part_of, spread}
use Rattle.slt_grammar.specs.Tours.{Stop, tour}

-- the stops that a rule's tour passes before it meets the node at a place
abbrev pub passed_to : List KeyedRule → ℕ → ℕ → List (Stop Node)
passed_to G r p = tour kids_of ([] ∷ []) (take p (nodes_at G r))

-- the labels of a rule's value that its tour passes before it meets the node at a place, each parameter as itself
abbrev pub labels_before : List KeyedRule → ℕ → ℕ → List Label
labels_before G r p = spread (λ m. part_of (rules_of G) m.item.label m.part) (passed_to G r p) []

-- the key stands in the start of H, behind the labels that stand before a place of the start of G
pub record StandsBehindSame (G H : List KeyedRule) (place : ℕ) (key : Key) : Type 0 where
  pub now : ℕ
  pub there : key_at H (length H - 1) now ≡ Some key
  pub same : labels_before H (length H - 1) now ≡ labels_before G (length G - 1) place

-- each node of the start stands in the start still, behind the same labels, but for those with the keys that are gone
abbrev pub KeepsBefore : List Key → List KeyedRule → List KeyedRule → Type 0
KeepsBefore gone G H =
    (key : Key) (place : ℕ) → key_at G (length G - 1) place ≡ Some key → All (λ k. k ≢ key) gone → StandsBehindSame G H place key

-- the keys of a copy of a rule's nodes, without those of the arguments
abbrev pub copied_keys : List Node → List Key → List Key
copied_keys body keys = map key_of (copied body [] keys)
