-- The tokens that a cursor still gives.
use Rattle.std.specs.Prelude.{◌≡◌, ℕ, ◌+◌, ◌<◌, ◌≤◌, ◌^◌, List, [], ◌∷◌, ◌++◌, Bool, Option, Some, None, length, sum_by, vec_capacity, if◌then◌else◌}
use Rattle.std.specs.Option.{option_to_list}
use Rattle.rule_arena.specs.declared.label.Label.{Label}
use Rattle.rule_arena.specs.declared.label.Label.TheVariants.{Symbol}
use Rattle.slt_grammar.specs.Grammars.{value}
use Rattle.slt_grammar.specs.Keyed.{KeyedRule, rules_of}
use Rattle.slt_grammar.specs.Segments.{listed}
use Rattle.segment_counts.specs.Weights.{node_weight}
use Rattle.preorder_address.specs.declared.descent.RuleStop.{RuleStop}
use Rattle.value_cursor.specs.Kept.{AreKept, again_of, labels_of}
use Rattle.value_cursor.specs.Stops.{AreStops, behind, segment_left, stops_of}
use Rattle.value_cursor.specs.Tokens.{tokens}
use Rattle.value_cursor.specs.declared.cursor.Cursor.{Cursor}
use Rattle.value_cursor.specs.declared.cursor.Token.{Token}

-- the stop, where there is one
abbrev pub found : Bool → RuleStop → Option RuleStop
found there s = if there then Some s else None

-- the labels of the value that are left from a stop on, inside these calls
abbrev pub left_at : List KeyedRule → Option RuleStop → List RuleStop → List Label
left_at G None calls = []
left_at G (Some s) calls = segment_left G (stops_of G s) ++ behind G calls []

-- the labels that are left of a cursor: first those of the segment that is told again
abbrev pub left_of : List KeyedRule → Cursor → List Label
left_of G c = labels_of (again_of c.kept) ++ left_at G c.here c.calls.items

-- the tokens that it still gives
abbrev pub tokens_of : List KeyedRule → Cursor → List Token
tokens_of G c = tokens c.opened (left_of G c)

-- the cursor's stops and segments are of these rules, and there is room for a stop of each
pub record IsStanding (G : List KeyedRule) (c : Cursor) : Type 0 where
  pub stops : AreStops G (length G) (c.calls.items ++ option_to_list c.here)
  pub room : length G ≤ vec_capacity c.calls
  pub kept : AreKept G c.kept

-- and the nodes that are open and left are counted in a word
pub record IsInside (G : List KeyedRule) (c : Cursor) : Type 0 where
  pub standing : IsStanding G c
  pub few : c.opened + sum_by node_weight (left_of G c) < 2 ^ 64

-- the first token was given, and None exactly where none was left
abbrev pub Given : Option Token → List Token → List Token → Type 0
Given None old new = (old ≡ []) × (new ≡ [])
Given (Some t) old new = old ≡ t ∷ new

-- a cursor gives the tokens from the node with this number on: so many nodes are before what is left of it, which begins with a symbol
pub record BeginsAtNode (G : List KeyedRule) (number : ℕ) (c : Cursor) : Type 0 where
  pub before : List Label
  pub symbol : ℕ
  pub after : List Label
  pub split : listed (value (rules_of G)) [] ≡ before ++ left_of G c
  pub number_is : sum_by node_weight before ≡ number
  pub begins : left_of G c ≡ Symbol symbol ∷ after
  pub none_open : c.opened ≡ 0
