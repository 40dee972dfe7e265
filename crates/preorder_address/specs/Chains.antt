-- Chains of levels, and the label to which they lead.
use Rattle.std.specs.Prelude.{◌≡◌, ℕ, ◌+◌, ◌-◌, ◌*◌, ◌<◌, ◌≤◌, List, [], ◌∷◌, ◌++◌, Option, None, Some, slice_get, sum_by, length}
use Rattle.rule_arena.specs.Terms.{Node}
use Rattle.rule_arena.specs.declared.key.Key.{Key}
use Rattle.rule_arena.specs.declared.label.Label.{Label}
use Rattle.rule_arena.specs.declared.label.Label.TheVariants.{Call}
use Rattle.slt_grammar.specs.Grammars.{whole}
use Rattle.slt_grammar.specs.Keyed.{Keyed, KeyedRule, IsKeyed, nodes_at, rules_of}
use Rattle.slt_grammar.specs.Segments.{node_tour, preorder}
use Rattle.slt_grammar.specs.Tours.{Stop, stop}
use Rattle.segment_counts.specs.Weights.{count, count_before}
use Rattle.preorder_address.specs.Descents.{IsInside, levels_of, steps_of}
use Rattle.preorder_address.specs.Routes.{route_to, stop_weight}
use Rattle.preorder_address.specs.Numberings.{weigh_by}
use Rattle.preorder_address.specs.declared.descent.Descent.{Descent}
use Rattle.preorder_address.specs.declared.numbering.Numbering.{Numbering}
use Rattle.preorder_address.specs.declared.numbering.Numbering.TheVariants.{All}
use Rattle.slt_grammar.specs.declared.level.Level.{Level}

-- the label f stands at number n
pub record IsAt (w : Label → ℕ) (ls : List Label) (n : ℕ) (f : Label) : Type 0 where
  pub before : List Label
  pub after : List Label
  pub split : ls ≡ before ++ f ∷ after
  pub number : sum_by w before ≡ n

-- the node of a level has this label
pub record HasLabel (G : List KeyedRule) (level : Level) (f : Label) : Type 0 where
  pub place : ℕ
  pub node : Node
  pub there : slice_get (nodes_at G level.rule) place ≡ Some node
  pub key : node.key ≡ level.key
  pub label : node.label ≡ f

-- each node but the last is a call of the next rule, and the last one has the label f
abbrev pub LeadsTo : List KeyedRule → ℕ → List Level → Label → Type 0
LeadsTo G r [] f = ⊥
LeadsTo G r (l ∷ []) f = (l.rule ≡ r) × HasLabel G l f
LeadsTo G r (l ∷ k ∷ ls) f = (l.rule ≡ r) × HasLabel G l (Call k.rule) × LeadsTo G k.rule (k ∷ ls) f

-- along the tour of a rule, the part of the node with this key begins at number n of the rule's value
pub record BeginsAt (w : Label → ℕ) (G : List KeyedRule) (r : ℕ) (key : Key) (part n : ℕ) : Type 0 where
  pub passed : List (Stop Node)
  pub rest : List (Stop Node)
  pub node : Node
  pub split : node_tour G r ≡ passed ++ stop node part ∷ rest
  pub key_is : node.key ≡ key
  pub number : sum_by (stop_weight w G) passed ≡ n

-- the last node has number n of the rule's value: a part of each call holds the number, which goes on into a segment of the called rule
abbrev pub EndsAt : (Label → ℕ) → List KeyedRule → ℕ → ℕ → List Level → Type 0
EndsAt w G r n [] = ⊥
EndsAt w G r n (l ∷ []) = BeginsAt w G r l.key 0 n
EndsAt w G r n (l ∷ k ∷ ls) =
    (part first offset : ℕ) × BeginsAt w G r l.key part first × (n ≡ first + offset) × (offset < count w (rules_of G) k.rule part)
    × EndsAt w G k.rule (count_before w (rules_of G) k.rule part + offset) (k ∷ ls)

-- the levels to a number of a rule are a chain whose last node has that number, and its label stands there in the rule's value
pub record Arrives (w : Label → ℕ) (G : List KeyedRule) (r n : ℕ) (levels : List Level) : Type 0 where
  pub label : Label
  pub chain : LeadsTo G r levels label
  pub ends : EndsAt w G r n levels
  pub counted : 0 < w label
  pub there : IsAt w (preorder (rules_of G) r) n label

-- the levels to each number of a rule do so
abbrev pub DescentsArrive : Type 0
DescentsArrive = (by : Numbering) (g : Keyed) (r n : ℕ) → IsKeyed g → r < length g.rules → n < sum_by (weigh_by by) (preorder (rules_of g.rules) r)
    → Arrives (weigh_by by) g.rules r n (route_to (weigh_by by) g.rules r n)

-- a descent of these rules leads to this number of the last one's value, in at most four steps for each node of the bodies
pub record LeadsToNumber (by : Numbering) (G : List KeyedRule) (n : ℕ) (d : Descent) : Type 0 where
  pub inside : IsInside G d
  pub arrives : Arrives (weigh_by by) G (length G - 1) n (levels_of G d)
  pub few : steps_of G d ≤ 4 * whole (rules_of G)

-- a descent of these rules leads to this place of the last one's value, and there is none where there is no place
abbrev pub LeadsToPlace : List KeyedRule → Option Descent → Option ℕ → Type 0
LeadsToPlace G None None = Unit {0}
LeadsToPlace G (Some d) (Some place) = LeadsToNumber All G place d
LeadsToPlace G None (Some place) = ⊥
LeadsToPlace G (Some d) None = ⊥
