-- The levels that a descent still gives.
use Rattle.std.specs.Prelude.{◌≡◌, ℕ, suc, ◌+◌, ◌*◌, ◌<◌, ◌^◌, List, [], ◌∷◌, length, Option, Some, None, sum_by, take}
use Rattle.slt_grammar.specs.Keyed.{KeyedRule, rules_of}
use Rattle.slt_grammar.specs.Segments.{preorder}
use Rattle.segment_counts.specs.Counting.{CountTable, told_before}
use Rattle.preorder_address.specs.Numberings.{weigh_by, measure_of}
use Rattle.rule_arena.specs.declared.label.Label.{Label}
use Rattle.rule_arena.specs.declared.label.Label.TheVariants.{Call}
use Rattle.preorder_address.specs.Routes.{route_to}
use Rattle.preorder_address.specs.declared.numbering.Numbering.{Numbering}
use Rattle.slt_grammar.specs.declared.level.Level.{Level}
use Rattle.preorder_address.specs.declared.descent.Wanted.{Wanted}
use Rattle.preorder_address.specs.declared.descent.Descent.{Descent}

-- the levels to what is wanted
abbrev pub levels_at : Numbering → List KeyedRule → Option Wanted → List Level
levels_at by G None = []
levels_at by G (Some wanted) = route_to (weigh_by by) G wanted.rule wanted.number

-- what is wanted is a number of a rule's value
abbrev pub IsWithin : Numbering → List KeyedRule → Option Wanted → Type 0
IsWithin by G None = Unit {0}
IsWithin by G (Some wanted) = (wanted.rule < length G) × (wanted.number < sum_by (weigh_by by) (preorder (rules_of G) wanted.rule))

-- how many nodes the bodies up to a rule have
abbrev pub nodes_up_to : List KeyedRule → ℕ → ℕ
nodes_up_to G r = sum_by (λ R. length R.nodes) (take (suc r) G)

abbrev pub steps_at : List KeyedRule → Option Wanted → ℕ
steps_at G None = 0
steps_at G (Some wanted) = 4 * nodes_up_to G wanted.rule

-- the levels that a descent still gives
abbrev pub levels_of : List KeyedRule → Descent → List Level
levels_of G d = levels_at d.by G d.next

-- the descent is one of these rules
abbrev pub IsInside : List KeyedRule → Descent → Type 0
IsInside G d = IsWithin d.by G d.next

-- the most steps that its calls still take together
abbrev pub steps_of : List KeyedRule → Descent → ℕ
steps_of G d = steps_at G d.next

-- a descent to a number of a rule's value
abbrev pub descent_to : Numbering → ℕ → ℕ → Descent
descent_to by r n = record { by = by; next = Some (record { rule = r; number = n }) }

-- the first level was given, and None exactly where none was left
abbrev pub Given : Option Level → List Level → List Level → Type 0
Given None old new = (old ≡ []) × (new ≡ [])
Given (Some l) old new = old ≡ l ∷ new

-- where a descent goes on from a part of a node, by kept numbers
abbrev pub told_next : Numbering → CountTable → Label → ℕ → ℕ → Option Wanted
told_next m C (Call q) i o = Some (record { rule = q; number = told_before (measure_of m) C.rows q i + o })
told_next m C l i o = None

-- and that number fits 64 bits
abbrev pub IsSmallNext : Numbering → CountTable → Label → ℕ → ℕ → Type 0
IsSmallNext m C (Call q) i o = told_before (measure_of m) C.rows q i + o < 2 ^ 64
IsSmallNext m C l i o = Unit {0}
