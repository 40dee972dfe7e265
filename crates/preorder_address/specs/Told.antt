-- Routes by kept numbers, which need no more of a grammar than the bodies of their levels.
use Rattle.std.specs.Prelude.{◌≡◌, ℕ, zero, suc, ◌+◌, ◌*◌, ◌<◌, ◌^◌, List, [], length, Option, Some, None, slice_get, sum_by}
use Rattle.rule_arena.specs.Terms.{Node}
use Rattle.rule_arena.specs.declared.label.Label.{Label}
use Rattle.rule_arena.specs.declared.label.Label.TheVariants.{Bottom, Symbol, Call}
use Rattle.slt_grammar.specs.Keyed.{KeyedRule, nodes_at}
use Rattle.slt_grammar.specs.Segments.{node_tour}
use Rattle.slt_grammar.specs.Tours.{Stop}
use Rattle.slt_grammar.specs.declared.level.Level.{Level}
use Rattle.segment_counts.specs.Counting.{CountTable, told, told_before}
use Rattle.preorder_address.specs.Numberings.{measure_of, weigh_by}
use Rattle.preorder_address.specs.Routes.{Found, sought, routed}
use Rattle.preorder_address.specs.declared.descent.Wanted.{Wanted}
use Rattle.preorder_address.specs.declared.numbering.Numbering.{Numbering}

-- how many numbers fall into a part of a node, where a call has what is kept of the called rule
abbrev pub told_part : Numbering → CountTable → Label → ℕ → ℕ
told_part by C (Call q) i = told (measure_of by) C.rows q i
told_part by C (Symbol f) zero = weigh_by by (Symbol f)
told_part by C Bottom zero = weigh_by by Bottom
told_part by C l i = 0

abbrev pub told_weight : Numbering → CountTable → Stop Node → ℕ
told_weight by C m = told_part by C m.item.label m.part

-- the levels to number n of a rule, at most `most`
abbrev pub told_route : Numbering → CountTable → List KeyedRule → ℕ → ℕ → ℕ → List Level
told_route by C G zero r n = []
told_route by C G (suc most) r n = routed r (sought (told_weight by C) (node_tour G r) n) (λ q i o. told_route by C G most q (told_before (measure_of by) C.rows q i + o))

-- the levels to what is wanted
abbrev pub told_levels : Numbering → CountTable → List KeyedRule → Option Wanted → List Level
told_levels by C G None = []
told_levels by C G (Some wanted) = told_route by C G (suc wanted.rule) wanted.rule wanted.number

-- what is found leads on to what meets the condition
abbrev pub IsOnward : Label → (ℕ → Type 0) → Type 0
IsOnward (Call q) P = P q
IsOnward l P = Unit {0}

abbrev pub IsFoundWith : Option Found → (ℕ → ℕ → ℕ → Type 0) → Type 0
IsFoundWith None P = ⊥
IsFoundWith (Some f) P = IsOnward f.at.item.label (λ q. P q f.at.part f.offset)

-- there is such a rule
abbrev pub IsRuleAt : List KeyedRule → ℕ → Type 0
IsRuleAt G r = (R : KeyedRule) × (slice_get G r ≡ Some R)

-- each number on the route to number n of a rule falls into a stop of its rule's tour, and fits 64 bits
abbrev pub IsTold : Numbering → CountTable → List KeyedRule → ℕ → ℕ → ℕ → Type 0
IsTold by C G zero r n = Unit {0}
IsTold by C G (suc most) r n =
    IsRuleAt G r
    × IsFoundWith (sought (told_weight by C) (node_tour G r) n) (λ q i o. (told_before (measure_of by) C.rows q i + o < 2 ^ 64) × IsTold by C G most q (told_before (measure_of by) C.rows q i + o))

abbrev pub AreTold : Numbering → CountTable → List KeyedRule → Option Wanted → Type 0
AreTold by C G None = Unit {0}
AreTold by C G (Some wanted) = IsTold by C G (suc wanted.rule) wanted.rule wanted.number

-- how many nodes the bodies of levels have
abbrev pub level_nodes : List KeyedRule → List Level → ℕ
level_nodes G ls = sum_by (λ l. length (nodes_at G l.rule)) ls

-- the most steps that it takes to give levels
abbrev pub steps_for : List KeyedRule → List Level → ℕ
steps_for G ls = 4 * level_nodes G ls
