-- Weights of stops, kept numbers and the tours.
use Rattle.std.proofs.Common.{◌≡◌, ℕ, ◌^◌, ◌<◌, List, [], ◌∷◌, length, refl, ap, sym, ◌∙◌, arith, sum_by}
use Rattle.std.proofs.lemmas.List.Sums.{sum_by-cons, sum_by-append}
use Rattle.rule_arena.specs.Terms.{Node}
use Rattle.rule_arena.specs.declared.label.Label.{Label}
use Rattle.slt_grammar.specs.Keyed.{Keyed, KeyedRule, IsKeyed, rules_of}
use Rattle.slt_grammar.specs.Segments.{preorder, part_of, node_tour}
use Rattle.slt_grammar.specs.Tours.{Stop}
use Rattle.slt_grammar.specs.declared.rules.Rule.{Rule}
use Rattle.slt_grammar.proofs.TourLemmas.{spread_nodes, preorder-nodes}
use Rattle.segment_counts.specs.Counting.{CountTable, told, told_before}
use Rattle.segment_counts.specs.Weights.{count, count_before}
use Rattle.segment_counts.proofs.Telling.{told_before-is}
use Rattle.preorder_address.specs.Routes.{stop_weight}
use Rattle.preorder_address.specs.Numberings.{AreCountsOf, weigh_by, measure_of}
use Rattle.preorder_address.specs.declared.numbering.Numbering.{Numbering}
use Rattle.preorder_address.specs.declared.numbering.Numbering.TheVariants.{Nodes, All}

pub told-each : (G : List Rule) (C : CountTable) → AreCountsOf G C → (m : Numbering) (q i : ℕ) → q < length G → told (measure_of m) C.rows q i ≡ count (weigh_by m) G q i
told-each G C a Nodes q i h = a.1.numbers.each (measure_of Nodes) q i h
told-each G C a All q i h = a.1.numbers.each (measure_of All) q i h

pub told-by : (G : List Rule) (C : CountTable) → AreCountsOf G C → (m : Numbering) (q i : ℕ) → q < length G → told_before (measure_of m) C.rows q i ≡ count_before (weigh_by m) G q i
told-by G C a Nodes q i h = told_before-is a.0 (length G) G C.rows a.1.numbers (measure_of Nodes) q i h
told-by G C a All q i h = told_before-is a.0 (length G) G C.rows a.1.numbers (measure_of All) q i h

pub small-by : (G : List Rule) (C : CountTable) → AreCountsOf G C → (m : Numbering) (q : ℕ) → q < length G → sum_by (weigh_by m) (preorder G q) < 2 ^ 64
small-by G C a Nodes q h = a.1.numbers.small (measure_of Nodes) q h
small-by G C a All q h = a.1.numbers.small (measure_of All) q h

pub weight-nodes : (w : Label → ℕ) (G : List KeyedRule) (ms : List (Stop Node)) → sum_by w (spread_nodes (rules_of G) ms) ≡ sum_by (stop_weight w G) ms
weight-nodes w G [] = refl
weight-nodes w G (m ∷ ms) =
    omega (arith, sum_by-append w (part_of (rules_of G) m.item.label m.part) (spread_nodes (rules_of G) ms), weight-nodes w G ms, sum_by-cons (stop_weight w G) m ms)

-- the stops of a rule weigh what its value does
pub weight-tour : (w : Label → ℕ) (g : Keyed) → IsKeyed g → (r : ℕ) → r < length g.rules → sum_by (stop_weight w g.rules) (node_tour g.rules r) ≡ sum_by w (preorder (rules_of g.rules) r)
weight-tour w g k r h = sym (ap (sum_by w) (preorder-nodes g k r h) ∙ weight-nodes w g.rules (node_tour g.rules r))
