-- The laws: marks of a grammar's start stay with the labels before their nodes.
use Rattle.std.specs.Prelude.{◌≡◌, ◌≢◌, ℕ, List, All, sum_by}
use Rattle.plain_tree.specs.declared.kind.Kind.{Kind}
use Rattle.rule_arena.specs.declared.key.Key.{Key}
use Rattle.slt_grammar.specs.Keyed.{KeyedRule}
use Rattle.start_fronts.specs.Before.{KeepsBefore, labels_before}
use Rattle.segment_counts.specs.Weights.{weigh}
use Rattle.segment_counts.specs.declared.counts.Measure.{Measure}
use Rattle.preorder_address.specs.Marks.{IsMark, passed_to}
use Rattle.preorder_address.specs.Routes.{stop_weight}
use Rattle.preorder_address.specs.declared.marks.Mark.{Mark}

-- a mark is one still where what stands before the start's nodes was kept and its key isn't gone
abbrev pub MarksStay : Type 0
MarksStay =
    (names : List (Kind × List ℕ)) (gone : List Key) (G H : List KeyedRule) (mark : Mark)
    → KeepsBefore gone G H → IsMark names G mark → All (λ k. k ≢ mark.key) gone → IsMark names H mark

-- the stops that a tour passes before a node weigh what the labels before it weigh
abbrev pub StopsWeighTheirLabels : Type 0
StopsWeighTheirLabels =
    (names : List (Kind × List ℕ)) (G : List KeyedRule) (r place : ℕ) (m : Measure)
    → sum_by (stop_weight (weigh names m) G) (passed_to G r place) ≡ sum_by (weigh names m) (labels_before G r place)
