-- The laws: marks of a grammar's start move with what stands before their nodes.
use Rattle.std.specs.Prelude.{◌≡◌, ◌≢◌, ℕ, ◌+◌, ◌<◌, List, All}
use Rattle.plain_tree.specs.declared.kind.Kind.{Kind}
use Rattle.rule_arena.specs.declared.key.Key.{Key}
use Rattle.slt_grammar.specs.Keyed.{KeyedRule}
use Rattle.start_fronts.specs.Moved.{MovesBefore, weight_in}
use Rattle.segment_counts.specs.Counting.{weight_by}
use Rattle.segment_counts.specs.Weights.{weigh}
use Rattle.segment_counts.specs.declared.counts.Measure.{Measure}
use Rattle.segment_counts.specs.declared.counts.Weights.{Weights}
use Rattle.preorder_address.specs.Marks.{AreMarks, IsMark}
use Rattle.preorder_address.specs.Numberings.{measure_of}
use Rattle.preorder_address.specs.Shifted.{IsLeft}
use Rattle.preorder_address.specs.declared.marks.Mark.{Mark}
use Rattle.preorder_address.specs.declared.shifting.Shift.{Shift}

-- a mark is one still where less stands before it than this number
abbrev pub EarlyMarksStay : Type 0
EarlyMarksStay =
    (names : List (Kind × List ℕ)) (by : Measure) (gone : List Key) (number : ℕ) (G H : List KeyedRule) (mark : Mark)
    → MovesBefore (weigh names by) gone number G H → IsMark names G mark → All (λ k. k ≢ mark.key) gone
    → weight_by by mark.passed < number → IsMark names H mark

-- where more stands before it, it is one with what the value has come to weigh more or less, if that leaves it behind the number
abbrev pub LateMarksMove : Type 0
LateMarksMove =
    (names : List (Kind × List ℕ)) (by : Measure) (gone : List Key) (number : ℕ) (G H : List KeyedRule) (mark moved : Mark)
    → MovesBefore (weigh names by) gone number G H → IsMark names G mark → All (λ k. k ≢ mark.key) gone
    → number < weight_by by mark.passed → number < weight_by by moved.passed → moved.key ≡ mark.key
    → ((m : Measure) → weight_by m moved.passed + weight_in (weigh names m) G ≡ weight_by m mark.passed + weight_in (weigh names m) H) → IsMark names H moved

-- these are the weights of what a grammar stands for
abbrev pub AreWeightsOf : List (Kind × List ℕ) → List KeyedRule → Weights → Type 0
AreWeightsOf names G weights = (m : Measure) → weight_by m weights ≡ weight_in (weigh names m) G

-- so with lists of them, where the shift tells what the value weighed and weighs
abbrev pub MarksAreLeft : Type 0
MarksAreLeft =
    (names : List (Kind × List ℕ)) (shift : Shift) (gone : List Key) (G H : List KeyedRule) (olds news : List Mark)
    → MovesBefore (weigh names (measure_of shift.by)) gone shift.number G H → AreWeightsOf names G shift.had → AreWeightsOf names H shift.has
    → AreMarks names G olds → All (IsLeft shift gone olds) news → AreMarks names H news
