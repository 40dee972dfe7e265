-- Marks that move with a change.
use Rattle.std.proofs.Common.{◌≡◌, ◌≢◌, ◌⊎◌, inl, inr, ℕ, ◌+◌, ◌-◌, ◌<◌, List, ◌++◌, All, Some, length, sym, ap, ◌∙◌, subst, arith, sum_by}
use Rattle.std.proofs.lemmas.List.Elements.{All-weaker}
use Rattle.std.proofs.lemmas.List.Sums.{sum_by-append}
use Rattle.std.proofs.lemmas.Option.{get_or_from_slice_get, slice_get_within}
use Rattle.plain_tree.specs.declared.kind.Kind.{Kind}
use Rattle.rule_arena.specs.declared.key.Key.{Key}
use Rattle.rule_arena.specs.declared.label.Label.{Label}
use Rattle.slt_grammar.specs.Keyed.{KeyedRule}
use Rattle.segment_counts.specs.Counting.{weight_by}
use Rattle.segment_counts.specs.Weights.{weigh}
use Rattle.segment_counts.specs.declared.counts.Measure.{Measure}
use Rattle.preorder_address.specs.Marks.{AreMarks, IsMark}
use Rattle.preorder_address.specs.Numberings.{measure_of}
use Rattle.preorder_address.specs.Shifted.{IsLeft, IsMoved, number_in}
use Rattle.preorder_address.specs.declared.marks.Mark.{Mark}
use Rattle.preorder_address.specs.declared.shifting.Shift.{Shift}
use Rattle.start_fronts.specs.Before.{labels_before}
use Rattle.start_fronts.specs.Moved.{MovesBefore, value_labels, weight_in}
use Rattle.start_marks.specs.Moving.{AreWeightsOf}
use Rattle.start_marks.proofs.Weights.{mark-behind, weights-before}

-- a mark's weights are those of the labels before its node
passed-before : (names : List (Kind × List ℕ)) (G : List KeyedRule) (mark : Mark) (is : IsMark names G mark) (m : Measure)
    → weight_by m mark.passed ≡ sum_by (weigh names m) (labels_before G (length G - 1) is.place)
passed-before names G mark is m = is.weights m ∙ weights-before names G (length G - 1) is.place m

pub early-stays : (names : List (Kind × List ℕ)) (by : Measure) (gone : List Key) (number : ℕ) (G H : List KeyedRule) (mark : Mark)
    → MovesBefore (weigh names by) gone number G H → IsMark names G mark → All (λ k. k ≢ mark.key) gone → weight_by by mark.passed < number → IsMark names H mark
early-stays names by gone number G H mark moves is apart h =
    mark-behind names G H mark is (moves.early mark.key is.place is.there apart (omega (arith, h, passed-before names G mark is by)))

-- what stands before, where the same stands behind
moved-weight : (w : Label → ℕ) (gs hs before after rest : List Label) (mark moved : ℕ)
    → gs ≡ before ++ rest → hs ≡ after ++ rest → mark ≡ sum_by w before → moved + sum_by w gs ≡ mark + sum_by w hs → moved ≡ sum_by w after
moved-weight w gs hs before after rest mark moved first second is sum =
    omega (arith, sum, is, ap (sum_by w) first, ap (sum_by w) second, sum_by-append w before rest, sum_by-append w after rest)

pub late-moves : (names : List (Kind × List ℕ)) (by : Measure) (gone : List Key) (number : ℕ) (G H : List KeyedRule) (mark moved : Mark)
    → MovesBefore (weigh names by) gone number G H → IsMark names G mark → All (λ k. k ≢ mark.key) gone → number < weight_by by mark.passed → number < weight_by by moved.passed
    → moved.key ≡ mark.key → ((m : Measure) → weight_by m moved.passed + weight_in (weigh names m) G ≡ weight_by m mark.passed + weight_in (weigh names m) H) → IsMark names H moved
late-moves names by gone number G H mark moved moves is apart behind left key weights =
    let e = passed-before names G mark is by in
    let s = moves.late mark.key is.place is.there apart (omega (arith, behind, e)) (omega (arith, left, e, weights by)) in
    let before : (m : Measure) → weight_by m moved.passed ≡ sum_by (weigh names m) (labels_before H (length H - 1) s.now) =
    λ m.
    moved-weight (weigh names m) (value_labels G) (value_labels H) (labels_before G (length G - 1) is.place) (labels_before H (length H - 1) s.now) s.rest
    (weight_by m mark.passed) (weight_by m moved.passed) s.first s.second (passed-before names G mark is m) (weights m) in
    record {
      place = s.now;
      there = s.there ∙ ap (λ (k : Key). Some k) (sym key);
      weights = λ m. before m ∙ sym (weights-before names H (length H - 1) s.now m);
    }

pub marks-left : (names : List (Kind × List ℕ)) (shift : Shift) (gone : List Key) (G H : List KeyedRule) (olds news : List Mark) → MovesBefore (weigh names (measure_of shift.by)) gone shift.number G H
    → AreWeightsOf names G shift.had → AreWeightsOf names H shift.has → AreMarks names G olds → All (IsLeft shift gone olds) news → AreMarks names H news
marks-left names shift gone G H olds news moves before after are left = All-weaker (IsLeft shift gone olds) (IsMark names H) one news left
  where
    by : Measure
    by = measure_of shift.by

    one : (mark : Mark) → IsLeft shift gone olds mark → IsMark names H mark
    one mark l = at l.comes.how
      where
        old : IsMark names G l.old
        old = subst (λ (x : Mark). IsMark names G x) (get_or_from_slice_get olds l.index l.old l.old l.there) (are l.index l.old (slice_get_within olds l.index l.old l.there))

        at : ((mark ≡ l.old) × (number_in shift l.old.passed < shift.number)) ⊎ IsMoved shift l.old mark → IsMark names H mark
        at (inl s) = subst (λ (x : Mark). IsMark names H x) (sym s.0) (early-stays names by gone shift.number G H l.old moves old l.comes.stands s.1)
        at (inr s) = late-moves names by gone shift.number G H l.old mark moves old l.comes.stands s.was s.is s.key (λ m. omega (arith, s.weights m, before m, after m))
