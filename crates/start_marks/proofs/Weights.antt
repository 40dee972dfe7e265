-- Marks through changes that keep what stands before them.
use Rattle.std.proofs.Common.{◌≡◌, ◌≢◌, ℕ, ◌-◌, List, [], ◌∷◌, All, length, refl, sym, ap, ◌∙◌, arith, sum_by}
use Rattle.std.proofs.lemmas.List.Sums.{sum_by-append, sum_by-cons}
use Rattle.plain_tree.specs.declared.kind.Kind.{Kind}
use Rattle.rule_arena.specs.Terms.{Node}
use Rattle.rule_arena.specs.declared.key.Key.{Key}
use Rattle.rule_arena.specs.declared.label.Label.{Label}
use Rattle.slt_grammar.specs.Keyed.{KeyedRule, rules_of}
use Rattle.slt_grammar.specs.Segments.{part_of, spread}
use Rattle.slt_grammar.specs.Tours.{Stop}
use Rattle.start_fronts.specs.Before.{KeepsBefore, StandsBehindSame, labels_before}
use Rattle.segment_counts.specs.Weights.{weigh}
use Rattle.segment_counts.specs.declared.counts.Measure.{Measure}
use Rattle.preorder_address.specs.Marks.{IsMark, passed_to}
use Rattle.preorder_address.specs.Routes.{stop_weight}
use Rattle.preorder_address.specs.declared.marks.Mark.{Mark}

-- the weights of stops are those of the labels for which they stand
weight-stops : (w : Label → ℕ) (G : List KeyedRule) (ms : List (Stop Node)) → sum_by w (spread (λ m. part_of (rules_of G) m.item.label m.part) ms []) ≡ sum_by (stop_weight w G) ms
weight-stops w G [] = refl
weight-stops w G (m ∷ ms) =
    omega (
      arith,
      sum_by-append w (part_of (rules_of G) m.item.label m.part) (spread (λ n. part_of (rules_of G) n.item.label n.part) ms []),
      weight-stops w G ms,
      sum_by-cons (stop_weight w G) m ms,
    )

pub weights-before : (names : List (Kind × List ℕ)) (G : List KeyedRule) (r p : ℕ) (m : Measure) → sum_by (stop_weight (weigh names m) G) (passed_to G r p) ≡ sum_by (weigh names m) (labels_before G r p)
weights-before names G r p m = sym (weight-stops (weigh names m) G (passed_to G r p))

-- a mark whose node stands behind the same labels
pub mark-behind : (names : List (Kind × List ℕ)) (G H : List KeyedRule) (mark : Mark) (is : IsMark names G mark) → StandsBehindSame G H is.place mark.key → IsMark names H mark
mark-behind names G H mark is s = record {
  place = s.now;
  there = s.there;
  weights = λ m.
      is.weights m
      ∙ weights-before names G (length G - 1) is.place m
      ∙ ap (sum_by (weigh names m)) (sym s.same)
      ∙ sym (weights-before names H (length H - 1) s.now m);
}

-- a mark whose key is not gone
pub mark-stays : (names : List (Kind × List ℕ)) (gone : List Key) (G H : List KeyedRule) (mark : Mark) → KeepsBefore gone G H → IsMark names G mark → All (λ k. k ≢ mark.key) gone → IsMark names H mark
mark-stays names gone G H mark keeps is apart = mark-behind names G H mark is (keeps mark.key is.place is.there apart)
