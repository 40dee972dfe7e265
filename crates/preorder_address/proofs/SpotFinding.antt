-- A search along a rule's stops that adds up what it passes.
use Rattle.std.proofs.Common.{◌≡◌, ℕ, ◌+◌, ◌-◌, ◌*◌, ◌<◌, ◌≤◌, List, [], ◌∷◌, ◌++◌, length, length-append, refl, ap, sym, ◌∙◌, arith, sum_by, subst, append_assoc, Some}
use Rattle.std.specs.Prelude.{slice_get}
use Rattle.std.proofs.lemmas.List.Sums.{sum_by-cons, sum_by-append}
use Rattle.plain_tree.specs.declared.kind.Kind.{Kind}
use Rattle.rule_arena.specs.Terms.{Node}
use Rattle.slt_grammar.specs.Bodies.{CallsBelow}
use Rattle.slt_grammar.specs.Keyed.{Keyed, KeyedRule, IsKeyed, key_at, nodes_at, rules_of}
use Rattle.slt_grammar.specs.Segments.{node_tour, part_of, preorder}
use Rattle.slt_grammar.specs.Tours.{Stop, stop}
use Rattle.slt_grammar.specs.TourWalks.{StandsBefore}
use Rattle.slt_grammar.specs.declared.tour_walk.TourWalk.{TourWalk}
use Rattle.slt_grammar.proofs.StopLemmas.{stop-is, calls-here}
use Rattle.segment_counts.specs.Counting.{weight_by}
use Rattle.segment_counts.specs.Weights.{weigh}
use Rattle.segment_counts.specs.declared.counts.Measure.{Measure}
use Rattle.segment_counts.specs.declared.counts.Measure.TheVariants.{Nodes, Texts, All}
use Rattle.segment_counts.specs.declared.counts.Weights.{Weights}
use Rattle.preorder_address.specs.Marks.{HasPassed}
use Rattle.preorder_address.specs.Numberings.{measure_of}
use Rattle.preorder_address.specs.Routes.{stop_weight}
use Rattle.preorder_address.specs.Spots.{FallsWeighed}
use Rattle.preorder_address.specs.declared.numbering.Numbering.{Numbering}
use Rattle.preorder_address.specs.declared.spot.WeighedStop.{WeighedStop}
use Rattle.preorder_address.proofs.Weighing.{weight-tour}

abbrev pub none_passed : Weights
none_passed = record { nodes = 0; texts = 0; all = 0 }

pub weighs-none : (m : Measure) → weight_by m none_passed ≡ 0
weighs-none Nodes = refl
weighs-none Texts = refl
weighs-none All = refl

-- weights without others
pub weights-left : (before passed weights : Weights) (nodes texts all : ℕ) (told : Measure → ℕ) → ((m : Measure) → weight_by m weights ≡ weight_by m before + weight_by m passed) → ((m : Measure) → told m ≤ weight_by m passed) → nodes ≡ told Nodes → texts ≡ told Texts → all ≡ told All
    → (m : Measure) → weight_by m (record { nodes = weights.nodes - nodes; texts = weights.texts - texts; all = weights.all - all }) + told m ≡ weight_by m before + weight_by m passed
weights-left before passed weights nodes texts all told d h e f i Nodes =
    let x : weights.nodes ≡ before.nodes + passed.nodes = d Nodes in
    let y : told Nodes ≤ passed.nodes = h Nodes in
    omega (arith, x, y, e)
weights-left before passed weights nodes texts all told d h e f i Texts =
    let x : weights.texts ≡ before.texts + passed.texts = d Texts in
    let y : told Texts ≤ passed.texts = h Texts in
    omega (arith, x, y, f)
weights-left before passed weights nodes texts all told d h e f i All =
    let x : weights.all ≡ before.all + passed.all = d All in
    let y : told All ≤ passed.all = h All in
    omega (arith, x, y, i)

-- the search for number n has come to a stop, and these are the weights of what it passed
pub record Weighs (names : List (Kind × List ℕ)) (g : Keyed) (by : Numbering) (r n : ℕ) (walk : TourWalk) (before : Weights) (first steps : ℕ) : Type 0 where
  pub passed : List (Stop Node)
  pub ms : List (Stop Node)
  pub split : node_tour g.rules r ≡ passed ++ ms
  pub stands : StandsBefore g.rules r walk ms
  pub weights : (m : Measure) → weight_by m before ≡ sum_by (stop_weight (weigh names m) g.rules) passed
  pub under : weight_by (measure_of by) before ≤ n
  pub inside : n < weight_by (measure_of by) before + sum_by (stop_weight (weigh names (measure_of by)) g.rules) ms
  pub few : steps + 2 * length ms ≤ first + 2 * length (node_tour g.rules r)

-- it begins where a walk stands
pub weighs-begin : (names : List (Kind × List ℕ)) (g : Keyed) (by : Numbering) → IsKeyed g → (r : ℕ) → r < length g.rules → (n : ℕ) (walk : TourWalk) (before : Weights) (steps : ℕ) → HasPassed names g.rules r walk before → weight_by (measure_of by) before ≤ n
    → n < sum_by (weigh names (measure_of by)) (preorder (rules_of g.rules) r) → Weighs names g by r n walk before steps steps
weighs-begin names g by k r h n walk before steps s u b =
    let W = stop_weight (weigh names (measure_of by)) g.rules in
    let nodes : weight_by (measure_of by) before ≡ sum_by W s.passed = s.weighs (measure_of by) in
    record {
      passed = s.passed;
      ms = s.left;
      split = s.split;
      stands = s.stands;
      weights = s.weighs;
      under = u;
      inside = omega (arith, b, nodes, weight-tour (weigh names (measure_of by)) g k r h, ap (sum_by W) s.split, sum_by-append W s.passed s.left);
      few = omega (arith, ap length s.split, length-append s.passed s.left);
    }

pub passed-root : (names : List (Kind × List ℕ)) (G : List KeyedRule) (r : ℕ) (walk : TourWalk) → StandsBefore G r walk (node_tour G r) → HasPassed names G r walk none_passed
passed-root names G r walk s = record { passed = []; left = node_tour G r; split = refl; stands = s; weighs = weighs-none }

pub weighs-passed : (names : List (Kind × List ℕ)) (g : Keyed) (by : Numbering) (r n : ℕ) (walk : TourWalk) (before : Weights) (first steps : ℕ) → Weighs names g by r n walk before first steps → HasPassed names g.rules r walk before
weighs-passed names g by r n walk before first steps s = record { passed = s.passed; left = s.ms; split = s.split; stands = s.stands; weighs = s.weights }

pub falls-passed : (names : List (Kind × List ℕ)) (G : List KeyedRule) (by : Numbering) (r n : ℕ) (found : WeighedStop) → FallsWeighed names G by r n found → HasPassed names G r found.walk found.passed
falls-passed names G by r n found f = record { passed = f.falls.passed; left = stop (record { key = found.walk.key; label = found.label; kids = f.kids }) found.walk.part ∷ f.falls.rest; split = f.falls.split; stands = f.falls.stands; weighs = f.weights }

-- a stop is before the search
pub record WeighsAhead (names : List (Kind × List ℕ)) (g : Keyed) (by : Numbering) (r n : ℕ) (walk : TourWalk) (before : Weights) (first steps : ℕ) : Type 0 where
  pub passed : List (Stop Node)
  pub here : Stop Node
  pub others : List (Stop Node)
  pub split : node_tour g.rules r ≡ passed ++ here ∷ others
  pub stands : StandsBefore g.rules r walk (here ∷ others)
  pub weights : (m : Measure) → weight_by m before ≡ sum_by (stop_weight (weigh names m) g.rules) passed
  pub under : weight_by (measure_of by) before ≤ n
  pub inside : n < weight_by (measure_of by) before + stop_weight (weigh names (measure_of by)) g.rules here + sum_by (stop_weight (weigh names (measure_of by)) g.rules) others
  pub few : steps + 2 * length others + 2 ≤ first + 2 * length (node_tour g.rules r)

weighs-ahead : (names : List (Kind × List ℕ)) (g : Keyed) (by : Numbering) (r n : ℕ) (walk : TourWalk) (before : Weights) (first steps : ℕ) → Weighs names g by r n walk before first steps → WeighsAhead names g by r n walk before first steps
weighs-ahead names g by r n walk before first steps s = by_stops s.ms s.split s.stands s.inside s.few
  where
    by_stops : (ms : List (Stop Node)) → node_tour g.rules r ≡ s.passed ++ ms → StandsBefore g.rules r walk ms → n < weight_by (measure_of by) before + sum_by (stop_weight (weigh names (measure_of by)) g.rules) ms → steps + 2 * length ms ≤ first + 2 * length (node_tour g.rules r)
        → WeighsAhead names g by r n walk before first steps
    by_stops [] d t h f = absurd (omega (arith, h, s.under))
    by_stops (m ∷ ms) d t h f = record {
      passed = s.passed;
      here = m;
      others = ms;
      split = d;
      stands = t;
      weights = s.weights;
      under = s.under;
      inside = omega (arith, h, sum_by-cons (stop_weight (weigh names (measure_of by)) g.rules) m ms);
      few = omega (arith, f);
    }

module _ (names : List (Kind × List ℕ)) (g : Keyed) (by : Numbering) (k : IsKeyed g) (r : ℕ) (h : r < length g.rules) (n : ℕ) (walk : TourWalk) (before : Weights) (first steps : ℕ) (s : Weighs names g by r n walk before first steps)
    (x : Node) (item : (r p : ℕ) → key_at g.rules r p ≡ Some walk.key → slice_get (nodes_at g.rules r) p ≡ Some x) where
  pub there : WeighsAhead names g by r n walk before first steps
  there = weighs-ahead names g by r n walk before first steps s

  here-is : there.here ≡ stop x walk.part
  here-is = stop-is g k r h walk there.here there.others there.stands x item

  pub stop-calls : CallsBelow r (x.label ∷ [])
  stop-calls = calls-here g k r h walk there.here there.others there.stands x item

  module _ (ws : Weights) (is_weight : (m : Measure) → weight_by m ws ≡ sum_by (weigh names m) (part_of (rules_of g.rules) x.label walk.part)) where
    weight-here : (m : Measure) → weight_by m ws ≡ stop_weight (weigh names m) g.rules there.here
    weight-here m = is_weight m ∙ ap (stop_weight (weigh names m) g.rules) (sym here-is)

    nodes-here : weight_by (measure_of by) ws ≡ stop_weight (weigh names (measure_of by)) g.rules there.here
    nodes-here = weight-here (measure_of by)

    nodes-before : weight_by (measure_of by) before ≡ sum_by (stop_weight (weigh names (measure_of by)) g.rules) there.passed
    nodes-before = there.weights (measure_of by)

    -- both together are no more than the rule's value
    pub stop-within : (m : Measure) → weight_by m before + weight_by m ws ≤ sum_by (weigh names m) (preorder (rules_of g.rules) r)
    stop-within m =
        let W = stop_weight (weigh names m) g.rules in
        omega (
          arith,
          weight-here m,
          there.weights m,
          weight-tour (weigh names m) g k r h,
          ap (sum_by W) there.split,
          sum_by-append W there.passed (there.here ∷ there.others),
          sum_by-cons W there.here there.others,
        )

    pub falls-weighed : n - weight_by (measure_of by) before < weight_by (measure_of by) ws → (kids : ℕ) → x ≡ record { key = walk.key; label = x.label; kids = kids } → FallsWeighed names g.rules by r n (record { walk = walk; label = x.label; passed = before })
    falls-weighed b kids e =
        let here : there.here ≡ stop (record { key = walk.key; label = x.label; kids = kids }) walk.part = here-is ∙ ap (λ (y : Node). stop y walk.part) e in
        record {
          kids = kids;
          offset = n - weight_by (measure_of by) before;
          falls = record {
            passed = there.passed;
            rest = there.others;
            split = there.split ∙ ap (λ (m : Stop Node). there.passed ++ m ∷ there.others) here;
            stands = subst (λ (m : Stop Node). StandsBefore g.rules r walk (m ∷ there.others)) here there.stands;
            number = omega (arith, there.under, nodes-before);
            inside = omega (arith, b, nodes-here, ap (stop_weight (weigh names (measure_of by)) g.rules) here);
          };
          weights = there.weights;
        }

    pub never-last : weight_by (measure_of by) ws ≤ n - weight_by (measure_of by) before → there.others ≡ [] → ⊥
    never-last b e = omega (arith, b, nodes-here, there.inside, there.under, ap (sum_by (stop_weight (weigh names (measure_of by)) g.rules)) e)

    pub weighs-more : weight_by (measure_of by) ws ≤ n - weight_by (measure_of by) before → (sum : Weights) → ((m : Measure) → weight_by m sum ≡ weight_by m before + weight_by m ws) → (next : TourWalk) (steps' : ℕ) → StandsBefore g.rules r next there.others → steps' ≤ steps + 2
        → Weighs names g by r n next sum first steps'
    weighs-more b sum d next steps' t f =
        let nodes : weight_by (measure_of by) sum ≡ weight_by (measure_of by) before + weight_by (measure_of by) ws = d (measure_of by) in
        record {
          passed = there.passed ++ there.here ∷ [];
          ms = there.others;
          split = there.split ∙ sym (append_assoc there.passed (there.here ∷ []) there.others);
          stands = t;
          weights = λ m.
              let W = stop_weight (weigh names m) g.rules in
              omega (arith, d m, weight-here m, there.weights m, sum_by-append W there.passed (there.here ∷ []), sum_by-cons W there.here []);
          under = omega (arith, nodes, b, there.under);
          inside = omega (arith, nodes, nodes-here, there.inside);
          few = omega (arith, there.few, f);
        }
