-- The tallies along a rule's tour.
use Rattle.std.proofs.Common.{◌≡◌, ℕ, ◌+◌, ◌*◌, ◌^◌, ◌<◌, ◌≤◌, List, [], ◌∷◌, ◌++◌, length, get_or, refl, arith, sum_by, subst, Some}
use Rattle.std.specs.Prelude.{slice_get}
use Rattle.std.proofs.lemmas.List.Sums.{sum_by-append}
use Rattle.plain_tree.specs.declared.kind.Kind.{Kind}
use Rattle.rule_arena.specs.Terms.{Node}
use Rattle.rule_arena.specs.declared.label.Label.{Label}
use Rattle.rule_arena.specs.declared.label.Label.TheVariants.{Param}
use Rattle.slt_grammar.specs.Bodies.{params, CallsBelow}
use Rattle.slt_grammar.specs.Keyed.{key_at, Keyed, KeyedRule, IsKeyed, rules_of, nodes_at}
use Rattle.slt_grammar.specs.Segments.{preorder, part_of, node_tour}
use Rattle.slt_grammar.specs.Tours.{Stop, stop}
use Rattle.slt_grammar.specs.TourWalks.{StandsBefore}
use Rattle.slt_grammar.specs.declared.rules.Rule.{Rule}
use Rattle.slt_grammar.specs.declared.tour_walk.TourWalk.{TourWalk}
use Rattle.slt_grammar.proofs.KeyedLemmas.{length-rules_of}
use Rattle.slt_grammar.proofs.StopLemmas.{stop-is, calls-here}
use Rattle.slt_grammar.proofs.TourLemmas.{spread_nodes, preorder-nodes, params-preorder}
use Rattle.segment_counts.specs.Counting.{AreCountsBelow, no_weights, weight_by}
use Rattle.segment_counts.specs.Tallies.{Adds, limit_by, row_of, tally_by}
use Rattle.segment_counts.specs.Weights.{count, node_weight, weigh}
use Rattle.segment_counts.specs.declared.counts.Measure.{Measure}
use Rattle.segment_counts.specs.declared.counts.Measure.TheVariants.{Nodes, Texts, All}
use Rattle.segment_counts.specs.declared.counts.Weights.{Weights}
use Rattle.segment_counts.specs.declared.tally.Tallies.{Tallies}
use Rattle.segment_counts.proofs.Numbers.{texts-few, all-few}
use Rattle.segment_counts.proofs.Sums.{IsTally, tally-start, tally-step}
use Rattle.segment_counts.proofs.Weighed.{row-weighs}

none-weigh : (names : List (Kind × List ℕ)) (m : Measure) → weigh names m Param ≡ 0
none-weigh names Nodes = refl
none-weigh names Texts = refl
none-weigh names All = refl

-- more than a measure allows are too many nodes
too-heavy : (names : List (Kind × List ℕ)) (G : List Rule) (r : ℕ) (m : Measure) → limit_by m < sum_by (weigh names m) (preorder G r) → 2 ^ 63 ≤ sum_by node_weight (preorder G r)
too-heavy names G r Nodes h = omega arith
too-heavy names G r Texts h = omega (arith, texts-few names (preorder G r))
too-heavy names G r All h = omega (arith, all-few G r)

-- a walk with its tallies
pub record Tallied (names : List (Kind × List ℕ)) (G : List KeyedRule) (r : ℕ) (walk : TourWalk) (t : Tallies) (first steps : ℕ) : Type 0 where
  pub here : Stop Node
  pub left : List (Stop Node)
  pub stands : StandsBefore G r walk (here ∷ left)
  pub tally : (m : Measure) → IsTally (weigh names m) (preorder (rules_of G) r) (part_of (rules_of G) here.item.label here.part ++ spread_nodes (rules_of G) left) (tally_by m t)
  pub small : (m : Measure) → (tally_by m t).total ≤ limit_by m
  pub few : steps + 2 * length left + 2 ≤ first + 2 * length (node_tour G r)

module _ (names : List (Kind × List ℕ)) (g : Keyed) (k : IsKeyed g) (r : ℕ) (h : r < length g.rules) where
  abbrev H : List Rule
  H = rules_of g.rules

  tallied : (walk : TourWalk) (t : Tallies) (first steps : ℕ) (ms : List (Stop Node)) → StandsBefore g.rules r walk ms → ((m : Measure) → IsTally (weigh names m) (preorder H r) (spread_nodes H ms) (tally_by m t))
      → ((m : Measure) → (tally_by m t).total ≤ limit_by m) → steps + 2 * length ms ≤ first + 2 * length (node_tour g.rules r) → Tallied names g.rules r walk t first steps
  tallied walk t first steps [] s i b f = let l = s.are_left in absurd (cc)
  tallied walk t first steps (here ∷ left) s i b f = record { here = here; left = left; stands = s; tally = i; small = b; few = omega arith }

  pub tallied-start : (walk : TourWalk) (t : Tallies) (steps : ℕ) → StandsBefore g.rules r walk (node_tour g.rules r) → ((m : Measure) (i : ℕ) → get_or (tally_by m t).sums i 0 ≡ 0)
      → ((m : Measure) → length (tally_by m t).sums ≡ 9) → ((m : Measure) → (tally_by m t).at ≡ 0) → ((m : Measure) → (tally_by m t).total ≡ 0) → Tallied names g.rules r walk t steps steps
  tallied-start walk t steps s z n a b =
      let all : List Label = preorder H r in
      tallied walk t steps steps (node_tour g.rules r) s
      (λ m. subst (λ (ls : List Label). IsTally (weigh names m) all ls (tally_by m t)) (preorder-nodes g k r h) (tally-start (weigh names m) all (tally_by m t) (z m) (n m) (a m) (b m)))
      (λ m. omega (arith, b m)) (omega arith)

  few-params : params (preorder H r) ≤ 8
  few-params =
      let b : r < length H = omega (arith, length-rules_of g.rules) in
      omega (arith, params-preorder H r k.grammar b, (k.grammar.each r b).shaped.small)

  -- a turn of the loop: the node's item and the weights of its part are known
  module _ (C : List (List Weights)) (counts : AreCountsBelow names r H C) (walk : TourWalk) (t : Tallies) (first steps : ℕ) (i : Tallied names g.rules r walk t first steps)
      (x : Node) (item : (r p : ℕ) → key_at g.rules r p ≡ Some walk.key → slice_get (nodes_at g.rules r) p ≡ Some x)
      (n : Weights) (law : (m : Measure) (j : ℕ) (G : List Rule) → AreCountsBelow names j G C → CallsBelow j (x.label ∷ []) → weight_by m n ≡ sum_by (weigh names m) (part_of G x.label walk.part)) where
    here-is : i.here ≡ stop x walk.part
    here-is = stop-is g k r h walk i.here i.left i.stands x item

    weighed : (m : Measure) → weight_by m n ≡ sum_by (weigh names m) (part_of H x.label walk.part)
    weighed m = law m r H counts (calls-here g k r h walk i.here i.left i.stands x item)

    tally-here : (m : Measure) → IsTally (weigh names m) (preorder H r) (part_of H x.label walk.part ++ spread_nodes H i.left) (tally_by m t)
    tally-here m = subst (λ (s : Stop Node). IsTally (weigh names m) (preorder H r) (part_of H s.item.label s.part ++ spread_nodes H i.left) (tally_by m t)) here-is (i.tally m)

    -- the segment at which a tally stands is one of nine
    pub place-few : (m : Measure) → (tally_by m t).at < 9
    place-few m = omega (arith, (i.tally m).place, few-params)

    pub too-many : (m : Measure) × (limit_by m < (tally_by m t).total + weight_by m n) → 2 ^ 63 ≤ sum_by node_weight (preorder H r)
    too-many (m, b) =
        let w : Label → ℕ = weigh names m in
        too-heavy names H r m (omega (arith, b, weighed m, (tally-here m).weight, sum_by-append w (part_of H x.label walk.part) (spread_nodes H i.left)))

    module _ (u : Tallies) (a : (m : Measure) → Adds x.label (weight_by m n) (tally_by m t) (tally_by m u)) where
      next-tally : (m : Measure) → IsTally (weigh names m) (preorder H r) (spread_nodes H i.left) (tally_by m u)
      next-tally m =
          tally-step (weigh names m) (none-weigh names m) (preorder H r) (spread_nodes H i.left) H x.label walk.part (weight_by m n) (tally_by m t) (tally_by m u) (tally-here m) few-params (weighed m) (a m)

      last-tally : i.left ≡ [] → (m : Measure) → IsTally (weigh names m) (preorder H r) [] (tally_by m u)
      last-tally e m = subst (λ (ms : List (Stop Node)). IsTally (weigh names m) (preorder H r) (spread_nodes H ms) (tally_by m u)) e (next-tally m)

      pub tallied-next : (next : TourWalk) (steps' : ℕ) → StandsBefore g.rules r next i.left → ((m : Measure) → (tally_by m u).total ≤ limit_by m) → steps' ≤ steps + 2 → Tallied names g.rules r next u first steps'
      tallied-next next steps' s b f = tallied next u first steps' i.left s next-tally b (omega (arith, i.few))

      pub row-is : i.left ≡ [] → (m : Measure) (j : ℕ) → weight_by m (get_or (row_of u) j no_weights) ≡ count (weigh names m) H r j
      row-is e m j = row-weighs (weigh names m) (preorder H r) m u (last-tally e m) j

      -- and so is the one at which it ends
      pub place-last : i.left ≡ [] → u.at < 9
      place-last e = omega (arith, (last-tally e Nodes).place, few-params)

      pub nodes-few : i.left ≡ [] → ((m : Measure) → (tally_by m u).total ≤ limit_by m) → sum_by node_weight (preorder H r) < 2 ^ 63
      nodes-few e b = omega (arith, (last-tally e Nodes).weight, b Nodes)
