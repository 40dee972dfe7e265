-- A search along stops.
use Rattle.std.proofs.Common.{◌≡◌, ℕ, zero, suc, ◌+◌, ◌-◌, ◌*◌, sum_by, ◌<◌, ◌≤◌, List, [], ◌∷◌, ◌++◌, length, refl, ap, ◌∙◌, arith, Some, None}
use Rattle.rule_arena.specs.Terms.{Node}
use Rattle.slt_grammar.specs.Keyed.{KeyedRule}
use Rattle.slt_grammar.specs.Segments.{node_tour}
use Rattle.slt_grammar.specs.TourWalks.{StandsBefore}
use Rattle.slt_grammar.specs.declared.tour_walk.TourWalk.{TourWalk}
use Rattle.slt_grammar.specs.Tours.{Stop}
use Rattle.std.proofs.lemmas.List.Sums.{sum_by-cons}
use Rattle.preorder_address.specs.Routes.{past, chosen, sought}

pub past-below : (n c : ℕ) → n < c → past n c ≡ None
past-below n zero h = absurd (omega arith)
past-below zero (suc c) h = refl
past-below (suc n) (suc c) h = past-below n c (omega arith)

pub past-reaches : (n c : ℕ) → c ≤ n → past n c ≡ Some (n - c)
past-reaches n zero h = let e : n ≡ n - 0 = omega arith in ap Some e
past-reaches zero (suc c) h = absurd (omega arith)
past-reaches (suc n) (suc c) h = let e : n - c ≡ suc n - suc c = omega arith in past-reaches n c (omega arith) ∙ ap Some e

pub sought-here : (W : Stop Node → ℕ) (m : Stop Node) (ms : List (Stop Node)) (n : ℕ) → n < W m → sought W (m ∷ ms) n ≡ Some (record { at = m; offset = n })
sought-here W m ms n h = ap (λ o. chosen o (record { at = m; offset = n }) (λ k. sought W ms k)) (past-below n (W m) h)

pub sought-later : (W : Stop Node → ℕ) (m : Stop Node) (ms : List (Stop Node)) (n : ℕ) → W m ≤ n → sought W (m ∷ ms) n ≡ sought W ms (n - W m)
sought-later W m ms n h = ap (λ o. chosen o (record { at = m; offset = n }) (λ k. sought W ms k)) (past-reaches n (W m) h)

-- the search along a rule's stops has come to this number at this stop
pub record Seeks (G : List KeyedRule) (W : Stop Node → ℕ) (r sought_number : ℕ) (walk : TourWalk) (number : ℕ) (first steps : ℕ) : Type 0 where
  pub ms : List (Stop Node)
  pub stands : StandsBefore G r walk ms
  pub same : sought W (node_tour G r) sought_number ≡ sought W ms number
  pub inside : number < sum_by W ms
  pub passed : List (Stop Node)
  pub split : node_tour G r ≡ passed ++ ms
  pub number_is : sought_number ≡ sum_by W passed + number
  pub few : steps + 2 * length ms ≤ first + 2 * length (node_tour G r)

pub seeks-start : (G : List KeyedRule) (W : Stop Node → ℕ) (r n : ℕ) (walk : TourWalk) (steps : ℕ) → StandsBefore G r walk (node_tour G r) → n < sum_by W (node_tour G r) → Seeks G W r n walk n steps steps
seeks-start G W r n walk steps s h = record { ms = node_tour G r; stands = s; same = refl; inside = h; passed = []; split = refl; number_is = omega arith; few = omega arith }

-- a search has a stop before it
pub record Ahead (G : List KeyedRule) (W : Stop Node → ℕ) (r sought_number : ℕ) (walk : TourWalk) (number first steps : ℕ) : Type 0 where
  pub here : Stop Node
  pub others : List (Stop Node)
  pub stands : StandsBefore G r walk (here ∷ others)
  pub same : sought W (node_tour G r) sought_number ≡ sought W (here ∷ others) number
  pub inside : number < W here + sum_by W others
  pub passed : List (Stop Node)
  pub split : node_tour G r ≡ passed ++ here ∷ others
  pub number_is : sought_number ≡ sum_by W passed + number
  pub few : steps + 2 * length others + 2 ≤ first + 2 * length (node_tour G r)

pub ahead : (G : List KeyedRule) (W : Stop Node → ℕ) (r sought_number : ℕ) (walk : TourWalk) (number first steps : ℕ) → Seeks G W r sought_number walk number first steps → Ahead G W r sought_number walk number first steps
ahead G W r sought_number walk number first steps s = by_stops s.ms s.stands s.same s.inside s.split s.few
  where
    by_stops : (ms : List (Stop Node)) → StandsBefore G r walk ms → sought W (node_tour G r) sought_number ≡ sought W ms number → number < sum_by W ms → node_tour G r ≡ s.passed ++ ms → steps + 2 * length ms ≤ first + 2 * length (node_tour G r) → Ahead G W r sought_number walk number first steps
    by_stops [] t e h d f = absurd (omega arith)
    by_stops (m ∷ ms) t e h d f = record { here = m; others = ms; stands = t; same = e; inside = omega (arith, sum_by-cons W m ms); passed = s.passed; split = d; number_is = s.number_is; few = omega arith }
