-- A turn of the search along a rule's stops.
use Rattle.std.proofs.Common.{◌≡◌, ℕ, ◌+◌, ◌-◌, ◌<◌, ◌≤◌, List, [], ◌∷◌, ◌++◌, length, ap, sym, ◌∙◌, arith, sum_by, subst, append_assoc, Some}
use Rattle.std.proofs.lemmas.List.Sums.{sum_by-cons, sum_by-append}
use Rattle.std.specs.Prelude.{slice_get}
use Rattle.rule_arena.specs.Terms.{Node}
use Rattle.slt_grammar.specs.Bodies.{CallsBelow}
use Rattle.slt_grammar.specs.Keyed.{Keyed, KeyedRule, IsKeyed, nodes_at, key_at}
use Rattle.slt_grammar.specs.Segments.{node_tour}
use Rattle.slt_grammar.specs.Tours.{Stop, stop}
use Rattle.slt_grammar.specs.TourWalks.{StandsBefore}
use Rattle.slt_grammar.specs.declared.tour_walk.TourWalk.{TourWalk}
use Rattle.preorder_address.specs.Routes.{sought}
use Rattle.preorder_address.specs.Stops.{FallsBy}
use Rattle.preorder_address.proofs.Seeking.{Seeks, Ahead, ahead, sought-here, sought-later}
use Rattle.slt_grammar.proofs.StopLemmas.{stop-is, calls-here}

module _ (g : Keyed) (k : IsKeyed g) (W : Stop Node → ℕ) (r : ℕ) (h : r < length g.rules) (wanted : ℕ) (walk : TourWalk) (number first steps : ℕ) (s : Seeks g.rules W r wanted walk number first steps)
    (x : Node) (item : (r p : ℕ) → key_at g.rules r p ≡ Some walk.key → slice_get (nodes_at g.rules r) p ≡ Some x) (n : ℕ) (is_weight : n ≡ W (stop x walk.part)) where
  pub there : Ahead g.rules W r wanted walk number first steps
  there = ahead g.rules W r wanted walk number first steps s

  here-is : there.here ≡ stop x walk.part
  here-is = stop-is g k r h walk there.here there.others there.stands x item

  pub found-calls : CallsBelow r (x.label ∷ [])
  found-calls = calls-here g k r h walk there.here there.others there.stands x item

  weight-here : n ≡ W there.here
  weight-here = is_weight ∙ ap W (sym here-is)

  pub falls-here : number < n → FallsBy W g.rules r wanted walk (stop x walk.part) number
  falls-here b = record {
    passed = there.passed;
    rest = there.others;
    split = there.split ∙ ap (λ (m : Stop Node). there.passed ++ m ∷ there.others) here-is;
    stands = subst (λ (m : Stop Node). StandsBefore g.rules r walk (m ∷ there.others)) here-is there.stands;
    number = there.number_is;
    inside = omega (arith, b, is_weight);
  }

  pub never-last : n ≤ number → there.others ≡ [] → ⊥
  never-last b e = omega (arith, b, weight-here, there.inside, ap (sum_by W) e)

  pub seeks-more : n ≤ number → (next : TourWalk) (steps' : ℕ) → StandsBefore g.rules r next there.others → steps' ≤ steps + 2 → Seeks g.rules W r wanted next (number - n) first steps'
  seeks-more b next steps' t f = record {
    ms = there.others;
    stands = t;
    same = there.same ∙ sought-later W there.here there.others number (omega (arith, b, weight-here)) ∙ ap (λ j. sought W there.others (number - j)) (sym weight-here);
    inside = omega (arith, b, weight-here, there.inside);
    passed = there.passed ++ there.here ∷ [];
    split = there.split ∙ sym (append_assoc there.passed (there.here ∷ []) there.others);
    number_is = omega (arith, b, weight-here, there.number_is, sum_by-append W there.passed (there.here ∷ []), sum_by-cons W there.here []);
    few = omega (arith, there.few, f);
  }

-- where a number falls it is found
pub sought-falls : (W : Stop Node → ℕ) (G : List KeyedRule) (r n : ℕ) (walk : TourWalk) (here : Stop Node) (offset : ℕ) → FallsBy W G r n walk here offset → sought W (node_tour G r) n ≡ Some (record { at = here; offset = offset })
sought-falls W G r n walk here offset f = ap (λ ms. sought W ms n) f.split ∙ by_passed f.passed n f.number
  where
    by_passed : (ms : List (Stop Node)) (k : ℕ) → k ≡ sum_by W ms + offset → sought W (ms ++ here ∷ f.rest) k ≡ Some (record { at = here; offset = offset })
    by_passed [] k e = let z : k ≡ offset = omega arith in ap (sought W (here ∷ f.rest)) z ∙ sought-here W here f.rest offset f.inside
    by_passed (m ∷ ms) k e = sought-later W m (ms ++ here ∷ f.rest) k (omega (arith, e, sum_by-cons W m ms)) ∙ by_passed ms (k - W m) (omega (arith, e, sum_by-cons W m ms))
