-- The stop at which a walk stands, what it stands for, and the next stop.
use Rattle.std.proofs.Common.{◌≡◌, ℕ, zero, suc, ◌-◌, ◌<◌, ◌≤◌, List, [], ◌∷◌, ◌++◌, length, drop, refl, ap, sym, ◌∙◌, arith, subst, Some, append_assoc, length-append}
use Rattle.std.specs.Prelude.{slice_get}
use Rattle.rule_arena.specs.Terms.{Node}
use Rattle.rule_arena.specs.declared.label.Label.{Label}
use Rattle.rule_arena.specs.declared.label.Label.TheVariants.{Bottom, Symbol, Call, Param}
use Rattle.slt_grammar.specs.Keyed.{Keyed, KeyedRule, IsKeyed, key_at, nodes_at, rules_of}
use Rattle.slt_grammar.specs.Segments.{node_tour, part_of, preorder, segment, spread}
use Rattle.slt_grammar.specs.Tours.{Stop, stop, once_closed}
use Rattle.slt_grammar.specs.TourWalks.{StandsBefore, behind_node, rest_of}
use Rattle.slt_grammar.specs.declared.tour_walk.TourWalk.{TourWalk}
use Rattle.slt_grammar.proofs.TourLemmas.{params-segment, segment-first}
use Rattle.slt_grammar.proofs.TourWalking.{node-is}
use Rattle.preorder_address.specs.declared.descent.RuleStop.{RuleStop}
use Rattle.value_cursor.specs.Stops.{IsAtStop, IsSilent, segment_left, stops_from, stops_of}
use Rattle.value_cursor.proofs.Once.{hits, is_stop-same, stops_from-split, stops_from-suffix, tour-once}

-- what stops stand for
abbrev pub labels_at : List KeyedRule → List (Stop Node) → List Label
labels_at G ms = spread (λ (m : Stop Node). part_of (rules_of G) m.item.label m.part) ms []

-- a walk stands at the stop to which its key and part lead
pub stands-from : (g : Keyed) → IsKeyed g → (r : ℕ) → r < length g.rules → (walk : TourWalk) (passed left : List (Stop Node)) → node_tour g.rules r ≡ passed ++ left → StandsBefore g.rules r walk left
    → stops_from walk.key walk.part (node_tour g.rules r) ≡ left
stands-from g k r h walk passed left e s =
    let rest = once_closed (s.node.kids - walk.part) (behind_node g.rules r s.place) ++ rest_of g.rules r (suc s.last) in
    let t : node_tour g.rules r ≡ passed ++ stop s.node walk.part ∷ rest = e ∙ ap (λ ms. passed ++ ms) s.are_left in
    let once = tour-once walk.key walk.part g k r h in
    ap (stops_from walk.key walk.part) t
    ∙ stops_from-split walk.key walk.part passed (stop s.node walk.part) rest (subst (λ (ms : List (Stop Node)). hits walk.key walk.part ms ≤ 1) t once) (is_stop-same s.node walk.key walk.part s.key)
    ∙ sym s.are_left

-- so the walk and its rule are a stop
pub at-stop : (g : Keyed) → IsKeyed g → (s : RuleStop) → s.rule < length g.rules → (passed left : List (Stop Node)) → node_tour g.rules s.rule ≡ passed ++ left → StandsBefore g.rules s.rule s.walk left
    → (stops_of g.rules s ≡ left) × IsAtStop g.rules s
at-stop g k s h passed left e t =
    let same = stands-from g k s.rule h s.walk passed left e t in
    (same, subst (λ (ms : List (Stop Node)). StandsBefore g.rules s.rule s.walk ms) (sym same) t)

-- the stops from a stop on
pub record Split (g : Keyed) (s : RuleStop) : Type 0 where
  pub passed : List (Stop Node)
  pub here : Stop Node
  pub rest : List (Stop Node)
  pub split : node_tour g.rules s.rule ≡ passed ++ here ∷ rest
  pub stops : stops_of g.rules s ≡ here ∷ rest
  pub stands : StandsBefore g.rules s.rule s.walk (here ∷ rest)

abbrev pub split-at : (g : Keyed) (s : RuleStop) → IsAtStop g.rules s → Split g s
split-at g s a =
    let p = stops_from-suffix s.walk.key s.walk.part (node_tour g.rules s.rule) in
    record {
      passed = p.0;
      here = stop a.node s.walk.part;
      rest = once_closed (a.node.kids - s.walk.part) (behind_node g.rules s.rule a.place) ++ rest_of g.rules s.rule (suc a.last);
      split = p.1 ∙ ap (λ ms. p.0 ++ ms) a.are_left;
      stops = a.are_left;
      stands = subst (λ (ms : List (Stop Node)). StandsBefore g.rules s.rule s.walk ms) a.are_left a;
    }

module _ (g : Keyed) (k : IsKeyed g) (s : RuleStop) (h : s.rule < length g.rules) (a : IsAtStop g.rules s) where
  abbrev pub at : Split g s
  at = split-at g s a

  pub rest-is : drop 1 (stops_of g.rules s) ≡ at.rest
  rest-is = ap (drop 1) at.stops

  -- the walk at the next stop
  pub stop-next : (walk : TourWalk) → StandsBefore g.rules s.rule walk at.rest
      → (stops_of g.rules (record { rule = s.rule; walk = walk }) ≡ drop 1 (stops_of g.rules s)) × IsAtStop g.rules (record { rule = s.rule; walk = walk })
  stop-next walk t =
      let n = at-stop g k (record { rule = s.rule; walk = walk }) h (at.passed ++ at.here ∷ []) at.rest (at.split ∙ sym (append_assoc at.passed (at.here ∷ []) at.rest)) t in
      (n.0 ∙ sym rest-is, n.1)

  pub stops-fewer : length (drop 1 (stops_of g.rules s)) < length (stops_of g.rules s)
  stops-fewer = omega (arith, ap length rest-is, ap length at.stops)

  pub stops-within : length (stops_of g.rules s) ≤ length (node_tour g.rules s.rule)
  stops-within = omega (arith, ap length at.split, ap length at.stops, length-append at.passed (at.here ∷ at.rest))

  module _ (x : Node) (item : (r p : ℕ) → key_at g.rules r p ≡ Some s.walk.key → slice_get (nodes_at g.rules r) p ≡ Some x) where
    is-node : a.node ≡ x
    is-node = node-is g.rules s.rule s.walk (stops_of g.rules s) a x item

    here-is : at.here ≡ stop x s.walk.part
    here-is = ap (λ (y : Node). stop y s.walk.part) is-node

    -- the labels from the stop on
    pub labels-from : labels_at g.rules (stops_of g.rules s) ≡ part_of (rules_of g.rules) x.label s.walk.part ++ labels_at g.rules (drop 1 (stops_of g.rules s))
    labels-from =
        ap (labels_at g.rules) at.stops
        ∙ ap (λ (m : Stop Node). part_of (rules_of g.rules) m.item.label m.part ++ labels_at g.rules at.rest) here-is
        ∙ ap (λ (ms : List (Stop Node)). part_of (rules_of g.rules) x.label s.walk.part ++ labels_at g.rules ms) (sym rest-is)

    left-by : (piece : List Label) → part_of (rules_of g.rules) x.label s.walk.part ≡ piece → segment_left g.rules (stops_of g.rules s) ≡ segment 0 (piece ++ labels_at g.rules (drop 1 (stops_of g.rules s)))
    left-by piece e = ap (segment 0) (labels-from ∙ ap (λ ls. ls ++ labels_at g.rules (drop 1 (stops_of g.rules s))) e)

    pub left-symbol : (f : ℕ) → x.label ≡ Symbol f → s.walk.part ≡ 0 → segment_left g.rules (stops_of g.rules s) ≡ Symbol f ∷ segment_left g.rules (drop 1 (stops_of g.rules s))
    left-symbol f e z = left-by (Symbol f ∷ []) (ap (λ (l : Label). part_of (rules_of g.rules) l s.walk.part) e ∙ ap (part_of (rules_of g.rules) (Symbol f)) z)

    pub left-bottom : x.label ≡ Bottom → s.walk.part ≡ 0 → segment_left g.rules (stops_of g.rules s) ≡ Bottom ∷ segment_left g.rules (drop 1 (stops_of g.rules s))
    left-bottom e z = left-by (Bottom ∷ []) (ap (λ (l : Label). part_of (rules_of g.rules) l s.walk.part) e ∙ ap (part_of (rules_of g.rules) Bottom) z)

    pub left-param : x.label ≡ Param → segment_left g.rules (stops_of g.rules s) ≡ []
    left-param e = left-by (Param ∷ []) (ap (λ (l : Label). part_of (rules_of g.rules) l s.walk.part) e)

    pub left-call : (q : ℕ) → x.label ≡ Call q
        → segment_left g.rules (stops_of g.rules s) ≡ segment s.walk.part (preorder (rules_of g.rules) q) ++ segment_left g.rules (drop 1 (stops_of g.rules s))
    left-call q e =
        left-by (segment s.walk.part (preorder (rules_of g.rules) q)) (ap (λ (l : Label). part_of (rules_of g.rules) l s.walk.part) e)
        ∙ segment-first (segment s.walk.part (preorder (rules_of g.rules) q)) (labels_at g.rules (drop 1 (stops_of g.rules s))) (params-segment s.walk.part (preorder (rules_of g.rules) q))

    left-none : part_of (rules_of g.rules) x.label s.walk.part ≡ [] → segment_left g.rules (stops_of g.rules s) ≡ segment_left g.rules (drop 1 (stops_of g.rules s))
    left-none e = left-by [] e

    -- a silent stop that is no call and no parameter stands for nothing
    pub left-silent : IsSilent x.label s.walk.part → ((q : ℕ) → x.label ≡ Call q → ⊥) → (x.label ≡ Param → ⊥) → segment_left g.rules (stops_of g.rules s) ≡ segment_left g.rules (drop 1 (stops_of g.rules s))
    left-silent h c p = left-none (nothing x.label s.walk.part h c p)
      where
        nothing : (l : Label) (i : ℕ) → IsSilent l i → ((q : ℕ) → l ≡ Call q → ⊥) → (l ≡ Param → ⊥) → part_of (rules_of g.rules) l i ≡ []
        nothing Bottom zero h c p = absurd h
        nothing Bottom (suc i) h c p = refl
        nothing (Symbol f) zero h c p = absurd h
        nothing (Symbol f) (suc i) h c p = refl
        nothing (Call q) i h c p = absurd (c q refl)
        nothing Param i h c p = absurd (p refl)
