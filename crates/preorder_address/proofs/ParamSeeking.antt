-- A walk along a tour up to a parameter.
use Rattle.std.proofs.Common.{◌≡◌, ℕ, ◌+◌, ◌*◌, ◌<◌, ◌≤◌, List, [], ◌∷◌, ◌++◌, length, refl, ap, sym, ◌∙◌, arith, Some, append-nil, append_assoc}
use Rattle.std.specs.Prelude.{slice_get}
use Rattle.rule_arena.specs.Terms.{Node}
use Rattle.rule_arena.specs.declared.label.Label.{Label}
use Rattle.rule_arena.specs.declared.label.Label.TheVariants.{Bottom, Symbol, Call, Param}
use Rattle.slt_grammar.specs.Algebras.{ranks_of}
use Rattle.slt_grammar.specs.Bodies.{arity, params}
use Rattle.slt_grammar.specs.Keyed.{Keyed, KeyedRule, IsKeyed, key_at, nodes_at, rules_of}
use Rattle.slt_grammar.specs.Segments.{node_tour, part_of, preorder}
use Rattle.slt_grammar.specs.Tours.{Stop, stop}
use Rattle.slt_grammar.specs.TourWalks.{StandsBefore}
use Rattle.slt_grammar.specs.declared.rules.Rule.{Rule}
use Rattle.slt_grammar.specs.declared.tour_walk.TourWalk.{TourWalk}
use Rattle.slt_grammar.proofs.KeyedLemmas.{nodes-are-term}
use Rattle.slt_grammar.proofs.Meanings.{params-append}
use Rattle.slt_grammar.proofs.StopLemmas.{stop-is}
use Rattle.slt_grammar.proofs.TourLemmas.{spread_nodes, preorder-nodes}
use Rattle.slt_grammar.proofs.TourWalking.{node-is, node-key}
use Rattle.segment_counts.specs.Weights.{node_weight}
use Rattle.preorder_address.specs.Parents.{until}
use Rattle.preorder_address.specs.Sites.{labels_before}
use Rattle.preorder_address.specs.Weighing.{params_at}
use Rattle.preorder_address.proofs.Listings.{before_place, fronts, kids_from, placed-in-tour, spread-nodes-append}
use Rattle.preorder_address.proofs.ParentLists.{until-here}
use Rattle.preorder_address.proofs.Passing.{params-part}
use Rattle.preorder_address.proofs.Siting.{is}

-- the walk stands at a stop, and the parameters before it are no more than are wanted
pub record SeeksParam (G : List KeyedRule) (r number : ℕ) (walk : TourWalk) (count first steps : ℕ) : Type 0 where
  pub passed : List (Stop Node)
  pub here : Stop Node
  pub left : List (Stop Node)
  pub split : node_tour G r ≡ passed ++ here ∷ left
  pub stands : StandsBefore G r walk (here ∷ left)
  pub count_is : count ≡ params (spread_nodes (rules_of G) passed)
  pub not_past : count ≤ number
  pub few : steps + 2 * length left + 2 ≤ first + 2 * length (node_tour G r)

pub seeks-param : (G : List KeyedRule) (r number : ℕ) (walk : TourWalk) (steps : ℕ) → StandsBefore G r walk (node_tour G r) → SeeksParam G r number walk 0 steps steps
seeks-param G r number walk steps s = by_tour (node_tour G r) refl s
  where
    by_tour : (ms : List (Stop Node)) → node_tour G r ≡ ms → StandsBefore G r walk ms → SeeksParam G r number walk 0 steps steps
    by_tour [] e s = let l = s.are_left in absurd (cc)
    by_tour (m ∷ ms) e s = record { passed = []; here = m; left = ms; split = e; stands = s; count_is = refl; not_past = omega arith; few = omega (arith, ap length e) }

module _ (g : Keyed) (K : IsKeyed g) (r number : ℕ) (h : r < length g.rules) (enough : number < params (preorder (rules_of g.rules) r)) (walk : TourWalk) (count first steps : ℕ) (s : SeeksParam g.rules r number walk count first steps)
    (x : Node) (item : (r p : ℕ) → key_at g.rules r p ≡ Some walk.key → slice_get (nodes_at g.rules r) p ≡ Some x) where
  abbrev H : List Rule
  H = rules_of g.rules

  here-is : s.here ≡ stop x walk.part
  here-is = stop-is g K r h walk s.here s.left s.stands x item

  value-is : preorder H r ≡ spread_nodes H s.passed ++ (part_of H x.label walk.part ++ spread_nodes H s.left)
  value-is =
      preorder-nodes g K r h ∙ ap (spread_nodes H) s.split ∙ spread-nodes-append H s.passed (s.here ∷ s.left) ∙ ap (λ (m : Stop Node). spread_nodes H s.passed ++ (part_of H m.item.label m.part ++ spread_nodes H s.left)) here-is

  pub seek-steps : steps + 2 ≤ first + 2 * length (node_tour g.rules r)
  seek-steps = omega (arith, s.few)

  -- the parameter has come
  pub param-found : x.label ≡ Param → count ≡ number → (p : ℕ) × (key_at g.rules r p ≡ Some walk.key) × (labels_before g.rules r p ≡ until (preorder H r) number)
  param-found l e =
      let q = placed-in-tour H (nodes_at g.rules r) (nodes-are-term g K r h) s.passed s.left s.here s.split in
      let i = is g K node_weight refl r [] q.0 s.here.item q.1 in
      let y : s.here.item ≡ x = ap (λ (m : Stop Node). m.item) here-is in
      let n : s.stands.node ≡ x = node-is g.rules r walk (s.here ∷ s.left) s.stands x item in
      let k : x.kids ≡ 0 = ap (λ (z : Node). z.kids) (sym y) ∙ i.kids ∙ ap (λ (z : Node). arity (ranks_of H) z.label) y ∙ ap (arity (ranks_of H)) l in
      let z : s.here.part ≡ 0 = omega (arith, ap (λ (m : Stop Node). m.part) here-is, s.stands.within, ap (λ (z : Node). z.kids) n, k) in
      let before : spread_nodes H s.passed ≡ labels_before g.rules r q.0 =
      q.2 ∙ ap (λ i. before_place H (nodes_at g.rules r) (nodes-are-term g K r h) q.0 ++ fronts H s.here.item.label (kids_from H (nodes_at g.rules r) (nodes-are-term g K r h) q.0) i) z ∙ append-nil (labels_before g.rules r q.0) in
      let value : preorder H r ≡ spread_nodes H s.passed ++ Param ∷ spread_nodes H s.left = value-is ∙ ap (λ f. spread_nodes H s.passed ++ (part_of H f walk.part ++ spread_nodes H s.left)) l in (
        q.0,
        node-key (nodes_at g.rules r) q.0 s.here.item q.1 ∙ ap (λ (z : Node). Some z.key) (y ∙ sym n) ∙ ap Some s.stands.key,
        sym before ∙ sym (ap (λ ls. until ls number) value ∙ until-here number (spread_nodes H s.passed) (spread_nodes H s.left) (omega (arith, s.count_is, e))),
      )

  -- the walk goes past a stop that isn't the parameter
  module _ (not_yet : x.label ≡ Param → count ≡ number → ⊥) where
    spread-more : spread_nodes H (s.passed ++ s.here ∷ []) ≡ spread_nodes H s.passed ++ part_of H x.label walk.part
    spread-more =
        spread-nodes-append H s.passed (s.here ∷ []) ∙ ap (λ (m : Stop Node). spread_nodes H s.passed ++ (part_of H m.item.label m.part ++ [])) here-is ∙ ap (λ ls. spread_nodes H s.passed ++ ls) (append-nil (part_of H x.label walk.part))

    pub count-more : count + params_at x.label ≤ number
    count-more = by_label x.label refl
      where
        by_label : (l : Label) → x.label ≡ l → count + params_at l ≤ number
        by_label Param e = let n = not_yet e in omega (arith, s.not_past, n)
        by_label Bottom e = omega (arith, s.not_past)
        by_label (Symbol f) e = omega (arith, s.not_past)
        by_label (Call q) e = omega (arith, s.not_past)

    pub params-left : s.left ≡ [] → ⊥
    params-left e =
        omega (
          arith,
          enough,
          count-more,
          s.count_is,
          ap params value-is,
          params-append (spread_nodes H s.passed) (part_of H x.label walk.part ++ spread_nodes H s.left),
          params-append (part_of H x.label walk.part) (spread_nodes H s.left),
          params-part H x.label walk.part,
          ap (λ ms. params (spread_nodes H ms)) e,
        )

    pub seek-next : (next : TourWalk) (steps' : ℕ) → StandsBefore g.rules r next s.left → steps' ≤ steps + 2 → SeeksParam g.rules r number next (count + params_at x.label) first steps'
    seek-next next steps' t f = by_left s.left refl t
      where
        by_left : (ms : List (Stop Node)) → s.left ≡ ms → StandsBefore g.rules r next ms → SeeksParam g.rules r number next (count + params_at x.label) first steps'
        by_left [] e t = absurd (params-left e)
        by_left (m ∷ ms) e t = record {
          passed = s.passed ++ s.here ∷ [];
          here = m;
          left = ms;
          split = s.split ∙ ap (λ ms. s.passed ++ s.here ∷ ms) e ∙ sym (append_assoc s.passed (s.here ∷ []) (m ∷ ms));
          stands = t;
          count_is = omega (arith, s.count_is, ap params spread-more, params-append (spread_nodes H s.passed) (part_of H x.label walk.part), params-part H x.label walk.part);
          not_past = count-more;
          few = omega (arith, s.few, f, ap length e);
        }
