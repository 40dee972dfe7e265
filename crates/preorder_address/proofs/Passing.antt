-- A walk along a tour up to a node, with what is passed.
use Rattle.std.proofs.Common.{◌≡◌, ℕ, zero, suc, ◌+◌, ◌*◌, ◌<◌, ◌≤◌, List, [], ◌∷◌, ◌++◌, length, drop, refl, ap, sym, ◌∙◌, arith, Some, append-nil, append_assoc, length-append, subst}
use Rattle.std.specs.Prelude.{slice_get}
use Rattle.rule_arena.specs.Terms.{Node}
use Rattle.rule_arena.specs.declared.key.Key.{Key}
use Rattle.rule_arena.specs.declared.label.Label.{Label}
use Rattle.rule_arena.specs.declared.label.Label.TheVariants.{Bottom, Symbol, Call, Param}
use Rattle.slt_grammar.specs.Bodies.{CallsBelow, params}
use Rattle.slt_grammar.specs.Keyed.{Keyed, KeyedRule, IsKeyed, key_at, nodes_at, rules_of}
use Rattle.slt_grammar.specs.Segments.{node_tour, part_of, preorder}
use Rattle.slt_grammar.specs.Tours.{Stop, stop}
use Rattle.slt_grammar.specs.TourWalks.{StandsBefore}
use Rattle.slt_grammar.specs.declared.rules.Rule.{Rule}
use Rattle.slt_grammar.specs.declared.tour_walk.TourWalk.{TourWalk}
use Rattle.slt_grammar.proofs.CallCounts.{below-more}
use Rattle.slt_grammar.proofs.KeyedLemmas.{length-rules_of, nodes-are-term, key_at-within}
use Rattle.slt_grammar.proofs.Meanings.{params-append}
use Rattle.slt_grammar.proofs.StopLemmas.{stop-is, calls-here}
use Rattle.slt_grammar.proofs.TourLemmas.{spread_nodes, preorder-nodes, params-preorder, params-segment}
use Rattle.slt_grammar.proofs.TourWalking.{current, node-key, key-node}
use Rattle.preorder_address.specs.Sites.{laden, stops_before, labels_before}
use Rattle.preorder_address.specs.Weighing.{params_at}
use Rattle.preorder_address.proofs.Lading.{laden-append}
use Rattle.preorder_address.proofs.Listings.{before_place, fronts, kids_from, placed-in-tour, tour-comes, spread-nodes-append}

pub params-part : (G : List Rule) (l : Label) (i : ℕ) → params (part_of G l i) ≡ params_at l
params-part G (Call q) i = params-segment i (preorder G q)
params-part G Param i = refl
params-part G Bottom zero = refl
params-part G Bottom (suc i) = refl
params-part G (Symbol f) zero = refl
params-part G (Symbol f) (suc i) = refl

pub params-small : (l : Label) → params_at l ≤ 1
params-small Bottom = omega arith
params-small (Symbol f) = omega arith
params-small (Call q) = omega arith
params-small Param = omega arith

-- a walk on its way to the node with a key
pub record Passing (G : List KeyedRule) (w : Label → ℕ) (args : List ℕ) (r : ℕ) (key : Key) (walk : TourWalk) (weight count first steps : ℕ) : Type 0 where
  pub node : Node
  pub key_is : node.key ≡ key
  pub passed : List (Stop Node)
  pub ahead : List (Stop Node)
  pub behind : List (Stop Node)
  pub split : node_tour G r ≡ passed ++ (ahead ++ stop node 0 ∷ behind)
  pub stands : StandsBefore G r walk (ahead ++ stop node 0 ∷ behind)
  pub weight_is : weight ≡ laden w args (spread_nodes (rules_of G) passed)
  pub count_is : count ≡ params (spread_nodes (rules_of G) passed)
  pub few : steps + 2 * length (ahead ++ stop node 0 ∷ behind) ≤ first + 2 * length (node_tour G r)

-- the walk stands at a stop, and its node is not come yet
pub record PassingBy (G : List KeyedRule) (w : Label → ℕ) (args : List ℕ) (r : ℕ) (key : Key) (walk : TourWalk) (weight count first steps : ℕ) : Type 0 where
  pub node : Node
  pub key_is : node.key ≡ key
  pub passed : List (Stop Node)
  pub here : Stop Node
  pub ahead : List (Stop Node)
  pub behind : List (Stop Node)
  pub split : node_tour G r ≡ passed ++ (here ∷ (ahead ++ stop node 0 ∷ behind))
  pub stands : StandsBefore G r walk (here ∷ (ahead ++ stop node 0 ∷ behind))
  pub weight_is : weight ≡ laden w args (spread_nodes (rules_of G) passed)
  pub count_is : count ≡ params (spread_nodes (rules_of G) passed)
  pub few : steps + 2 * length (ahead ++ stop node 0 ∷ behind) + 2 ≤ first + 2 * length (node_tour G r)

module _ (g : Keyed) (K : IsKeyed g) (w : Label → ℕ) (args : List ℕ) (r : ℕ) (key : Key) where
  abbrev H : List Rule
  H = rules_of g.rules

  pub passing-start : (walk : TourWalk) (steps : ℕ) → StandsBefore g.rules r walk (node_tour g.rules r) → (p : ℕ) → key_at g.rules r p ≡ Some key → Passing g.rules w args r key walk 0 0 steps steps
  passing-start walk steps s p e =
      let h = (key_at-within g.rules r p key e).0 in
      let x = key-node (nodes_at g.rules r) p key e in
      let t = tour-comes H (nodes_at g.rules r) (nodes-are-term g K r h) p x.0 x.1 in
      record {
        node = x.0;
        key_is = x.2;
        passed = [];
        ahead = stops_before ([] ∷ []) (nodes_at g.rules r) p;
        behind = t.0;
        split = t.1;
        stands = subst (λ (ms : List (Stop Node)). StandsBefore g.rules r walk ms) t.1 s;
        weight_is = refl;
        count_is = refl;
        few = omega (arith, ap length t.1);
      }

  module _ (walk : TourWalk) (weight count first steps : ℕ) (s : Passing g.rules w args r key walk weight count first steps) where
    -- the node where the walk stands
    pub passing-by : (walk.key ≡ key → walk.part ≡ 0 → ⊥) → PassingBy g.rules w args r key walk weight count first steps
    passing-by not_yet = by_ahead s.ahead s.split s.stands s.few
      where
        by_ahead : (ahead : List (Stop Node)) → node_tour g.rules r ≡ s.passed ++ (ahead ++ stop s.node 0 ∷ s.behind) → StandsBefore g.rules r walk (ahead ++ stop s.node 0 ∷ s.behind)
            → steps + 2 * length (ahead ++ stop s.node 0 ∷ s.behind) ≤ first + 2 * length (node_tour g.rules r) → PassingBy g.rules w args r key walk weight count first steps
        by_ahead [] e t f =
            let c = current g.rules r walk (stop s.node 0) s.behind t in
            let k : walk.key ≡ key = sym t.key ∙ ap (λ (m : Stop Node). m.item.key) (sym c) ∙ s.key_is in
            let z : walk.part ≡ 0 = ap (λ (m : Stop Node). m.part) (sym c) in
            absurd (not_yet k z)
        by_ahead (m ∷ ahead) e t f = record { node = s.node; key_is = s.key_is; passed = s.passed; here = m; ahead = ahead; behind = s.behind; split = e; stands = t; weight_is = s.weight_is; count_is = s.count_is; few = omega arith }

    rule-there : r < length g.rules
    rule-there = (key_at-within g.rules r s.stands.place s.stands.node.key (node-key (nodes_at g.rules r) s.stands.place s.stands.node s.stands.there)).0

    value-is : preorder H r ≡ spread_nodes H s.passed ++ spread_nodes H (s.ahead ++ stop s.node 0 ∷ s.behind)
    value-is = preorder-nodes g K r rule-there ∙ ap (spread_nodes H) s.split ∙ spread-nodes-append H s.passed (s.ahead ++ stop s.node 0 ∷ s.behind)

    rank-few : params (preorder H r) ≤ 8
    rank-few =
        let b : r < length H = omega (arith, rule-there, length-rules_of g.rules) in
        omega (arith, params-preorder H r K.grammar b, (K.grammar.each r b).shaped.small)

    pub count-few : count < 9
    count-few = omega (arith, s.count_is, rank-few, ap params value-is, params-append (spread_nodes H s.passed) (spread_nodes H (s.ahead ++ stop s.node 0 ∷ s.behind)))

    pub passing-steps : steps ≤ first + 2 * length (node_tour g.rules r)
    passing-steps = omega (arith, s.few)

    -- the walk has come to its node
    pub passed-to : walk.key ≡ key → walk.part ≡ 0 → (p : ℕ) → key_at g.rules r p ≡ Some key → spread_nodes H s.passed ≡ labels_before g.rules r p
    passed-to k z p e = by_list (s.ahead ++ stop s.node 0 ∷ s.behind) s.split s.stands
      where
        by_list : (ms : List (Stop Node)) → node_tour g.rules r ≡ s.passed ++ ms → StandsBefore g.rules r walk ms → spread_nodes H s.passed ≡ labels_before g.rules r p
        by_list [] f t = let l = t.are_left in absurd (cc)
        by_list (m ∷ ms) f t =
            let c = current g.rules r walk m ms t in
            let q = placed-in-tour H (nodes_at g.rules r) (nodes-are-term g K r rule-there) s.passed ms m f in
            let i : m.item.key ≡ key = ap (λ (m : Stop Node). m.item.key) c ∙ t.key ∙ k in
            let o = K.once key r q.0 r p (node-key (nodes_at g.rules r) q.0 m.item q.1 ∙ ap Some i) e in
            let n : m.part ≡ 0 = ap (λ (m : Stop Node). m.part) c ∙ z in
            q.2 ∙ ap (λ i. before_place H (nodes_at g.rules r) (nodes-are-term g K r rule-there) q.0 ++ fronts H m.item.label (kids_from H (nodes_at g.rules r) (nodes-are-term g K r rule-there) q.0) i) n
            ∙ append-nil (labels_before g.rules r q.0) ∙ ap (labels_before g.rules r) o.1

  module _ (walk : TourWalk) (weight count first steps : ℕ) (s : PassingBy g.rules w args r key walk weight count first steps) (x : Node) (item : (r p : ℕ) → key_at g.rules r p ≡ Some walk.key → slice_get (nodes_at g.rules r) p ≡ Some x) where
    there : r < length g.rules
    there = (key_at-within g.rules r s.stands.place s.stands.node.key (node-key (nodes_at g.rules r) s.stands.place s.stands.node s.stands.there)).0

    here-is : s.here ≡ stop x walk.part
    here-is = stop-is g K r there walk s.here (s.ahead ++ stop s.node 0 ∷ s.behind) s.stands x item

    pub by-calls : CallsBelow (length (rules_of g.rules)) (x.label ∷ [])
    by-calls = below-more r (length H) (x.label ∷ []) (omega (arith, there, length-rules_of g.rules)) (calls-here g K r there walk s.here (s.ahead ++ stop s.node 0 ∷ s.behind) s.stands x item)

    value-by : preorder H r ≡ spread_nodes H s.passed ++ (part_of H x.label walk.part ++ spread_nodes H (s.ahead ++ stop s.node 0 ∷ s.behind))
    value-by =
        preorder-nodes g K r there ∙ ap (spread_nodes H) s.split ∙ spread-nodes-append H s.passed (s.here ∷ (s.ahead ++ stop s.node 0 ∷ s.behind))
        ∙ ap (λ (m : Stop Node). spread_nodes H s.passed ++ (part_of H m.item.label m.part ++ spread_nodes H (s.ahead ++ stop s.node 0 ∷ s.behind))) here-is

    module _ (n : ℕ) (is_part : n ≡ laden w (drop count args) (part_of H x.label walk.part)) where
      part-here : n ≡ laden w (drop (params (spread_nodes H s.passed)) args) (part_of H x.label walk.part)
      part-here = is_part ∙ ap (λ k. laden w (drop k args) (part_of H x.label walk.part)) s.count_is

      pub by-within : weight + n ≤ laden w args (preorder H r)
      by-within =
          omega (
            arith,
            s.weight_is,
            part-here,
            ap (laden w args) value-by,
            laden-append w args (spread_nodes H s.passed) (part_of H x.label walk.part ++ spread_nodes H (s.ahead ++ stop s.node 0 ∷ s.behind)),
            laden-append w (drop (params (spread_nodes H s.passed)) args) (part_of H x.label walk.part) (spread_nodes H (s.ahead ++ stop s.node 0 ∷ s.behind)),
          )

      spread-more : spread_nodes H (s.passed ++ s.here ∷ []) ≡ spread_nodes H s.passed ++ part_of H x.label walk.part
      spread-more =
          spread-nodes-append H s.passed (s.here ∷ []) ∙ ap (λ (m : Stop Node). spread_nodes H s.passed ++ (part_of H m.item.label m.part ++ [])) here-is ∙ ap (λ ls. spread_nodes H s.passed ++ ls) (append-nil (part_of H x.label walk.part))

      pub passing-next : (next : TourWalk) (steps' : ℕ) → StandsBefore g.rules r next (s.ahead ++ stop s.node 0 ∷ s.behind) → steps' ≤ steps + 2 → Passing g.rules w args r key next (weight + n) (count + params_at x.label) first steps'
      passing-next next steps' t f = record {
        node = s.node;
        key_is = s.key_is;
        passed = s.passed ++ s.here ∷ [];
        ahead = s.ahead;
        behind = s.behind;
        split = s.split ∙ sym (append_assoc s.passed (s.here ∷ []) (s.ahead ++ stop s.node 0 ∷ s.behind));
        stands = t;
        weight_is = omega (arith, s.weight_is, part-here, ap (laden w args) spread-more, laden-append w args (spread_nodes H s.passed) (part_of H x.label walk.part));
        count_is = omega (arith, s.count_is, ap params spread-more, params-append (spread_nodes H s.passed) (part_of H x.label walk.part), params-part H x.label walk.part);
        few = omega (arith, s.few, f);
      }

    pub never-end : s.ahead ++ stop s.node 0 ∷ s.behind ≡ [] → ⊥
    never-end e = omega (arith, ap length e, length-append s.ahead (stop s.node 0 ∷ s.behind))
