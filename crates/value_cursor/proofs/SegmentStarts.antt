-- The walk to the first stop of a segment.
use Rattle.std.proofs.Common.{◌≡◌, ℕ, zero, suc, ◌-◌, ◌<◌, ◌≤◌, List, [], ◌∷◌, ◌++◌, length, drop, refl, ap, sym, ◌∙◌, arith, subst, Some, Bool, true, false, append_assoc, length-append}
use Rattle.std.proofs.lemmas.Option.{get_or_from_slice_get, slice_get_within}
use Rattle.rule_arena.specs.Terms.{Node}
use Rattle.rule_arena.specs.declared.label.Label.{Label}
use Rattle.rule_arena.specs.declared.label.Label.TheVariants.{Bottom, Symbol, Call, Param}
use Rattle.slt_grammar.specs.Algebras.{ranks_of}
use Rattle.slt_grammar.specs.Bodies.{arity}
use Rattle.slt_grammar.specs.Keyed.{Keyed, KeyedRule, IsKeyed, key_at, nodes_at, rules_of}
use Rattle.slt_grammar.specs.Segments.{node_tour, part_of, preorder, segment}
use Rattle.slt_grammar.specs.Tours.{Stop}
use Rattle.slt_grammar.specs.TourWalks.{AreBehindChildren, IsBehindChild, StandsBefore, StandsBehindSkipped, StandsNext}
use Rattle.slt_grammar.specs.declared.rules.Rule.{Rule}
use Rattle.slt_grammar.specs.declared.tour_walk.TourWalk.{TourWalk}
use Rattle.slt_grammar.proofs.TourLemmas.{params-segment, preorder-nodes, segment-others, spread_nodes}
use Rattle.slt_grammar.proofs.TourWalking.{node-here}
use Rattle.preorder_address.specs.declared.descent.RuleStop.{RuleStop}
use Rattle.value_cursor.specs.Stops.{AreStops, IsAtStop, IsLabelOf, later_params, stops_of}
use Rattle.value_cursor.proofs.Leaving.{last-node, node-label, node-once}
use Rattle.value_cursor.proofs.StopSteps.{Split, at, at-stop, labels-from, labels_at, rest-is}

labels_at-nodes : (G : List KeyedRule) (ms : List (Stop Node)) → spread_nodes (rules_of G) ms ≡ labels_at G ms
labels_at-nodes G [] = refl
labels_at-nodes G (m ∷ ms) = ap (λ ls. part_of (rules_of G) m.item.label m.part ++ ls) (labels_at-nodes G ms)

-- what the tour of a rule stands for is its value
pub preorder-labels : (g : Keyed) → IsKeyed g → (r : ℕ) → r < length g.rules → preorder (rules_of g.rules) r ≡ labels_at g.rules (node_tour g.rules r)
preorder-labels g k r h = preorder-nodes g k r h ∙ labels_at-nodes g.rules (node_tour g.rules r)

-- a stop behind a child stands for no parameter
later-piece : (G : List Rule) (ranks : List ℕ) (l : Label) (i n : ℕ) (ls : List Label) → 0 < i → i ≤ arity ranks l → segment (suc n) (part_of G l i ++ ls) ≡ segment (suc n) ls
later-piece G ranks l zero n ls h b = absurd (omega (arith, h))
later-piece G ranks Bottom (suc i) n ls h b = refl
later-piece G ranks (Symbol f) (suc i) n ls h b = refl
later-piece G ranks (Call q) (suc i) n ls h b = segment-others n (segment (suc i) (preorder G q)) ls (params-segment (suc i) (preorder G q))
later-piece G ranks Param (suc i) n ls h b = absurd (omega (arith, b))

module _ (g : Keyed) (k : IsKeyed g) (r : ℕ) (h : r < length g.rules) where
  behind-piece : (m : Stop Node) → IsBehindChild g.rules r m → (n : ℕ) (ls : List Label) → segment (suc n) (part_of (rules_of g.rules) m.item.label m.part ++ ls) ≡ segment (suc n) ls
  behind-piece m b n ls =
      let ranks = ranks_of (rules_of g.rules) in
      let nodes = nodes_at g.rules r in
      let a : m.item.kids ≡ arity ranks m.item.label =
      subst (λ (y : Node). y.kids ≡ arity ranks y.label) (get_or_from_slice_get nodes b.place m.item m.item b.there) (k.arities r b.place m.item (slice_get_within nodes b.place m.item b.there)) in
      later-piece (rules_of g.rules) ranks m.item.label m.part n ls b.later (omega (arith, b.within, a))

  pub skipped-segment : (n : ℕ) (skipped rest : List (Stop Node)) → AreBehindChildren g.rules r skipped → segment (suc n) (labels_at g.rules (skipped ++ rest)) ≡ segment (suc n) (labels_at g.rules rest)
  skipped-segment n [] rest b = refl
  skipped-segment n (m ∷ ms) rest b = behind-piece m b.0 n (labels_at g.rules (ms ++ rest)) ∙ skipped-segment n ms rest b.1

-- the walk went past some of these stops, which stand for no parameter where there are any
record Goes (found : Bool) (G : List KeyedRule) (r : ℕ) (walk : TourWalk) (later : ℕ) (left : List (Stop Node)) : Type 0 where
  pub skipped : List (Stop Node)
  pub rest : List (Stop Node)
  pub split : left ≡ skipped ++ rest
  pub same : segment later (labels_at G left) ≡ segment later (labels_at G rest)
  pub stands : StandsNext found G r walk rest

-- so many parameters are still before the segment
pub record Enters (G : List KeyedRule) (r part : ℕ) (walk : TourWalk) (params : ℕ) : Type 0 where
  pub stands : StandsBefore G r walk (stops_of G (record { rule = r; walk = walk }))
  pub left : segment part (preorder (rules_of G) r) ≡ segment params (labels_at G (stops_of G (record { rule = r; walk = walk })))

pub enters-start : (g : Keyed) → IsKeyed g → (r part : ℕ) → r < length g.rules → (walk : TourWalk) → StandsBefore g.rules r walk (node_tour g.rules r) → Enters g.rules r part walk part
enters-start g k r part h walk t =
    let n = at-stop g k (record { rule = r; walk = walk }) h [] (node_tour g.rules r) refl t in
    record { stands = n.1; left = ap (segment part) (preorder-labels g k r h ∙ ap (labels_at g.rules) (sym n.0)) }

module _ (g : Keyed) (k : IsKeyed g) (r part : ℕ) (h : r < length g.rules) (walk : TourWalk) (params : ℕ) (i : Enters g.rules r part walk params) where
  abbrev here : RuleStop
  here = record { rule = r; walk = walk }

  pub enters-key : (r : ℕ) × (p : ℕ) × (key_at g.rules r p ≡ Some walk.key)
  enters-key = (r, i.stands.place, node-here g.rules r walk (stops_of g.rules here) i.stands)

  pub enters-stands : (r : ℕ) × (left : List (Stop Node)) × StandsBefore g.rules r walk left
  enters-stands = (r, stops_of g.rules here, i.stands)

  one : AreStops g.rules (length g.rules) ([] ++ here ∷ [])
  one = (h, i.stands, tt)

  module _ (l : Label) (node : IsLabelOf g.rules here l) where
    abbrev x : Node
    x = last-node g k [] here one

    label : x.label ≡ l
    label = node-label g k [] here one l node

    -- the labels behind a stop, which may be a parameter
    past : 0 < params → segment params (labels_at g.rules (stops_of g.rules here)) ≡ segment (later_params l params) (labels_at g.rules (drop 1 (stops_of g.rules here)))
    past p =
        ap (segment params) (labels-from g k here h i.stands x (node-once g k [] here one)) ∙ by_label x.label walk.part params p
        ∙ ap (λ (m : Label). segment (later_params m params) (labels_at g.rules (drop 1 (stops_of g.rules here)))) label
      where
        by_label : (l : Label) (j n : ℕ) → 0 < n
            → segment n (part_of (rules_of g.rules) l j ++ labels_at g.rules (drop 1 (stops_of g.rules here))) ≡ segment (later_params l n) (labels_at g.rules (drop 1 (stops_of g.rules here)))
        by_label l j zero p = absurd (omega arith)
        by_label Bottom zero (suc n) p = refl
        by_label Bottom (suc j) (suc n) p = refl
        by_label (Symbol f) zero (suc n) p = refl
        by_label (Symbol f) (suc j) (suc n) p = refl
        by_label (Call q) j (suc n) p = segment-others n (segment j (preorder (rules_of g.rules) q)) (labels_at g.rules (drop 1 (stops_of g.rules here))) (params-segment j (preorder (rules_of g.rules) q))
        by_label Param j (suc n) p = let e : n ≡ suc n - 1 = omega arith in ap (λ m. segment m (labels_at g.rules (drop 1 (stops_of g.rules here)))) e

    module _ (positive : 0 < params) (later : ℕ) (s : later ≡ later_params l params) (walk' : TourWalk) where
      behind-here : segment params (labels_at g.rules (stops_of g.rules here)) ≡ segment later (labels_at g.rules (drop 1 (stops_of g.rules here)))
      behind-here = past positive ∙ sym (ap (λ n. segment n (labels_at g.rules (drop 1 (stops_of g.rules here)))) s)

      abbrev split : Split g here
      split = at g k here h i.stands

      module _ (found : Bool)
          (next : later ≡ 0 → (r : ℕ) (here : Stop Node) (left : List (Stop Node)) → StandsBefore g.rules r walk (here ∷ left) → StandsNext found g.rules r walk' left)
          (skip : 0 < later → (r : ℕ) (here : Stop Node) (left : List (Stop Node)) → StandsBefore g.rules r walk (here ∷ left) → StandsBehindSkipped found g.rules r walk' left) where
        goes : Goes found g.rules r walk' later split.rest
        goes = by_later later (λ e. next e r split.here split.rest split.stands) (λ p. skip p r split.here split.rest split.stands)
          where
            by_later : (n : ℕ) → (n ≡ 0 → StandsNext found g.rules r walk' split.rest) → (0 < n → StandsBehindSkipped found g.rules r walk' split.rest) → Goes found g.rules r walk' n split.rest
            by_later zero a b = record { skipped = []; rest = split.rest; split = refl; same = refl; stands = a refl }
            by_later (suc n) a b =
                let w = b (omega arith) in
                record {
                  skipped = w.skipped;
                  rest = w.rest;
                  split = w.split;
                  same = ap (λ ms. segment (suc n) (labels_at g.rules ms)) w.split ∙ skipped-segment g k r h n w.skipped w.rest w.are_behind;
                  stands = w.stands;
                }

        goes-left : segment params (labels_at g.rules (stops_of g.rules here)) ≡ segment later (labels_at g.rules goes.rest)
        goes-left = behind-here ∙ ap (λ ms. segment later (labels_at g.rules ms)) (rest-is g k here h i.stands) ∙ goes.same

        goes-split : node_tour g.rules r ≡ (split.passed ++ split.here ∷ goes.skipped) ++ goes.rest
        goes-split = split.split ∙ ap (λ ms. split.passed ++ split.here ∷ ms) goes.split ∙ sym (append_assoc split.passed (split.here ∷ goes.skipped) goes.rest)

      abbrev there : RuleStop
      there = record { rule = r; walk = walk' }

      module _ (next : later ≡ 0 → (r : ℕ) (here : Stop Node) (left : List (Stop Node)) → StandsBefore g.rules r walk (here ∷ left) → StandsNext true g.rules r walk' left)
          (skip : 0 < later → (r : ℕ) (here : Stop Node) (left : List (Stop Node)) → StandsBefore g.rules r walk (here ∷ left) → StandsBehindSkipped true g.rules r walk' left) where
        now-at : (stops_of g.rules there ≡ (goes true next skip).rest) × IsAtStop g.rules there
        now-at = at-stop g k there h (split.passed ++ split.here ∷ (goes true next skip).skipped) (goes true next skip).rest (goes-split true next skip) (goes true next skip).stands

        pub enters-more : Enters g.rules r part walk' later
        enters-more = record { stands = now-at.1; left = i.left ∙ goes-left true next skip ∙ ap (λ ms. segment later (labels_at g.rules ms)) (sym now-at.0) }

        pub enters-fewer : length (stops_of g.rules there) < length (stops_of g.rules here)
        enters-fewer =
            omega (arith, ap length now-at.0, ap length (goes true next skip).split, length-append (goes true next skip).skipped (goes true next skip).rest, ap length split.stops)

      pub enters-none : (later ≡ 0 → (r : ℕ) (here : Stop Node) (left : List (Stop Node)) → StandsBefore g.rules r walk (here ∷ left) → StandsNext false g.rules r walk' left)
          → (0 < later → (r : ℕ) (here : Stop Node) (left : List (Stop Node)) → StandsBefore g.rules r walk (here ∷ left) → StandsBehindSkipped false g.rules r walk' left)
          → segment part (preorder (rules_of g.rules) r) ≡ []
      enters-none next skip = i.left ∙ goes-left false next skip ∙ ap (λ ms. segment later (labels_at g.rules ms)) (goes false next skip).stands ∙ nothing later
        where
          nothing : (j : ℕ) → segment j [] ≡ []
          nothing zero = refl
          nothing (suc j) = refl
