-- What stands before a number along a tour, and in the segments of a called rule.
use Rattle.std.proofs.Common.{◌≡◌, ℕ, zero, suc, ◌+◌, ◌<◌, ◌≤◌, List, [], ◌∷◌, ◌++◌, length, get_or, drop, ap, ◌∙◌, arith, sum_by}
use Rattle.std.proofs.lemmas.List.{get_or-drop}
use Rattle.std.proofs.lemmas.List.Sums.{sum_by-cons, sum_by-append}
use Rattle.rule_arena.specs.Terms.{Node}
use Rattle.rule_arena.specs.declared.label.Label.{Label}
use Rattle.rule_arena.specs.declared.label.Label.TheVariants.{Bottom, Symbol, Call, Param}
use Rattle.slt_grammar.specs.Bodies.{params}
use Rattle.slt_grammar.specs.Keyed.{Keyed, IsKeyed, nodes_at, rules_of}
use Rattle.slt_grammar.specs.Segments.{node_tour, part_of, preorder, segment}
use Rattle.slt_grammar.specs.Tours.{Stop, stop}
use Rattle.slt_grammar.specs.declared.rules.Rule.{Rule}
use Rattle.slt_grammar.proofs.KeyedLemmas.{nodes-are-term}
use Rattle.slt_grammar.proofs.TourLemmas.{spread_nodes, preorder-nodes}
use Rattle.segment_counts.specs.Weights.{count_before, node_weight, segments_sum}
use Rattle.segment_counts.proofs.Numbers.{segments_sum-param, segments_sum-suc}
use Rattle.preorder_address.specs.Routes.{stop_weight}
use Rattle.preorder_address.specs.Sites.{weight_before}
use Rattle.preorder_address.proofs.Lading.{Alike, before-alike, before-append, before-front, sums-plain}
use Rattle.preorder_address.proofs.Listings.{before_place, fronts, kids_from, placed-in-tour, spread-nodes-append}
use Rattle.preorder_address.proofs.Sited.{laden-alone}
use Rattle.preorder_address.proofs.Weighing.{weight-nodes}

pub none-behind : (k : ℕ) → Alike (drop k []) []
none-behind k j = get_or-drop k [] j 0

-- what stands before a symbol is no more than all
pub before-within : (w : Label → ℕ) (ls : List Label) (n : ℕ) → weight_before w [] ls n ≤ sum_by w ls
before-within w [] n = omega arith
before-within w (Param ∷ ls) n = omega (arith, before-within w ls n, sum_by-cons w Param ls)
before-within w (Bottom ∷ ls) n = omega (arith, before-within w ls n, sum_by-cons w Bottom ls)
before-within w (Symbol f ∷ ls) zero = omega arith
before-within w (Symbol f ∷ ls) (suc n) = omega (arith, before-within w ls n, sum_by-cons w (Symbol f) ls)
before-within w (Call q ∷ ls) n = omega (arith, before-within w ls n, sum_by-cons w (Call q) ls)

-- what stands before a number of a segment
pub before-segment : (w : Label → ℕ) (ls : List Label) (i o n : ℕ) → n ≡ segments_sum node_weight ls 0 i + o → o < sum_by node_weight (segment i ls) → weight_before w [] ls n ≡ segments_sum w ls 0 i + weight_before w [] (segment i ls) o
before-segment w [] i o n e h = absurd (omega arith)
before-segment w (Param ∷ ls) zero o n e h = absurd (omega arith)
before-segment w (Param ∷ ls) (suc i) o n e h = omega (arith, before-segment w ls i o n (omega (arith, e, segments_sum-param node_weight ls 0 i)) h, segments_sum-param w ls 0 i)
before-segment w (Bottom ∷ ls) zero o n e h = omega (arith, before-segment w ls 0 o n (omega (arith, e)) (omega (arith, h, sum_by-cons node_weight Bottom (segment 0 ls))))
before-segment w (Bottom ∷ ls) (suc i) o n e h = omega (arith, before-segment w ls (suc i) o n (omega (arith, e, sums-plain node_weight Bottom tt ls i)) h, sums-plain w Bottom tt ls i)
before-segment w (Call q ∷ ls) zero o n e h = omega (arith, before-segment w ls 0 o n (omega (arith, e)) (omega (arith, h, sum_by-cons node_weight (Call q) (segment 0 ls))))
before-segment w (Call q ∷ ls) (suc i) o n e h = omega (arith, before-segment w ls (suc i) o n (omega (arith, e, sums-plain node_weight (Call q) tt ls i)) h, sums-plain w (Call q) tt ls i)
before-segment w (Symbol f ∷ ls) zero zero zero e h = omega arith
before-segment w (Symbol f ∷ ls) zero (suc o) zero e h = absurd (omega (arith, e))
before-segment w (Symbol f ∷ ls) zero zero (suc n) e h = absurd (omega (arith, e))
before-segment w (Symbol f ∷ ls) zero (suc o) (suc n) e h = omega (arith, before-segment w ls 0 o n (omega (arith, e)) (omega (arith, h, sum_by-cons node_weight (Symbol f) (segment 0 ls))))
before-segment w (Symbol f ∷ ls) (suc i) o zero e h = absurd (omega (arith, e, sums-plain node_weight (Symbol f) tt ls i))
before-segment w (Symbol f ∷ ls) (suc i) o (suc n) e h = omega (arith, before-segment w ls (suc i) o n (omega (arith, e, sums-plain node_weight (Symbol f) tt ls i)) h, sums-plain w (Symbol f) tt ls i)

-- a call's parts before one have the segments before it
fronts-weigh : (w : Label → ℕ) (G : List Rule) (q : ℕ) (cs : List (List Label)) (i : ℕ) → segments_sum w (preorder G q) 0 i ≤ sum_by w (fronts G (Call q) cs i)
fronts-weigh w G q cs zero = omega arith
fronts-weigh w G q cs (suc i) =
    let z : 0 + i ≡ i = omega arith in
    omega (
      arith,
      fronts-weigh w G q cs i,
      segments_sum-suc w (preorder G q) 0 i,
      ap (λ k. sum_by w (segment k (preorder G q))) z,
      sum_by-append w (fronts G (Call q) cs i) (segment i (preorder G q) ++ get_or cs i []),
      sum_by-append w (segment i (preorder G q)) (get_or cs i []),
    )

module _ (g : Keyed) (K : IsKeyed g) (w : Label → ℕ) (zero_param : w Param ≡ 0) (r : ℕ) (h : r < length g.rules) (passed rest : List (Stop Node)) (x : Node) (i : ℕ) (e : node_tour g.rules r ≡ passed ++ stop x i ∷ rest) where
  abbrev H : List Rule
  H = rules_of g.rules

  value-split : preorder H r ≡ spread_nodes H passed ++ (part_of H x.label i ++ spread_nodes H rest)
  value-split = preorder-nodes g K r h ∙ ap (spread_nodes H) e ∙ spread-nodes-append H passed (stop x i ∷ rest)

  -- what stands before a number that falls into the stop is what is passed, and what stands before it in the stop's part
  pub before-part : (n o : ℕ) → n ≡ sum_by (stop_weight node_weight g.rules) passed + o → o < sum_by node_weight (part_of (rules_of g.rules) x.label i)
      → weight_before w [] (preorder (rules_of g.rules) r) n ≡ sum_by (stop_weight w g.rules) passed + weight_before w [] (part_of (rules_of g.rules) x.label i) o
  before-part n o d b =
      omega (
        arith,
        ap (λ ls. weight_before w [] ls n) value-split,
        before-append w [] (spread_nodes H passed) (part_of H x.label i ++ spread_nodes H rest) n o (omega (arith, d, weight-nodes node_weight g.rules passed)),
        laden-alone w zero_param (spread_nodes H passed),
        weight-nodes w g.rules passed,
        before-alike w (drop (params (spread_nodes H passed)) []) [] (none-behind (params (spread_nodes H passed))) (part_of H x.label i ++ spread_nodes H rest) o,
        before-front w [] (part_of H x.label i) (spread_nodes H rest) o b,
      )

  -- the segments before a part of a call are passed
  pub segments-passed : (q : ℕ) → x.label ≡ Call q → count_before w (rules_of g.rules) q i ≤ sum_by (stop_weight w g.rules) passed
  segments-passed q is_call =
      let t = nodes-are-term g K r h in
      let p = placed-in-tour H (nodes_at g.rules r) t passed rest (stop x i) e in
      omega (
        arith,
        weight-nodes w g.rules passed,
        ap (sum_by w) p.2,
        sum_by-append w (before_place H (nodes_at g.rules r) t p.0) (fronts H x.label (kids_from H (nodes_at g.rules r) t p.0) i),
        ap (λ l. sum_by w (fronts H l (kids_from H (nodes_at g.rules r) t p.0) i)) is_call,
        fronts-weigh w H q (kids_from H (nodes_at g.rules r) t p.0) i,
      )
