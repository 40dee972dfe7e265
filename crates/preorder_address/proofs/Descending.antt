-- One level of a descent.
use Rattle.std.proofs.Common.{◌≡◌, ℕ, zero, suc, ◌+◌, ◌*◌, ◌<◌, ◌≤◌, List, [], ◌∷◌, length, take, refl, ap, sym, ◌∙◌, arith, Some, sum_by}
use Rattle.std.proofs.lemmas.List.Sums.{sum_by-cons}
use Rattle.slt_grammar.specs.Bodies.{CallsBelow}
use Rattle.slt_grammar.specs.Grammars.{IsGrammar}
use Rattle.slt_grammar.specs.Keyed.{KeyedRule, rules_of, nodes_at}
use Rattle.slt_grammar.specs.Segments.{node_tour}
use Rattle.segment_counts.specs.Counting.{CountTable}
use Rattle.rule_arena.specs.NodeKey.{NodeKey as Key}
use Rattle.rule_arena.specs.declared.label.Label.{Label}
use Rattle.rule_arena.specs.declared.label.Label.TheVariants.{Bottom, Symbol, Call, Param}
use Rattle.slt_grammar.specs.Tours.{stop}
use Rattle.slt_grammar.specs.Segments.{preorder, part_of}
use Rattle.segment_counts.specs.Weights.{count_before}
use Rattle.preorder_address.specs.Numberings.{AreCountsOf, weigh_by}
use Rattle.preorder_address.specs.Routes.{sought, stop_weight, routed, route, route_to}
use Rattle.preorder_address.specs.Descents.{levels_at, IsWithin, nodes_up_to, steps_at, told_next, IsSmallNext}
use Rattle.preorder_address.specs.Stops.{wanted_below}
use Rattle.preorder_address.specs.declared.numbering.Numbering.{Numbering}
use Rattle.segment_counts.proofs.Numbers.{segment-within}
use Rattle.preorder_address.proofs.Weighing.{told-by, small-by}
use Rattle.preorder_address.proofs.Routing.{route-same}
use Rattle.slt_grammar.proofs.KeyedLemmas.{length-rules_of}

pub nodes-within : (G : List KeyedRule) (r : ℕ) → length (nodes_at G r) ≤ nodes_up_to G r
nodes-within [] r = omega arith
nodes-within (R ∷ G) zero = omega (arith, sum_by-cons (λ (S : KeyedRule). length S.nodes) R [])
nodes-within (R ∷ G) (suc r) = omega (arith, sum_by-cons (λ (S : KeyedRule). length S.nodes) R (take (suc r) G), nodes-within G r)

pub nodes-below : (G : List KeyedRule) (q r : ℕ) → q < r → nodes_up_to G q + length (nodes_at G r) ≤ nodes_up_to G r
nodes-below [] q r h = omega arith
nodes-below (R ∷ G) q zero h = absurd (omega arith)
nodes-below (R ∷ G) zero (suc r) h =
    omega (arith, sum_by-cons (λ (S : KeyedRule). length S.nodes) R [], sum_by-cons (λ (S : KeyedRule). length S.nodes) R (take (suc r) G), nodes-within G r)
nodes-below (R ∷ G) (suc q) (suc r) h =
    omega (arith, sum_by-cons (λ (S : KeyedRule). length S.nodes) R (take (suc q) G), sum_by-cons (λ (S : KeyedRule). length S.nodes) R (take (suc r) G), nodes-below G q r (omega arith))

module _ (G : List KeyedRule) (g : IsGrammar (rules_of G)) (C : CountTable) (a : AreCountsOf (rules_of G) C) (m : Numbering) (r : ℕ) (h : r < length G) where
  pub small-next : (l : Label) (i o : ℕ) → o < sum_by (weigh_by m) (part_of (rules_of G) l i) → CallsBelow r (l ∷ []) → IsSmallNext m C l i o
  small-next Bottom i o s c = tt
  small-next (Symbol f) i o s c = tt
  small-next (Call q) i o s c =
      let n = length-rules_of G in
      let b : q < length (rules_of G) = omega (arith, c.0) in
      let t = told-by (rules_of G) C a m q i b in
      let w = segment-within (weigh_by m) (preorder (rules_of G) q) i in
      omega (arith, t, w, small-by (rules_of G) C a m q b)
  small-next Param i o s c = tt

  pub inside-next : (l : Label) (i o : ℕ) → o < sum_by (weigh_by m) (part_of (rules_of G) l i) → CallsBelow r (l ∷ []) → IsWithin m G (told_next m C l i o)
  inside-next Bottom i o s c = tt
  inside-next (Symbol f) i o s c = tt
  inside-next (Call q) i o s c =
      let n = length-rules_of G in
      let b : q < length (rules_of G) = omega (arith, c.0) in
      let t = told-by (rules_of G) C a m q i b in
      let w = segment-within (weigh_by m) (preorder (rules_of G) q) i in
      (omega (arith, c.0), omega (arith, t, w))
  inside-next Param i o s c = tt

  pub wanted-next : (l : Label) (i o : ℕ) → CallsBelow r (l ∷ []) → told_next m C l i o ≡ wanted_below (weigh_by m) G l i o
  wanted-next Bottom i o c = refl
  wanted-next (Symbol f) i o c = refl
  wanted-next (Call q) i o c =
      let n = length-rules_of G in
      let t = told-by (rules_of G) C a m q i (omega (arith, c.0)) in
      ap (λ k. Some (record { rule = q; number = k + o })) t
  wanted-next Param i o c = refl

  pub steps-next : (l : Label) (i o : ℕ) → CallsBelow r (l ∷ []) → 4 * length (nodes_at G r) + steps_at G (told_next m C l i o) ≤ 4 * nodes_up_to G r
  steps-next Bottom i o c = omega (arith, nodes-within G r)
  steps-next (Symbol f) i o c = omega (arith, nodes-within G r)
  steps-next (Call q) i o c = omega (arith, nodes-below G q r c.0)
  steps-next Param i o c = omega (arith, nodes-within G r)

  pub levels-next : (n : ℕ) (key : Key) (n' : ℕ) (l : Label) (i o : ℕ) → CallsBelow r (l ∷ [])
      → sought (stop_weight (weigh_by m) G) (node_tour G r) n ≡ Some (record { at = stop (record { key = key; label = l; kids = n' }) i; offset = o })
      → route_to (weigh_by m) G r n ≡ record { rule = r; key = key } ∷ levels_at m G (told_next m C l i o)
  levels-next n key n' l i o c e = ap (λ x. routed r x (λ q j k. route (weigh_by m) G r q (count_before (weigh_by m) (rules_of G) q j + k))) e ∙ by_label l i o c
    where
      by_label : (l : Label) (i o : ℕ) → CallsBelow r (l ∷ [])
          → routed r (Some (record { at = stop (record { key = key; label = l; kids = n' }) i; offset = o })) (λ q j k. route (weigh_by m) G r q (count_before (weigh_by m) (rules_of G) q j + k)) ≡ record { rule = r; key = key } ∷ levels_at m G (told_next m C l i o)
      by_label Bottom i o c = refl
      by_label (Symbol f) i o c = refl
      by_label (Call q) i o c =
          let n = length-rules_of G in
          let b : q < length (rules_of G) = omega (arith, c.0) in
          let t = told-by (rules_of G) C a m q i b in
          ap (λ ls. record { rule = r; key = key } ∷ ls)
          (route-same (weigh_by m) G g r (suc q) q (count_before (weigh_by m) (rules_of G) q i + o) c.0 (omega arith) (omega (arith, c.0)) ∙ ap (λ x. route (weigh_by m) G (suc q) q (x + o)) (sym t))
      by_label Param i o c = refl
