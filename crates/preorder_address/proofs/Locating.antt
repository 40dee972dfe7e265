-- Where descents begin.
use Rattle.std.proofs.Common.{◌≡◌, ℕ, zero, suc, ◌-◌, ◌<◌, ◌≤◌, List, [], ◌∷◌, length, take, arith, sum_by, subst, ap}
use Rattle.std.proofs.lemmas.List.{length-map}
use Rattle.std.proofs.lemmas.List.Sums.{sum_by-cons}
use Rattle.rule_arena.specs.Terms.{Node}
use Rattle.slt_grammar.specs.Grammars.{whole}
use Rattle.slt_grammar.specs.Keyed.{Keyed, KeyedRule, IsKeyed, labels_of, nodes_at, rules_of}
use Rattle.slt_grammar.specs.Segments.{preorder}
use Rattle.slt_grammar.specs.declared.rules.Rule.{Rule}
use Rattle.slt_grammar.proofs.KeyedLemmas.{length-rules_of, key_at-within}
use Rattle.segment_counts.specs.Counting.{CountTable, told}
use Rattle.segment_counts.proofs.Numbers.{segment-within}
use Rattle.preorder_address.specs.Chains.{Arrives, LeadsTo, LeadsToNumber}
use Rattle.preorder_address.specs.Told.{level_nodes}
use Rattle.slt_grammar.specs.Bodies.{CallsBelow}
use Rattle.slt_grammar.specs.declared.level.Level.{Level}
use Rattle.rule_arena.specs.declared.label.Label.{Label}
use Rattle.slt_grammar.proofs.StopLemmas.{call-below}
use Rattle.slt_grammar.proofs.TourWalking.{node-key}
use Rattle.preorder_address.proofs.Descending.{nodes-within, nodes-below}
use Rattle.preorder_address.specs.Descents.{descent_to, levels_of, nodes_up_to}
use Rattle.preorder_address.specs.Numberings.{AreCountsOf, measure_of, weigh_by}
use Rattle.preorder_address.specs.declared.numbering.Numbering.{Numbering}
use Rattle.preorder_address.proofs.Arriving.{descents-arrive}
use Rattle.preorder_address.proofs.Weighing.{told-each}

pub nodes-few : (G : List KeyedRule) (r : ℕ) → nodes_up_to G r ≤ whole (rules_of G)
nodes-few [] r = omega arith
nodes-few (R ∷ G) zero =
    omega (
      arith,
      sum_by-cons (λ (S : KeyedRule). length S.nodes) R [],
      sum_by-cons (λ (S : Rule). length S.body) (record { rank = R.rank; body = labels_of R.nodes }) (rules_of G),
      length-map R.nodes (λ (n : Node). n.label),
    )
nodes-few (R ∷ G) (suc r) =
    omega (
      arith,
      nodes-few G r,
      sum_by-cons (λ (S : KeyedRule). length S.nodes) R (take (suc r) G),
      sum_by-cons (λ (S : Rule). length S.body) (record { rank = R.rank; body = labels_of R.nodes }) (rules_of G),
      length-map R.nodes (λ (n : Node). n.label),
    )

-- a number below the kept total is one of the last rule's value
pub leads : (by : Numbering) (C : CountTable) (r n : ℕ) → r ≡ C.rules - 1 → n < told (measure_of by) C.rows r 0 → (g : Keyed) → IsKeyed g → AreCountsOf (rules_of g.rules) C → LeadsToNumber by g.rules n (descent_to by r n)
leads by C r n last b g k a =
    let G = rules_of g.rules in
    let e : r ≡ length g.rules - 1 = omega (arith, last, a.1.rules, length-rules_of g.rules) in
    let h : r < length g.rules = omega (arith, last, a.1.rules, length-rules_of g.rules, k.grammar.some) in
    let small : n < sum_by (weigh_by by) (preorder G r) = omega (arith, b, told-each G C a by r 0 (omega (arith, h, length-rules_of g.rules)), segment-within (weigh_by by) (preorder G r) 0) in
    record {
      inside = (h, small);
      arrives = subst (λ (q : ℕ). Arrives (weigh_by by) g.rules q n (levels_of g.rules (descent_to by r n))) e (descents-arrive by g r n k h small);
      few = omega (arith, nodes-few g.rules r);
    }

module _ (g : Keyed) (K : IsKeyed g) where
  -- the rules of a chain's levels are different ones
  pub chain-nodes : (r : ℕ) (ls : List Level) (f : Label) → LeadsTo g.rules r ls f → level_nodes g.rules ls ≤ nodes_up_to g.rules r
  chain-nodes r [] f c = absurd c
  chain-nodes r (l ∷ []) f c = omega (arith, sum_by-cons (λ (l : Level). length (nodes_at g.rules l.rule)) l [], nodes-within g.rules l.rule, ap (nodes_up_to g.rules) c.0)
  chain-nodes r (l ∷ k ∷ ls) f c =
      let h = c.1 in
      let there = key_at-within g.rules l.rule h.place h.node.key (node-key (nodes_at g.rules l.rule) h.place h.node h.there) in
      let b = subst (λ (l : Label). CallsBelow _ (l ∷ [])) h.label (call-below g K l.rule h.place h.node there.0 h.there) in
      omega (
        arith,
        sum_by-cons (λ (l : Level). length (nodes_at g.rules l.rule)) l (k ∷ ls),
        chain-nodes k.rule (k ∷ ls) f c.2,
        nodes-below g.rules k.rule l.rule b.0,
        ap (nodes_up_to g.rules) c.0,
      )
