-- The start's nodes around a place, and its nodes and the values of the other rules once it has others.
use Rattle.std.proofs.Common.{◌≡◌, ℕ, zero, suc, ◌+◌, ◌-◌, ◌<◌, List, [], ◌∷◌, ◌++◌, get_or, length, Some, refl, ap, ◌∙◌, arith}
use Rattle.rule_arena.specs.Terms.{Node, key_in}
use Rattle.rule_arena.specs.declared.key.Key.{Key}
use Rattle.rule_arena.specs.declared.label.Label.TheVariants.{Bottom}
use Rattle.slt_grammar.specs.Grammars.{value_at}
use Rattle.slt_grammar.specs.Keyed.{IsKeyed, Keyed, KeyedRule, labels_of, nodes_at, rules_of}
use Rattle.slt_grammar.specs.KeyedEdits.{with_nodes}
use Rattle.slt_grammar.proofs.KeyedEdits.{length-with_nodes, nodes-with_nodes}
use Rattle.slt_grammar.proofs.KeyedLemmas.{length-rules_of}
use Rattle.slt_grammar.proofs.OtherValues.{others-keep}

-- the node at a place, with those before it and behind it
pub record Around (ns : List Node) (place : ℕ) (key : Key) : Type 0 where
  pub front : List Node
  pub node : Node
  pub back : List Node
  pub whole : ns ≡ front ++ (node ∷ back)
  pub at : length front ≡ place
  pub named : node.key ≡ key

pub around-at : (ns : List Node) (place : ℕ) (key : Key) → key_in ns place ≡ Some key → Around ns place key
around-at [] place key e = absurd (let z : key_in [] place ≡ Some key = e in cc)
around-at (n ∷ ns) zero key e = record { front = []; node = n; back = ns; whole = refl; at = refl; named = (let z : Some n.key ≡ Some key = e in cc) }
around-at (n ∷ ns) (suc place) key e =
    let a = around-at ns place key e in
    record { front = n ∷ a.front; node = a.node; back = a.back; whole = ap (λ ms. n ∷ ms) a.whole; at = ap suc a.at; named = a.named }

-- the start's nodes, and the values of the other rules, once the start has others
module _ (g h : Keyed) (K : IsKeyed g) (r : ℕ) (ms : List Node) (start : r + 1 ≡ length g.rules) (is : h.rules ≡ with_nodes g.rules r ms) where
  pub start-is : r ≡ length g.rules - 1
  start-is = omega (arith, start)

  pub nodes-new : nodes_at h.rules (length h.rules - 1) ≡ ms
  nodes-new =
      let len : length h.rules - 1 ≡ r = omega (arith, start, ap length is, length-with_nodes g.rules r ms (omega (arith, start))) in
      ap (nodes_at h.rules) len ∙ ap (λ (Q : List KeyedRule). nodes_at Q r) is ∙ nodes-with_nodes g.rules r ms (omega (arith, start))

  pub values-below : (q : ℕ) → q < length g.rules - 1 → value_at (rules_of h.rules) q ≡ value_at (rules_of g.rules) q
  values-below q l =
      let o = others-keep g.rules h.rules r ms start is in
      o.values q (λ e. omega (arith, e, l, length-rules_of g.rules)) (omega (arith, l, length-rules_of g.rules))

-- the label of a node behind others
pub label-behind : (xs : List Node) (n : Node) (ys : List Node) → get_or (labels_of (xs ++ (n ∷ ys))) (length xs) Bottom ≡ n.label
label-behind [] n ys = refl
label-behind (x ∷ xs) n ys = label-behind xs n ys
