-- What stands before a node of a rule's body and what its kids have, where the rule's value stands somewhere.
use Rattle.std.proofs.Common.{◌≡◌, ℕ, ◌+◌, ◌≤◌, List, drop, take, ap, sym, ◌∙◌, refl, arith, Some}
use Rattle.std.specs.Prelude.{slice_get, sum}
use Rattle.std.proofs.lemmas.Option.{same_Some}
use Rattle.rule_arena.specs.Terms.{Node}
use Rattle.rule_arena.specs.declared.key.Key.{Key}
use Rattle.slt_grammar.specs.Bodies.{params}
use Rattle.slt_grammar.specs.Keyed.{Keyed, IsKeyed, key_at, nodes_at, rules_of}
use Rattle.slt_grammar.specs.Segments.{preorder}
use Rattle.slt_grammar.proofs.Spreads.{IsPlain}
use Rattle.slt_grammar.proofs.TourWalking.{node-key}
use Rattle.segment_counts.specs.Weights.{node_weight}
use Rattle.preorder_address.specs.Sites.{laden, labels_before, term_weights}
use Rattle.preorder_address.proofs.Siting.{kid-args, kids-within}

module _ (g : Keyed) (K : IsKeyed g) (r : ℕ) (args : List ℕ) (key : Key) (p : ℕ) (x : Node) (there : slice_get (nodes_at g.rules r) p ≡ Some x) (key_is : x.key ≡ key) (plain : IsPlain x.label) where
  pub frame-key : key_at g.rules r p ≡ Some key
  frame-key = node-key (nodes_at g.rules r) p x there ∙ ap Some key_is

  -- the nodes before the node, and those of its kids, are within the rule's value
  pub frame-kids : (count : ℕ) → count ≡ params (labels_before g.rules r p) → (s q : ℕ) (y : Node) → slice_get (nodes_at g.rules s) q ≡ Some y → y.key ≡ key
      → laden node_weight args (labels_before g.rules r p) + sum (take y.kids (term_weights node_weight (rules_of g.rules) (drop count args) (drop (q + 1) (nodes_at g.rules s)))) ≤ laden node_weight args (preorder (rules_of g.rules) r)
  frame-kids count e s q y t k =
      let z = K.once key r p s q frame-key (node-key (nodes_at g.rules s) q y t ∙ ap Some k) in
      let n : x ≡ y = same_Some x y (sym there ∙ ap (λ j. slice_get (nodes_at g.rules j) p) z.0 ∙ ap (slice_get (nodes_at g.rules s)) z.1 ∙ t) in
      omega (
        arith,
        kids-within g K node_weight refl r args p x there plain,
        ap sum (kid-args g K node_weight refl r args p x there),
        ap (λ c. sum (take x.kids (term_weights node_weight (rules_of g.rules) (drop c args) (drop (p + 1) (nodes_at g.rules r))))) e,
        ap (λ (y : Node). sum (take y.kids (term_weights node_weight (rules_of g.rules) (drop count args) (drop (p + 1) (nodes_at g.rules r))))) n,
        ap (λ j. sum (take y.kids (term_weights node_weight (rules_of g.rules) (drop count args) (drop (j + 1) (nodes_at g.rules r))))) z.1,
        ap (λ j. sum (take y.kids (term_weights node_weight (rules_of g.rules) (drop count args) (drop (q + 1) (nodes_at g.rules j))))) z.0,
      )

  pub frame-before : laden node_weight args (labels_before g.rules r p) ≤ laden node_weight args (preorder (rules_of g.rules) r)
  frame-before = omega (arith, kids-within g K node_weight refl r args p x there plain)
