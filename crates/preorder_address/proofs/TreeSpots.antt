-- A spot of a node of a tree's code.
use Rattle.std.proofs.Common.{◌≡◌, ℕ, ◌+◌, ◌-◌, List, [], ◌∷◌, length, ap, sym, ◌∙◌, arith, None, Some, sum_by, append-nil, refl}
use Rattle.std.specs.Prelude.{slice_get, option_map}
use Rattle.plain_tree.specs.declared.kind.Kind.{Kind}
use Rattle.plain_tree.specs.Tree.{Tree, none, more, node_count, node_count_all}
use Rattle.rule_arena.specs.declared.label.Label.{Label}
use Rattle.rule_arena.specs.declared.label.Label.TheVariants.{Symbol, Param}
use Rattle.slt_grammar.specs.Coding.{Codes}
use Rattle.slt_grammar.specs.Grammars.{value}
use Rattle.slt_grammar.specs.Keyed.{KeyedRule, rules_of}
use Rattle.slt_grammar.specs.Segments.{listed, preorder}
use Rattle.slt_grammar.specs.declared.level.Level.{Level}
use Rattle.segment_counts.specs.Weights.{all_weight, node_weight, text_weight}
use Rattle.segment_counts.specs.declared.counts.Measure.TheVariants.{Nodes, Texts, All}
use Rattle.segment_counts.specs.declared.counts.Weights.{Weights}
use Rattle.preorder_address.specs.Chains.{IsAt}
use Rattle.preorder_address.specs.Sites.{weight_before, weight_below}
use Rattle.preorder_address.specs.Spots.{StandsAfter, place_at}
use Rattle.preorder_address.specs.TreeNumbers.{extent_at, kind_at, placed, text_rank_at}
use Rattle.preorder_address.proofs.Lading.{before-append}
use Rattle.preorder_address.proofs.Naming.{NumberedNode, kind-told, never-unnamed, numbered}
use Rattle.preorder_address.proofs.Sited.{laden-alone}
use Rattle.preorder_address.proofs.TreeSites.{rank-told, told-before, told-below}
use Rattle.segment_counts.proofs.Coded.{nodes-coded}

module _ (names : List (Kind × List ℕ)) (G : List KeyedRule) (t : Tree) (c : Codes names (more t none) (value (rules_of G))) (n : ℕ) (levels : List Level) (symbol : ℕ) (before : Weights) (s : StandsAfter names G n levels symbol before) where
  is-at : IsAt node_weight (preorder (rules_of G) (length G - 1)) n (Symbol symbol)
  is-at = record { before = s.earlier; after = s.later; split = s.split; number = s.number }

  pub spot-node : NumberedNode names G t c n (Symbol symbol)
  spot-node = numbered names G t c n (Symbol symbol) (omega arith) is-at

  same-before : (w : Label → ℕ) → w Param ≡ 0 → sum_by w spot-node.before ≡ sum_by w s.earlier
  same-before w z =
      omega (
        arith,
        told-before names G t c n (Symbol symbol) spot-node w z,
        ap (λ ls. weight_before w [] ls n) s.split,
        before-append w [] s.earlier (Symbol symbol ∷ s.later) n 0 (omega (arith, s.number)),
        laden-alone w z s.earlier,
      )

  pub spot-rank : Some before.texts ≡ text_rank_at t n
  spot-rank = ap Some (sym (s.weights Texts) ∙ sym (same-before (text_weight names) refl)) ∙ rank-told names G t c n (Symbol symbol) spot-node

  pub spot-place : Some before.all ≡ place_at t n
  spot-place =
      let z : sum_by all_weight spot-node.before ≡ 0 + sum_by all_weight spot-node.before = omega arith in
      let p = ap (slice_get (placed 0 (more t none))) (sym spot-node.number) ∙ ap (λ (ps : List (ℕ × Tree)). slice_get ps (sum_by node_weight spot-node.before)) (sym (append-nil (placed 0 (more t none)))) ∙ spot-node.place.place 0 [] in
      ap Some (sym (s.weights All) ∙ sym (same-before all_weight refl) ∙ z) ∙ sym (ap (option_map (λ (e : ℕ × Tree). e.0)) p)

  pub spot-kind : (kind : Kind) (name : List ℕ) → Some (kind, name) ≡ slice_get names symbol → Some kind ≡ kind_at t n
  spot-kind = kind-told names G t c n (Symbol symbol) spot-node symbol refl

  pub spot-named : None ≡ slice_get names symbol → ⊥
  spot-named = never-unnamed names G t c n (Symbol symbol) spot-node symbol refl

  pub spot-extent : (below : ℕ) → below ≡ weight_below node_weight [] (preorder (rules_of G) (length G - 1)) n → Some below ≡ extent_at t n
  spot-extent below e =
      let x = spot-node in
      let k : sum_by node_weight (listed x.place.below []) ≡ node_count_all x.place.kids = omega (arith, nodes-coded names x.place.kids x.place.below x.place.codes_kids []) in
      let v : below ≡ node_count_all x.place.kids + 1 - 1 = omega (arith, e, told-below names G t c n (Symbol symbol) x node_weight refl, k) in
      ap Some v ∙ sym (ap (option_map (λ s. node_count s - 1)) x.node_is)

-- a spot is one of one node
pub spot-number : (names : List (Kind × List ℕ)) (G : List KeyedRule) (n : ℕ) (levels : List Level) (symbol : ℕ) (before : Weights) → StandsAfter names G n levels symbol before → n ≡ before.nodes
spot-number names G n levels symbol before s = sym s.number ∙ s.weights Nodes
