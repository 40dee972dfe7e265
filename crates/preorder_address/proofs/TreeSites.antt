-- The site of a node of a tree's code.
use Rattle.std.proofs.Common.{◌≡◌, ℕ, zero, suc, ◌+◌, ◌-◌, ◌*◌, ◌/◌, ◌<◌, ◌≤◌, List, [], ◌∷◌, ◌++◌, length, take, drop, refl, ap, sym, ◌∙◌, arith, None, Some, sum_by, append-nil, subst}
use Rattle.std.specs.Prelude.{option_map}
use Rattle.std.proofs.lemmas.List.{get_or-drop}
use Rattle.std.proofs.lemmas.List.Sums.{sum_by-cons}
use Rattle.plain_tree.specs.declared.kind.Kind.{Kind}
use Rattle.plain_tree.specs.Tree.{Tree, none, more, node_count, node_count_all}
use Rattle.plain_tree.specs.Numbers.{nodes, values_of}
use Rattle.rule_arena.specs.declared.label.Label.{Label}
use Rattle.rule_arena.specs.declared.label.Label.TheVariants.{Bottom, Symbol, Call, Param}
use Rattle.slt_grammar.specs.Bodies.{params}
use Rattle.slt_grammar.specs.Coding.{Codes}
use Rattle.slt_grammar.specs.Grammars.{value}
use Rattle.slt_grammar.specs.Keyed.{KeyedRule, rules_of}
use Rattle.slt_grammar.specs.Segments.{listed, preorder}
use Rattle.segment_counts.specs.Weights.{node_weight, all_weight, text_weight}
use Rattle.preorder_address.specs.Chains.{IsAt}
use Rattle.preorder_address.specs.Sites.{weight_before, weight_below, terms_weight}
use Rattle.preorder_address.specs.TreeNumbers.{extent_at, text_rank_at}
use Rattle.preorder_address.proofs.Lading.{Alike, laden-alike, before-append, below-append, first-term, listed-term}
use Rattle.preorder_address.proofs.Naming.{NumberedNode, numbered, past-count, value-last}
use Rattle.preorder_address.proofs.Sited.{laden-alone}
use Rattle.preorder_address.proofs.TreePlaces.{listed-append, all-coded}
use Rattle.segment_counts.proofs.Coded.{nodes-coded}

-- each number of labels is a symbol's
number-at : (ls : List Label) (n : ℕ) → n < sum_by node_weight ls → (f : Label) × (0 < node_weight f) × IsAt node_weight ls n f
number-at [] n h = absurd (omega arith)
number-at (Symbol f ∷ ls) zero h = (Symbol f, omega arith, record { before = []; after = ls; split = refl; number = refl })
number-at (Symbol f ∷ ls) (suc n) h =
    let r = number-at ls n (omega (arith, h, sum_by-cons node_weight (Symbol f) ls)) in
    (r.0, r.1, record { before = Symbol f ∷ r.2.before; after = r.2.after; split = ap (λ xs. Symbol f ∷ xs) r.2.split; number = omega (arith, r.2.number, sum_by-cons node_weight (Symbol f) r.2.before) })
number-at (Bottom ∷ ls) n h =
    let r = number-at ls n (omega (arith, h, sum_by-cons node_weight Bottom ls)) in
    (r.0, r.1, record { before = Bottom ∷ r.2.before; after = r.2.after; split = ap (λ xs. Bottom ∷ xs) r.2.split; number = omega (arith, r.2.number, sum_by-cons node_weight Bottom r.2.before) })
number-at (Call q ∷ ls) n h =
    let r = number-at ls n (omega (arith, h, sum_by-cons node_weight (Call q) ls)) in
    (r.0, r.1, record { before = Call q ∷ r.2.before; after = r.2.after; split = ap (λ xs. Call q ∷ xs) r.2.split; number = omega (arith, r.2.number, sum_by-cons node_weight (Call q) r.2.before) })
number-at (Param ∷ ls) n h =
    let r = number-at ls n (omega (arith, h, sum_by-cons node_weight Param ls)) in
    (r.0, r.1, record { before = Param ∷ r.2.before; after = r.2.after; split = ap (λ xs. Param ∷ xs) r.2.split; number = omega (arith, r.2.number, sum_by-cons node_weight Param r.2.before) })

none-left : (k : ℕ) → Alike (drop k []) []
none-left k j = get_or-drop k [] j 0

module _ (names : List (Kind × List ℕ)) (G : List KeyedRule) (t : Tree) (c : Codes names (more t none) (value (rules_of G))) (n : ℕ) where
  -- the tree's node with a number
  pub tree-node : n < node_count t → (f : Label) × NumberedNode names G t c n f
  tree-node h =
      let r = number-at (listed (value (rules_of G)) []) n (omega (arith, h, nodes-coded names (more t none) (value (rules_of G)) c [])) in
      (r.0, numbered names G t c n r.0 r.1 (subst (λ (ls : List Label). IsAt node_weight ls n r.0) (sym (value-last G)) r.2))

  module _ (label : Label) (x : NumberedNode names G t c n label) (w : Label → ℕ) (zero_param : w Param ≡ 0) where
    number-is : n ≡ sum_by node_weight x.before + 0
    number-is = omega (arith, x.number)

    split-is : preorder (rules_of G) (length G - 1) ≡ x.before ++ Symbol x.symbol ∷ x.after
    split-is = value-last G ∙ x.split

    pub told-before : weight_before w [] (preorder (rules_of G) (length G - 1)) n ≡ sum_by w x.before
    told-before =
        omega (
          arith,
          ap (λ ls. weight_before w [] ls n) split-is,
          before-append w [] x.before (Symbol x.symbol ∷ x.after) n 0 number-is,
          laden-alone w zero_param x.before,
        )

    pub told-below : weight_below w [] (preorder (rules_of G) (length G - 1)) n ≡ sum_by w (listed x.place.below [])
    told-below =
        let args = drop (params x.before) [] in
        ap (λ ls. weight_below w [] ls n) split-is ∙ below-append w [] x.before (Symbol x.symbol ∷ x.after) n 0 number-is
        ∙ ap (terms_weight w args 1) (x.place.follows ∙ listed-append x.place.below (listed x.place.behind x.place.rest))
        ∙ first-term w args (listed x.place.below []) (listed x.place.behind x.place.rest) (listed-term 0 x.place.below [] tt)
        ∙ laden-alike w args [] (none-left (params x.before)) (listed x.place.below []) ∙ laden-alone w zero_param (listed x.place.below [])

  pub no-extent : node_count t ≤ n → extent_at t n ≡ None
  no-extent h = ap (option_map (λ s. node_count s - 1)) (past-count names G t c n h)

  pub no-rank : node_count t ≤ n → text_rank_at t n ≡ None
  no-rank h = ap (option_map (λ s. length (values_of (take n (nodes t))))) (past-count names G t c n h)

  module _ (label : Label) (x : NumberedNode names G t c n label) where
    pub rank-told : Some (sum_by (text_weight names) x.before) ≡ text_rank_at t n
    rank-told =
        let k = x.place.texts [] in
        let v : length (values_of (take (sum_by node_weight x.before) (nodes t))) ≡ sum_by (text_weight names) x.before =
        ap (λ xs. length (values_of (take (sum_by node_weight x.before) xs))) (sym (append-nil (nodes t ++ []) ∙ append-nil (nodes t))) ∙ k in
        ap Some (sym v ∙ ap (λ k. length (values_of (take k (nodes t)))) x.number) ∙ sym (ap (option_map (λ s. length (values_of (take n (nodes t))))) x.node_is)

    pub places-below : sum_by all_weight (listed x.place.below []) ≡ 2 * node_count_all x.place.kids + 1
    places-below = omega (arith, all-coded names x.place.kids x.place.below x.place.codes_kids [])

    pub extent-told : (b : ℕ) → b ≡ sum_by all_weight (listed x.place.below []) → Some (b / 2) ≡ extent_at t n
    extent-told b e =
        let k = places-below in
        let v : b / 2 ≡ node_count_all x.place.kids + 1 - 1 = omega (arith, e, k) in
        ap Some v ∙ sym (ap (option_map (λ s. node_count s - 1)) x.node_is)
