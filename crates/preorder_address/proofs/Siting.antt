-- One level of a way to a node: what stands before the node in the called rule's value, and what the code of its kids weighs there.
use Rattle.std.proofs.Common.{◌≡◌, ℕ, zero, suc, ◌+◌, ◌<◌, ◌≤◌, List, [], ◌∷◌, ◌++◌, length, get_or, take, drop, refl, ap, sym, ◌∙◌, arith, Some, sum_by, subst, length-drop, ◌⊎◌, inl, inr, append_assoc}
use Rattle.std.specs.Prelude.{slice_get, sum}
use Rattle.std.proofs.lemmas.Bool.{cases_lt}
use Rattle.std.proofs.lemmas.List.{get_or-drop, drop-map, length-take-le}
use Rattle.std.proofs.lemmas.List.Sums.{sum_by-append}
use Rattle.rule_arena.specs.Preorder.{AreTerms}
use Rattle.rule_arena.specs.Terms.{Node, kids_of}
use Rattle.rule_arena.specs.declared.label.Label.{Label}
use Rattle.rule_arena.specs.declared.label.Label.TheVariants.{Symbol, Call, Param}
use Rattle.slt_grammar.specs.Algebras.{ranks_of}
use Rattle.slt_grammar.specs.Bodies.{CallsBelow, arity, params}
use Rattle.slt_grammar.specs.Editing.{put}
use Rattle.slt_grammar.specs.Grammars.{value_at}
use Rattle.slt_grammar.specs.Keyed.{Keyed, IsKeyed, HasArities, labels_of, nodes_at, rules_of}
use Rattle.slt_grammar.specs.Segments.{preorder, segment}
use Rattle.slt_grammar.specs.declared.rules.Rule.{Rule}
use Rattle.slt_grammar.proofs.CallCounts.{below-more}
use Rattle.slt_grammar.proofs.Keeping.{CallsBelow-drop}
use Rattle.slt_grammar.proofs.KeyedLemmas.{body_at-rules_of, length-rules_of, nodes-are-term}
use Rattle.slt_grammar.proofs.Spreads.{IsPlain}
use Rattle.slt_grammar.proofs.TourLemmas.{preorder-nodes}
use Rattle.segment_counts.specs.Weights.{count, count_before, node_weight}
use Rattle.segment_counts.proofs.Numbers.{segment-within}
use Rattle.preorder_address.specs.Sites.{laden, weight_before, weight_below, labels_before, shape, term_weights, terms_weight}
use Rattle.preorder_address.proofs.KidWalking.{terms-behind, is-node, IsNodeOf}
use Rattle.preorder_address.proofs.Lading.{label_arity, AllTerms, portions, sizes, reach, laden-append, before-append, below-append, laden-put, before-put, below-put, before-segments, before-front, below-front, nodes-put, before-less, segment-past, get_or-sizes, listed-term, first-term}
use Rattle.preorder_address.proofs.Listings.{fronts, weave, listings, length-listings, value-at-node}
use Rattle.preorder_address.proofs.Loads.{all-take, listings-terms, portions-split, put-term, shape-params, laden-weave, weave-put, weights-listings}

arities-drop : (ranks : List ℕ) (n : ℕ) (xs : List Node) → HasArities ranks xs → HasArities ranks (drop n xs)
arities-drop ranks n xs a i d l =
    let e = get_or-drop n xs i d in
    subst (λ (y : Node). y.kids ≡ arity ranks y.label) (sym e) (a (n + i) d (omega (arith, l, length-drop n xs)))

-- the nodes of a called rule's first parts with its arguments'
fronts-reach : (G : List Rule) (q : ℕ) (cs : List (List Label)) (k i : ℕ) → i ≤ k → sum_by node_weight (fronts G (Call q) cs i) ≡ reach (preorder G q) (sizes (take k cs)) i
fronts-reach G q cs k zero h = refl
fronts-reach G q cs k (suc i) h =
    omega (
      arith,
      fronts-reach G q cs k i (omega arith),
      sum_by-append node_weight (fronts G (Call q) cs i) (segment i (preorder G q) ++ get_or cs i []),
      sum_by-append node_weight (segment i (preorder G q)) (get_or cs i []),
      get_or-sizes k cs i (omega arith),
    )

module _ (g : Keyed) (K : IsKeyed g) (w : Label → ℕ) (zero_param : w Param ≡ 0) (r : ℕ) (args : List ℕ) (p : ℕ) (x : Node) (e : slice_get (nodes_at g.rules r) p ≡ Some x) where
  abbrev H : List Rule
  H = rules_of g.rules

  abbrev base : List Label
  base = labels_before g.rules r p

  abbrev all_kids : List (List Label)
  all_kids = listings H (drop (suc p) (nodes_at g.rules r))

  -- the labels of the node's kids
  abbrev pub kids_at : List (List Label)
  kids_at = take x.kids all_kids

  -- and what they weigh
  abbrev pub kid_args : List ℕ
  kid_args = portions w (drop (params base) args) kids_at

  pub is : IsNodeOf g K r p x
  is = is-node g K r p x e

  behind : (m : ℕ) × AreTerms kids_of (x.kids + m) (drop (suc p) (nodes_at g.rules r))
  behind =
      let t = terms-behind (nodes_at g.rules r) p 1 (nodes-are-term g K r is.rule) x e in
      let z : p + 1 ≡ suc p = omega arith in
      (t.0, subst (λ (k : ℕ). AreTerms kids_of (x.kids + t.0) (drop k (nodes_at g.rules r))) z t.1)

  pub calls-behind : CallsBelow (length H) (labels_of (drop (suc p) (nodes_at g.rules r)))
  calls-behind =
      let l = (K.grammar.each r (omega (arith, is.rule, length-rules_of g.rules))).earlier in
      let c = below-more r (length H) (labels_of (nodes_at g.rules r)) (omega (arith, is.rule, length-rules_of g.rules)) (subst (λ (ls : List Label). CallsBelow r ls) (body_at-rules_of g.rules r) l) in
      subst (λ (ls : List Label). CallsBelow (length H) ls) (drop-map (λ (n : Node). n.label) (suc p) (nodes_at g.rules r)) (CallsBelow-drop (length H) (suc p) (labels_of (nodes_at g.rules r)) c)

  enough : x.kids ≤ length all_kids
  enough = omega (arith, length-listings H (x.kids + behind.0) (drop (suc p) (nodes_at g.rules r)) behind.1)

  pub length-kids : length kids_at ≡ x.kids
  length-kids = length-take-le x.kids all_kids enough

  pub kids-terms : AllTerms kids_at
  kids-terms =
      all-take x.kids all_kids (listings-terms H K.grammar (x.kids + behind.0) (drop (suc p) (nodes_at g.rules r)) behind.1 (arities-drop (ranks_of H) (suc p) (nodes_at g.rules r) (K.arities r)) calls-behind)

  -- what the kids weigh is what their nodes do
  pub kid-args : kid_args ≡ take x.kids (term_weights w H (drop (params base) args) (drop (p + 1) (nodes_at g.rules r)))
  kid-args =
      let s = portions-split H K.grammar w zero_param x.kids (drop (params base) args) all_kids enough in
      let z : suc p ≡ p + 1 = omega arith in
      sym s.0
      ∙ ap (take x.kids) (weights-listings H K.grammar w zero_param (x.kids + behind.0) (drop (params base) args) (drop (suc p) (nodes_at g.rules r)) behind.1 (arities-drop (ranks_of H) (suc p) (nodes_at g.rules r) (K.arities r)) calls-behind)
      ∙ ap (λ k. take x.kids (term_weights w H (drop (params base) args) (drop k (nodes_at g.rules r)))) z

  pub value-here : (rest : List Label) × (preorder H r ≡ base ++ (weave H x.label 0 kids_at ++ rest))
  value-here =
      let v = value-at-node H (nodes_at g.rules r) (nodes-are-term g K r is.rule) p x e in
      (v.0, preorder-nodes g K r is.rule ∙ v.1)

  -- what stands before the node, and its kids, weigh no more than the rule's value
  pub base-within : laden w args base + laden w (drop (params base) args) (weave H x.label 0 kids_at) ≤ laden w args (preorder H r)
  base-within =
      omega (
        arith,
        ap (laden w args) value-here.1,
        laden-append w args base (weave H x.label 0 kids_at ++ value-here.0),
        laden-append w (drop (params base) args) (weave H x.label 0 kids_at) value-here.0,
      )

  module _ (q : ℕ) (is_call : x.label ≡ Call q) where
    call-there : q < length H
    call-there = (subst (λ (l : Label). CallsBelow (length H) (l ∷ [])) is_call is.calls).0

    pub call-params : params (preorder H q) ≡ length kids_at
    call-params =
        omega (arith, shape-params H K.grammar (Call q) tt (subst (λ (l : Label). CallsBelow (length H) (l ∷ [])) is_call is.calls), ap (arity (ranks_of H)) is_call, is.kids, length-kids)

    weave-call : weave H x.label 0 kids_at ≡ put (preorder H q) kids_at
    weave-call = ap (λ l. weave H l 0 kids_at) is_call ∙ weave-put H K.grammar (Call q) kids_at tt call-params

    -- the called rule's value with the kids' weights is within the value of the rule
    pub call-within : laden w args base + laden w kid_args (preorder H q) ≤ laden w args (preorder H r)
    call-within = omega (arith, base-within, ap (laden w (drop (params base) args)) weave-call, laden-put w (drop (params base) args) (preorder H q) kids_at call-params)

    pub value-term : AreTerms label_arity 1 (preorder H q)
    value-term = listed-term 0 (value_at H q) [] tt

    module _ (passed : List Label) (part first offset n : ℕ) (placed : passed ≡ base ++ fronts H x.label all_kids part) (is_first : first ≡ sum_by node_weight passed) (is_number : n ≡ first + offset) (inside : offset < count node_weight H q part) where
      abbrev pub inner : ℕ
      inner = count_before node_weight H q part + offset

      part-few : part ≤ x.kids
      part-few = by_place (cases_lt (params (preorder H q)) part)
        where
          by_place : (params (preorder H q) < part) ⊎ (part ≤ params (preorder H q)) → part ≤ x.kids
          by_place (inl l) = absurd (omega (arith, inside, ap (sum_by node_weight) (segment-past (preorder H q) part l)))
          by_place (inr l) = omega (arith, l, call-params, length-kids)

      pub inner-there : inner < sum_by node_weight (preorder H q)
      inner-there = omega (arith, inside, segment-within node_weight (preorder H q) part)

      abbrev pub outer : ℕ
      outer = weight_before node_weight (sizes kids_at) (preorder H q) inner

      pub number-is : n ≡ sum_by node_weight base + outer
      number-is =
          omega (
            arith,
            is_number,
            is_first,
            ap (sum_by node_weight) placed,
            sum_by-append node_weight base (fronts H x.label all_kids part),
            ap (λ l. sum_by node_weight (fronts H l all_kids part)) is_call,
            fronts-reach H q all_kids x.kids part part-few,
            before-segments (sizes kids_at) (preorder H q) part offset inner refl inside,
          )

      pub outer-there : outer < sum_by node_weight (put (preorder H q) kids_at)
      outer-there = omega (arith, before-less (sizes kids_at) (preorder H q) inner inner-there, nodes-put (preorder H q) kids_at call-params)

      pub value-call : preorder H r ≡ base ++ (put (preorder H q) kids_at ++ value-here.0)
      value-call = value-here.1 ∙ ap (λ ls. base ++ (ls ++ value-here.0)) weave-call

      pub before-call : weight_before w args (preorder H r) n ≡ laden w args base + weight_before w kid_args (preorder H q) inner
      before-call =
          omega (
            arith,
            ap (λ ls. weight_before w args ls n) value-call,
            before-append w args base (put (preorder H q) kids_at ++ value-here.0) n outer number-is,
            before-front w (drop (params base) args) (put (preorder H q) kids_at) value-here.0 outer outer-there,
            before-put w (drop (params base) args) (preorder H q) kids_at outer inner call-params refl inner-there,
          )

      pub below-call : weight_below w args (preorder H r) n ≡ weight_below w kid_args (preorder H q) inner
      below-call =
          ap (λ ls. weight_below w args ls n) value-call ∙ below-append w args base (put (preorder H q) kids_at ++ value-here.0) n outer number-is
          ∙ below-front w 1 (drop (params base) args) (put (preorder H q) kids_at) value-here.0 outer (put-term 1 (preorder H q) kids_at value-term kids-terms call-params) outer-there
          ∙ below-put w 1 (drop (params base) args) (preorder H q) kids_at outer inner call-params kids-terms value-term refl inner-there

  module _ (f : ℕ) (is_symbol : x.label ≡ Symbol f) (n : ℕ) (is_number : n ≡ sum_by node_weight base) where
    pub two : length kids_at ≡ 2
    two = omega (arith, length-kids, is.kids, ap (arity (ranks_of H)) is_symbol)

    pub value-symbol : preorder H r ≡ base ++ (weave H (Symbol f) 0 kids_at ++ value-here.0)
    value-symbol = value-here.1 ∙ ap (λ l. base ++ (weave H l 0 kids_at ++ value-here.0)) is_symbol

    number-zero : n ≡ sum_by node_weight base + 0
    number-zero = omega arith

    pub before-symbol : weight_before w args (preorder H r) n ≡ laden w args base
    before-symbol =
        omega (
          arith,
          ap (λ ls. weight_before w args ls n) value-symbol,
          before-append w args base (weave H (Symbol f) 0 kids_at ++ value-here.0) n 0 number-zero,
          by_kids kids_at two,
        )
      where
        by_kids : (cs : List (List Label)) → length cs ≡ 2 → weight_before w (drop (params base) args) (weave H (Symbol f) 0 cs ++ value-here.0) 0 ≡ 0
        by_kids [] n = absurd (omega arith)
        by_kids (c ∷ cs) n = refl

    pub below-symbol : weight_below w args (preorder H r) n ≡ get_or kid_args 0 0
    below-symbol =
        ap (λ ls. weight_below w args ls n) value-symbol ∙ below-append w args base (weave H (Symbol f) 0 kids_at ++ value-here.0) n 0 number-zero ∙ by_kids kids_at two kids-terms
      where
        by_kids : (cs : List (List Label)) → length cs ≡ 2 → AllTerms cs → weight_below w (drop (params base) args) (weave H (Symbol f) 0 cs ++ value-here.0) 0 ≡ get_or (portions w (drop (params base) args) cs) 0 0
        by_kids [] n a = absurd (omega arith)
        by_kids (c ∷ cs) n a =
            ap (terms_weight w (drop (params base) args) 1) (append_assoc c (weave H (Symbol f) 1 cs) value-here.0) ∙ first-term w (drop (params base) args) c (weave H (Symbol f) 1 cs ++ value-here.0) a.0

  -- and so do the kids' weights
  pub kids-within : IsPlain x.label → laden w args base + sum kid_args ≤ laden w args (preorder H r)
  kids-within plain =
      let n : params (shape H x.label) ≡ length kids_at = omega (arith, shape-params H K.grammar x.label plain is.calls, is.kids, length-kids) in
      omega (arith, base-within, laden-weave H K.grammar w zero_param (drop (params base) args) x.label kids_at plain n)
