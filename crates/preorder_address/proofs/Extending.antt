-- From a spot's node up its levels: what the node's first kid weighs is added up, and which arguments are left.
use Rattle.std.proofs.Common.{◌≡◌, ℕ, zero, suc, ◌+◌, ◌-◌, ◌*◌, ◌^◌, ◌<◌, ◌≤◌, List, [], ◌∷◌, ◌++◌, length, get_or, take, drop, refl, ap, sym, ◌∙◌, arith, Some, sum_by, subst}
use Rattle.std.specs.Prelude.{slice_get, sum}
use Rattle.std.proofs.lemmas.List.{take_all}
use Rattle.std.proofs.lemmas.Option.{same_Some}
use Rattle.std.proofs.lemmas.List.Sums.{sum_by-cons, sum_by-append}
use Rattle.plain_tree.specs.declared.kind.Kind.{Kind}
use Rattle.rule_arena.specs.Terms.{Node}
use Rattle.rule_arena.specs.declared.label.Label.{Label}
use Rattle.rule_arena.specs.declared.label.Label.TheVariants.{Bottom, Symbol, Call, Param}
use Rattle.slt_grammar.specs.Algebras.{ranks_of}
use Rattle.slt_grammar.specs.Bodies.{CallsBelow, arity, params}
use Rattle.slt_grammar.specs.Grammars.{whole}
use Rattle.slt_grammar.specs.Keyed.{Keyed, IsKeyed, nodes_at, rules_of}
use Rattle.slt_grammar.specs.Segments.{preorder}
use Rattle.slt_grammar.specs.declared.level.Level.{Level}
use Rattle.slt_grammar.specs.declared.rules.Rule.{Rule}
use Rattle.slt_grammar.proofs.KeyedLemmas.{length-rules_of}
use Rattle.slt_grammar.proofs.RuleMeanings.{rank_at-ranks_of}
use Rattle.slt_grammar.proofs.Spreads.{IsPlain}
use Rattle.slt_grammar.proofs.TourLemmas.{params-preorder}
use Rattle.segment_counts.specs.Weights.{node_weight}
use Rattle.preorder_address.specs.Chains.{LeadsTo}
use Rattle.preorder_address.specs.Ranges.{WeighsRange, range_sum}
use Rattle.preorder_address.specs.Sites.{laden, labels_before, term_weights, terms_weight, weight_below}
use Rattle.preorder_address.specs.Told.{level_nodes}
use Rattle.preorder_address.specs.Weighing.{params_at}
use Rattle.preorder_address.specs.declared.spot_extent.KidRange.{KidRange}
use Rattle.preorder_address.specs.declared.spot_extent.RangeWeight.{RangeWeight}
use Rattle.preorder_address.specs.Descents.{descent_to, levels_of}
use Rattle.preorder_address.specs.Chains.{LeadsToNumber}
use Rattle.preorder_address.specs.Spots.{StandsAfter}
use Rattle.preorder_address.specs.declared.numbering.Numbering.TheVariants as by
use Rattle.segment_counts.specs.Counting.{CountTable}
use Rattle.segment_counts.specs.declared.counts.Measure.TheVariants as measure
use Rattle.segment_counts.specs.declared.counts.Weights.{Weights}
use Rattle.preorder_address.specs.Numberings.{AreCountsOf}
use Rattle.preorder_address.proofs.Arriving.{descents-arrive}
use Rattle.preorder_address.proofs.KidWalking.{is-node}
use Rattle.preorder_address.proofs.KidWeighing.{no_weights, sum-one}
use Rattle.preorder_address.proofs.Locating.{chain-nodes, nodes-few}
use Rattle.preorder_address.proofs.Naming.{symbol-of}
use Rattle.preorder_address.proofs.Sited.{SitedBy, level-node, same-label, sited-next, siting-start}

terms-within : (w : Label → ℕ) (n : ℕ) (ls : List Label) → terms_weight w [] n ls ≤ sum_by w ls
terms-within w zero ls = omega arith
terms-within w (suc n) [] = omega arith
terms-within w (suc n) (Param ∷ ls) = omega (arith, terms-within w n ls, sum_by-cons w Param ls)
terms-within w (suc n) (Bottom ∷ ls) = omega (arith, terms-within w n ls, sum_by-cons w Bottom ls)
terms-within w (suc n) (Symbol f ∷ ls) = omega (arith, terms-within w (suc (suc n)) ls, sum_by-cons w (Symbol f) ls)
terms-within w (suc n) (Call q ∷ ls) = omega (arith, terms-within w n ls, sum_by-cons w (Call q) ls)

-- what is below a node is no more than all
pub below-within : (w : Label → ℕ) (ls : List Label) (n : ℕ) → weight_below w [] ls n ≤ sum_by w ls
below-within w [] n = omega arith
below-within w (Param ∷ ls) n = omega (arith, below-within w ls n, sum_by-cons w Param ls)
below-within w (Bottom ∷ ls) n = omega (arith, below-within w ls n, sum_by-cons w Bottom ls)
below-within w (Symbol f ∷ ls) zero = omega (arith, terms-within w 1 ls, sum_by-cons w (Symbol f) ls)
below-within w (Symbol f ∷ ls) (suc n) = omega (arith, below-within w ls n, sum_by-cons w (Symbol f) ls)
below-within w (Call q ∷ ls) n = omega (arith, below-within w ls n, sum_by-cons w (Call q) ls)

-- level i, whose node's kids have so many nodes, where the kids of the levels above are such
pub record IsLevel (g : Keyed) (levels : List Level) (i kids : ℕ) (args : List ℕ) (Above : ℕ → List ℕ → Type 0) : Type 0 where
  pub level : Level
  pub is_level : slice_get levels i ≡ Some level
  pub place : ℕ
  pub node : Node
  pub there : slice_get (nodes_at g.rules level.rule) place ≡ Some node
  pub key : node.key ≡ level.key
  pub plain : params_at node.label ≡ 0
  pub kids_are : node.kids ≡ kids
  pub up : List ℕ
  pub above : Above (params (preorder (rules_of g.rules) level.rule)) up
  pub args_are : args ≡ take node.kids (term_weights node_weight (rules_of g.rules) (drop (params (labels_before g.rules level.rule place)) up) (drop (place + 1) (nodes_at g.rules level.rule)))

-- the kids of the node of the last of the first i levels have so many nodes
abbrev pub AreKidsAt : Keyed → List Level → ℕ → ℕ → List ℕ → Type 0
AreKidsAt g levels zero kids args = kids ≡ 0
AreKidsAt g levels (suc i) kids args = IsLevel g levels i kids args (AreKidsAt g levels i)

plain-params : (l : Label) → IsPlain l → params_at l ≡ 0
plain-params Bottom p = refl
plain-params (Symbol f) p = refl
plain-params (Call q) p = refl
plain-params Param p = absurd p

get-dropped : (i : ℕ) (ls : List Level) (l : Level) (ks : List Level) → drop i ls ≡ l ∷ ks → (slice_get ls i ≡ Some l) × (drop (suc i) ls ≡ ks)
get-dropped zero [] l ks e = cc
get-dropped (suc i) [] l ks e = cc
get-dropped zero (k ∷ ls) l ks e =
    let a : k ≡ l = cc in
    let b : ls ≡ ks = cc in
    (ap Some a, b)
get-dropped (suc i) (k ∷ ls) l ks e = get-dropped i ls l ks e

pub taken-more : (i : ℕ) (ls : List Level) (l : Level) → slice_get ls i ≡ Some l → take (suc i) ls ≡ take i ls ++ l ∷ []
taken-more i [] l e = cc
taken-more zero (k ∷ ls) l e = let a : k ≡ l = cc in ap (λ m. m ∷ []) a
taken-more (suc i) (k ∷ ls) l e = ap (λ ms. k ∷ ms) (taken-more i ls l e)

module _ (g : Keyed) (K : IsKeyed g) (n : ℕ) (levels : List Level) where
  abbrev H : List Rule
  H = rules_of g.rules

  abbrev pub below_all : ℕ
  below_all = weight_below node_weight [] (preorder (rules_of g.rules) (length g.rules - 1)) n

  -- the kids of the last level's node
  pub record LastKids : Type 0 where
    pub kids : ℕ
    pub args : List ℕ
    pub some : 0 < kids
    pub at : AreKidsAt g levels (length levels) kids args
    pub first : get_or args 0 0 ≡ below_all

  pub last-kids : (ks : List Level) (i : ℕ) (l : Level) (before : ℕ) (args : List ℕ) → drop i levels ≡ l ∷ ks → length levels ≡ i + 1 + length ks → AreKidsAt g levels i (params (preorder (rules_of g.rules) l.rule)) args → SitedBy g node_weight n (l ∷ ks) before args → LastKids
  last-kids [] i l before args d len at s =
      let v = level-node g K node_weight refl n l [] before args s in
      let f = symbol-of s.1 s.2 in
      let y : v.node.label ≡ Symbol f.0 = same-label g K node_weight refl n l [] before args s s.1 s.3.1 ∙ f.1 in
      let p = is-node g K l.rule v.place v.node v.there in
      let next = take v.node.kids (term_weights node_weight H (drop (params (labels_before g.rules l.rule v.place)) args) (drop (v.place + 1) (nodes_at g.rules l.rule))) in
      let t = sited-next g K node_weight refl n l [] before args s (laden node_weight args (labels_before g.rules l.rule v.place)) (params (labels_before g.rules l.rule v.place)) next refl refl (λ j. refl) in
      let z : suc i ≡ length levels = omega (arith, len) in
      record {
        kids = v.node.kids;
        args = next;
        some = omega (arith, p.kids, ap (arity (ranks_of H)) y);
        at = subst (λ (k : ℕ). AreKidsAt g levels k v.node.kids next) z
            (record { level = l; is_level = (get-dropped i levels l [] d).0; place = v.place; node = v.node; there = v.there; key = v.key; plain = plain-params v.node.label v.plain; kids_are = refl; up = args; above = at; args_are = refl });
        first = t.1;
      }
  last-kids (k ∷ ks) i l before args d len at s =
      let v = level-node g K node_weight refl n l (k ∷ ks) before args s in
      let y : v.node.label ≡ Call k.rule = same-label g K node_weight refl n l (k ∷ ks) before args s (Call k.rule) s.3.1 in
      let p = is-node g K l.rule v.place v.node v.there in
      let b : k.rule < length H = (subst (λ (m : Label). CallsBelow (length H) (m ∷ [])) y p.calls).0 in
      let next = take v.node.kids (term_weights node_weight H (drop (params (labels_before g.rules l.rule v.place)) args) (drop (v.place + 1) (nodes_at g.rules l.rule))) in
      let t = sited-next g K node_weight refl n l (k ∷ ks) before args s (laden node_weight args (labels_before g.rules l.rule v.place)) (params (labels_before g.rules l.rule v.place)) next refl refl (λ j. refl) in
      let q : v.node.kids ≡ params (preorder H k.rule) = omega (arith, p.kids, ap (arity (ranks_of H)) y, rank_at-ranks_of H k.rule, params-preorder H k.rule K.grammar b) in
      let x = get-dropped i levels l (k ∷ ks) d in
      last-kids ks (suc i) k (before + laden node_weight args (labels_before g.rules l.rule v.place)) next x.1 (omega (arith, len))
      (record { level = l; is_level = x.0; place = v.place; node = v.node; there = v.there; key = v.key; plain = plain-params v.node.label v.plain; kids_are = q; up = args; above = at; args_are = refl }) t

-- the way up has come to so many levels: what is added up and what these kids of the last of them have is what the spot's node has below
pub record Extending (g : Keyed) (n : ℕ) (levels : List Level) (left : ℕ) (range : KidRange) (below first steps : ℕ) : Type 0 where
  pub kids : ℕ
  pub args : List ℕ
  pub at : AreKidsAt g levels left kids args
  pub within : range.first + range.count ≤ kids
  pub total : below + range_sum range args ≡ weight_below node_weight [] (preorder (rules_of g.rules) (length g.rules - 1)) n
  pub reached : left ≤ length levels
  pub few : steps + 8 * level_nodes g.rules (take left levels) ≤ first + 8 * whole (rules_of g.rules)

abbrev pub first_kid : KidRange
first_kid = record { first = 0; count = 1 }

module _ (g : Keyed) (K : IsKeyed g) where
  last-there : length g.rules - 1 < length g.rules
  last-there = omega (arith, K.grammar.some, length-rules_of g.rules)

  no-params : params (preorder (rules_of g.rules) (length g.rules - 1)) ≡ 0
  no-params =
      let G = rules_of g.rules in
      let h : length g.rules - 1 < length G = omega (arith, last-there, length-rules_of g.rules) in
      omega (arith, params-preorder G (length g.rules - 1) K.grammar h, (K.grammar.each (length g.rules - 1) h).shaped.start (omega (arith, last-there, length-rules_of g.rules)))

  pub extending-start : (names : List (Kind × List ℕ)) (n : ℕ) (levels : List Level) (symbol : ℕ) (before : Weights) → StandsAfter names g.rules n levels symbol before → (steps : ℕ) → Extending g n levels (length levels) first_kid 0 steps steps
  extending-start names n levels symbol before s steps = by_levels levels (subst (λ (ls : List Level). SitedBy g node_weight n ls 0 no_weights) (sym s.located) sited) s.chain
    where
      small : n < sum_by node_weight (preorder (rules_of g.rules) (length g.rules - 1))
      small = omega (arith, s.number, ap (sum_by node_weight) s.split, sum_by-append node_weight s.earlier (Symbol symbol ∷ s.later), sum_by-cons node_weight (Symbol symbol) s.later)

      leads-there : LeadsToNumber by.Nodes g.rules n (descent_to by.Nodes (length g.rules - 1) n)
      leads-there = record { inside = (last-there, small); arrives = descents-arrive by.Nodes g (length g.rules - 1) n K last-there small; few = omega (arith, nodes-few g.rules (length g.rules - 1)) }

      sited : SitedBy g node_weight n (levels_of g.rules (descent_to by.Nodes (length g.rules - 1) n)) 0 no_weights
      sited = (siting-start g K node_weight refl n (descent_to by.Nodes (length g.rules - 1) n) steps leads-there).sited

      first-rule : (l : Level) (ks : List Level) → LeadsTo g.rules (length g.rules - 1) (l ∷ ks) (Symbol symbol) → l.rule ≡ length g.rules - 1
      first-rule l [] c = c.0
      first-rule l (k ∷ ks) c = c.0

      by_levels : (ls : List Level) → SitedBy g node_weight n ls 0 no_weights → LeadsTo g.rules (length g.rules - 1) ls (Symbol symbol) → Extending g n ls (length ls) first_kid 0 steps steps
      by_levels [] t c = absurd c
      by_levels (l ∷ ks) t c =
          let top : params (preorder (rules_of g.rules) l.rule) ≡ 0 = ap (λ r. params (preorder (rules_of g.rules) r)) (first-rule l ks c) ∙ no-params in
          let k = last-kids g K n (l ∷ ks) ks 0 l 0 no_weights refl (omega arith) top t in
          record {
            kids = k.kids;
            args = k.args;
            at = k.at;
            within = omega (arith, k.some);
            total = omega (arith, sum-one k.args, k.first);
            reached = omega arith;
            few = omega (arith, ap (level_nodes g.rules) (take_all (length (l ∷ ks)) (l ∷ ks) (omega arith)), chain-nodes g K (length g.rules - 1) (l ∷ ks) (Symbol symbol) c, nodes-few g.rules (length g.rules - 1));
          }

  module _ (n : ℕ) (levels : List Level) (left : ℕ) (range : KidRange) (below first steps : ℕ) (s : Extending g n levels left range below first steps) where
    pub extending-steps : steps ≤ first + 8 * whole (rules_of g.rules)
    extending-steps = omega (arith, s.few)

    -- where no kids are left, all is added up
    pub all-added : range.count ≡ 0 → below ≡ weight_below node_weight [] (preorder (rules_of g.rules) (length g.rules - 1)) n
    all-added e = omega (arith, s.total, ap (λ k. sum (take k (drop range.first s.args))) e)

    pub none-left : left ≡ 0 → range.count ≡ 0
    none-left e = let z : s.kids ≡ 0 = subst (λ (k : ℕ). AreKidsAt g levels k s.kids s.args) e s.at in omega (arith, z, s.within)

    module _ (some : 0 < left) (level : Level) (is_level : slice_get levels (left - 1) ≡ Some level) where
      here : IsLevel g levels (left - 1) s.kids s.args (AreKidsAt g levels (left - 1))
      here =
          let z : left ≡ suc (left - 1) = omega (arith, some) in
          subst (λ (k : ℕ). AreKidsAt g levels k s.kids s.args) z s.at

      same : here.level ≡ level
      same = same_Some here.level level (sym here.is_level ∙ is_level)

      pub level-there : (p : ℕ) × (x : Node) × (slice_get (nodes_at g.rules level.rule) p ≡ Some x) × (x.key ≡ level.key) × (params_at x.label ≡ 0) × (range.first + range.count ≤ x.kids)
      level-there = (
        here.place,
        here.node,
        subst (λ (l : Level). slice_get (nodes_at g.rules l.rule) here.place ≡ Some here.node) same here.there,
        subst (λ (l : Level). here.node.key ≡ l.key) same here.key,
        here.plain,
        omega (arith, s.within, here.kids_are),
      )

      module _ (found : RangeWeight) (weighed : (p : ℕ) (x : Node) → slice_get (nodes_at g.rules level.rule) p ≡ Some x → x.key ≡ level.key → WeighsRange g.rules level.rule p x range found) where
        range-here : WeighsRange g.rules here.level.rule here.place here.node range found
        range-here = subst (λ (l : Level). WeighsRange g.rules l.rule here.place here.node range found) (sym same) (weighed here.place here.node (subst (λ (l : Level). slice_get (nodes_at g.rules l.rule) here.place ≡ Some here.node) same here.there) (subst (λ (l : Level). here.node.key ≡ l.key) same here.key))

        total-here : below + found.nodes + range_sum found.params here.up ≡ weight_below node_weight [] (preorder (rules_of g.rules) (length g.rules - 1)) n
        total-here = omega (arith, s.total, ap (range_sum range) here.args_are, range-here.weighs here.up)

        pub below-small : (C : CountTable) → AreCountsOf (rules_of g.rules) C → below + found.nodes < 2 ^ 64
        below-small C a =
            let h : length g.rules - 1 < length (rules_of g.rules) = omega (arith, last-there, length-rules_of g.rules) in
            let t : sum_by node_weight (preorder (rules_of g.rules) (length g.rules - 1)) < 2 ^ 64 = a.1.numbers.small measure.Nodes (length g.rules - 1) h in
            omega (arith, total-here, below-within node_weight (preorder (rules_of g.rules) (length g.rules - 1)) n, t)

        pub extending-next : (steps' : ℕ) → steps' ≤ steps + 8 * length (nodes_at g.rules level.rule) → Extending g n levels (left - 1) found.params (below + found.nodes) first steps'
        extending-next steps' h =
            let z : left ≡ suc (left - 1) = omega (arith, some) in
            let f = λ (l : Level). length (nodes_at g.rules l.rule) in
            let t = ap (level_nodes g.rules) (ap (λ k. take k levels) z ∙ taken-more (left - 1) levels level is_level) in
            record {
              kids = params (preorder (rules_of g.rules) here.level.rule);
              args = here.up;
              at = here.above;
              within = range-here.within;
              total = total-here;
              reached = omega (arith, s.reached);
              few = omega (arith, s.few, h, t, sum_by-append f (take (left - 1) levels) (level ∷ []), sum_by-cons f level []);
            }
