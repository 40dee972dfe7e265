-- Places in a list of kids of a tree's code.
use Rattle.std.proofs.Common.{◌≡◌, ℕ, zero, suc, ◌+◌, ◌-◌, ◌*◌, ◌/◌, ◌<◌, ◌≤◌, ◌^◌, List, [], ◌∷◌, ◌++◌, length, get_or, take, drop, refl, ap, sym, ◌∙◌, arith, Option, None, Some, sum_by, append-nil, append_assoc, subst}
use Rattle.std.specs.Prelude.{slice_get, option_map, unwrap_or, IsSome, IfSome, true, false, ◌↔◌}
use Rattle.std.proofs.lemmas.List.Sums.{sum_by-cons, sum_by-append}
use Rattle.std.proofs.lemmas.Option.{get_or_from_slice_get, slice_get_past}
use Rattle.plain_tree.specs.declared.kind.Kind.{Kind}
use Rattle.plain_tree.specs.Tree.{Tree, node, Trees, none, more, node_count, node_count_all}
use Rattle.plain_tree.specs.Lawful.{IsLawfulTree}
use Rattle.plain_tree.specs.Numbers.{nodes, nodes_all}
use Rattle.rule_arena.specs.declared.label.Label.{Label}
use Rattle.rule_arena.specs.declared.label.Label.TheVariants.{Bottom, Symbol, Call, Param}
use Rattle.slt_grammar.specs.Coding.{Codes}
use Rattle.slt_grammar.specs.Grammars.{IsGrammar, value}
use Rattle.slt_grammar.specs.Keyed.{KeyedRule, rules_of}
use Rattle.slt_grammar.specs.Segments.{listed, preorder}
use Rattle.segment_counts.specs.Counting.{CountTable, told}
use Rattle.segment_counts.specs.Weights.{node_weight, all_weight}
use Rattle.segment_counts.specs.declared.counts.Measure.TheVariants as measure
use Rattle.segment_counts.proofs.Telling.{total-told}
use Rattle.preorder_address.specs.Chains.{IsAt, LeadsToNumber, LeadsToPlace}
use Rattle.preorder_address.specs.Descents.{IsInside}
use Rattle.preorder_address.specs.Numberings.{AreCountsOf}
use Rattle.preorder_address.specs.Sites.{laden, weight_before, weight_below, terms_weight, is_symbol}
use Rattle.preorder_address.specs.TreeNumbers.{placed, siblings_behind, end_at, after_attributes_at, attributes_at, attribute_places, attributes_in, kids_of, next_sibling_at, number_of_first}
use Rattle.preorder_address.specs.declared.descent.Descent.{Descent}
use Rattle.preorder_address.specs.declared.numbering.Numbering.TheVariants.{All}
use Rattle.preorder_address.proofs.Naming.{NumberedNode, past-count, value-last}
use Rattle.preorder_address.proofs.Sited.{laden-alone}
use Rattle.preorder_address.proofs.TreeAttributes.{after-told, from_number}
use Rattle.preorder_address.proofs.TreePlaces.{length-placed, listed-append}
use Rattle.preorder_address.proofs.TreeSites.{told-before, told-below, places-below}
use Rattle.preorder_address.proofs.Weighers.{total-small}
use Rattle.preorder_address.specs.declared.weigher.Weigher.TheVariants as weigher

terms-within : (a : List ℕ) (n : ℕ) (ls : List Label) → terms_weight all_weight a n ls ≤ laden all_weight a ls
terms-within a zero ls = omega arith
terms-within a (suc n) [] = omega arith
terms-within a (suc n) (Param ∷ ls) = omega (arith, terms-within (drop 1 a) n ls)
terms-within a (suc n) (Bottom ∷ ls) = omega (arith, terms-within a n ls)
terms-within a (suc n) (Symbol f ∷ ls) = omega (arith, terms-within a (suc (suc n)) ls)
terms-within a (suc n) (Call q ∷ ls) = omega (arith, terms-within a n ls)

-- what stands before a node and its kids are within the labels, and the node too
site-within : (a : List ℕ) (ls : List Label) (n : ℕ) → n < sum_by node_weight ls → weight_before all_weight a ls n + weight_below all_weight a ls n + 1 ≤ laden all_weight a ls
site-within a [] n h = absurd (omega arith)
site-within a (Param ∷ ls) n h = omega (arith, site-within (drop 1 a) ls n (omega (arith, h, sum_by-cons node_weight Param ls)))
site-within a (Bottom ∷ ls) n h = omega (arith, site-within a ls n (omega (arith, h, sum_by-cons node_weight Bottom ls)))
site-within a (Symbol f ∷ ls) zero h = omega (arith, terms-within a 1 ls)
site-within a (Symbol f ∷ ls) (suc n) h = omega (arith, site-within a ls n (omega (arith, h, sum_by-cons node_weight (Symbol f) ls)))
site-within a (Call q ∷ ls) n h = omega (arith, site-within a ls n (omega (arith, h, sum_by-cons node_weight (Call q) ls)))

-- a node's number is at most its place
number-within : (a : List ℕ) (ls : List Label) (n : ℕ) → n < sum_by node_weight ls → n ≤ weight_before all_weight a ls n
number-within a [] n h = absurd (omega arith)
number-within a (Param ∷ ls) n h = omega (arith, number-within (drop 1 a) ls n (omega (arith, h, sum_by-cons node_weight Param ls)))
number-within a (Bottom ∷ ls) n h = omega (arith, number-within a ls n (omega (arith, h, sum_by-cons node_weight Bottom ls)))
number-within a (Symbol f ∷ ls) zero h = omega arith
number-within a (Symbol f ∷ ls) (suc n) h = omega (arith, number-within a ls n (omega (arith, h, sum_by-cons node_weight (Symbol f) ls)))
number-within a (Call q ∷ ls) n h = omega (arith, number-within a ls n (omega (arith, h, sum_by-cons node_weight (Call q) ls)))

pub nodes-within-all : (ls : List Label) → sum_by node_weight ls ≤ sum_by all_weight ls
nodes-within-all [] = omega arith
nodes-within-all (Bottom ∷ ls) = omega (arith, nodes-within-all ls, sum_by-cons node_weight Bottom ls, sum_by-cons all_weight Bottom ls)
nodes-within-all (Symbol f ∷ ls) = omega (arith, nodes-within-all ls, sum_by-cons node_weight (Symbol f) ls, sum_by-cons all_weight (Symbol f) ls)
nodes-within-all (Call q ∷ ls) = omega (arith, nodes-within-all ls, sum_by-cons node_weight (Call q) ls, sum_by-cons all_weight (Call q) ls)
nodes-within-all (Param ∷ ls) = omega (arith, nodes-within-all ls, sum_by-cons node_weight Param ls, sum_by-cons all_weight Param ls)

module _ (G : List KeyedRule) (C : CountTable) (a : AreCountsOf (rules_of G) C) (g : IsGrammar (rules_of G)) where
  pub total-nodes : told measure.Nodes C.rows (C.rules - 1) 0 ≡ sum_by node_weight (preorder (rules_of G) (length G - 1))
  total-nodes = total-told a.0 (rules_of G) C a.1 g measure.Nodes ∙ ap (sum_by node_weight) (sym (value-last G))

  pub total-all : told measure.All C.rows (C.rules - 1) 0 ≡ sum_by all_weight (preorder (rules_of G) (length G - 1))
  total-all = total-told a.0 (rules_of G) C a.1 g measure.All ∙ ap (sum_by all_weight) (sym (value-last G))

  pub all-fits : told measure.All C.rows (C.rules - 1) 0 < 2 ^ 64
  all-fits = omega (arith, total-all, total-small weigher.All G C a g)

  pub nodes-fit : told measure.Nodes C.rows (C.rules - 1) 0 < 2 ^ 64
  nodes-fit = omega (arith, total-nodes, total-all, all-fits, nodes-within-all (preorder (rules_of G) (length G - 1)))

  module _ (n b d : ℕ) (h : n < told measure.Nodes C.rows (C.rules - 1) 0) (is_before : b ≡ weight_before all_weight [] (preorder (rules_of G) (length G - 1)) n) (is_below : d ≡ weight_below all_weight [] (preorder (rules_of G) (length G - 1)) n) where
    pub site-fits : b + d + 1 ≤ told measure.All C.rows (C.rules - 1) 0
    site-fits =
        omega (arith, is_before, is_below, h, total-nodes, total-all, site-within [] (preorder (rules_of G) (length G - 1)) n (omega (arith, h, total-nodes)), laden-alone all_weight refl (preorder (rules_of G) (length G - 1)))

    pub number-fits : n ≤ b
    number-fits = omega (arith, is_before, number-within [] (preorder (rules_of G) (length G - 1)) n (omega (arith, h, total-nodes)))

-- a descent leads to its place
pub leads-place : (G : List KeyedRule) (o : Option Descent) (place : ℕ) (told_at : Option ℕ) → told_at ≡ Some place → IsSome o → IfSome o (LeadsToNumber All G place) → LeadsToPlace G o told_at
leads-place G None place told_at e s l = absurd (by_none s)
  where
    by_none : IsSome {T = Descent} None → ⊥
    by_none s = cc
leads-place G (Some d) place told_at e s l = subst (LeadsToPlace G (Some d)) (sym e) l

pub no-place : (G : List KeyedRule) (o : Option Descent) (told_at : Option ℕ) → o ≡ None → told_at ≡ None → LeadsToPlace G o told_at
no-place G None None e d = tt
no-place G None (Some place) e d = cc
no-place G (Some l) told_at e d = cc

pub leads-inside : (G : List KeyedRule) (place : ℕ) (o : Option Descent) → IfSome o (LeadsToNumber All G place) → IfSome o (IsInside G)
leads-inside G place None l = l
leads-inside G place (Some d) l = l.inside

-- at one number stands one label
label-once : (w : Label → ℕ) (xs ys us vs : List Label) (f k : Label) → xs ++ f ∷ ys ≡ us ++ k ∷ vs → sum_by w xs ≡ sum_by w us → 0 < w f → 0 < w k → f ≡ k
label-once w [] ys [] vs f k e n p q = cc
label-once w [] ys (u ∷ us) vs f k e n p q = let h : f ≡ u = cc in absurd (omega (arith, n, p, ap w h, sum_by-cons w u us))
label-once w (x ∷ xs) ys [] vs f k e n p q = let h : x ≡ k = cc in absurd (omega (arith, n, q, ap w h, sum_by-cons w x xs))
label-once w (x ∷ xs) ys (u ∷ us) vs f k e n p q =
    let h : x ≡ u = cc in
    let t : xs ++ f ∷ ys ≡ us ++ k ∷ vs = cc in
    label-once w xs ys us vs f k t (omega (arith, n, ap w h, sum_by-cons w x xs, sum_by-cons w u us)) p q

module _ (names : List (Kind × List ℕ)) (G : List KeyedRule) (t : Tree) (c : Codes names (more t none) (value (rules_of G))) (n : ℕ) where
  past-placed : node_count t ≤ n → slice_get (placed 0 (more t none)) n ≡ None
  past-placed h = slice_get_past (placed 0 (more t none)) n (omega (arith, h, length-placed 0 (more t none)))

  pub no-end : node_count t ≤ n → end_at t n ≡ None
  no-end h = ap (option_map (λ e. e.0 + 2 * node_count e.1 - 1)) (past-placed h)

  pub no-after : node_count t ≤ n → after_attributes_at t n ≡ None
  no-after h = ap (option_map (λ e. e.0 + 1 + attribute_places (kids_of e.1))) (past-placed h)

  pub no-next : node_count t ≤ n → next_sibling_at t n ≡ None
  no-next h = ap (option_map (λ s. number_of_first (n + node_count s) (get_or (siblings_behind (more t none)) n none))) (past-count names G t c n h)

  module _ (label : Label) (x : NumberedNode names G t c n label) (b d : ℕ) (is_before : b ≡ weight_before all_weight [] (preorder (rules_of G) (length G - 1)) n) (is_below : d ≡ weight_below all_weight [] (preorder (rules_of G) (length G - 1)) n) where
    pub before-is : b ≡ sum_by all_weight x.before
    before-is = is_before ∙ told-before names G t c n label x all_weight refl

    pub below-is : d ≡ 2 * node_count_all x.place.kids + 1
    below-is = is_below ∙ told-below names G t c n label x all_weight refl ∙ places-below names G t c n label x

    pub placed-at : slice_get (placed 0 (more t none)) n ≡ Some (b, node x.place.kind x.place.name x.place.value x.place.kids)
    placed-at =
        let z : 0 + sum_by all_weight x.before ≡ b = omega (arith, before-is) in
        ap (slice_get (placed 0 (more t none))) (sym x.number) ∙ ap (λ ys. slice_get ys (sum_by node_weight x.before)) (sym (append-nil (placed 0 (more t none)))) ∙ x.place.place 0 []
        ∙ ap (λ i. Some (i, node x.place.kind x.place.name x.place.value x.place.kids)) z

    pub end-told : end_at t n ≡ Some (b + d)
    end-told =
        let z : b + 2 * (node_count_all x.place.kids + 1) - 1 ≡ b + d = omega (arith, below-is) in
        ap (option_map (λ e. e.0 + 2 * node_count e.1 - 1)) placed-at ∙ ap Some z

    -- the place of the first kid that is no attribute, where so many attributes were passed
    pub after-is : IsLawfulTree t → (e r : ℕ) → e ≡ d / 2 → r ≡ from_number t (n + 1) e → after_attributes_at t n ≡ Some (b + 1 + 2 * r)
    after-is l e r q f =
        let z : e ≡ node_count_all x.place.kids = omega (arith, q, below-is) in
        let s : suc (sum_by node_weight x.before) ≡ n + 1 = omega (arith, x.number) in
        let i : take (node_count_all x.place.kids) (drop (n + 1) (nodes t)) ≡ nodes_all x.place.kids =
        sym (ap (λ k. take (node_count_all x.place.kids) (drop k (nodes t))) s) ∙ ap (λ xs. take (node_count_all x.place.kids) (drop (suc (sum_by node_weight x.before)) xs)) (sym (append-nil (nodes t ++ []) ∙ append-nil (nodes t))) ∙ x.place.inside [] in
        after-told t l n b x.place.kind x.place.name x.place.value x.place.kids x.node_is placed-at i e r z f

    pub attributes-are : (e r : ℕ) → e ≡ d / 2 → r ≡ from_number t (n + 1) e → attributes_at t n ≡ r
    attributes-are e r q f =
        let z : e ≡ node_count_all x.place.kids = omega (arith, q, below-is) in
        let s : suc (sum_by node_weight x.before) ≡ n + 1 = omega (arith, x.number) in
        let i : take (node_count_all x.place.kids) (drop (n + 1) (nodes t)) ≡ nodes_all x.place.kids =
        sym (ap (λ k. take (node_count_all x.place.kids) (drop k (nodes t))) s) ∙ ap (λ xs. take (node_count_all x.place.kids) (drop (suc (sum_by node_weight x.before)) xs)) (sym (append-nil (nodes t ++ []) ∙ append-nil (nodes t))) ∙ x.place.inside [] in
        ap (λ o. unwrap_or (option_map (λ s. attributes_in (nodes_all (kids_of s))) o) 0) x.node_is ∙ sym (f ∙ ap (λ j. attributes_in (take j (drop (n + 1) (nodes t)))) z ∙ ap attributes_in i)

    next-is : next_sibling_at t n ≡ Some (number_of_first (n + (node_count_all x.place.kids + 1)) x.place.others)
    next-is =
        let o : get_or (siblings_behind (more t none)) n none ≡ x.place.others =
        get_or_from_slice_get (siblings_behind (more t none)) n x.place.others none
        (ap (slice_get (siblings_behind (more t none))) (sym x.number) ∙ ap (λ ys. slice_get ys (sum_by node_weight x.before)) (sym (append-nil (siblings_behind (more t none)))) ∙ x.place.siblings []) in
        ap (option_map (λ s. number_of_first (n + node_count s) (get_or (siblings_behind (more t none)) n none))) x.node_is ∙ ap (λ ts. Some (number_of_first (n + (node_count_all x.place.kids + 1)) ts)) o

    -- the labels before those of the siblings
    front : List Label
    front = x.before ++ Symbol x.symbol ∷ listed x.place.below []

    front-weight : b + d + 1 ≡ sum_by all_weight front
    unfolding front
    front-weight =
        omega (
          arith,
          before-is,
          is_below,
          told-below names G t c n label x all_weight refl,
          sum_by-append all_weight x.before (Symbol x.symbol ∷ listed x.place.below []),
          sum_by-cons all_weight (Symbol x.symbol) (listed x.place.below []),
        )

    value-front : preorder (rules_of G) (length G - 1) ≡ front ++ listed x.place.behind x.place.rest
    unfolding front
    value-front =
        value-last G ∙ x.split ∙ ap (λ ls. x.before ++ Symbol x.symbol ∷ ls) (x.place.follows ∙ listed-append x.place.below (listed x.place.behind x.place.rest))
        ∙ sym (append_assoc x.before (Symbol x.symbol ∷ listed x.place.below []) (listed x.place.behind x.place.rest))

    -- a label behind them is a symbol exactly where there is a sibling
    module _ (o : Option Label) (some : IsSome o ↔ b + d + 1 < sum_by all_weight (preorder (rules_of G) (length G - 1))) (counted : IfSome o (λ l. 0 < all_weight l)) (there : IfSome o (IsAt all_weight (preorder (rules_of G) (length G - 1)) (b + d + 1))) where
      first-label : (l k : Label) (ls : List Label) → 0 < all_weight l → IsAt all_weight (preorder (rules_of G) (length G - 1)) (b + d + 1) l → listed x.place.behind x.place.rest ≡ k ∷ ls → 0 < all_weight k → l ≡ k
      first-label l k ls p i e q =
          label-once all_weight i.before i.after front ls l k (sym i.split ∙ value-front ∙ ap (λ us. front ++ us) e) (i.number ∙ front-weight) p q

      pub next-told : is_symbol o ≡ true → Some (Some (n + d / 2 + 1)) ≡ next_sibling_at t n
      next-told e = by_others x.place.others x.place.codes_others o counted there e ∙ sym next-is
        where
          by_others : (ts : Trees) → Codes names ts x.place.behind → (o : Option Label) → IfSome o (λ l. 0 < all_weight l) → IfSome o (IsAt all_weight (preorder (rules_of G) (length G - 1)) (b + d + 1)) → is_symbol o ≡ true
              → Some (Some (n + d / 2 + 1)) ≡ Some (number_of_first (n + (node_count_all x.place.kids + 1)) ts)
          by_others ts k None p i e = cc
          by_others none k (Some (Symbol s)) p i e =
              let f = first-label (Symbol s) Bottom x.place.rest p i (ap (λ u. listed u x.place.rest) k) (omega arith) in
              absurd (cc)
          by_others none k (Some Bottom) p i e = cc
          by_others none k (Some (Call q)) p i e = cc
          by_others none k (Some Param) p i e = cc
          by_others (more (node kind name value kids) ts) k (Some l) p i e = let z : n + d / 2 + 1 ≡ n + (node_count_all x.place.kids + 1) = omega (arith, below-is) in ap (λ m. Some (Some m)) z

      pub none-told : is_symbol o ≡ false → Some None ≡ next_sibling_at t n
      none-told e = by_others x.place.others x.place.codes_others o some counted there e ∙ sym next-is
        where
          by_others : (ts : Trees) → Codes names ts x.place.behind → (o : Option Label) → (IsSome o ↔ b + d + 1 < sum_by all_weight (preorder (rules_of G) (length G - 1))) → IfSome o (λ l. 0 < all_weight l)
              → IfSome o (IsAt all_weight (preorder (rules_of G) (length G - 1)) (b + d + 1)) → is_symbol o ≡ false → Some None ≡ Some (number_of_first (n + (node_count_all x.place.kids + 1)) ts)
          by_others none k o s p i e = refl
          by_others (more (node kind name value kids) ts) k None s p i e =
              let v : preorder (rules_of G) (length G - 1) ≡ front ++ Symbol k.0 ∷ listed k.1 (listed k.2 x.place.rest) = value-front ∙ ap (λ u. front ++ listed u x.place.rest) k.6 in
              let h : b + d + 1 < sum_by all_weight (preorder (rules_of G) (length G - 1)) =
              omega (arith, front-weight, ap (sum_by all_weight) v, sum_by-append all_weight front (Symbol k.0 ∷ listed k.1 (listed k.2 x.place.rest)), sum_by-cons all_weight (Symbol k.0) (listed k.1 (listed k.2 x.place.rest))) in
              let q = s.1 h in
              absurd (cc)
          by_others (more (node kind name value kids) ts) k (Some l) s p i e =
              let f = first-label l (Symbol k.0) (listed k.1 (listed k.2 x.place.rest)) p i (ap (λ u. listed u x.place.rest) k.6) (omega arith) in
              let q : is_symbol (Some (Symbol k.0)) ≡ false = sym (ap (λ m. is_symbol (Some m)) f) ∙ e in
              absurd (cc)
