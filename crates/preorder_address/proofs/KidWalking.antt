-- A walk over the terms of a node's kids.
use Rattle.std.proofs.Common.{◌≡◌, ℕ, zero, suc, ◌+◌, ◌-◌, ◌*◌, ◌<◌, ◌≤◌, List, [], ◌∷◌, length, get_or, set, take, drop, refl, ap, sym, ◌∙◌, arith, subst, Option, Some, None, length-drop, ◌⊎◌, inl, inr}
use Rattle.std.specs.Prelude.{slice_get, sum, Bool, true, false, eqb}
use Rattle.std.proofs.lemmas.Bool.{cases_lt, eqb-true}
use Rattle.std.proofs.lemmas.Option.{get_or_from_slice_get, same_Some}
use Rattle.std.proofs.lemmas.List.Sums.{sum_by-cons}
use Rattle.rule_arena.specs.Preorder.{AreTerms}
use Rattle.rule_arena.specs.Terms.{Node, kids_of, key_in}
use Rattle.rule_arena.specs.declared.key.Key.{Key}
use Rattle.rule_arena.specs.declared.label.Label.{Label}
use Rattle.rule_arena.specs.declared.label.Label.TheVariants.{Bottom, Symbol, Call, Param}
use Rattle.slt_grammar.specs.Algebras.{ranks_of}
use Rattle.slt_grammar.specs.Bodies.{CallsBelow, arity}
use Rattle.slt_grammar.specs.Grammars.{IsGrammar, whole}
use Rattle.slt_grammar.specs.Keyed.{Keyed, KeyedRule, IsKeyed, key_at, nodes_at, rules_of}
use Rattle.slt_grammar.specs.declared.rules.Rule.{Rule}
use Rattle.slt_grammar.proofs.KeyedLemmas.{nodes-are-term, length-rules_of, key_at-within}
use Rattle.slt_grammar.proofs.RuleMeanings.{rank_at-ranks_of}
use Rattle.slt_grammar.proofs.StopLemmas.{call-below}
use Rattle.slt_grammar.proofs.CallCounts.{below-more}
use Rattle.slt_grammar.proofs.TourWalking.{node-key}
use Rattle.preorder_address.specs.Sites.{own_weight, args_behind, term_weights}
use Rattle.preorder_address.specs.Weighing.{params_at, passed}
use Rattle.preorder_address.specs.declared.site.KidPlace.{KidPlace}
use Rattle.preorder_address.proofs.Descending.{nodes-within}
use Rattle.preorder_address.proofs.Locating.{nodes-few}
use Rattle.preorder_address.proofs.KidWeighing.{Weighs, chosen, drop-twice, get_or-sum, weighs-start, weighs-next, weighs-some}

-- a node has at most eight kids
pub kids-few : (G : List Rule) → IsGrammar G → (l : Label) → CallsBelow (length G) (l ∷ []) → arity (ranks_of G) l ≤ 8
kids-few G g Bottom c = omega arith
kids-few G g (Symbol f) c = omega arith
kids-few G g (Call q) c = omega (arith, rank_at-ranks_of G q, (g.each q c.0).shaped.small)
kids-few G g Param c = omega arith

args-behind : (l : Label) (n : ℕ) (args : List ℕ) → args_behind l (drop n args) ≡ drop (n + params_at l) args
args-behind Bottom n args = let z : n ≡ n + 0 = omega arith in ap (λ k. drop k args) z
args-behind (Symbol f) n args = let z : n ≡ n + 0 = omega arith in ap (λ k. drop k args) z
args-behind (Call q) n args = let z : n ≡ n + 0 = omega arith in ap (λ k. drop k args) z
args-behind Param n args = drop-twice n 1 args

pub drop-there : (xs : List Node) (p : ℕ) (x : Node) → slice_get xs p ≡ Some x → drop p xs ≡ x ∷ drop (p + 1) xs
drop-there [] p x e = cc
drop-there (y ∷ xs) zero x e = let f : y ≡ x = cc in ap (λ z. z ∷ xs) f
drop-there (y ∷ xs) (suc p) x e = let z : suc (p + 1) ≡ suc p + 1 = omega arith in drop-there xs p x e ∙ ap (λ (k : ℕ). x ∷ drop k (y ∷ xs)) z

terms-few : (n : ℕ) (xs : List Node) → AreTerms kids_of n xs → n ≤ length xs
terms-few zero xs t = omega arith
terms-few (suc n) [] t = absurd t
terms-few (suc n) (x ∷ xs) t = omega (arith, terms-few (x.kids + n) xs t)

pub terms-behind : (xs : List Node) (p n : ℕ) → AreTerms kids_of n xs → (x : Node) → slice_get xs p ≡ Some x → (m : ℕ) × AreTerms kids_of (x.kids + m) (drop (p + 1) xs)
terms-behind [] p n t x e = cc
terms-behind (y ∷ xs) p zero t x e = absurd t
terms-behind (y ∷ xs) zero (suc n) t x e = let f : y ≡ x = cc in (n, subst (λ (z : Node). AreTerms kids_of (z.kids + n) xs) f t)
terms-behind (y ∷ xs) (suc p) (suc n) t x e =
    let z : suc (p + 1) ≡ suc p + 1 = omega arith in
    let r = terms-behind xs p (y.kids + n) t x e in
    (r.0, subst (λ (k : ℕ). AreTerms kids_of (x.kids + r.0) (drop k (y ∷ xs))) z r.1)

-- a walk over the terms of the kids of the node with a key
pub record KidsWalking (G : List KeyedRule) (w : Label → ℕ) (args : List ℕ) (before : ℕ) (key : Key) (k : ℕ) (next : Option Key) (place : KidPlace) (param : ℕ) (weights : List ℕ) (first steps : ℕ) : Type 0 where
  pub rule : ℕ
  pub at : ℕ
  pub node : Node
  pub here : slice_get (nodes_at G rule) at ≡ Some node
  pub key_is : node.key ≡ key
  pub kids_are : node.kids ≡ k
  pub come : ℕ
  pub behind : at < come
  pub within : come ≤ length (nodes_at G rule)
  pub next_is : key_at G rule come ≡ next
  pub count : ℕ
  pub terms : AreTerms kids_of count (drop come (nodes_at G rule))
  pub enough : place.kid < k → place.left + k ≤ count + place.kid + 1
  pub weighs : Weighs k (term_weights w (rules_of G) (drop before args) (drop (at + 1) (nodes_at G rule))) (term_weights w (rules_of G) (drop param args) (drop come (nodes_at G rule))) place.kid place.left weights
  pub params : param ≤ 8 + come
  pub walked : steps + 2 * at + 2 ≡ first + 2 * come

module _ (g : Keyed) (K : IsKeyed g) where
  abbrev H : List Rule
  H = rules_of g.rules

  -- what a node of a body is
  pub record IsNodeOf (r p : ℕ) (x : Node) : Type 0 where
    pub rule : r < length g.rules
    pub place : p < length (nodes_at g.rules r)
    pub calls : CallsBelow (length (rules_of g.rules)) (x.label ∷ [])
    pub kids : x.kids ≡ arity (ranks_of (rules_of g.rules)) x.label
    pub few : x.kids ≤ 8
    pub behind : drop p (nodes_at g.rules r) ≡ x ∷ drop (p + 1) (nodes_at g.rules r)
    pub whole_few : length (nodes_at g.rules r) ≤ whole (rules_of g.rules)

  pub is-node : (r p : ℕ) (x : Node) → slice_get (nodes_at g.rules r) p ≡ Some x → IsNodeOf r p x
  is-node r p x e =
      let there = key_at-within g.rules r p x.key (node-key (nodes_at g.rules r) p x e) in
      let c = below-more r (length H) (x.label ∷ []) (omega (arith, there.0, length-rules_of g.rules)) (call-below g K r p x there.0 e) in
      let a : x.kids ≡ arity (ranks_of H) x.label = subst (λ (y : Node). y.kids ≡ arity (ranks_of H) y.label) (get_or_from_slice_get (nodes_at g.rules r) p x x e) (K.arities r p x there.1) in
      record {
        rule = there.0;
        place = there.1;
        calls = c;
        kids = a;
        few = omega (arith, a, kids-few H K.grammar x.label c);
        behind = drop-there (nodes_at g.rules r) p x e;
        whole_few = omega (arith, nodes-within g.rules r, nodes-few g.rules r);
      }

  module _ (w : Label → ℕ) (args : List ℕ) (before : ℕ) (key : Key) (k : ℕ) where
    pub kids-start : (r p : ℕ) (x : Node) → slice_get (nodes_at g.rules r) p ≡ Some x → x.key ≡ key → x.kids ≡ k → before < 9 → (next : Option Key) → key_at g.rules r (p + 1) ≡ next → (weights : List ℕ) → ((j : ℕ) → get_or weights j 0 ≡ 0) → length weights ≡ 8 → (steps : ℕ)
        → KidsWalking g.rules w args before key k next (record { kid = 0; left = 1 }) before weights steps steps
    kids-start r p x e f d b next n weights z l steps =
        let i = is-node r p x e in
        let t = terms-behind (nodes_at g.rules r) p 1 (nodes-are-term g K r i.rule) x e in
        record {
          rule = r;
          at = p;
          node = x;
          here = e;
          key_is = f;
          kids_are = d;
          come = p + 1;
          behind = omega arith;
          within = omega (arith, i.place);
          next_is = n;
          count = x.kids + t.0;
          terms = t.1;
          enough = λ h. omega (arith, d);
          weighs = weighs-start k (term_weights w H (drop before args) (drop (p + 1) (nodes_at g.rules r))) weights z l;
          params = omega arith;
          walked = omega arith;
        }

    -- a turn of the walk, at a node
    module _ (next : Option Key) (place : KidPlace) (param : ℕ) (weights : List ℕ) (first steps : ℕ) (s : KidsWalking g.rules w args before key k next place param weights first steps) where
      few : k ≤ 8
      few = omega (arith, (is-node s.rule s.at s.node s.here).few, s.kids_are)

      pub kid-few : place.kid < k → place.kid < 8
      kid-few h = omega (arith, few)

      pub some-next : place.kid < k → next ≡ None → ⊥
      some-next h e = none-left (nodes_at g.rules s.rule) s.come s.count (s.next_is ∙ e) s.terms (s.weighs.some) (s.enough h)
        where
          none-left : (ns : List Node) (q m : ℕ) → key_in ns q ≡ None → AreTerms kids_of m (drop q ns) → 0 < place.left → place.left + k ≤ m + place.kid + 1 → ⊥
          none-left [] zero zero e t l n = omega arith
          none-left [] zero (suc m) e t l n = t
          none-left [] (suc q) zero e t l n = omega arith
          none-left [] (suc q) (suc m) e t l n = t
          none-left (x ∷ ns) zero m e t l n = cc
          none-left (x ∷ ns) (suc q) m e t l n = none-left ns q m e t l n

      module _ (h : place.kid < k) (node : Key) (is_next : next ≡ Some node) where
        pub next-there : key_at g.rules s.rule s.come ≡ Some node
        next-there = s.next_is ∙ is_next

        module _ (y : Node) (item : (r p : ℕ) → key_at g.rules r p ≡ Some node → slice_get (nodes_at g.rules r) p ≡ Some y) where
          pub node-facts : IsNodeOf s.rule s.come y
          node-facts = is-node s.rule s.come y (item s.rule s.come next-there)

          abbrev others : List ℕ
          others = term_weights w H (drop (param + params_at y.label) args) (drop (s.come + 1) (nodes_at g.rules s.rule))

          weights-here : term_weights w H (drop param args) (drop s.come (nodes_at g.rules s.rule)) ≡ (own_weight w H (drop param args) y.label + sum (take y.kids others)) ∷ drop y.kids others
          weights-here =
              ap (term_weights w H (drop param args)) node-facts.behind
              ∙ ap (λ us. (own_weight w H (drop param args) y.label + sum (take y.kids (term_weights w H us (drop (s.come + 1) (nodes_at g.rules s.rule))))) ∷ drop y.kids (term_weights w H us (drop (s.come + 1) (nodes_at g.rules s.rule))))
              (args-behind y.label param args)

          terms-here : (m : ℕ) × (s.count ≡ suc m) × AreTerms kids_of (y.kids + m) (drop (s.come + 1) (nodes_at g.rules s.rule))
          terms-here = by_count s.count (subst (λ (ns : List Node). AreTerms kids_of s.count ns) node-facts.behind s.terms)
            where
              by_count : (n : ℕ) → AreTerms kids_of n (y ∷ drop (s.come + 1) (nodes_at g.rules s.rule)) → (m : ℕ) × (n ≡ suc m) × AreTerms kids_of (y.kids + m) (drop (s.come + 1) (nodes_at g.rules s.rule))
              by_count zero t = absurd t
              by_count (suc n) t = (n, refl, t)

          pub terms-left : place.left + y.kids ≤ length (nodes_at g.rules s.rule) + 1
          terms-left =
              let t = terms-here in
              omega (arith, t.1, s.enough h, terms-few (y.kids + t.0) (drop (s.come + 1) (nodes_at g.rules s.rule)) t.2, length-drop (s.come + 1) (nodes_at g.rules s.rule))

          pub few-params : param + params_at y.label < 9 + length (nodes_at g.rules s.rule)
          few-params = omega (arith, s.params, node-facts.place, small y.label)
            where
              small : (l : Label) → params_at l ≤ 1
              small Bottom = omega arith
              small (Symbol f) = omega arith
              small (Call q) = omega arith
              small Param = omega arith

          module _ (o : ℕ) (is_own : o ≡ own_weight w H (drop param args) y.label) where
            weighs-here : Weighs k (term_weights w H (drop before args) (drop (s.at + 1) (nodes_at g.rules s.rule))) ((o + sum (take y.kids others)) ∷ drop y.kids others) place.kid place.left weights
            weighs-here =
                subst (λ (us : List ℕ). Weighs k (term_weights w H (drop before args) (drop (s.at + 1) (nodes_at g.rules s.rule))) us place.kid place.left weights)
                (weights-here ∙ ap (λ n. (n + sum (take y.kids others)) ∷ drop y.kids others) (sym is_own)) s.weighs

            -- the sum of the kid's weight so far and this one is within the kids' weight
            pub sum-within : get_or weights place.kid 0 + o ≤ sum (take k (term_weights w H (drop before args) (drop (s.at + 1) (nodes_at g.rules s.rule))))
            sum-within =
                let v = weighs-here in
                let n = v.now h in
                let l : place.left ≡ suc (place.left - 1) = omega (arith, v.some) in
                let t = ap (λ m. sum (take m ((o + sum (take y.kids others)) ∷ drop y.kids others))) l in
                omega (
                  arith,
                  n,
                  t,
                  sum_by-cons (λ (x : ℕ). x) (o + sum (take y.kids others)) (take (place.left - 1) (drop y.kids others)),
                  get_or-sum k (term_weights w H (drop before args) (drop (s.at + 1) (nodes_at g.rules s.rule))) place.kid h,
                )

            pub kids-next : (next' : Option Key) → key_at g.rules s.rule (s.come + 1) ≡ next' → (steps' : ℕ) → steps' ≡ steps + 2
                → KidsWalking g.rules w args before key k next' (passed place y.kids) (param + params_at y.label) (set weights place.kid (get_or weights place.kid 0 + o)) first steps'
            kids-next next' n steps' f =
                let t = terms-here in
                let v = weighs-here in
                record {
                  rule = s.rule;
                  at = s.at;
                  node = s.node;
                  here = s.here;
                  key_is = s.key_is;
                  kids_are = s.kids_are;
                  come = s.come + 1;
                  behind = omega (arith, s.behind);
                  within = omega (arith, node-facts.place);
                  next_is = n;
                  count = y.kids + t.0;
                  terms = t.2;
                  enough = enough-next t.0 t.1;
                  weighs = weighs-next k (term_weights w H (drop before args) (drop (s.at + 1) (nodes_at g.rules s.rule))) others o y.kids place.kid place.left weights v h few;
                  params = omega (arith, s.params, few-at y.label);
                  walked = omega (arith, s.walked);
                }
              where
                few-at : (l : Label) → params_at l ≤ 1
                few-at Bottom = omega arith
                few-at (Symbol f) = omega arith
                few-at (Call q) = omega arith
                few-at Param = omega arith

                enough-next : (m : ℕ) → s.count ≡ suc m → (passed place y.kids).kid < k → (passed place y.kids).left + k ≤ y.kids + m + (passed place y.kids).kid + 1
                enough-next m e = by_test (eqb (place.left + y.kids) 1) refl
                  where
                    by_test : (t : Bool) → eqb (place.left + y.kids) 1 ≡ t → (chosen place.kid place.left y.kids t).kid < k
                        → (chosen place.kid place.left y.kids t).left + k ≤ y.kids + m + (chosen place.kid place.left y.kids t).kid + 1
                    by_test true q l = omega (arith, s.enough h, e, eqb-true (place.left + y.kids) 1 q, s.weighs.some)
                    by_test false q l = omega (arith, s.enough h, e, s.weighs.some)

      -- at its end, where it came to some of the kids or to all
      pub kids-some : (limit : ℕ) → ((i : ℕ) → place.kid ≤ i → i < k → limit ≤ i) → (r p : ℕ) (x : Node) → slice_get (nodes_at g.rules r) p ≡ Some x → x.key ≡ key → (j : ℕ) → (limit ≤ j → x.kids ≤ j)
          → get_or weights j 0 ≡ get_or (take x.kids (term_weights w H (drop before args) (drop (p + 1) (nodes_at g.rules r)))) j 0
      kids-some limit o r p x e f j h =
          let a = node-key (nodes_at g.rules r) p x e ∙ ap Some f in
          let b = node-key (nodes_at g.rules s.rule) s.at s.node s.here ∙ ap Some s.key_is in
          let z = K.once key s.rule s.at r p b a in
          let i : Some s.node ≡ Some x = sym s.here ∙ ap (λ q. slice_get (nodes_at g.rules q) s.at) z.0 ∙ ap (slice_get (nodes_at g.rules r)) z.1 ∙ e in
          let n : s.node ≡ x = same_Some s.node x i in
          let m : k ≡ x.kids = sym s.kids_are ∙ ap (λ (y : Node). y.kids) n in
          let d = weighs-some k (term_weights w H (drop before args) (drop (s.at + 1) (nodes_at g.rules s.rule))) (term_weights w H (drop param args) (drop s.come (nodes_at g.rules s.rule))) place.kid place.left weights s.weighs j (λ l. by_place m l (cases_lt j k)) in
          d ∙ ap (λ q. get_or (take q (term_weights w H (drop before args) (drop (s.at + 1) (nodes_at g.rules s.rule)))) j 0) m
          ∙ ap (λ q. get_or (take x.kids (term_weights w H (drop before args) (drop (s.at + 1) (nodes_at g.rules q)))) j 0) z.0
          ∙ ap (λ q. get_or (take x.kids (term_weights w H (drop before args) (drop (q + 1) (nodes_at g.rules r)))) j 0) z.1
        where
          by_place : k ≡ x.kids → place.kid ≤ j → (j < k) ⊎ (k ≤ j) → k ≤ j
          by_place m l (inl b) = omega (arith, m, h (o j l b))
          by_place m l (inr b) = b

      pub kids-steps : (r p : ℕ) → key_at g.rules r p ≡ Some key → steps + 2 ≤ first + 2 * length (nodes_at g.rules r)
      kids-steps r p a =
          let b = node-key (nodes_at g.rules s.rule) s.at s.node s.here ∙ ap Some s.key_is in
          let z = K.once key s.rule s.at r p b a in
          omega (arith, s.walked, s.within, s.behind, ap (λ q. length (nodes_at g.rules q)) z.0)

      -- and each turn comes nearer to it
      pub kids-nearer : place.kid < k → steps + 2 ≤ first + 2 * whole (rules_of g.rules)
      kids-nearer h =
          let i = is-node s.rule s.at s.node s.here in
          omega (arith, s.walked, s.within, s.behind, i.whole_few, some-place (nodes_at g.rules s.rule) s.come s.count s.terms s.weighs.some (s.enough h))
        where
          some-place : (ns : List Node) (q m : ℕ) → AreTerms kids_of m (drop q ns) → 0 < place.left → place.left + k ≤ m + place.kid + 1 → q < length ns
          some-place [] zero zero t l n = absurd (omega arith)
          some-place [] zero (suc m) t l n = absurd t
          some-place [] (suc q) zero t l n = absurd (omega arith)
          some-place [] (suc q) (suc m) t l n = absurd t
          some-place (x ∷ ns) zero m t l n = omega arith
          some-place (x ∷ ns) (suc q) m t l n = omega (arith, some-place ns q m t l n)
