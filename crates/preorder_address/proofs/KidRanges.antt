-- Some of a node's kids: what they weigh without their parameters, and which parameters stand there.
use Rattle.std.proofs.Common.{◌≡◌, ℕ, zero, suc, ◌+◌, ◌≤◌, List, [], ◌∷◌, take, drop, replicate, refl, ap, arith, Some}
use Rattle.std.specs.Prelude.{slice_get, sum}
use Rattle.std.proofs.lemmas.List.Sums.{sum_by-cons}
use Rattle.rule_arena.specs.Preorder.{AreTerms}
use Rattle.rule_arena.specs.Terms.{Node, kids_of}
use Rattle.rule_arena.specs.declared.label.Label.{Label}
use Rattle.rule_arena.specs.declared.label.Label.TheVariants.{Bottom, Symbol, Call, Param}
use Rattle.slt_grammar.specs.Bodies.{params}
use Rattle.slt_grammar.specs.Keyed.{Keyed, IsKeyed, nodes_at, rules_of}
use Rattle.slt_grammar.specs.Segments.{preorder}
use Rattle.slt_grammar.specs.declared.rules.Rule.{Rule}
use Rattle.slt_grammar.proofs.KeyedLemmas.{nodes-are-term}
use Rattle.slt_grammar.proofs.Spreads.{IsPlain}
use Rattle.preorder_address.specs.Sites.{args_behind, laden, labels_before, own_weight, term_weights}
use Rattle.preorder_address.specs.Ranges.{term_params}
use Rattle.preorder_address.specs.Weighing.{params_at}
use Rattle.preorder_address.proofs.KidWalking.{is-node, terms-behind}
use Rattle.preorder_address.proofs.KidWeighing.{sums-apart}
use Rattle.preorder_address.proofs.Siting.{kid-args, kids-within}

pub sum-none : (k : ℕ) → sum (take k []) ≡ 0
sum-none zero = refl
sum-none (suc k) = refl

-- one more of these
sum-more : (k : ℕ) (u : ℕ) (us : List ℕ) → sum (take (suc k) (u ∷ us)) ≡ u + sum (take k us)
sum-more k u us = sum_by-cons (λ (x : ℕ). x) u (take k us)

behind-none : (l : Label) → args_behind l [] ≡ []
behind-none Bottom = refl
behind-none (Symbol f) = refl
behind-none (Call q) = refl
behind-none Param = refl

module _ (w : Label → ℕ) (G : List Rule) where
  own-apart : (l : Label) (args : List ℕ) (n : ℕ) → own_weight w G args l + sum (take n (args_behind l args)) ≡ own_weight w G [] l + sum (take (params_at l + n) args)
  own-apart Bottom args n = let z : 0 + n ≡ n = omega arith in omega (arith, ap (λ k. sum (take k args)) z)
  own-apart (Symbol f) args n = let z : 0 + n ≡ n = omega arith in omega (arith, ap (λ k. sum (take k args)) z)
  own-apart (Call q) args n = let z : 0 + n ≡ n = omega arith in omega (arith, ap (λ k. sum (take k args)) z)
  own-apart Param [] n = let z : 1 + n ≡ suc n = omega arith in omega (arith, ap (λ (k : ℕ). sum (take k [])) z, sum-none n, sum-none (suc n))
  own-apart Param (a ∷ args) n = let z : 1 + n ≡ suc n = omega arith in omega (arith, ap (λ (k : ℕ). sum (take k (a ∷ args))) z, sum-more n a args)

  -- the first terms weigh what they do without their parameters, and the arguments for these
  pub terms-apart : (n c : ℕ) (args : List ℕ) (ns : List Node) → AreTerms kids_of n ns → c ≤ n → sum (take c (term_weights w G args ns)) ≡ sum (take c (term_weights w G [] ns)) + sum (take (sum (take c (term_params ns))) args)
  terms-apart n zero args ns t h = refl
  terms-apart zero (suc c) args ns t h = absurd (omega (arith, h))
  terms-apart (suc n) (suc c) args [] t h = absurd t
  terms-apart (suc n) (suc c) args (x ∷ xs) t h =
      let all = term_weights w G (args_behind x.label args) xs in
      let none = term_weights w G (args_behind x.label []) xs in
      let ps = term_params xs in
      let ih = terms-apart (x.kids + n) (x.kids + c) (args_behind x.label args) xs t (omega (arith, h)) in
      let b = ap (λ us. sum (take (x.kids + c) (term_weights w G us xs))) (behind-none x.label) in
      let p : sum (take (suc c) ((params_at x.label + sum (take x.kids ps)) ∷ drop x.kids ps)) ≡ params_at x.label + sum (take (x.kids + c) ps) = omega (arith, sum-more c (params_at x.label + sum (take x.kids ps)) (drop x.kids ps), sums-apart x.kids c ps) in
      omega (
        arith,
        sum-more c (own_weight w G args x.label + sum (take x.kids all)) (drop x.kids all),
        sums-apart x.kids c all,
        sum-more c (own_weight w G [] x.label + sum (take x.kids none)) (drop x.kids none),
        sums-apart x.kids c none,
        ih,
        b,
        own-apart x.label args (sum (take (x.kids + c) ps)),
        ap (λ k. sum (take k args)) p,
      )

-- ones for as many parameters as there are
sum-ones : (n p k : ℕ) → p + n ≤ k → sum (take n (drop p (replicate k 1))) ≡ n
sum-ones zero p k h = refl
sum-ones (suc n) zero zero h = absurd (omega (arith, h))
sum-ones (suc n) zero (suc k) h = omega (arith, sum-more n 1 (replicate k 1), sum-ones n 0 k (omega (arith, h)))
sum-ones (suc n) (suc p) zero h = absurd (omega (arith, h))
sum-ones (suc n) (suc p) (suc k) h = sum-ones (suc n) p k (omega (arith, h))

laden-ones : (k : ℕ) (ls : List Label) → params ls ≤ k → laden (λ l. 0) (replicate k 1) ls ≡ params ls
laden-ones k [] h = refl
laden-ones zero (Param ∷ ls) h = absurd (omega (arith, h))
laden-ones (suc k) (Param ∷ ls) h = omega (arith, laden-ones k ls (omega (arith, h)))
laden-ones k (Bottom ∷ ls) h = omega (arith, laden-ones k ls h)
laden-ones k (Symbol f ∷ ls) h = omega (arith, laden-ones k ls h)
laden-ones k (Call q ∷ ls) h = omega (arith, laden-ones k ls h)

module _ (g : Keyed) (K : IsKeyed g) (r p : ℕ) (x : Node) (e : slice_get (nodes_at g.rules r) p ≡ Some x) where
  abbrev H : List Rule
  H = rules_of g.rules

  abbrev base : List Label
  base = labels_before g.rules r p

  abbrev behind : List Node
  behind = drop (p + 1) (nodes_at g.rules r)

  kid-terms : (m : ℕ) × AreTerms kids_of (x.kids + m) behind
  kid-terms = terms-behind (nodes_at g.rules r) p 1 (nodes-are-term g K r (is-node g K r p x e).rule) x e

  -- some of the kids, by the weights of all
  pub range-apart : (w : Label → ℕ) (c : ℕ) (args : List ℕ) → c ≤ x.kids
      → sum (take c (term_weights w (rules_of g.rules) args (drop (p + 1) (nodes_at g.rules r)))) ≡ sum (take c (term_weights w (rules_of g.rules) [] (drop (p + 1) (nodes_at g.rules r)))) + sum (take (sum (take c (term_params (drop (p + 1) (nodes_at g.rules r))))) args)
  range-apart w c args h = terms-apart w H (x.kids + kid-terms.0) c args behind kid-terms.1 (omega (arith, h))

  -- the parameters before the node and in its kids are some of the rule's
  pub params-within : IsPlain x.label → params (labels_before g.rules r p) + sum (take x.kids (term_params (drop (p + 1) (nodes_at g.rules r)))) ≤ params (preorder (rules_of g.rules) r)
  params-within plain =
      let P = params base in
      let T = sum (take x.kids (term_params behind)) in
      let N = P + T + params (preorder H r) in
      let ones = replicate N 1 in
      let u = kids-within g K (λ l. 0) refl r ones p x e plain in
      let v = ap sum (kid-args g K (λ l. 0) refl r ones p x e) in
      let y = range-apart (λ l. 0) x.kids (drop P ones) (omega arith) in
      omega (
        arith,
        u,
        v,
        y,
        laden-ones N base (omega arith),
        laden-ones N (preorder H r) (omega arith),
        sum-ones T P N (omega arith),
      )
