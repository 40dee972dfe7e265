-- A body that is read as nodes, label by label.
use Rattle.std.proofs.Common.{◌≡◌, ℕ, zero, suc, ◌+◌, List, [], ◌∷◌, ◌++◌, length, get_or, take, Some, slice_get, refl, sym, ap, ◌∙◌, subst, arith, length-append}
use Rattle.std.proofs.lemmas.List.{map-append}
use Rattle.rule_arena.specs.Terms.{Node}
use Rattle.rule_arena.specs.declared.key.Key.{Key}
use Rattle.rule_arena.specs.declared.label.Label.{Label}
use Rattle.rule_arena.specs.declared.label.Label.TheVariants.{Bottom}
use Rattle.slt_grammar.specs.Bodies.{arity, CallsBelow}
use Rattle.slt_grammar.specs.Placing.{placed, placed_node, AreKnown, IsKnown}
use Rattle.slt_grammar.specs.Wrapping.{nodes_of}
use Rattle.slt_grammar.proofs.Collections.{take-there}
use Rattle.slt_grammar.proofs.KeptLemmas.{below-get}
use Rattle.slt_grammar.proofs.Placed.{known-append}

-- the nodes are those of the labels so far
pub record AreShaped (order ranks : List ℕ) (key : Key) (body : List Label) (items : List Node) (i : ℕ) : Type 0 where
  pub seen : placed order items ≡ nodes_of ranks key (take i body)
  pub known : AreKnown order items
  pub many : length items ≡ i

pub shaped-none : (order ranks : List ℕ) (key : Key) (body : List Label) → AreShaped order ranks key body [] 0
shaped-none order ranks key body = record { seen = refl; known = tt; many = refl }

pub shaped-more : (order ranks : List ℕ) (key : Key) (body : List Label) (items more : List Node) (i : ℕ) (l : Label) (n : Node) → AreShaped order ranks key body items i → slice_get body i ≡ Some l
    → placed_node order n ∷ [] ≡ nodes_of ranks key (l ∷ []) → IsKnown order n.label → more ≡ items ++ n ∷ [] → AreShaped order ranks key body more (i + 1)
shaped-more order ranks key body items more i l n S e m k x =
    let z : suc i ≡ i + 1 = omega arith in
    let f : Label → Node = λ t. record { key = key; label = t; kids = arity ranks t } in
    record {
      seen = ap (placed order) x ∙ map-append (placed_node order) items (n ∷ []) ∙ ap (λ (xs : List Node). xs ++ placed_node order n ∷ []) S.seen
          ∙ ap (λ (xs : List Node). nodes_of ranks key (take i body) ++ xs) m ∙ sym (map-append f (take i body) (l ∷ []))
          ∙ ap (nodes_of ranks key) (sym (take-there body i l e)) ∙ ap (λ (j : ℕ). nodes_of ranks key (take j body)) z;
      known = subst (AreKnown order) (sym x) (known-append order items (n ∷ []) S.known (k, tt));
      many = omega (arith, ap length x, length-append items (n ∷ []), S.many);
    }

pub shaped-all : (order ranks : List ℕ) (key : Key) (body : List Label) (items : List Node) (i : ℕ) → AreShaped order ranks key body items i → i ≡ length body → placed order items ≡ nodes_of ranks key body
shaped-all order ranks key body items i S e = S.seen ∙ ap (λ (j : ℕ). nodes_of ranks key (take j body)) e ∙ ap (nodes_of ranks key) (all body)
  where
    all : (ls : List Label) → take (length ls) ls ≡ ls
    all [] = refl
    all (x ∷ ls) = ap (λ xs. x ∷ xs) (all ls)

pub below-at : (n : ℕ) (ls : List Label) (i : ℕ) (l : Label) → CallsBelow n ls → slice_get ls i ≡ Some l → CallsBelow n (l ∷ [])
below-at n ls i l b e = subst (λ (m : Label). CallsBelow n (m ∷ [])) (is ls i e) (below-get n ls i b)
  where
    is : (ls : List Label) (i : ℕ) → slice_get ls i ≡ Some l → get_or ls i Bottom ≡ l
    is [] i e = absurd (let z : slice_get [] i ≡ Some l = e in cc)
    is (x ∷ ls) zero e = cc
    is (x ∷ ls) (suc i) e = is ls i e
