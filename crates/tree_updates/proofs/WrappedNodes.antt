-- A node that stands in the hole of a code, by its number.
use Rattle.std.proofs.Common.{◌≡◌, ℕ, ◌-◌, List, [], ◌∷◌, ◌++◌, length, ap, sym, ◌∙◌, subst}
use Rattle.rule_arena.specs.declared.key.Key.{Key}
use Rattle.rule_arena.specs.declared.label.Label.{Label}
use Rattle.slt_grammar.specs.Algebras.{meaning, ranks_of, all_meanings}
use Rattle.slt_grammar.specs.ChangedValues.{DifferAt, StandsWithin, term_around}
use Rattle.slt_grammar.specs.Grammars.{IsGrammar, value}
use Rattle.slt_grammar.specs.Keyed.{KeyedRule, rules_of}
use Rattle.slt_grammar.specs.Terms.{Term, Leaf, Node, Hole, holes, holes_of, substitute, term_algebra}
use Rattle.slt_grammar.specs.Wrapping.{IsInStart}
use Rattle.slt_grammar.proofs.ChangedValues.{relabelled-value}
use Rattle.slt_grammar.proofs.KeyedLemmas.{key_at-within}
use Rattle.tree_updates.specs.Fragments.{GetsBefore}
use Rattle.tree_updates.specs.Numbered.{IsNodeIsolated}
use Rattle.tree_updates.proofs.InStart.{differ-number, last}

-- the one hole of a node stands on one of its sides
data Split (a b : Term) : Type 0 where
  on_left : holes_of a ≡ Hole 0 ∷ [] → holes_of b ≡ [] → Split a b
  on_right : holes_of a ≡ [] → holes_of b ≡ Hole 0 ∷ [] → Split a b

split-holes : (a b : Term) → holes_of a ++ holes_of b ≡ Hole 0 ∷ [] → Split a b
split-holes a b e = by (holes_of a) (holes_of b) (λ h k. on_left h k) (λ h k. on_right h k) e
  where
    by : (xs ys : List Term) → (xs ≡ Hole 0 ∷ [] → ys ≡ [] → Split a b) → (xs ≡ [] → ys ≡ Hole 0 ∷ [] → Split a b) → xs ++ ys ≡ Hole 0 ∷ [] → Split a b
    by [] ys l r e = r refl' e
      where
        refl' : let none : List Term = [] in none ≡ []
        refl' = cc
    by (x ∷ []) [] l r e = l e cc
    by (x ∷ []) (y ∷ ys) l r e = absurd cc
    by (x ∷ z ∷ xs) ys l r e = absurd cc

left-of : (f g : ℕ) (a b c d : Term) → Node f a b ≡ Node g c d → a ≡ c
left-of f g a b c d e = cc

right-of : (f g : ℕ) (a b c d : Term) → Node f a b ≡ Node g c d → b ≡ d
right-of f g a b c d e = cc

-- what stands in the one hole of a term is told by the whole
pub one-filling : (C a b : Term) → holes_of C ≡ Hole 0 ∷ [] → substitute C (a ∷ []) ≡ substitute C (b ∷ []) → a ≡ b
one-filling Leaf a b h e = absurd cc
one-filling (Hole i) a b h e =
    let z : i ≡ 0 = zero-is i h in
    let f : (x : Term) → substitute (Hole i) (x ∷ []) ≡ x = λ x. ap (λ (j : ℕ). substitute (Hole j) (x ∷ [])) z in
    sym (f a) ∙ e ∙ f b
  where
    zero-is : (i : ℕ) → Hole i ∷ [] ≡ Hole 0 ∷ [] → i ≡ 0
    zero-is i e = cc
one-filling (Node f c d) a b h e =
    by (split-holes c d h)
    (λ p. one-filling c a b p (left-of f f (substitute c (a ∷ [])) (substitute d (a ∷ [])) (substitute c (b ∷ [])) (substitute d (b ∷ [])) e))
    (λ p. one-filling d a b p (right-of f f (substitute c (a ∷ [])) (substitute d (a ∷ [])) (substitute c (b ∷ [])) (substitute d (b ∷ [])) e))
  where
    by : Split c d → (holes_of c ≡ Hole 0 ∷ [] → a ≡ b) → (holes_of d ≡ Hole 0 ∷ [] → a ≡ b) → a ≡ b
    by (on_left p q) l r = l p
    by (on_right p q) l r = r q

-- the node as one that `wrap` takes
abbrev pub in-start-rule : (H : List KeyedRule) (n : ℕ) (key : Key) → IsNodeIsolated H n key → IsInStart H key
in-start-rule H n key I = record { here = record { rule = length H - 1; place = I.place; there = I.there }; start = last H n key I }

-- a node that was isolated, and around which a body of such a meaning was put
pub gets-before : (G H K : List KeyedRule) (n : ℕ) (key : Key) (I : IsNodeIsolated H n key) → IsGrammar (rules_of H) → value (rules_of H) ≡ value (rules_of G) → (body : List Label) → StandsWithin (rules_of H) (rules_of K) I.place body → (front : Term)
    → meaning term_algebra (ranks_of (rules_of H)) (all_meanings term_algebra (rules_of H)) body (holes 0 1) ≡ front → GetsBefore (rules_of G) (rules_of K) n front
gets-before G H K n key I g v body S front m =
    let there = (key_at-within H (length H - 1) I.place key I.there).1 in
    let C = relabelled-value H (length H - 1) I.place (last H n key I) there g I.symbol I.label I.symbol in
    let this : Term = Node C.was C.left C.right in
    let same : S.term ≡ this = one-filling (term_around (rules_of H) I.place) S.term this S.differ.once (sym S.differ.first ∙ C.differ.first) in
    let D : DifferAt (rules_of H) (rules_of K) I.place this (substitute front (this ∷ [])) =
    subst (λ (x : Term). DifferAt (rules_of H) (rules_of K) I.place x (substitute front (x ∷ []))) same
    (subst (λ (y : Term). DifferAt (rules_of H) (rules_of K) I.place S.term (substitute y (S.term ∷ []))) m S.differ) in
    record { symbol = C.was; left = C.left; right = C.right; differ = differ-number (rules_of G) (rules_of H) (rules_of K) I.place n this (substitute front (this ∷ [])) v D I.before }
