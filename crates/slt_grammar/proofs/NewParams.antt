-- Parameters that are put into an arena, and a body over them.
use Rattle.std.proofs.Common.{◌≡◌, ◌≢◌, inl, inr, ℕ, zero, suc, ◌+◌, ◌<◌, ◌≤◌, List, [], ◌∷◌, ◌++◌, length, set, take, map, Option, Some, None, IsSome, slice_get, refl, sym, ap, ◌∙◌, subst, arith}
use Rattle.rule_arena.specs.Terms.{Node, Terms, Apart, term_at}
use Rattle.rule_arena.specs.declared.key.Key.{Key}
use Rattle.rule_arena.specs.declared.label.Label.{Label}
use Rattle.rule_arena.specs.declared.label.Label.TheVariants.{Bottom, Symbol, Call, Param}
use Rattle.slt_grammar.specs.Copying.{Built, copied, hole, holes_in}
use Rattle.slt_grammar.specs.Holding.{terms_of}
use Rattle.slt_grammar.specs.RulePuts.{param_of, AreNewParams, IsLaid}
use Rattle.slt_grammar.proofs.Growing.{some_none}
use Rattle.slt_grammar.proofs.Storing.{pushed}

pub no-params : (a : Terms) (keys : List Key) → AreNewParams a a (take 0 keys)
no-params a keys = record {
  stand = λ i k e. absurd (let z : slice_get [] i ≡ Some k = e in cc);
  new = λ i k e. absurd (let z : slice_get [] i ≡ Some k = e in cc);
  distinct = λ i j k m e f n. absurd (let z : slice_get [] i ≡ Some k = e in cc);
  keeps = λ r s. refl;
}

take-set : (xs : List Key) (i : ℕ) (x : Key) → i < length xs → take (i + 1) (set xs i x) ≡ take i xs ++ x ∷ []
take-set [] i x h = absurd (omega arith)
take-set (y ∷ xs) zero x h = refl
take-set (y ∷ xs) (suc i) x h = let e : suc i + 1 ≡ suc (i + 1) = omega arith in rw e (ap (λ (ks : List Key). y ∷ ks) (take-set xs i x (omega arith)))

-- one parameter more
pub params-more : (a b c : Terms) (keys : List Key) (i : ℕ) (key : Key) → AreNewParams a b (take i keys) → i < length keys → term_at b key.number ≡ None → term_at c key.number ≡ Some (param_of key)
    → ((r : ℕ) → r ≢ key.number → Apart [] r → term_at c r ≡ term_at b r) → AreNewParams a c (take (i + 1) (set keys i key))
params-more a b c keys i key P h vacant term others =
    subst (AreNewParams a c) (sym (take-set keys i key h)) (record {
      stand = λ j k e. elim (pushed (take i keys) key j k e) [
        | inl o ↦ still k.number (subst (λ (t : Option (List Node)). IsSome t) (sym (P.stand j k o)) refl) ∙ P.stand j k o
        | inr q ↦ subst (λ (x : Key). term_at c x.number ≡ Some (param_of x)) q.1 term
      ];
      new = λ j k e. elim (pushed (take i keys) key j k e) [
        | inl o ↦ P.new j k o
        | inr q ↦ subst (λ (x : Key). term_at a x.number ≡ None) q.1 before
      ];
      distinct = λ j m k q e f n. elim (pushed (take i keys) key j k e) [
        | inl o ↦ elim (pushed (take i keys) key m q f) [
          | inl p ↦ P.distinct j m k q o p n
          | inr p ↦ absurd (other j k o (n ∙ ap (λ (y : Key). y.number) (sym p.1)))
        ]
        | inr o ↦ elim (pushed (take i keys) key m q f) [
          | inl p ↦ absurd (other m q p (sym n ∙ ap (λ (y : Key). y.number) (sym o.1)))
          | inr p ↦ o.0 ∙ sym p.0
        ]
      ];
      keeps = λ r s. still r (subst (λ (t : Option (List Node)). IsSome t) (sym (P.keeps r s)) s) ∙ P.keeps r s;
    })
  where
    still : (r : ℕ) → IsSome (term_at b r) → term_at c r ≡ term_at b r
    still r s = others r (λ z. some_none (term_at b r) s (ap (λ (q : ℕ). term_at b q) z ∙ vacant)) (λ j k e. absurd (let z : slice_get [] j ≡ Some k = e in cc))

    before : term_at a key.number ≡ None
    before = at (term_at a key.number) refl
      where
        at : (o : Option (List Node)) → term_at a key.number ≡ o → term_at a key.number ≡ None
        at None t = t
        at (Some ns) t = sym (P.keeps key.number (subst (λ (o : Option (List Node)). IsSome o) (sym t) refl)) ∙ vacant

    other : (j : ℕ) (k : Key) → slice_get (take i keys) j ≡ Some k → k.number ≡ key.number → ⊥
    other j k o z =
        some_none (term_at b k.number) (subst (λ (t : Option (List Node)). IsSome t) (sym (P.stand j k o)) refl) (ap (λ (q : ℕ). term_at b q) z ∙ vacant)

terms-are : (b : Terms) (keys : List Key) → ((i : ℕ) (k : Key) → slice_get keys i ≡ Some k → term_at b k.number ≡ Some (param_of k)) → terms_of b keys ≡ map param_of keys
terms-are b [] s = refl
terms-are b (k ∷ keys) s = rw (s 0 k refl, terms-are b keys (λ i m e. s (suc i) m e)) refl

-- a body over new parameters
pub laid-over : (a b c : Terms) (ns : List Node) (args : List Key) (root follow followed : Key) → AreNewParams a b args → Built b c ns args root follow followed → holes_in ns ≡ length args → IsLaid a c ns root
laid-over a b c ns args root follow followed P B n = record {
  leaves = args;
  enough = sym n;
  keys = B.keys;
  term = B.term ∙ ap (λ (gs : List (List Node)). Some (copied ns gs B.keys)) (terms-are b args P.stand);
  new = elim B.origin [ inl v ↦ before v | inr w ↦ P.new w.0 root w.1 ];
  keeps = λ r s.
      B.others r (subst (λ (t : Option (List Node)). IsSome t) (sym (P.keeps r s)) s) (λ i k e z. some_none (term_at a r) s (ap (λ (q : ℕ). term_at a q) (sym z) ∙ P.new i k e))
      ∙ P.keeps r s;
}
  where
    before : term_at b root.number ≡ None → term_at a root.number ≡ None
    before v = at (term_at a root.number) refl
      where
        at : (o : Option (List Node)) → term_at a root.number ≡ o → term_at a root.number ≡ None
        at None t = t
        at (Some ms) t = sym (P.keeps root.number (subst (λ (o : Option (List Node)). IsSome o) (sym t) refl)) ∙ v

-- no more parameters than nodes
pub holes-few : (ns : List Node) → holes_in ns ≤ length ns
holes-few [] = omega arith
holes-few (n ∷ ns) = at n.label (holes-few ns)
  where
    at : (l : Label) → holes_in ns ≤ length ns → hole l + holes_in ns ≤ suc (length ns)
    at Bottom h = omega arith
    at (Symbol f) h = omega arith
    at (Call q) h = omega arith
    at Param h = omega arith
