-- One body that is changed in the arena, as the rules are seen.
use Rattle.std.proofs.Common.{◌≡◌, ◌≢◌, inl, inr, ℕ, zero, suc, ◌+◌, ◌<◌, List, [], ◌∷◌, ◌++◌, length, set, take, drop, Option, Some, IsSome, slice_get, refl, sym, ap, ◌∙◌, subst, arith}
use Rattle.std.proofs.lemmas.Bool.{cases_eq}
use Rattle.std.proofs.lemmas.List.{length-map, length-set}
use Rattle.std.proofs.lemmas.Option.{slice_get_within}
use Rattle.rule_arena.specs.Terms.{Node, Terms, Apart, term_at, or_nothing}
use Rattle.rule_arena.specs.declared.key.Key.{Key}
use Rattle.slt_grammar.specs.Grammars.{rank_at}
use Rattle.slt_grammar.specs.Keyed.{KeyedRule, rules_of}
use Rattle.slt_grammar.specs.KeyedEdits.{with_nodes}
use Rattle.slt_grammar.specs.Holding.{seen, terms_of, AllKnown, AreHeld, AreRules, AreCounted, IsLawful, IsKept, Changed}
use Rattle.slt_grammar.specs.Placing.{placed, AreKnown}

-- bodies of which one is another
pub terms-set : (a b : Terms) (ks ms : List Key) (i : ℕ) (ns : List Node) → i < length ks → length ms ≡ length ks
    → ((k : Key) → slice_get ms i ≡ Some k → or_nothing (term_at b k.number) ≡ ns)
    → ((j : ℕ) (k m : Key) → j ≢ i → slice_get ks j ≡ Some k → slice_get ms j ≡ Some m → or_nothing (term_at b m.number) ≡ or_nothing (term_at a k.number))
    → terms_of b ms ≡ set (terms_of a ks) i ns
terms-set a b [] ms i ns h l e o = absurd (omega arith)
terms-set a b (k ∷ ks) [] i ns h l e o = absurd (omega arith)
terms-set a b (k ∷ ks) (m ∷ ms) zero ns h l e o =
    let x : or_nothing (term_at b m.number) ≡ ns = e m refl in
    rw (x, all ks ms (omega arith) (λ j p q f g. o (suc j) p q (λ z. absurd (omega arith)) f g)) refl
  where
    all : (ks ms : List Key) → length ms ≡ length ks → ((j : ℕ) (k m : Key) → slice_get ks j ≡ Some k → slice_get ms j ≡ Some m → or_nothing (term_at b m.number) ≡ or_nothing (term_at a k.number)) → terms_of b ms ≡ terms_of a ks
    all [] [] l o = refl
    all [] (m ∷ ms) l o = absurd (omega arith)
    all (k ∷ ks) [] l o = absurd (omega arith)
    all (k ∷ ks) (m ∷ ms) l o =
        let x : or_nothing (term_at b m.number) ≡ or_nothing (term_at a k.number) = o 0 k m refl refl in
        rw (x, all ks ms (omega arith) (λ j p q f g. o (suc j) p q f g)) refl
terms-set a b (k ∷ ks) (m ∷ ms) (suc i) ns h l e o =
    let x : or_nothing (term_at b m.number) ≡ or_nothing (term_at a k.number) = o 0 k m (λ z. absurd (omega arith)) refl refl in
    rw (x, terms-set a b ks ms i ns (omega arith) (omega arith) e (λ j p q n f g. o (suc j) p q (λ z. n (omega arith)) f g)) refl

pub one_key : (x y : Key) (o : Option Key) → o ≡ Some x → o ≡ Some y → x ≡ y
one_key x y o e f = cc

-- under the same roots, the term of one is another
pub changed-one : (a b : Terms) (roots : List Key) (r : ℕ) (root : Key) (ms : List Node) → AreHeld a roots → slice_get roots r ≡ Some root → term_at b root.number ≡ Some ms
    → ((s : ℕ) → IsSome (term_at a s) → s ≢ root.number → term_at b s ≡ term_at a s) → Changed a b roots roots r ms
changed-one a b roots r root ms H there here others = record {
  held = record {
    stands = λ j m e. elim (cases_eq j r) [
      | inl z ↦ subst (λ (q : Key). IsSome (term_at b q.number)) (sym (at-r j m z e)) (subst (λ (t : Option (List Node)). IsSome t) (sym here) refl)
      | inr d ↦ subst (λ (t : Option (List Node)). IsSome t) (sym (still j m d e)) (H.stands j m e)
    ];
    distinct = H.distinct;
  };
  bodies = terms-set a b roots roots r ms (slice_get_within roots r root there) refl
      (λ m e. ap or_nothing (ap (λ (q : Key). term_at b q.number) (at-r r m refl e) ∙ here))
      (λ j p q d e f. ap or_nothing (still j q d f ∙ ap (λ (u : Key). term_at a u.number) (one_key q p (slice_get roots j) f e)));
}
  where
    still : (j : ℕ) (m : Key) → j ≢ r → slice_get roots j ≡ Some m → term_at b m.number ≡ term_at a m.number
    still j m d e = others m.number (H.stands j m e) (λ z. d (H.distinct j r m root e there z))

    at-r : (j : ℕ) (m : Key) → j ≡ r → slice_get roots j ≡ Some m → m ≡ root
    at-r j m z e = one_key m root (slice_get roots r) (ap (λ (p : ℕ). slice_get roots p) (sym z) ∙ e) there

pub set-set : (xs : List (List Node)) (i : ℕ) (y z : List Node) → set (set xs i y) i z ≡ set xs i z
set-set [] i y z = refl
set-set (x ∷ xs) zero y z = refl
set-set (x ∷ xs) (suc i) y z = ap (λ zs. x ∷ zs) (set-set xs i y z)

-- a term that no body is was freed
pub changed-cut : (a b c : Terms) (roots news : List Key) (r : ℕ) (ms : List Node) (at : Key) → Changed a b roots news r ms → Apart news at.number → ((s : ℕ) → s ≢ at.number → term_at c s ≡ term_at b s) → Changed a c roots news r ms
changed-cut a b c roots news r ms at C apart others = record {
  held = record { stands = λ i k e. subst (λ (t : Option (List Node)). IsSome t) (sym (others k.number (apart i k e))) (C.held.stands i k e); distinct = C.held.distinct };
  bodies = same news (λ i k e. others k.number (apart i k e)) ∙ C.bodies;
}
  where
    same : (ks : List Key) → ((i : ℕ) (k : Key) → slice_get ks i ≡ Some k → term_at c k.number ≡ term_at b k.number) → terms_of c ks ≡ terms_of b ks
    same [] h = refl
    same (k ∷ ks) h = rw (h 0 k refl, same ks (λ i m e. h (suc i) m e)) refl

-- the same body changed twice
pub changed-twice : (a b c : Terms) (roots mids news : List Key) (r : ℕ) (ms ns : List Node) → Changed a b roots mids r ms → Changed b c mids news r ns → Changed a c roots news r ns
changed-twice a b c roots mids news r ms ns C D = record {
  held = D.held;
  bodies = D.bodies ∙ ap (λ (bs : List (List Node)). set bs r ns) C.bodies ∙ set-set (terms_of a roots) r ms ns;
}

pub seen-set : (order ranks : List ℕ) (bodies : List (List Node)) (r : ℕ) (ms : List Node) → length ranks ≡ length bodies → r < length bodies
    → seen order ranks (set bodies r ms) ≡ with_nodes (seen order ranks bodies) r (placed order ms)
seen-set order [] bodies r ms e h = absurd (omega arith)
seen-set order (x ∷ ranks) [] r ms e h = absurd (omega arith)
seen-set order (x ∷ ranks) (b ∷ bodies) zero ms e h = refl
seen-set order (x ∷ ranks) (b ∷ bodies) (suc r) ms e h =
    let z : suc r + 1 ≡ suc (r + 1) = omega arith in
    let R : KeyedRule = record { rank = x; nodes = placed order b } in
    ap (λ (G : List KeyedRule). R ∷ G) (seen-set order ranks bodies r ms (omega arith) (omega arith))
    ∙ ap (λ (m : ℕ). take (suc r) (seen order (x ∷ ranks) (b ∷ bodies)) ++ record { rank = rank_at (rules_of (seen order ranks bodies)) r; nodes = placed order ms } ∷ drop m (seen order (x ∷ ranks) (b ∷ bodies))) (sym z)

pub known-set : (order : List ℕ) (bodies : List (List Node)) (r : ℕ) (ms : List Node) → AllKnown order bodies → AreKnown order ms → AllKnown order (set bodies r ms)
known-set order [] r ms k m = tt
known-set order (b ∷ bodies) zero ms k m = (m, k.1)
known-set order (b ∷ bodies) (suc r) ms k m = (k.0, known-set order bodies r ms k.1 m)

-- rules of which one was changed
module _ (a b : Terms) (roots news : List Key) (ranks order : List ℕ) (r : ℕ) (ms : List Node) (R : AreRules a roots ranks order) (C : Changed a b roots news r ms) (h : r < length roots) where
  bodies-many : length (terms_of a roots) ≡ length roots
  bodies-many = length-map roots (λ (k : Key). or_nothing (term_at a k.number))

  pub many-news : length news ≡ length roots
  many-news =
      sym (length-map news (λ (k : Key). or_nothing (term_at b k.number))) ∙ ap length C.bodies
      ∙ length-set (terms_of a roots) r ms ∙ bodies-many

  pub seen-changed : (G : List KeyedRule) → seen order ranks (terms_of a roots) ≡ G → seen order ranks (terms_of b news) ≡ with_nodes G r (placed order ms)
  seen-changed G see =
      ap (λ (bs : List (List Node)). seen order ranks bs) C.bodies
      ∙ seen-set order ranks (terms_of a roots) r ms (R.ranked ∙ sym bodies-many) (omega (arith, bodies-many))
      ∙ ap (λ (H : List KeyedRule). with_nodes H r (placed order ms)) see

  pub rules-changed : AreKnown order ms → AreRules b news ranks order
  rules-changed k = record {
    held = C.held;
    ranked = R.ranked ∙ sym many-news;
    ordered = R.ordered ∙ sym many-news;
    known = subst (AllKnown order) (sym C.bodies) (known-set order (terms_of a roots) r ms R.known k);
  }

  pub kept-changed : (G : List KeyedRule) (calls : List ℕ) (nodes : ℕ) → seen order ranks (terms_of a roots) ≡ G → AreKnown order ms → IsLawful (with_nodes G r (placed order ms)) → AreCounted (with_nodes G r (placed order ms)) calls nodes
      → IsKept b news ranks calls order nodes
  kept-changed G calls nodes see k L N = record {
    rules = rules-changed k;
    lawful = subst IsLawful (sym (seen-changed G see)) L;
    counted = subst (λ (H : List KeyedRule). AreCounted H calls nodes) (sym (seen-changed G see)) N;
  }
