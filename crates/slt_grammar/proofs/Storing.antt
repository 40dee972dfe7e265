-- Rules that are put into an arena one after another.
use Rattle.std.proofs.Common.{◌≡◌, ◌⊎◌, inl, inr, ℕ, zero, suc, ◌+◌, ◌<◌, ◌≤◌, List, [], ◌∷◌, ◌++◌, length, get_or, take, Option, Some, None, IsSome, slice_get, refl, sym, ap, ◌∙◌, subst, arith, length-append}
use Rattle.std.proofs.Math.ListN.{get_or-map}
use Rattle.std.proofs.lemmas.List.{take_more, map-append, append-nil, length-take-le, length-map}
use Rattle.rule_arena.specs.Terms.{Node, Terms, term_at, or_nothing}
use Rattle.rule_arena.specs.declared.key.Key.{Key}
use Rattle.slt_grammar.specs.Algebras.{ranks_of}
use Rattle.slt_grammar.specs.Bodies.{CallsBelow}
use Rattle.slt_grammar.specs.Grammars.{IsGrammar, no_rule, body_at, rank_at, calls_of, size}
use Rattle.slt_grammar.specs.Keyed.{KeyedRule, rules_of, labels_of, nodes_at, HasArities}
use Rattle.slt_grammar.specs.Holding.{seen, terms_of, AreHeld, AllKnown, IsKept}
use Rattle.slt_grammar.specs.Building.{AreBuilt, TermsStay}
use Rattle.slt_grammar.specs.Ordering.{IsThere, place_of}
use Rattle.slt_grammar.specs.Placing.{placed}
use Rattle.slt_grammar.proofs.CallCounts.{below-more}
use Rattle.slt_grammar.proofs.Growing.{some_none}
use Rattle.slt_grammar.proofs.Seen.{seen-push, known-push, placed-own, known-own, length-seen}
use Rattle.slt_grammar.specs.declared.rules.Rule.{Rule}

-- each rule has its place as its identity
pub record AreOwn (order : List ℕ) (n : ℕ) : Type 0 where
  pub many : length order ≡ n
  pub there : (q : ℕ) → q < n → IsThere order q
  pub places : (q : ℕ) → q < n → place_of order q ≡ q

-- the first rules of a list are held, with their calls by a table
pub record AreStored (G : List Rule) (calls order : List ℕ) (r : ℕ) (a : Terms) (roots : List Key) (ranks counts : List ℕ) : Type 0 where
  pub held : AreHeld a roots
  pub ranked : length ranks ≡ length roots
  pub known : AllKnown order (terms_of a roots)
  pub rules : rules_of (seen order ranks (terms_of a roots)) ≡ take r G
  pub arities : (i : ℕ) → HasArities (ranks_of G) (nodes_at (seen order ranks (terms_of a roots)) i)
  pub counted : length counts ≡ length roots
  pub right : (i : ℕ) → i < length roots → get_or counts i 0 ≡ get_or calls i 0

-- an item of a list with one more
pub pushed : {X : Type 0} (xs : List X) (x : X) (i : ℕ) (y : X) → slice_get (xs ++ x ∷ []) i ≡ Some y → (slice_get xs i ≡ Some y) ⊎ ((i ≡ length xs) × (x ≡ y))
pushed [] x zero y e = inr (refl, cc)
pushed [] x (suc i) y e = absurd (cc)
pushed (z ∷ xs) x zero y e = inl e
pushed (z ∷ xs) x (suc i) y e = elim (pushed xs x i y e) [ inl h ↦ inl h | inr h ↦ inr (ap suc h.0, h.1) ]

-- what holds of the nodes of each rule, with one rule more
nodes_at-pushed : (P : List Node → Type 0) (K : List KeyedRule) (k : KeyedRule) → P [] → ((i : ℕ) → P (nodes_at K i)) → P k.nodes → (i : ℕ) → P (nodes_at (K ++ k ∷ []) i)
nodes_at-pushed P [] k n h l zero = l
nodes_at-pushed P [] k n h l (suc i) = n
nodes_at-pushed P (x ∷ K) k n h l zero = h 0
nodes_at-pushed P (x ∷ K) k n h l (suc i) = nodes_at-pushed P K k n (λ j. h (suc j)) l i

-- terms that stand as before are the same list
pub terms-same : (a b : Terms) (roots : List Key) → ((i : ℕ) (k : Key) → slice_get roots i ≡ Some k → term_at b k.number ≡ term_at a k.number) → terms_of b roots ≡ terms_of a roots
terms-same a b [] same = refl
terms-same a b (k ∷ roots) same = rw (same 0 k refl, terms-same a b roots (λ i x e. same (suc i) x e)) refl

counts-push : (counts calls : List ℕ) (c n : ℕ) → length counts ≡ n → ((i : ℕ) → i < n → get_or counts i 0 ≡ get_or calls i 0) → c ≡ get_or calls n 0 → (i : ℕ) → i < n + 1 → get_or (counts ++ c ∷ []) i 0 ≡ get_or calls i 0
counts-push [] calls c zero l h e zero k = e
counts-push [] calls c zero l h e (suc i) k = absurd (omega arith)
counts-push [] calls c (suc n) l h e i k = absurd (omega arith)
counts-push (x ∷ counts) calls c zero l h e i k = absurd (omega arith)
counts-push (x ∷ counts) calls c (suc n) l h e zero k = h 0 (omega arith)
counts-push (x ∷ counts) [] c (suc n) l h e (suc i) k = counts-push counts [] c n (omega arith) (λ j m. h (suc j) (omega arith)) e i (omega arith)
counts-push (x ∷ counts) (y ∷ calls) c (suc n) l h e (suc i) k = counts-push counts calls c n (omega arith) (λ j m. h (suc j) (omega arith)) e i (omega arith)

module _ (G : List Rule) (calls order : List ℕ) (r : ℕ) (a b : Terms) (roots : List Key) (ranks counts : List ℕ) (root : Key) (rank count : ℕ) (own : AreOwn order (length G))
    (S : AreStored G calls order r a roots ranks counts) (h : r < length G) (g : IsGrammar G) (keeps : TermsStay a b)
    (vacant : term_at a root.number ≡ None) (built : AreBuilt (ranks_of G) b (root ∷ []) (body_at G r)) (rank_is : rank ≡ rank_at G r) (count_is : count ≡ get_or calls r 0) where
  nodes : List Node
  nodes = or_nothing (term_at b root.number)

  same : (i : ℕ) (k : Key) → slice_get roots i ≡ Some k → term_at b k.number ≡ term_at a k.number
  same i k e = keeps k.number (S.held.stands i k e)

  bodies : length (terms_of a roots) ≡ length roots
  bodies = length-map roots (λ (k : Key). or_nothing (term_at a k.number))

  length-stored : length roots ≡ r
  length-stored =
      sym (length-map (seen order ranks (terms_of a roots)) _ ∙ length-seen order ranks (terms_of a roots) (S.ranked ∙ sym bodies) ∙ bodies)
      ∙ ap length S.rules ∙ length-take-le r G (omega arith)

  labels-are : labels_of (or_nothing (term_at b root.number)) ≡ body_at G r
  labels-are = ap labels_of (sym (append-nil (or_nothing (term_at b root.number)))) ∙ built.labelled

  below : CallsBelow (length G) (labels_of (or_nothing (term_at b root.number)))
  below = subst (λ ls. CallsBelow (length G) ls) (sym labels-are) (below-more r (length G) (body_at G r) (omega arith) (g.each r h).earlier)

  own-nodes : placed order (or_nothing (term_at b root.number)) ≡ or_nothing (term_at b root.number)
  own-nodes = placed-own order (length G) own.places (or_nothing (term_at b root.number)) below

  terms-more : terms_of b (roots ++ root ∷ []) ≡ terms_of a roots ++ or_nothing (term_at b root.number) ∷ []
  terms-more =
      map-append _ roots (root ∷ []) ∙ ap (λ (bs : List (List Node)). bs ++ or_nothing (term_at b root.number) ∷ []) (terms-same a b roots same)

  seen-more : seen order (ranks ++ rank ∷ []) (terms_of b (roots ++ root ∷ [])) ≡ seen order ranks (terms_of a roots) ++ record { rank = rank; nodes = or_nothing (term_at b root.number) } ∷ []
  seen-more =
      ap (λ (bs : List (List Node)). seen order (ranks ++ rank ∷ []) bs) terms-more
      ∙ seen-push order ranks (terms_of a roots) rank (or_nothing (term_at b root.number)) (S.ranked ∙ sym bodies)
      ∙ ap (λ (ns : List Node). seen order ranks (terms_of a roots) ++ record { rank = rank; nodes = ns } ∷ []) own-nodes

  rule-is : record { rank = rank; body = labels_of (or_nothing (term_at b root.number)) } ≡ get_or G r no_rule
  rule-is = rw (rank_is, labels-are) refl

  pub stored-more : AreStored G calls order (r + 1) b (roots ++ root ∷ []) (ranks ++ rank ∷ []) (counts ++ count ∷ [])
  stored-more = record {
    held = record { stands = stands; distinct = distinct };
    ranked = length-append ranks (rank ∷ []) ∙ ap (λ (n : ℕ). n + 1) S.ranked ∙ sym (length-append roots (root ∷ []));
    known = subst (AllKnown order) (sym terms-more) (known-push order (terms_of a roots) (or_nothing (term_at b root.number)) S.known (known-own order (length G) own.there (or_nothing (term_at b root.number)) below));
    rules = ap rules_of seen-more ∙ map-append _ (seen order ranks (terms_of a roots)) (record { rank = rank; nodes = or_nothing (term_at b root.number) } ∷ [])
        ∙ ap (λ (Q : List Rule). Q ++ record { rank = rank; body = labels_of (or_nothing (term_at b root.number)) } ∷ []) S.rules
        ∙ ap (λ (Q : Rule). take r G ++ Q ∷ []) rule-is ∙ sym (take_more G r no_rule h);
    arities = λ i. subst (λ (K : List KeyedRule). HasArities (ranks_of G) (nodes_at K i)) (sym seen-more)
        (nodes_at-pushed (HasArities (ranks_of G)) (seen order ranks (terms_of a roots)) (record { rank = rank; nodes = or_nothing (term_at b root.number) })
        (λ k d n. absurd (omega arith)) S.arities (subst (λ (ns : List Node). HasArities (ranks_of G) ns) (append-nil (or_nothing (term_at b root.number))) built.arities) i);
    counted = length-append counts (count ∷ []) ∙ ap (λ (n : ℕ). n + 1) S.counted ∙ sym (length-append roots (root ∷ []));
    right = λ i k. counts-push counts calls count (length roots) S.counted S.right (count_is ∙ ap (λ (m : ℕ). get_or calls m 0) (sym length-stored)) i (omega (arith, length-append roots (root ∷ [])));
  }
    where
      stands : (i : ℕ) (k : Key) → slice_get (roots ++ root ∷ []) i ≡ Some k → IsSome (term_at b k.number)
      stands i k e = elim (pushed roots root i k e) [
        | inl o ↦ subst (λ (t : Option (List Node)). IsSome t) (sym (same i k o)) (S.held.stands i k o)
        | inr q ↦ subst (λ (x : Key). IsSome (term_at b x.number)) q.1 (built.stand 0 root refl)
      ]

      distinct : (i j : ℕ) (k m : Key) → slice_get (roots ++ root ∷ []) i ≡ Some k → slice_get (roots ++ root ∷ []) j ≡ Some m → k.number ≡ m.number → i ≡ j
      distinct i j k m e f n = elim (pushed roots root i k e) [
        | inl o ↦ elim (pushed roots root j m f) [
          | inl p ↦ S.held.distinct i j k m o p n
          | inr q ↦ absurd (some_none (term_at a k.number) (S.held.stands i k o) (ap (λ (x : ℕ). term_at a x) (n ∙ ap (λ (y : Key). y.number) (sym q.1)) ∙ vacant))
        ]
        | inr x ↦ elim (pushed roots root j m f) [
          | inl p ↦ absurd (some_none (term_at a m.number) (S.held.stands j m p) (ap (λ (x : ℕ). term_at a x) (sym n ∙ ap (λ (y : Key). y.number) (sym x.1)) ∙ vacant))
          | inr q ↦ x.0 ∙ sym q.0
        ]
      ]

-- where all rules are stored, all is kept
pub all-kept : (G : List Rule) (calls order : List ℕ) (r : ℕ) (a : Terms) (roots : List Key) (ranks counts : List ℕ) (nodes : ℕ) → AreOwn order (length G) → AreStored G calls order r a roots ranks counts
    → r ≡ length G → IsGrammar G → ((q : ℕ) → q < length G → get_or calls q 0 ≡ calls_of G q) → nodes ≡ size G
    → IsKept a roots ranks counts order nodes × (rules_of (seen order ranks (terms_of a roots)) ≡ G)
all-kept G calls order r a roots ranks counts nodes own S e g c z =
    let bodies : length (terms_of a roots) ≡ length roots = length-map roots (λ (k : Key). or_nothing (term_at a k.number)) in
    let R : rules_of (seen order ranks (terms_of a roots)) ≡ G = S.rules ∙ ap (λ (m : ℕ). take m G) e ∙ take-all G in
    let n : length (seen order ranks (terms_of a roots)) ≡ length roots = length-seen order ranks (terms_of a roots) (S.ranked ∙ sym bodies) ∙ bodies in
    let len : length roots ≡ length G = sym n ∙ sym (length-map (seen order ranks (terms_of a roots)) _) ∙ ap length R in (
      record {
        rules = record { held = S.held; ranked = S.ranked; ordered = own.many ∙ sym len; known = S.known };
        lawful = record {
          grammar = subst IsGrammar (sym R) g;
          arities = λ i. subst (λ (Q : List Rule). HasArities (ranks_of Q) (nodes_at (seen order ranks (terms_of a roots)) i)) (sym R) (S.arities i);
        };
        counted = record {
          many = S.counted ∙ sym n;
          each = λ i h. S.right i (omega (arith, n)) ∙ c i (omega (arith, n, len)) ∙ ap (λ (Q : List Rule). calls_of Q i) (sym R);
          real = z ∙ ap size (sym R);
        };
      },
      R,
    )
  where
    take-all : (xs : List Rule) → take (length xs) xs ≡ xs
    take-all [] = refl
    take-all (x ∷ xs) = ap (λ (ys : List Rule). x ∷ ys) (take-all xs)

-- no rank of a grammar passes 8
pub ranks-small : (G : List Rule) → IsGrammar G → (q : ℕ) → get_or (ranks_of G) q 0 ≤ 8
ranks-small G g q = rw (get_or-map (λ (R : Rule). R.rank) G q no_rule) (at G q (λ j h. (g.each j h).shaped.small))
  where
    at : (Q : List Rule) (i : ℕ) → ((j : ℕ) → j < length Q → rank_at Q j ≤ 8) → rank_at Q i ≤ 8
    at [] i h = omega arith
    at (R ∷ Q) zero h = h 0 (omega arith)
    at (R ∷ Q) (suc i) h = at Q i (λ j k. h (suc j) (omega arith))
