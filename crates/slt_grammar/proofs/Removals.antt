-- Rules of which one was dropped.
use Rattle.std.proofs.Common.{◌≡◌, ◌≢◌, ◌⊎◌, inl, inr, ℕ, zero, suc, ◌+◌, ◌-◌, ◌<◌, ◌≤◌, List, [], ◌∷◌, ◌++◌, length, get_or, take, drop, map, Option, Some, IsSome, slice_get, refl, sym, ap, ◌∙◌, subst, arith, remove}
use Rattle.std.proofs.Math.ListN.{get_or-map}
use Rattle.std.proofs.lemmas.Bool.{cases_eq, cases_lt, eq-eqb, ne_eqb}
use Rattle.std.proofs.lemmas.List.{length-map}
use Rattle.std.specs.Prelude.{if◌then◌else◌, eqb}
use Rattle.rule_arena.specs.Preorder.{AreTerms}
use Rattle.rule_arena.specs.Terms.{Node, Terms, term_at, or_nothing}
use Rattle.rule_arena.specs.declared.key.Key.{Key}
use Rattle.rule_arena.specs.declared.label.Label.{Label}
use Rattle.rule_arena.specs.declared.label.Label.TheVariants.{Bottom, Symbol, Call, Param}
use Rattle.slt_grammar.specs.Algebras.{ranks_of}
use Rattle.slt_grammar.specs.Bodies.{arity, params, real_nodes, calls_in, CallsBelow, IsTerm}
use Rattle.slt_grammar.specs.Editing.{shifted, shifted_label, shifted_rule, rule_added}
use Rattle.slt_grammar.specs.Grammars.{IsGrammar, IsLawfulAt, body_at, rank_at, calls_of, size, value, value_at, no_rule}
use Rattle.slt_grammar.specs.Holding.{terms_of, AreHeld}
use Rattle.slt_grammar.specs.Placing.{unshifted, unshifted_label}
use Rattle.slt_grammar.specs.RuleValues.{HasRuleMore}
use Rattle.slt_grammar.specs.declared.rules.Rule.{Rule}
use Rattle.slt_grammar.proofs.CallCounts.{below-more}
use Rattle.slt_grammar.proofs.Keeping.{shifted-before, shifted-behind}
use Rattle.slt_grammar.proofs.Values.{value-added, value_at-added}
use Rattle.slt_grammar.proofs.Weights.{weigh, call_weight, real_weight, calls-weigh, real-weigh, total, calls-total, size-total}

-- a list without one of its items
remove-get : {X : Type 0} (xs : List X) (p i : ℕ) (x : X) → slice_get (remove xs p) i ≡ Some x → ((i < p) × (slice_get xs i ≡ Some x)) ⊎ ((p ≤ i) × (slice_get xs (suc i) ≡ Some x))
remove-get [] zero i x e = absurd (cc)
remove-get [] (suc p) i x e = absurd (cc)
remove-get (y ∷ xs) zero i x e = inr (omega arith, e)
remove-get (y ∷ xs) (suc p) zero x e = inl (omega arith, e)
remove-get (y ∷ xs) (suc p) (suc i) x e = elim (remove-get xs p i x e) [ inl h ↦ inl (let a = h.0 in omega arith, h.1) | inr h ↦ inr (let a = h.0 in omega arith, h.1) ]

-- the roots that are left
module _ (a b : Terms) (roots : List Key) (p : ℕ) (root : Key) (H : AreHeld a roots) (there : slice_get roots p ≡ Some root) (kept : (r : ℕ) → r ≢ root.number → term_at b r ≡ term_at a r) where
  other : (i : ℕ) (k : Key) → (i ≡ p → ⊥) → slice_get roots i ≡ Some k → term_at b k.number ≡ term_at a k.number
  other i k n e = kept k.number (λ h. n (H.distinct i p k root e there h))

  pub held-left : AreHeld b (remove roots p)
  held-left = record {
    stands = λ i k e. elim (remove-get roots p i k e) [
      | inl h ↦ subst (λ (o : Option (List Node)). IsSome o) (sym (other i k (λ z. let l = h.0 in omega arith) h.1)) (H.stands i k h.1)
      | inr h ↦ subst (λ (o : Option (List Node)). IsSome o) (sym (other (suc i) k (λ z. let l = h.0 in omega arith) h.1)) (H.stands (suc i) k h.1)
    ];
    distinct = λ i j k m e f h. elim (remove-get roots p i k e) [
      | inl x ↦ elim (remove-get roots p j m f) [
        | inl y ↦ H.distinct i j k m x.1 y.1 h
        | inr y ↦ absurd (let z = H.distinct i (suc j) k m x.1 y.1 h in let l = x.0 in let n = y.0 in omega arith)
      ]
      | inr x ↦ elim (remove-get roots p j m f) [
        | inl y ↦ absurd (let z = H.distinct (suc i) j k m x.1 y.1 h in let l = x.0 in let n = y.0 in omega arith)
        | inr y ↦ let z = H.distinct (suc i) (suc j) k m x.1 y.1 h in omega arith
      ]
    ];
  }

  pub terms-left : terms_of b (remove roots p) ≡ remove (terms_of a roots) p
  terms-left = same (remove roots p) (λ i k e. elim (remove-get roots p i k e) [
    | inl h ↦ other i k (λ z. let l = h.0 in omega arith) h.1
    | inr h ↦ other (suc i) k (λ z. let l = h.0 in omega arith) h.1
  ]) ∙ moved roots p
    where
      same : (ks : List Key) → ((i : ℕ) (k : Key) → slice_get ks i ≡ Some k → term_at b k.number ≡ term_at a k.number) → terms_of b ks ≡ terms_of a ks
      same [] f = refl
      same (k ∷ ks) f = rw (f 0 k refl, same ks (λ i m e. f (suc i) m e)) refl

      moved : (ks : List Key) (p : ℕ) → terms_of a (remove ks p) ≡ remove (terms_of a ks) p
      moved [] zero = refl
      moved [] (suc p) = refl
      moved (k ∷ ks) zero = refl
      moved (k ∷ ks) (suc p) = ap (λ (xs : List (List Node)). or_nothing (term_at a k.number) ∷ xs) (moved ks p)

-- an item that is left
pub get-left : {X : Type 0} (xs : List X) (p q : ℕ) (d : X) → get_or (remove xs p) q d ≡ get_or xs (shifted p q) d
get-left [] zero q d = refl
get-left [] (suc p) q d = refl
get-left (x ∷ xs) zero q d = refl
get-left (x ∷ xs) (suc p) zero d = refl
get-left (x ∷ xs) (suc p) (suc q) d = get-left xs p q d

-- a place that stays
pub get-unshifted : (xs : List ℕ) (p x : ℕ) → (x ≡ p → ⊥) → get_or (remove xs p) (unshifted p x) 0 ≡ get_or xs x 0
get-unshifted [] zero x n = refl
get-unshifted [] (suc p) x n = refl
get-unshifted (y ∷ xs) zero zero n = absurd (n refl)
get-unshifted (y ∷ xs) zero (suc x) n = let e : suc x - 1 ≡ x = omega arith in ap (λ (k : ℕ). get_or xs k 0) e
get-unshifted (y ∷ xs) (suc p) zero n = refl
get-unshifted (y ∷ xs) (suc p) (suc x) n = get-unshifted xs p x (λ e. n (ap suc e))

unshifted-less : (p q x : ℕ) → (x ≡ p → ⊥) → x < shifted p q → unshifted p x < q
unshifted-less zero q zero n h = absurd (n refl)
unshifted-less zero q (suc x) n h = omega arith
unshifted-less (suc p) zero x n h = absurd (omega arith)
unshifted-less (suc p) (suc q) zero n h = omega arith
unshifted-less (suc p) (suc q) (suc x) n h = omega (arith, unshifted-less p q x (λ e. n (ap suc e)) (omega arith))

unshifted-back : (p x : ℕ) → (x ≡ p → ⊥) → shifted p (unshifted p x) ≡ x
unshifted-back zero zero n = absurd (n refl)
unshifted-back zero (suc x) n = omega arith
unshifted-back (suc p) zero n = refl
unshifted-back (suc p) (suc x) n = ap suc (unshifted-back p x (λ e. n (ap suc e)))

unshifted-before : (p x : ℕ) → x < p → unshifted p x ≡ x
unshifted-before zero x h = absurd (omega arith)
unshifted-before (suc p) zero h = refl
unshifted-before (suc p) (suc x) h = ap suc (unshifted-before p x (omega arith))

-- labels that do not call a rule
pub other-call : (p x : ℕ) (ls : List Label) → calls_in p (Call x ∷ ls) ≡ 0 → (x ≡ p → ⊥) × (calls_in p ls ≡ 0)
other-call p x ls e = (λ z. absurd (let one : ℕ = 1 in let h : one ≡ (if eqb x p then 1 else 0) = sym (ap (λ b. if b then 1 else 0) (eq-eqb x p z)) in omega arith), omega arith)

abbrev pub unshifted_labels : ℕ → List Label → List Label
unshifted_labels p = map (unshifted_label p)

below-unshifted : (p q : ℕ) (ls : List Label) → calls_in p ls ≡ 0 → CallsBelow (shifted p q) ls → CallsBelow q (unshifted_labels p ls)
below-unshifted p q [] e c = tt
below-unshifted p q (Bottom ∷ ls) e c = below-unshifted p q ls e c
below-unshifted p q (Symbol f ∷ ls) e c = below-unshifted p q ls e c
below-unshifted p q (Param ∷ ls) e c = below-unshifted p q ls e c
below-unshifted p q (Call x ∷ ls) e c = let o = other-call p x ls e in (unshifted-less p q x o.0 c.0, below-unshifted p q ls o.1 c.1)

terms-unshifted : (ranks : List ℕ) (p n : ℕ) (ls : List Label) → calls_in p ls ≡ 0 → AreTerms (arity ranks) n ls → AreTerms (arity (remove ranks p)) n (unshifted_labels p ls)
terms-unshifted ranks p zero [] e t = tt
terms-unshifted ranks p zero (l ∷ ls) e t = absurd t
terms-unshifted ranks p (suc n) [] e t = absurd t
terms-unshifted ranks p (suc n) (Bottom ∷ ls) e t = terms-unshifted ranks p (0 + n) ls e t
terms-unshifted ranks p (suc n) (Symbol f ∷ ls) e t = terms-unshifted ranks p (2 + n) ls e t
terms-unshifted ranks p (suc n) (Param ∷ ls) e t = terms-unshifted ranks p (0 + n) ls e t
terms-unshifted ranks p (suc n) (Call x ∷ ls) e t =
    let o = other-call p x ls e in
    subst (λ k. AreTerms (arity (remove ranks p)) (k + n) (unshifted_labels p ls)) (sym (get-unshifted ranks p x o.0)) (terms-unshifted ranks p (get_or ranks x 0 + n) ls o.1 t)

params-unshifted : (p : ℕ) (ls : List Label) → params (unshifted_labels p ls) ≡ params ls
params-unshifted p [] = refl
params-unshifted p (Bottom ∷ ls) = params-unshifted p ls
params-unshifted p (Symbol f ∷ ls) = params-unshifted p ls
params-unshifted p (Call x ∷ ls) = params-unshifted p ls
params-unshifted p (Param ∷ ls) = ap suc (params-unshifted p ls)

real-unshifted : (p : ℕ) (ls : List Label) → real_nodes (unshifted_labels p ls) ≡ real_nodes ls
real-unshifted p [] = refl
real-unshifted p (Bottom ∷ ls) = ap suc (real-unshifted p ls)
real-unshifted p (Symbol f ∷ ls) = ap suc (real-unshifted p ls)
real-unshifted p (Call x ∷ ls) = ap suc (real-unshifted p ls)
real-unshifted p (Param ∷ ls) = real-unshifted p ls

pub same-test : (a b c d : ℕ) → ((a ≡ b → c ≡ d) × (c ≡ d → a ≡ b)) → (let m : ℕ = if eqb a b then 1 else 0 in let n : ℕ = if eqb c d then 1 else 0 in m ≡ n)
same-test a b c d i = elim (cases_eq a b) [
  | inl e ↦ ap (λ t. if t then 1 else 0) (eq-eqb a b e) ∙ sym (ap (λ t. if t then 1 else 0) (eq-eqb c d (i.0 e)))
  | inr n ↦ ap (λ t. if t then 1 else 0) (ne_eqb a b n) ∙ sym (ap (λ t. if t then 1 else 0) (ne_eqb c d (λ e. n (i.1 e))))
]

pub shifted-same-place : (p x y : ℕ) → shifted p x ≡ shifted p y → x ≡ y
shifted-same-place zero x y e = omega arith
shifted-same-place (suc p) zero zero e = refl
shifted-same-place (suc p) zero (suc y) e = absurd (omega arith)
shifted-same-place (suc p) (suc x) zero e = absurd (omega arith)
shifted-same-place (suc p) (suc x) (suc y) e = ap suc (shifted-same-place p x y (omega arith))

calls-unshifted : (p q : ℕ) (ls : List Label) → calls_in p ls ≡ 0 → calls_in q (unshifted_labels p ls) ≡ calls_in (shifted p q) ls
calls-unshifted p q [] e = refl
calls-unshifted p q (Bottom ∷ ls) e = calls-unshifted p q ls e
calls-unshifted p q (Symbol f ∷ ls) e = calls-unshifted p q ls e
calls-unshifted p q (Param ∷ ls) e = calls-unshifted p q ls e
calls-unshifted p q (Call x ∷ ls) e =
    let o = other-call p x ls e in
    let b = unshifted-back p x o.0 in
    let t = same-test (unshifted p x) q x (shifted p q) (λ z. sym b ∙ ap (shifted p) z, λ z. shifted-same-place p (unshifted p x) q (b ∙ z)) in
    ap (λ (k : ℕ). k + calls_in q (unshifted_labels p ls)) t ∙ ap (λ (k : ℕ). (if eqb x (shifted p q) then 1 else 0) + k) (calls-unshifted p q ls o.1)

shifted-back : (p : ℕ) (ls : List Label) → calls_in p ls ≡ 0 → map (shifted_label p) (unshifted_labels p ls) ≡ ls
shifted-back p [] e = refl
shifted-back p (Bottom ∷ ls) e = ap (λ ks. Bottom ∷ ks) (shifted-back p ls e)
shifted-back p (Symbol f ∷ ls) e = ap (λ ks. Symbol f ∷ ks) (shifted-back p ls e)
shifted-back p (Param ∷ ls) e = ap (λ ks. Param ∷ ks) (shifted-back p ls e)
shifted-back p (Call x ∷ ls) e = let o = other-call p x ls e in rw (unshifted-back p x o.0, shifted-back p ls o.1) refl

unshifted-same : (p : ℕ) (ls : List Label) → CallsBelow p ls → unshifted_labels p ls ≡ ls
unshifted-same p [] c = refl
unshifted-same p (Bottom ∷ ls) c = ap (λ ms. Bottom ∷ ms) (unshifted-same p ls c)
unshifted-same p (Symbol f ∷ ls) c = ap (λ ms. Symbol f ∷ ms) (unshifted-same p ls c)
unshifted-same p (Param ∷ ls) c = ap (λ ms. Param ∷ ms) (unshifted-same p ls c)
unshifted-same p (Call q ∷ ls) c = rw (unshifted-before p q c.0, unshifted-same p ls c.1) refl

-- the same of rules
abbrev pub unshifted_rule : ℕ → Rule → Rule
unshifted_rule p R = record { rank = R.rank; body = unshifted_labels p R.body }

abbrev pub rule_removed : List Rule → ℕ → List Rule
rule_removed G p = map (unshifted_rule p) (remove G p)

-- no rule calls one that is called nowhere
pub none-calls : (p : ℕ) (G : List Rule) → calls_of G p ≡ 0 → (r : ℕ) → calls_in p (body_at G r) ≡ 0
none-calls p G e r = at G r (sym (calls-total p G) ∙ e)
  where
    at : (H : List Rule) (r : ℕ) → total (call_weight p) H ≡ 0 → calls_in p (body_at H r) ≡ 0
    at [] r e = refl
    at (R ∷ H) zero e = omega (arith, calls-weigh p R.body)
    at (R ∷ H) (suc r) e = at H r (omega arith)

total-left : (w : Label → ℕ) (G : List Rule) (p : ℕ) → p < length G → total w (remove G p) + weigh w (body_at G p) ≡ total w G
total-left w [] p h = absurd (omega arith)
total-left w (R ∷ G) zero h = omega arith
total-left w (R ∷ G) (suc p) h = omega (arith, total-left w G p (omega arith))

pub length-left : {X : Type 0} (xs : List X) (p : ℕ) → p < length xs → length (remove xs p) + 1 ≡ length xs
length-left [] p h = absurd (omega arith)
length-left (x ∷ xs) zero h = omega arith
length-left (x ∷ xs) (suc p) h = omega (arith, length-left xs p (omega arith))

pub ranks-left : (G : List Rule) (p : ℕ) → ranks_of (rule_removed G p) ≡ remove (ranks_of G) p
ranks-left [] zero = refl
ranks-left [] (suc p) = refl
ranks-left (R ∷ G) zero = all G
  where
    all : (H : List Rule) → ranks_of (map (unshifted_rule 0) H) ≡ ranks_of H
    all [] = refl
    all (S ∷ H) = ap (λ (rs : List ℕ). S.rank ∷ rs) (all H)
ranks-left (R ∷ G) (suc p) = ap (λ (rs : List ℕ). R.rank ∷ rs) (again G p)
  where
    again : (H : List Rule) (i : ℕ) → ranks_of (map (unshifted_rule (suc p)) (remove H i)) ≡ remove (ranks_of H) i
    again [] zero = refl
    again [] (suc i) = refl
    again (S ∷ H) zero = all H
      where
        all : (H : List Rule) → ranks_of (map (unshifted_rule (suc p)) H) ≡ ranks_of H
        all [] = refl
        all (S ∷ H) = ap (λ (rs : List ℕ). S.rank ∷ rs) (all H)
    again (S ∷ H) (suc i) = ap (λ (rs : List ℕ). S.rank ∷ rs) (again H i)

module _ (G : List Rule) (p : ℕ) (g : IsGrammar G) (h : p + 1 < length G) (u : calls_of G p ≡ 0) where
  abbrev pub H : List Rule
  H = rule_removed G p

  pub length-removed : length (rule_removed G p) + 1 ≡ length G
  length-removed = omega (arith, length-map (remove G p) (unshifted_rule p), length-left G p (omega arith))

  rule-left : (q : ℕ) → get_or (rule_removed G p) q no_rule ≡ unshifted_rule p (get_or G (shifted p q) no_rule)
  rule-left q = get_or-map (unshifted_rule p) (remove G p) q no_rule ∙ ap (unshifted_rule p) (get-left G p q no_rule)

  bound : (q : ℕ) → q < length (rule_removed G p) → shifted p q < length G
  bound q k = elim (cases_lt q p) [
    | inl l ↦ omega (arith, shifted-before p q l, length-removed)
    | inr l ↦ omega (arith, shifted-behind p q l, length-removed)
  ]

  lawful : (q : ℕ) → q < length (rule_removed G p) → IsLawfulAt (rule_removed G p) q
  lawful q k =
      let old = g.each (shifted p q) (bound q k) in
      let n = none-calls p G u (shifted p q) in
      let b : body_at (rule_removed G p) q ≡ unshifted_labels p (body_at G (shifted p q)) = ap (λ (R : Rule). R.body) (rule-left q) in
      let r : rank_at (rule_removed G p) q ≡ rank_at G (shifted p q) = ap (λ (R : Rule). R.rank) (rule-left q) in
      record {
        earlier = subst (CallsBelow q) (sym b) (below-unshifted p q (body_at G (shifted p q)) n old.earlier);
        shaped = record {
          term = subst (λ ls. IsTerm (ranks_of (rule_removed G p)) ls) (sym b) (subst (λ rs. AreTerms (arity rs) 1 (unshifted_labels p (body_at G (shifted p q)))) (sym (ranks-left G p)) (terms-unshifted (ranks_of G) p 1 (body_at G (shifted p q)) n old.shaped.term));
          small = let s = old.shaped.small in omega (arith, r);
          start = λ s. r ∙ old.shaped.start (last s);
        };
        linear = ap params b ∙ params-unshifted p (body_at G (shifted p q)) ∙ old.linear ∙ sym r;
      }
    where
      last : q + 1 ≡ length (rule_removed G p) → shifted p q + 1 ≡ length G
      last s = omega (arith, length-removed, shifted-behind p q (omega (arith, length-removed)))

  pub removed-lawful : IsGrammar (rule_removed G p)
  removed-lawful = record { some = omega (arith, length-removed); each = lawful }

  -- putting the rule in again gives the rules back
  removed-back : rule_added (rule_removed G p) p (get_or G p no_rule) ≡ G
  removed-back = back G p (omega arith) p (omega arith) (λ r k. let w : r ≡ r + (p - p) = omega arith in subst (λ (x : ℕ). CallsBelow x (body_at G r)) w (g.each r (omega arith)).earlier) (λ r. none-calls p G u r)
    where
      back : (F : List Rule) (i : ℕ) → i < length F → (m : ℕ) → i ≤ m → ((r : ℕ) → r < i → CallsBelow (r + (m - i)) (body_at F r)) → ((r : ℕ) → calls_in m (body_at F r) ≡ 0)
          → take i (map (unshifted_rule m) (remove F i)) ++ get_or F i no_rule ∷ map (shifted_rule m) (drop i (map (unshifted_rule m) (remove F i))) ≡ F
      back [] i k m l c n = absurd (omega arith)
      back (R ∷ F) zero k m l c n = ap (λ (Q : List Rule). R ∷ Q) (all F (λ r. n (suc r)))
        where
          all : (Q : List Rule) → ((r : ℕ) → calls_in m (body_at Q r) ≡ 0) → map (shifted_rule m) (drop 0 (map (unshifted_rule m) Q)) ≡ Q
          all [] n = refl
          all (S ∷ Q) n = ap (λ ls. record { rank = S.rank; body = ls } ∷ map (shifted_rule m) (map (unshifted_rule m) Q)) (shifted-back m S.body (n 0)) ∙ ap (λ (P : List Rule). S ∷ P) (ap (map (shifted_rule m)) (none (map (unshifted_rule m) Q)) ∙ all Q (λ r. n (suc r)))
            where
              none : (xs : List Rule) → xs ≡ drop 0 xs
              none [] = refl
              none (x ∷ xs) = refl
      back (R ∷ F) (suc i) k m l c n =
          let e : unshifted_labels m R.body ≡ R.body = unshifted-same m R.body (below-more (0 + (m - suc i)) m R.body (omega arith) (c 0 (omega arith))) in
          let Q : List Rule = map (unshifted_rule m) (remove F i) in
          ap (λ ls. record { rank = R.rank; body = ls } ∷ (take i Q ++ get_or F i no_rule ∷ map (shifted_rule m) (drop i Q))) e
          ∙ ap (λ (P : List Rule). R ∷ P) (back F i (omega arith) m (omega arith)
          (λ r j. let w : suc r + (m - suc i) ≡ r + (m - i) = omega arith in subst (λ (x : ℕ). CallsBelow x (body_at F r)) w (c (suc r) (omega arith))) (λ r. n (suc r)))

  pub value-removed : value (rule_removed G p) ≡ value G
  value-removed = sym (value-added (rule_removed G p) p (get_or G p no_rule) removed-lawful (omega (arith, length-removed))) ∙ ap value removed-back

  pub values-removed : HasRuleMore p (rule_removed G p) G
  values-removed = record {
    within = omega (arith, length-removed);
    more = sym length-removed;
    values = λ r l.
        ap (λ (Q : List Rule). value_at Q (shifted p r)) (sym removed-back)
        ∙ value_at-added (rule_removed G p) p (get_or G p no_rule) r removed-lawful (omega (arith, length-removed)) l;
  }

  pub calls-removed : (q : ℕ) → calls_of (rule_removed G p) q + calls_in (shifted p q) (body_at G p) ≡ calls_of G (shifted p q)
  calls-removed q =
      omega (
        arith,
        calls-total q (rule_removed G p),
        calls-total (shifted p q) G,
        total-left (call_weight (shifted p q)) G p (omega arith),
        calls-weigh (shifted p q) (body_at G p),
        all G p (λ r. none-calls p G u r),
      )
    where
      all : (F : List Rule) (i : ℕ) → ((r : ℕ) → calls_in p (body_at F r) ≡ 0) → total (call_weight q) (map (unshifted_rule p) (remove F i)) ≡ total (call_weight (shifted p q)) (remove F i)
      all [] zero n = refl
      all [] (suc i) n = refl
      all (R ∷ F) zero n = every F (λ r. n (suc r))
        where
          every : (Q : List Rule) → ((r : ℕ) → calls_in p (body_at Q r) ≡ 0) → total (call_weight q) (map (unshifted_rule p) Q) ≡ total (call_weight (shifted p q)) Q
          every [] n = refl
          every (S ∷ Q) n = omega (arith, every Q (λ r. n (suc r)), calls-unshifted p q S.body (n 0), calls-weigh q (unshifted_labels p S.body), calls-weigh (shifted p q) S.body)
      all (R ∷ F) (suc i) n = omega (arith, all F i (λ r. n (suc r)), calls-unshifted p q R.body (n 0), calls-weigh q (unshifted_labels p R.body), calls-weigh (shifted p q) R.body)

  pub size-removed : size (rule_removed G p) + real_nodes (body_at G p) ≡ size G
  size-removed =
      omega (arith, size-total (rule_removed G p), size-total G, total-left real_weight G p (omega arith), real-weigh (body_at G p), all (remove G p))
    where
      all : (Q : List Rule) → total real_weight (map (unshifted_rule p) Q) ≡ total real_weight Q
      all [] = refl
      all (S ∷ Q) = omega (arith, all Q, real-unshifted p S.body, real-weigh (unshifted_labels p S.body), real-weigh S.body)

-- a body calls no rule from its own on
pub calls-past : (n q : ℕ) (ls : List Label) → CallsBelow n ls → n ≤ q → calls_in q ls ≡ 0
calls-past n q [] c h = refl
calls-past n q (Bottom ∷ ls) c h = calls-past n q ls c h
calls-past n q (Symbol f ∷ ls) c h = calls-past n q ls c h
calls-past n q (Param ∷ ls) c h = calls-past n q ls c h
calls-past n q (Call x ∷ ls) c h =
    let none : ℕ = 0 in
    let e : none ≡ (if eqb x q then 1 else 0) = sym (ap (λ b. if b then 1 else 0) (ne_eqb x q (λ z. let l = c.0 in omega arith))) in
    omega (arith, e, calls-past n q ls c.1 h)
