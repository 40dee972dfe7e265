-- The rules with those of leaves are a swept grammar.
use Rattle.std.proofs.Common.{◌≡◌, ℕ, zero, suc, ◌+◌, ◌-◌, ◌^◌, ◌<◌, ◌≤◌, true, false, List, [], ◌∷◌, ◌++◌, length, get_or, map, slice_get, Some, refl, ap, sym, ◌∙◌, subst, ◌⊎◌, inl, inr, arith}
use Rattle.std.specs.Prelude.{Option, None, Bool, if◌then◌else◌, eqb}
use Rattle.std.proofs.Math.ListN.{get_or-map}
use Rattle.std.proofs.lemmas.Bool.{cases_lt, eq-eqb, ne_eqb}
use Rattle.std.proofs.lemmas.Bool.Decides.{eqb_tells}
use Rattle.std.proofs.lemmas.List.{get_or_append_left, get_or-append-add, length-map}
use Rattle.std.proofs.lemmas.List.Sums.{sum_by-append, sum_by-cons, get_or-le-sum_by}
use Rattle.rule_arena.specs.Preorder.{AreTerms}
use Rattle.rule_arena.specs.declared.label.Label.{Label}
use Rattle.rule_arena.specs.declared.label.Label.TheVariants.{Bottom, Symbol, Call, Param}
use Rattle.slt_grammar.proofs.CallCounts.{below-more}
use Rattle.slt_grammar.specs.Algebras.{ranks_of}
use Rattle.slt_grammar.specs.Bodies.{arity, params, CallsBelow, calls_in}
use Rattle.slt_grammar.specs.Grammars.{IsGrammar, IsLawfulAt, IsSwept, body_at, calls_of, no_rule, value}
use Rattle.slt_grammar.specs.declared.rules.Rule.{Rule}
use Rattle.fcns_encoding.specs.Leaves.{leaf_rule, leaf_before, symbol_before, joined, joined_rule, with_leaves, HasLeaf, AreLeaves, AreLeafRules, AreSeen}
use Rattle.fcns_encoding.proofs.CellLemmas.{got_map, got_within, has_get}
use Rattle.fcns_encoding.proofs.LeafLemmas.{length-with, rank-behind, rank-front, same-value}

module _ (places : List (Option ℕ)) (symbols : List ℕ) (leaves : AreLeaves places symbols) where
  module _ (ranks ranks' : List ℕ) (shifted : (q : ℕ) → get_or ranks' (length symbols + q) 0 ≡ get_or ranks q 0) (single : (i f : ℕ) → slice_get symbols i ≡ Some f → get_or ranks' i 0 ≡ 1) where
    leaf-terms : (o : Option ℕ) (f n : ℕ) (ls : List Label) → ((i : ℕ) → o ≡ Some i → slice_get symbols i ≡ Some f) → AreTerms (arity ranks') (2 + n) (Bottom ∷ ls) → AreTerms (arity ranks') (suc n) (leaf_before o f ls)
    leaf-terms None f n ls told t = t
    leaf-terms (Some i) f n ls told t =
        let two : 2 + n ≡ suc (suc n) = omega arith in
        let s : AreTerms (arity ranks') (suc (suc n)) (Bottom ∷ ls) = subst (λ k. AreTerms (arity ranks') k (Bottom ∷ ls)) two t in
        let one : 0 + suc n ≡ get_or ranks' i 0 + n = omega (arith, single i f (told i refl)) in
        subst (λ k. AreTerms (arity ranks') k ls) one s

    symbol-terms : (f n : ℕ) (ls : List Label) → AreTerms (arity ranks') (2 + n) ls → AreTerms (arity ranks') (suc n) (symbol_before places f ls)
    symbol-terms f n [] t = t
    symbol-terms f n (Bottom ∷ ls) t = leaf-terms (get_or places f None) f n ls (leaves.told f) t
    symbol-terms f n (Symbol g ∷ ls) t = t
    symbol-terms f n (Call q ∷ ls) t = t
    symbol-terms f n (Param ∷ ls) t = t

    joined-terms : (n : ℕ) (ls : List Label) → AreTerms (arity ranks) n ls → AreTerms (arity ranks') n (joined places (length symbols) ls)
    joined-terms zero [] t = tt
    joined-terms zero (l ∷ ls) t = absurd t
    joined-terms (suc n) [] t = absurd t
    joined-terms (suc n) (Bottom ∷ ls) t = joined-terms (0 + n) ls t
    joined-terms (suc n) (Symbol f ∷ ls) t = symbol-terms f n (joined places (length symbols) ls) (joined-terms (2 + n) ls t)
    joined-terms (suc n) (Call q ∷ ls) t = subst (λ k. AreTerms (arity ranks') (k + n) (joined places (length symbols) ls)) (sym (shifted q)) (joined-terms (get_or ranks q 0 + n) ls t)
    joined-terms (suc n) (Param ∷ ls) t = joined-terms (0 + n) ls t

  leaf-params : (o : Option ℕ) (f : ℕ) (ls : List Label) → params (leaf_before o f ls) ≡ params ls
  leaf-params None f ls = refl
  leaf-params (Some i) f ls = refl

  symbol-params : (f : ℕ) (ls : List Label) → params (symbol_before places f ls) ≡ params ls
  symbol-params f [] = refl
  symbol-params f (Bottom ∷ ls) = leaf-params (get_or places f None) f ls
  symbol-params f (Symbol g ∷ ls) = refl
  symbol-params f (Call q ∷ ls) = refl
  symbol-params f (Param ∷ ls) = refl

  joined-params : (ls : List Label) → params (joined places (length symbols) ls) ≡ params ls
  joined-params [] = refl
  joined-params (Bottom ∷ ls) = joined-params ls
  joined-params (Symbol f ∷ ls) = symbol-params f (joined places (length symbols) ls) ∙ joined-params ls
  joined-params (Call q ∷ ls) = joined-params ls
  joined-params (Param ∷ ls) = ap suc (joined-params ls)

  leaf-below : (r : ℕ) (o : Option ℕ) (f : ℕ) (ls : List Label) → ((i : ℕ) → o ≡ Some i → slice_get symbols i ≡ Some f) → length symbols ≤ r → CallsBelow r ls → CallsBelow r (leaf_before o f ls)
  leaf-below r None f ls told h c = c
  leaf-below r (Some i) f ls told h c = (omega (arith, h, got_within symbols i f (told i refl)), c)

  symbol-below : (r f : ℕ) (ls : List Label) → length symbols ≤ r → CallsBelow r ls → CallsBelow r (symbol_before places f ls)
  symbol-below r f [] h c = c
  symbol-below r f (Bottom ∷ ls) h c = leaf-below r (get_or places f None) f ls (leaves.told f) h c
  symbol-below r f (Symbol g ∷ ls) h c = c
  symbol-below r f (Call q ∷ ls) h c = c
  symbol-below r f (Param ∷ ls) h c = c

  joined-below : (r : ℕ) (ls : List Label) → CallsBelow r ls → CallsBelow (length symbols + r) (joined places (length symbols) ls)
  joined-below r [] c = tt
  joined-below r (Bottom ∷ ls) c = joined-below r ls c
  joined-below r (Symbol f ∷ ls) c = symbol-below (length symbols + r) f (joined places (length symbols) ls) (omega arith) (joined-below r ls c)
  joined-below r (Call q ∷ ls) c = (omega (arith, c.0), joined-below r ls c.1)
  joined-below r (Param ∷ ls) c = joined-below r ls c

  -- no leaf's rule is among those behind
  leaf-calls : (q : ℕ) (o : Option ℕ) (f : ℕ) (ls : List Label) → ((i : ℕ) → o ≡ Some i → slice_get symbols i ≡ Some f) → calls_in (length symbols + q) (leaf_before o f ls) ≡ calls_in (length symbols + q) ls
  leaf-calls q None f ls told = refl
  leaf-calls q (Some i) f ls told =
      let low = got_within symbols i f (told i refl) in
      let no : eqb i (length symbols + q) ≡ false = ne_eqb i (length symbols + q) (λ e. omega (arith, low, e)) in
      ap (λ (b : Bool). (if b then 1 else 0) + calls_in (length symbols + q) ls) no ∙ omega arith

  symbol-calls : (q f : ℕ) (ls : List Label) → calls_in (length symbols + q) (symbol_before places f ls) ≡ calls_in (length symbols + q) ls
  symbol-calls q f [] = refl
  symbol-calls q f (Bottom ∷ ls) = leaf-calls q (get_or places f None) f ls (leaves.told f)
  symbol-calls q f (Symbol g ∷ ls) = refl
  symbol-calls q f (Call p ∷ ls) = refl
  symbol-calls q f (Param ∷ ls) = refl

  same-test : (p q : ℕ) → eqb (length symbols + p) (length symbols + q) ≡ eqb p q
  same-test p q =
      elim (eqb_tells p q) [
        | inl w ↦ eq-eqb (length symbols + p) (length symbols + q) (ap (λ k. length symbols + k) w.1) ∙ sym w.0
        | inr w ↦ let ne = w.1 in ne_eqb (length symbols + p) (length symbols + q) (λ e. ne (omega (arith, e))) ∙ sym w.0
      ]

  joined-calls : (q : ℕ) (ls : List Label) → calls_in (length symbols + q) (joined places (length symbols) ls) ≡ calls_in q ls
  joined-calls q [] = refl
  joined-calls q (Bottom ∷ ls) = joined-calls q ls
  joined-calls q (Symbol f ∷ ls) = symbol-calls q f (joined places (length symbols) ls) ∙ joined-calls q ls
  joined-calls q (Call p ∷ ls) =
      ap (λ (b : Bool). (if b then 1 else 0) + calls_in (length symbols + q) (joined places (length symbols) ls)) (same-test p q) ∙ ap (λ n. (if eqb p q then 1 else 0) + n) (joined-calls q ls)
  joined-calls q (Param ∷ ls) = joined-calls q ls

  -- a label before others takes no call away
  leaf-keeps : (r : ℕ) (o : Option ℕ) (f : ℕ) (ls : List Label) → calls_in r ls ≤ calls_in r (leaf_before o f ls)
  leaf-keeps r None f ls = omega arith
  leaf-keeps r (Some i) f ls = omega arith

  symbol-keeps : (r f : ℕ) (ls : List Label) → calls_in r ls ≤ calls_in r (symbol_before places f ls)
  symbol-keeps r f [] = omega arith
  symbol-keeps r f (Bottom ∷ ls) = leaf-keeps r (get_or places f None) f ls
  symbol-keeps r f (Symbol g ∷ ls) = omega arith
  symbol-keeps r f (Call q ∷ ls) = omega arith
  symbol-keeps r f (Param ∷ ls) = omega arith

  label-keeps : (r : ℕ) (l : Label) (ls : List Label) → calls_in r (joined places (length symbols) ls) ≤ calls_in r (joined places (length symbols) (l ∷ ls))
  label-keeps r Bottom ls = omega arith
  label-keeps r (Symbol f) ls = symbol-keeps r f (joined places (length symbols) ls)
  label-keeps r (Call q) ls = omega arith
  label-keeps r Param ls = omega arith

  -- a leaf is a call of its rule
  leaf-called : (f r k : ℕ) (ls : List Label) → get_or places f None ≡ Some r → slice_get ls k ≡ Some (Symbol f) → slice_get ls (suc k) ≡ Some Bottom → 0 < calls_in r (joined places (length symbols) ls)
  leaf-called f r k [] p e b = cc
  leaf-called f r zero (l ∷ []) p e b = cc
  leaf-called f r zero (l ∷ m ∷ ls) p e b =
      let first : l ≡ Symbol f = cc in
      let second : m ≡ Bottom = cc in
      let js = joined places (length symbols) ls in
      let is : joined places (length symbols) (l ∷ m ∷ ls) ≡ Call r ∷ js = rw (first, second) (ap (λ o. leaf_before o f js) p) in
      let one : eqb r r ≡ true = eq-eqb r r refl in
      let here : calls_in r (Call r ∷ js) ≡ 1 + calls_in r js = ap (λ (t : Bool). (if t then 1 else 0) + calls_in r js) one in
      omega (arith, here, ap (calls_in r) is)
  leaf-called f r (suc k) (l ∷ ls) p e b = omega (arith, leaf-called f r k ls p e b, label-keeps r l ls)

  -- rules by their places
  rule-front : (G : List Rule) (i f : ℕ) → slice_get symbols i ≡ Some f → get_or (with_leaves symbols places G) i no_rule ≡ leaf_rule f
  rule-front G i f e =
      get_or_append_left (map leaf_rule symbols) (map (joined_rule places (length symbols)) G) no_rule i (omega (arith, length-map symbols leaf_rule, got_within symbols i f e)) ∙ got_map leaf_rule symbols i f no_rule e

  rule-behind : (G : List Rule) (q : ℕ) → get_or (with_leaves symbols places G) (length symbols + q) no_rule ≡ joined_rule places (length symbols) (get_or G q no_rule)
  rule-behind G q =
      ap (λ k. get_or (with_leaves symbols places G) (k + q) no_rule) (sym (length-map symbols leaf_rule))
      ∙ get_or-append-add (map leaf_rule symbols) (map (joined_rule places (length symbols)) G) q no_rule ∙ get_or-map (joined_rule places (length symbols)) G q no_rule

  lawful-front : (G : List Rule) → 0 < length G → (i f : ℕ) → slice_get symbols i ≡ Some f → IsLawfulAt (with_leaves symbols places G) i
  lawful-front G some i f e =
      let H = with_leaves symbols places G in
      let is = rule-front G i f e in
      record {
        earlier = subst (λ (R : Rule). CallsBelow i R.body) (sym is) tt;
        shaped = record {
          term = subst (λ (R : Rule). AreTerms (arity (ranks_of H)) 1 R.body) (sym is) tt;
          small = omega (arith, ap (λ (R : Rule). R.rank) is);
          start = λ last. absurd (omega (arith, last, length-with places symbols leaves G, some, got_within symbols i f e));
        };
        linear = subst (λ (R : Rule). params R.body ≡ R.rank) (sym is) refl;
      }

  lawful-behind : (G : List Rule) (q : ℕ) → IsLawfulAt G q → IsLawfulAt (with_leaves symbols places G) (length symbols + q)
  lawful-behind G q lawful =
      let H = with_leaves symbols places G in
      let R : Rule = get_or G q no_rule in
      let is = rule-behind G q in
      record {
        earlier = subst (λ (Q : Rule). CallsBelow (length symbols + q) Q.body) (sym is) (joined-below q R.body lawful.earlier);
        shaped = record {
          term = subst (λ (Q : Rule). AreTerms (arity (ranks_of H)) 1 Q.body) (sym is)
              (joined-terms (ranks_of G) (ranks_of H) (rank-behind places symbols leaves G) (rank-front places symbols leaves G) 1 R.body lawful.shaped.term);
          small = omega (arith, ap (λ (Q : Rule). Q.rank) is, lawful.shaped.small);
          start = λ last. ap (λ (Q : Rule). Q.rank) is ∙ lawful.shaped.start (omega (arith, last, length-with places symbols leaves G));
        };
        linear = subst (λ (Q : Rule). params Q.body ≡ Q.rank) (sym is) (joined-params R.body ∙ lawful.linear);
      }

  -- a place is one of a leaf's rule, or behind those
  front-or-behind : (r : ℕ) → ((f : ℕ) × (slice_get symbols r ≡ Some f)) ⊎ ((q : ℕ) × (r ≡ length symbols + q))
  front-or-behind r =
      elim (cases_lt r (length symbols)) [
        | inl l ↦ inl (get_or symbols r 0, has_get symbols r 0 l)
        | inr g ↦ inr (r - length symbols, omega (arith, g))
      ]

  pub with-grammar : (G : List Rule) → IsGrammar G → IsGrammar (with_leaves symbols places G)
  with-grammar G g =
      record {
        some = omega (arith, length-with places symbols leaves G, g.some);
        each = λ r h.
            elim (front-or-behind r) [
              | inl w ↦ lawful-front G g.some r w.0 w.1
              | inr w ↦ subst (IsLawfulAt (with_leaves symbols places G)) (sym w.1) (lawful-behind G w.0 (g.each w.0 (omega (arith, h, w.1, length-with places symbols leaves G))))
            ];
      }

  calls-behind : (q : ℕ) (G : List Rule) → calls_of (map (joined_rule places (length symbols)) G) (length symbols + q) ≡ calls_of G q
  calls-behind q [] = refl
  calls-behind q (R ∷ G) =
      omega (
        arith,
        sum_by-cons (λ (Q : Rule). calls_in (length symbols + q) Q.body) (joined_rule places (length symbols) R) (map (joined_rule places (length symbols)) G),
        sum_by-cons (λ (Q : Rule). calls_in q Q.body) R G,
        joined-calls q R.body,
        calls-behind q G,
      )

  calls-with : (G : List Rule) (r : ℕ) → calls_of (map (joined_rule places (length symbols)) G) r ≤ calls_of (with_leaves symbols places G) r
  calls-with G r = omega (arith, sum_by-append (λ (Q : Rule). calls_in r Q.body) (map leaf_rule symbols) (map (joined_rule places (length symbols)) G))

  leaf-used : (G : List Rule) (r f k : ℕ) → get_or places f None ≡ Some r → k < length G → HasLeaf f (body_at G k) → 0 < calls_of (map (joined_rule places (length symbols)) G) r
  leaf-used G r f k p h has =
      let next : has.0 + 1 ≡ suc has.0 = omega arith in
      let one = leaf-called f r has.0 (body_at G k) p has.1 (subst (λ i. slice_get (body_at G k) i ≡ Some Bottom) next has.2) in
      omega (
        arith,
        one,
        ap (λ (R : Rule). calls_in r R.body) (get_or-map (joined_rule places (length symbols)) G k no_rule),
        get_or-le-sum_by (λ (Q : Rule). calls_in r Q.body) (map (joined_rule places (length symbols)) G) k no_rule (omega (arith, h, length-map G (joined_rule places (length symbols)))),
      )

  pub with-swept : (G : List Rule) → IsSwept G → ((i f : ℕ) → slice_get symbols i ≡ Some f → (k : ℕ) × (k < length G) × HasLeaf f (body_at G k)) → IsSwept (with_leaves symbols places G)
  with-swept G swept used r h =
      elim (front-or-behind r) [
        | inl w ↦ let u = used r w.0 w.1 in omega (arith, leaf-used G r w.0 u.0 (leaves.back r w.0 w.1) u.1 u.2, calls-with G r)
        | inr w ↦ let s = swept w.0 (omega (arith, h, w.1, length-with places symbols leaves G)) in omega (arith, s, calls-behind w.0 G, calls-with G r, ap (calls_of (with_leaves symbols places G)) w.1, ap (calls_of (map (joined_rule places (length symbols)) G)) w.1)
      ]

-- what rules with those of leaves have of the rules without
pub record Shares (old new : List Rule) : Type 0 where
  pub value : value new ≡ value old
  pub grammar : IsGrammar new
  pub swept : IsSwept new

pub shares : (rules : List Rule) (counts : List ℕ) (places : List (Option ℕ)) (leaves new : List Rule) → IsGrammar rules → IsSwept rules → AreSeen rules counts → AreLeafRules counts places leaves
    → new ≡ leaves ++ map (joined_rule places (length leaves)) rules → Shares rules new
shares rules counts places leaves new g swept seen are is =
    let count : length leaves ≡ length are.symbols = ap length are.are ∙ length-map are.symbols leaf_rule in
    let all : new ≡ with_leaves are.symbols places rules = is ∙ ap (λ G. G ++ map (joined_rule places (length leaves)) rules) are.are ∙ ap (λ n. map leaf_rule are.symbols ++ map (joined_rule places n) rules) count in
    subst (Shares rules) (sym all) (record {
      value = same-value places are.symbols are.leaves rules g.some;
      grammar = with-grammar places are.symbols are.leaves rules g;
      swept = with-swept places are.symbols are.leaves rules swept (λ i f e. seen f (are.counted i f e));
    })

past : (G : List Rule) (r : ℕ) → length G ≤ r → get_or G r no_rule ≡ no_rule
past [] r h = refl
past (R ∷ G) zero h = absurd (omega (arith, h))
past (R ∷ G) (suc r) h = past G r (omega (arith, h))

-- the rules of a grammar that memory can hold have small numbers
pub calls-small : (G : List Rule) → IsGrammar G → length G < 2 ^ 63 → (r : ℕ) → CallsBelow (2 ^ 63) (body_at G r)
calls-small G g few r =
    elim (cases_lt r (length G)) [
      | inl h ↦ below-more r (2 ^ 63) (body_at G r) (omega (arith, h, few)) (g.each r h).earlier
      | inr h ↦ subst (λ (R : Rule). CallsBelow (2 ^ 63) R.body) (sym (past G r h)) tt
    ]
